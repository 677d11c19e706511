-- The symbols of statements that break no rule: each is declared, as what its place takes.
use Rattle.std.proofs.Common.{◌≡◌, ℕ, zero, suc, ◌<◌, Bool, true, false, not, ◌&&◌, ◌||◌, List, [], ◌∷◌, ◌++◌, slice_get, Option, None, Some, refl, sym, ap, subst, ◌∙◌}
use Rattle.std.proofs.lemmas.Bool.{and_parts, leb-false, ltb-true, not-false, or_parts}
use Rattle.std.proofs.lemmas.List.Folds.{list_any-append}
use Rattle.std.specs.Prelude.{nat_le, nat_lt}
use Rattle.std.specs.List.{cons_option, filter_map, list_any}
use Rattle.std.specs.Option.{ForSome, option_map_or}
use Rattle.vvp_forms.specs.declared.form.Form.{Form}
use Rattle.vvp_forms.specs.declared.form.Port.{Port}
use Rattle.vvp_lex.specs.declared.types.Name.{Name}
use Rattle.vvp_ops.specs.declared.args.Arg.{Arg}
use Rattle.vvp_ops.specs.declared.op.Op.{Op}
use Rattle.sym_link.specs.declared.placed.Placed.{Placed}
use Rattle.sym_link.specs.declared.placed.What.TheVariants as what
use Rattle.sym_link.specs.declared.sorts.Sort.TheVariants as sort
use Rattle.sym_link.specs.declared.sorts.Takes.{Takes}
use Rattle.sym_link.specs.declared.sorts.Takes.TheVariants as takes
use Rattle.sym_link.specs.declared.uses.Use.{Use}
use Rattle.sym_link.specs.LinkRules.{is_code_place, is_misplaced, is_taken, leads_nowhere, no_code, only_earlier, opcodes_in}
use Rattle.sym_link.specs.Places.{sort_at, symbol_code, symbol_place}
use Rattle.sym_link.specs.Sorts.{accepts, sort_of}
use Rattle.sym_link.specs.Uses.{Symbol, arg_symbol, arg_use, args_of, event_use, events_of, form_use, form_uses, op_symbols, op_uses, opcode_uses, port_use, ports_of, use_of, uses_of}
use Rattle.sym_link.proofs.SoundRules.{Keeps}

-- a symbol that a statement at a place uses is declared, as what its place takes
pub record Declared (file : List ℕ) (all : List Placed) (place : ℕ) (symbol : Name) (kind : Takes) : Type 0 where
  pub first : ℕ
  pub from : Placed
  pub found : symbol_place file all symbol ≡ Some first
  pub there : slice_get all first ≡ Some from
  pub accepted : accepts kind (sort_of from.what) ≡ true
  pub earlier : only_earlier kind ≡ true → first < place
  pub coded : is_code_place kind ≡ true → symbol_code file all symbol < opcodes_in all

-- a place that takes something takes no place past the end
pub accepts-nothing : (kind : Takes) → accepts kind sort.Nothing ≡ true → ⊥
accepts-nothing takes.Scope is = absurd (cc)
accepts-nothing takes.EarlierScope is = absurd (cc)
accepts-nothing takes.Signal is = absurd (cc)
accepts-nothing takes.NetOrFunctor is = absurd (cc)
accepts-nothing takes.Variable is = absurd (cc)
accepts-nothing takes.Array is = absurd (cc)
accepts-nothing takes.Event is = absurd (cc)
accepts-nothing takes.OneEvent is = absurd (cc)
accepts-nothing takes.NamedEvent is = absurd (cc)
accepts-nothing takes.Code is = absurd (cc)
accepts-nothing takes.SignalOrScope is = absurd (cc)

earlier-of : (late earlier : Bool) → (not late || earlier) ≡ true → late ≡ true → earlier ≡ true
earlier-of true earlier is late = is
earlier-of false earlier is late = absurd (cc)

coded-of : (code far : Bool) → (code && far) ≡ false → code ≡ true → far ≡ false
coded-of true far is code = is
coded-of false far is code = absurd (cc)

pub symbol-declared : (file : List ℕ) (all : List Placed) (place : ℕ) (used : Use) → is_misplaced file all place used ≡ false → leads_nowhere file all used ≡ false → Declared file all place used.symbol used.takes
symbol-declared file all place used misplaced nowhere = by (symbol_place file all used.symbol) refl (not-false _ misplaced)
  where
    at : (first : ℕ) → symbol_place file all used.symbol ≡ Some first → is_taken all place used.takes first ≡ true → (o : Option Placed) → slice_get all first ≡ o → Declared file all place used.symbol used.takes
    at first found taken None there =
        let parts = and_parts (accepts used.takes (sort_at all first)) (not (only_earlier used.takes) || nat_lt first place) taken in
        absurd (accepts-nothing used.takes (sym (ap (λ o. accepts used.takes (option_map_or (λ (s : Placed). sort_of s.what) o sort.Nothing)) there) ∙ parts.0))
    at first found taken (Some s) there =
        let parts = and_parts (accepts used.takes (sort_at all first)) (not (only_earlier used.takes) || nat_lt first place) taken in
        record {
          first = first;
          from = s;
          found = found;
          there = there;
          accepted = sym (ap (λ o. accepts used.takes (option_map_or (λ (s : Placed). sort_of s.what) o sort.Nothing)) there) ∙ parts.0;
          earlier = λ late. ltb-true first place (earlier-of (only_earlier used.takes) (nat_lt first place) parts.1 late);
          coded = λ code. leb-false (opcodes_in all) (symbol_code file all used.symbol) (coded-of (is_code_place used.takes) (nat_le (opcodes_in all) (symbol_code file all used.symbol)) nowhere code);
        }

    by : (o : Option ℕ) → symbol_place file all used.symbol ≡ o → option_map_or (is_taken all place used.takes) o false ≡ true → Declared file all place used.symbol used.takes
    by None found is = absurd (cc)
    by (Some first) found taken = at first found taken (slice_get all first) refl

-- Lists of uses

any-cons : (p : Use → Bool) (o : Option Use) → list_any p (cons_option o []) ≡ false → ForSome o (λ used. p used ≡ false)
any-cons p None is used some = absurd (cc)
any-cons p (Some u) is used some = let same : u ≡ used = cc in ap p (sym same) ∙ (or_parts (p u) false is).0

any-filter : {X : Type 0} (p : Use → Bool) (h : X → Option Use) (xs : List X) → list_any p (filter_map h xs) ≡ false → (k : ℕ) (x : X) → slice_get xs k ≡ Some x → ForSome (h x) (λ used. p used ≡ false)
any-filter p h [] is k x there = absurd (cc)
any-filter {X} p h (y ∷ xs) is k x there = by (h y) refl is k there (any-filter p h xs)
  where
    by : (o : Option Use) → h y ≡ o → list_any p (cons_option o (filter_map h xs)) ≡ false → (j : ℕ) → slice_get (y ∷ xs) j ≡ Some x → (list_any p (filter_map h xs) ≡ false → (i : ℕ) (z : X) → slice_get xs i ≡ Some z → ForSome (h z) (λ used. p used ≡ false)) → ForSome (h x) (λ used. p used ≡ false)
    by None given fails zero here rest = λ used some. let same : y ≡ x = cc in absurd (cc (given, some, ap h same))
    by (Some u) given fails zero here rest = λ used some.
        let same : y ≡ x = cc in
        let one : u ≡ used = cc (given, some, ap h same) in
        ap p (sym one) ∙ (or_parts (p u) (list_any p (filter_map h xs)) fails).0
    by None given fails (suc j) here rest = rest fails j x here
    by (Some u) given fails (suc j) here rest = rest (or_parts (p u) (list_any p (filter_map h xs)) fails).1 j x here

both-none : (p : Use → Bool) (a b : List Use) → list_any p (a ++ b) ≡ false → (list_any p a ≡ false) × (list_any p b ≡ false)
both-none p a b is = or_parts (list_any p a) (list_any p b) (sym (list_any-append p a b) ∙ is)

-- what holds of each use of a form
pub record FormUses (p : Use → Bool) (f : Form) : Type 0 where
  pub alone : ForSome (form_use f) (λ used. p used ≡ false)
  pub ports : (k : ℕ) (q : Port) → slice_get (ports_of f) k ≡ Some q → ForSome (port_use q) (λ used. p used ≡ false)
  pub events : (k : ℕ) (name : Name) → slice_get (events_of f) k ≡ Some name → ForSome (event_use name) (λ used. p used ≡ false)

pub form-uses : (p : Use → Bool) (f : Form) → list_any p (form_uses f) ≡ false → FormUses p f
form-uses p f is =
    let parts = both-none p (cons_option (form_use f) [] ++ filter_map port_use (ports_of f)) (filter_map event_use (events_of f)) is in
    let front = both-none p (cons_option (form_use f) []) (filter_map port_use (ports_of f)) parts.0 in
    record {
      alone = any-cons p (form_use f) front.0;
      ports = any-filter p port_use (ports_of f) front.1;
      events = any-filter p event_use (events_of f) parts.1;
    }

pub record OpcodeUses (p : Use → Bool) (o : Op Name) : Type 0 where
  pub first : ForSome (op_uses o).0 (λ used. p used ≡ false)
  pub second : ForSome (op_uses o).1 (λ used. p used ≡ false)
  pub args : (k : ℕ) (a : Arg Name) → slice_get (args_of o) k ≡ Some a → ForSome (arg_use a) (λ used. p used ≡ false)

pub opcode-uses : (p : Use → Bool) (o : Op Name) → list_any p (opcode_uses o) ≡ false → OpcodeUses p o
opcode-uses p o is =
    let parts = both-none p (cons_option (op_uses o).0 [] ++ cons_option (op_uses o).1 []) (filter_map arg_use (args_of o)) is in
    let front = both-none p (cons_option (op_uses o).0 []) (cons_option (op_uses o).1 []) parts.0 in
    record {
      first = any-cons p (op_uses o).0 front.0;
      second = any-cons p (op_uses o).1 front.1;
      args = any-filter p arg_use (args_of o) parts.1;
    }

-- Symbols of a statement that breaks no rule

-- a use is of a symbol that is declared
abbrev pub IsDeclared : List ℕ → List Placed → ℕ → Use → Type 0
IsDeclared file all place used = Declared file all place used.symbol used.takes

pub record FormDeclares (file : List ℕ) (all : List Placed) (place : ℕ) (f : Form) : Type 0 where
  pub alone : ForSome (form_use f) (IsDeclared file all place)
  pub ports : (k : ℕ) (q : Port) → slice_get (ports_of f) k ≡ Some q → ForSome (port_use q) (IsDeclared file all place)
  pub events : (k : ℕ) (name : Name) → slice_get (events_of f) k ≡ Some name → Declared file all place name takes.OneEvent

pub form-declares : (file : List ℕ) (all : List Placed) (place : ℕ) (s : Placed) (f : Form) → Keeps file all place s → s.what ≡ what.Form f → FormDeclares file all place f
form-declares file all place s f keeps is =
    let kinds = form-uses (is_misplaced file all place) f (sym (ap (λ w. list_any (is_misplaced file all place) (uses_of w)) is) ∙ keeps.kinds) in
    let coded = form-uses (leads_nowhere file all) f (sym (ap (no_code file all) is) ∙ keeps.coded) in
    record {
      alone = λ used some. symbol-declared file all place used (kinds.alone used some) (coded.alone used some);
      ports = λ k q there used some. symbol-declared file all place used (kinds.ports k q there used some) (coded.ports k q there used some);
      events = λ k name there.
          let used : Use = record { symbol = name; takes = takes.OneEvent } in
          symbol-declared file all place used (kinds.events k name there used refl) (coded.events k name there used refl);
    }

abbrev pub SymbolDeclared : List ℕ → List Placed → ℕ → Symbol Name → Type 0
SymbolDeclared file all place symbol = Declared file all place symbol.0 symbol.1

pub record OpDeclares (file : List ℕ) (all : List Placed) (place : ℕ) (o : Op Name) : Type 0 where
  pub first : ForSome (op_symbols o).0 (SymbolDeclared file all place)
  pub second : ForSome (op_symbols o).1 (SymbolDeclared file all place)
  pub args : (k : ℕ) (a : Arg Name) → slice_get (args_of o) k ≡ Some a → ForSome (arg_symbol a) (SymbolDeclared file all place)

used-symbol : (P : Use → Type 0) (o : Option (Symbol Name)) → ForSome (use_of o) P → ForSome o (λ symbol. P (record { symbol = symbol.0; takes = symbol.1 }))
used-symbol P None each symbol some = absurd (cc)
used-symbol P (Some found) each symbol some =
    let same : found ≡ symbol = cc in
    subst (λ (x : Symbol Name). P (record { symbol = x.0; takes = x.1 })) same (each (record { symbol = found.0; takes = found.1 }) refl)

pub op-declares : (file : List ℕ) (all : List Placed) (place : ℕ) (s : Placed) (o : Op Name) → Keeps file all place s → s.what ≡ what.Op o → OpDeclares file all place o
op-declares file all place s o keeps is =
    let kinds = opcode-uses (is_misplaced file all place) o (sym (ap (λ w. list_any (is_misplaced file all place) (uses_of w)) is) ∙ keeps.kinds) in
    let coded = opcode-uses (leads_nowhere file all) o (sym (ap (no_code file all) is) ∙ keeps.coded) in
    record {
      first = used-symbol (IsDeclared file all place) (op_symbols o).0 (λ used some. symbol-declared file all place used (kinds.first used some) (coded.first used some));
      second = used-symbol (IsDeclared file all place) (op_symbols o).1 (λ used some. symbol-declared file all place used (kinds.second used some) (coded.second used some));
      args = λ k a there. used-symbol (IsDeclared file all place) (arg_symbol a) (λ used some. symbol-declared file all place used (kinds.args k a there used some) (coded.args k a there used some));
    }
