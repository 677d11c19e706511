-- What the grammar says of forms: the ports of gates, their widths and their numbers.
use Rattle.std.proofs.Common.{◌≡◌, ℕ, zero, suc, ◌+◌, ◌%◌, ◌<◌, ◌≤◌, ℤ, pos, negsuc, Bool, true, false, not, ◌&&◌, List, [], ◌∷◌, length, take, drop, get_or, sum, Option, None, Some, Result, Ok, Err, IfOk, refl, sym, ap, subst, ◌∙◌, arith, if◌then◌else◌}
use Rattle.std.proofs.lemmas.Bool.{and_from, and_parts, eqb-false, eqb-true, ltb-false, not-true}
use Rattle.std.proofs.lemmas.List.Elements.{All-cons, All-contains, All-nil}
use Rattle.std.proofs.lemmas.Option.{get_or_from_slice_get, slice_get_within}
use Rattle.std.specs.Prelude.{All, ◌==◌, int_le, nat_eq, nat_lt, slice_get, slice_index}
use Rattle.std.specs.List.{list_all, list_any}
use Rattle.vvp_lex.specs.declared.types.FormKind.{FormKind}
use Rattle.vvp_lex.specs.declared.types.FormKind.TheVariants as fault
use Rattle.vvp_lex.specs.declared.types.Name.{Name}
use Rattle.vvp_lex.specs.Place.{bytes_of}
use Rattle.four_state.specs.declared.items.ResKind.{ResKind}
use Rattle.vvp_forms.specs.declared.form.ArithmeticKind.{ArithmeticKind}
use Rattle.vvp_forms.specs.declared.form.CompareKind.{CompareKind}
use Rattle.vvp_forms.specs.declared.form.EdgeKind.{EdgeKind}
use Rattle.vvp_forms.specs.declared.form.ReduceKind.{ReduceKind}
use Rattle.vvp_forms.specs.declared.form.ShiftKind.{ShiftKind}
use Rattle.vvp_forms.specs.declared.form.Form.{Form}
use Rattle.vvp_forms.specs.declared.form.Form.TheVariants as form
use Rattle.vvp_forms.specs.declared.form.Gate.{Gate}
use Rattle.vvp_forms.specs.declared.form.Gate.TheVariants as gate
use Rattle.vvp_forms.specs.declared.form.Port.{Port}
use Rattle.vvp_forms.specs.declared.form.Port.TheVariants as port
use Rattle.vvp_forms.specs.declared.form.Range.{Range}
use Rattle.vvp_forms.specs.declared.pieces.Operands.{Operands}
use Rattle.vvp_forms.specs.declared.table.Row.{Row}
use Rattle.vvp_forms.specs.declared.table.Row.TheVariants as row
use Rattle.vvp_forms.specs.Checks.{◌>>=◌, allowed, is_symbol, is_used, needed, kind_needed, not_wide, places, power, range, used, width}
use Rattle.vvp_forms.specs.Choices.{edge_kind, functor_type, resolution, scope_kind}
use Rattle.vvp_forms.specs.Forms.{arithmetic, array, compare, concat, constant_width, current_scope, delay, edge_event, extend, fits_ports, form_of, functor, integer, net, number, one_port, own_width, part, part_from, part_into, port_of, ports_used, precision, reduce, repeat, resolver, scope, shift, some_used, start_of, strength, thread, three_ports, time_scale, variable, width_or, widths_len, widths_of}
use Rattle.vvp_forms.specs.Table.{pieces_of}
use Rattle.vvp_ops.specs.Ranges.{IsWidth}
use Rattle.sym_link.specs.declared.placed.Placed.{Placed}
use Rattle.sym_link.specs.declared.placed.What.{What}
use Rattle.sym_link.specs.declared.placed.What.TheVariants as what
use Rattle.sym_link.specs.Meaning.{drive_of}
use Rattle.sym_link.specs.Sound.{first_pass, is_same, pass_by_width, port_takes, ports_fit, zeros_last}
use Rattle.sym_link.specs.Spelled.{statements_read}
use Rattle.sym_link.specs.Uses.{ports_of}
use Rattle.sym_link.specs.Widths.{width_wanted}
use Rattle.sym_link.proofs.GrammarLemmas.{IsSpelledBy, bind-if, read-each}
use Rattle.sym_link.proofs.OperandLemmas.{IsVector, HaveVectors, operands-have, port-vector}
use Rattle.sym_link.proofs.SoundOperands.{HasSlots, has-slots, rises}

-- Facts

-- the numbers of a gate whose value has a width
abbrev pub HasNumbers : Gate → ℕ → Type 0
HasNumbers (gate.PartInto base part) width = IsWidth part
HasNumbers (gate.Concat widths) width = (length widths ≡ 4) × (sum widths ≡ width) × (zeros_last widths ≡ true)
HasNumbers (gate.Compare operation compared) width = IsWidth compared × (width ≡ 1)
HasNumbers (gate.Reduce operation) width = width ≡ 1
HasNumbers (gate.Repeat count) width = (1 ≤ count) × (width % count ≡ 0)
HasNumbers _ width = Unit {0}

-- a form is a gate, whose value has a width
pub record IsGateForm (f : Form) (is : Gate) (width : ℕ) : Type 0 where
  pub in_range : IsWidth width
  pub four : length (ports_of f) ≡ 4
  pub fit : ports_fit is_used is_symbol is (ports_of f) ≡ true
  pub vectors : All IsVector (ports_of f)
  pub numbers : HasNumbers is width
  pub zero_strength : (drive_of f).0 ≤ 7
  pub one_strength : (drive_of f).1 ≤ 7
  pub wanted : (k : ℕ) → width_wanted f (Some width) k ≡ port_takes is width k

pub record IsEdgeForm (ports : List Port) : Type 0 where
  pub four : length ports ≡ 4
  pub some : list_any is_used ports ≡ true
  pub vectors : All IsVector ports

-- the types that a functor may have
abbrev pub is_type : Gate → Bool
is_type gate.And = true
is_type gate.Or = true
is_type gate.Xor = true
is_type gate.Nand = true
is_type gate.Nor = true
is_type gate.Xnor = true
is_type gate.Buf = true
is_type gate.Not = true
is_type gate.Bufz = true
is_type gate.Buft = true
is_type gate.Muxz = true
is_type _ = false

-- what the grammar says of a form
abbrev pub IsFormed : Form → Type 0
IsFormed (form.Precision z) = (int_le (negsuc 14) z && int_le z (pos 2)) ≡ true
IsFormed (form.Variable kind starred name range) = IsWidth (places range.msb range.lsb)
IsFormed (form.Net signed starred name range source) = IsWidth (places range.msb range.lsb)
IsFormed (form.Array kind name first last range) = IsWidth (places range.msb range.lsb)
IsFormed (form.Functor kind width drives ports) = IsGateForm (form.Functor kind width drives ports) kind width × (is_type kind ≡ true)
IsFormed (form.Resolver kind ports) = (width : ℕ) → IsWidth width → IsGateForm (form.Resolver kind ports) (gate.Resolver kind) width
IsFormed (form.Part first base width) = IsGateForm (form.Part first base width) (gate.Part base) width
IsFormed (form.PartInto first base width whole) = IsGateForm (form.PartInto first base width whole) (gate.PartInto base width) whole
IsFormed (form.PartFrom signed first base width) = IsGateForm (form.PartFrom signed first base width) (gate.PartFrom signed) width
IsFormed (form.Concat widths ports) = IsGateForm (form.Concat widths ports) (gate.Concat widths) (sum widths)
IsFormed (form.Arithmetic kind width left right) = IsGateForm (form.Arithmetic kind width left right) (gate.Arithmetic kind) width
IsFormed (form.Compare kind width left right) = IsGateForm (form.Compare kind width left right) (gate.Compare kind width) 1
IsFormed (form.Shift kind width first amount) = IsGateForm (form.Shift kind width first amount) (gate.Shift kind) width
IsFormed (form.Reduce kind first) = IsGateForm (form.Reduce kind first) (gate.Reduce kind) 1
IsFormed (form.Repeat width count first) = IsGateForm (form.Repeat width count first) (gate.Repeat count) width
IsFormed (form.Extend width first) = IsGateForm (form.Extend width first) gate.Extend width
IsFormed (form.Delay width rise fall decay first) = IsWidth width
IsFormed (form.EdgeEvent kind ports) = IsEdgeForm ports
IsFormed _ = Unit {0}

-- Numbers

wide-ok : (bits n : ℕ) → not_wide bits ≡ Ok n → (n ≡ bits) × (n ≤ 128)
wide-ok bits n is = by (nat_lt 128 bits) refl is
  where
    by : (wide : Bool) → nat_lt 128 bits ≡ wide → (if wide then Err fault.VectorTooWide else Ok bits) ≡ Ok n → (n ≡ bits) × (n ≤ 128)
    by true wide is = absurd (cc)
    by false wide is = let same : bits ≡ n = cc in (sym same, subst (λ m. m ≤ 128) same (ltb-false 128 bits wide))

some-width : (n : ℕ) → (n ≡ 0 → ⊥) → n ≤ 128 → IsWidth n
some-width n some most = let least : 1 ≤ n = omega (arith, some) in (least, most)

width-ok : (bits n : ℕ) → width bits ≡ Ok n → (n ≡ bits) × IsWidth n
width-ok bits n is = by (bits == 0) refl is
  where
    by : (empty : Bool) → (bits == 0) ≡ empty → (if empty then Err fault.BadOperands else not_wide bits) ≡ Ok n → (n ≡ bits) × IsWidth n
    by true empty is = absurd (cc)
    by false empty is =
        let fits = wide-ok bits n is in
        let some : n ≡ 0 → ⊥ = λ none. eqb-false bits 0 empty (sym fits.0 ∙ none) in
        (fits.0, some-width n some fits.1)

range-ok : (msb lsb : ℤ) (r : Range) → range msb lsb ≡ Ok r → IsWidth (places r.msb r.lsb)
range-ok msb lsb r is = by (nat_lt 128 (places msb lsb)) refl is
  where
    by : (wide : Bool) → nat_lt 128 (places msb lsb) ≡ wide → ((if wide then Err fault.VectorTooWide else Ok (places msb lsb)) >>= λ bits. Ok (record { msb = msb; lsb = lsb })) ≡ Ok r → IsWidth (places r.msb r.lsb)
    by true wide is = absurd (cc)
    by false wide is =
        let here : Range = record { msb = msb; lsb = lsb } in
        let same : here ≡ r = cc in
        subst (λ (x : Range). IsWidth (places x.msb x.lsb)) same (some-width (places msb lsb) (λ none. omega (arith, none)) (ltb-false 128 (places msb lsb) wide))

power-ok : (z n : ℤ) → power z ≡ Ok n → (int_le (negsuc 14) n && int_le n (pos 2)) ≡ true
power-ok z n is = by (int_le (negsuc 14) z && int_le z (pos 2)) refl is
  where
    by : (fits : Bool) → (int_le (negsuc 14) z && int_le z (pos 2)) ≡ fits → (if fits then Ok z else Err fault.BadOperands) ≡ Ok n → (int_le (negsuc 14) n && int_le n (pos 2)) ≡ true
    by true fits is = let same : z ≡ n = cc in subst (λ m. (int_le (negsuc 14) m && int_le m (pos 2)) ≡ true) same fits
    by false fits is = absurd (cc)

strength-ok : (drive n : ℕ) → strength drive ≡ Ok n → n ≤ 7
strength-ok drive n is = by (nat_lt 7 drive) refl is
  where
    by : (high : Bool) → nat_lt 7 drive ≡ high → (if high then Err fault.BadOperands else Ok drive) ≡ Ok n → n ≤ 7
    by true high is = absurd (cc)
    by false high is = let same : drive ≡ n = cc in subst (λ m. m ≤ 7) same (ltb-false 7 drive high)

allowed-ok : (b : Bool) (x : Unit {0}) → allowed b ≡ Ok x → b ≡ true
allowed-ok true x is = refl
allowed-ok false x is = absurd (cc)

six : 6 ≤ 7
six = omega arith

unit_width : IsWidth 1
unit_width = (omega arith, omega arith)

-- Ports

-- a port that is there
pub record IsThere (q : Port) : Type 0 where
  pub used : is_used q ≡ true
  pub vector : IsVector q

used-ok : (p q : Port) → IsVector p → used p ≡ Ok q → IsThere q
used-ok p q vector is = by (is_used p) refl is
  where
    by : (there : Bool) → is_used p ≡ there → (if there then Ok p else Err fault.BadOperands) ≡ Ok q → IsThere q
    by true there is = let same : p ≡ q = cc in record { used = subst (λ x. is_used x ≡ true) same there; vector = subst IsVector same vector }
    by false there is = absurd (cc)

one : Port → List Port
one p = p ∷ port.Unused ∷ port.Unused ∷ port.Unused ∷ []

two : Port → Port → List Port
two p q = p ∷ q ∷ port.Unused ∷ port.Unused ∷ []

three : Port → Port → Port → List Port
three p q r = p ∷ q ∷ r ∷ port.Unused ∷ []

one-fits : (p : Port) → IsThere p → first_pass is_used 1 (one p) ≡ true
unfolding one
one-fits p there = and_from (is_used p) true there.used refl

two-fit : (p q : Port) → IsThere p → IsThere q → first_pass is_used 2 (two p q) ≡ true
unfolding two
two-fit p q first second = and_from (is_used p) (is_used q && true) first.used (and_from (is_used q) true second.used refl)

three-fit : (p q r : Port) → IsThere p → IsThere q → IsThere r → first_pass is_used 3 (three p q r) ≡ true
unfolding three
three-fit p q r first second third = and_from (is_used p) (is_used q && (is_used r && true)) first.used (and_from (is_used q) (is_used r && true) second.used (and_from (is_used r) true third.used refl))

four-vectors : (p q r s : Port) → IsVector p → IsVector q → IsVector r → IsVector s → All IsVector (p ∷ q ∷ r ∷ s ∷ [])
four-vectors p q r s a b c d = All-cons IsVector p (q ∷ r ∷ s ∷ []) a (All-cons IsVector q (r ∷ s ∷ []) b (All-cons IsVector r (s ∷ []) c (All-cons IsVector s [] d (All-nil IsVector))))

one-vector : (p : Port) → IsThere p → All IsVector (one p)
unfolding one
one-vector p there = four-vectors p port.Unused port.Unused port.Unused there.vector tt tt tt

two-vectors : (p q : Port) → IsThere p → IsThere q → All IsVector (two p q)
unfolding two
two-vectors p q first second = four-vectors p q port.Unused port.Unused first.vector second.vector tt tt

three-vectors : (p q r : Port) → IsThere p → IsThere q → IsThere r → All IsVector (three p q r)
unfolding three
three-vectors p q r first second third = four-vectors p q r port.Unused first.vector second.vector third.vector tt

-- Functors

type-or : (b : Bool) (this found : Gate) (other : Option Gate) → is_type this ≡ true → (other ≡ Some found → is_type found ≡ true) → (if b then Some this else other) ≡ Some found → is_type found ≡ true
type-or true this found other is later some = let same : this ≡ found = cc in subst (λ k. is_type k ≡ true) same is
type-or false this found other is later some = later some

none-type : (found : Gate) → None ≡ Some found → is_type found ≡ true
none-type found is = absurd (cc)

type-found : (word : List ℕ) (found : Gate) → functor_type word ≡ Some found → is_type found ≡ true
unfolding functor_type
type-found word found is =
    type-or _ gate.And found _ refl (type-or _ gate.Or found _ refl (type-or _ gate.Xor found _ refl (type-or _ gate.Nand found _ refl (type-or _ gate.Nor found _ refl (type-or _ gate.Xnor found _ refl
    (type-or _ gate.Buf found _ refl (type-or _ gate.Not found _ refl (type-or _ gate.Bufz found _ refl (type-or _ gate.Buft found _ refl (type-or _ gate.Muxz found _ refl (none-type found))))))))))) is

needed-ok : {A : Type 0} (o : Option A) (x : A) → needed o ≡ Ok x → o ≡ Some x
needed-ok (Some y) x is = cc
needed-ok None x is = absurd (cc)

type-needed : (file : List ℕ) (word : Option Name) (found : Gate) → kind_needed functor_type file word ≡ Ok found → is_type found ≡ true
type-needed file None found is = absurd (cc)
type-needed file (Some name) found is = type-found (bytes_of file name) found (needed-ok (functor_type (bytes_of file name)) found is)

-- the ports of a functor, of which there are four
pub record AreChosen (kind : Gate) (ports : List Port) : Type 0 where
  pub four : length ports ≡ 4
  pub fit : ports_fit is_used is_symbol kind ports ≡ true
  pub vectors : All IsVector ports

some-chosen : (ports chosen : List Port) → length ports ≡ 4 → All IsVector ports → some_used ports ≡ Ok chosen → (length chosen ≡ 4) × (list_any is_used chosen ≡ true) × All IsVector chosen
unfolding some_used
some-chosen ports chosen four vectors is = by (list_any is_used ports) refl is
  where
    by : (some : Bool) → list_any is_used ports ≡ some → (allowed some >>= λ x. Ok ports) ≡ Ok chosen → (length chosen ≡ 4) × (list_any is_used chosen ≡ true) × All IsVector chosen
    by true some is = let same : ports ≡ chosen = cc in (ap length (sym same) ∙ four, ap (list_any is_used) (sym same) ∙ some, subst (All IsVector) same vectors)
    by false some is = absurd (cc)

one-chosen : (ports chosen : List Port) → IsVector (port_of ports 0) → one_port ports ≡ Ok chosen → (length chosen ≡ 4) × (first_pass is_used 1 chosen ≡ true) × All IsVector chosen
unfolding one_port one
one-chosen ports chosen vector is = by (used (port_of ports 0)) refl is
  where
    by : (r : Result Port FormKind) → used (port_of ports 0) ≡ r → (r >>= λ first. Ok (one first)) ≡ Ok chosen → (length chosen ≡ 4) × (first_pass is_used 1 chosen ≡ true) × All IsVector chosen
    by (Ok first) found is =
        let there = used-ok (port_of ports 0) first vector found in
        let same : one first ≡ chosen = cc in
        (ap length (sym same), ap (first_pass is_used 1) (sym same) ∙ one-fits first there, subst (All IsVector) same (one-vector first there))
    by (Err why) found is = absurd (cc)

three-chosen : (ports chosen : List Port) → IsVector (port_of ports 0) → IsVector (port_of ports 1) → IsVector (port_of ports 2) → three_ports ports ≡ Ok chosen → (length chosen ≡ 4) × (first_pass is_used 3 chosen ≡ true) × All IsVector chosen
unfolding three_ports three
three-chosen ports chosen a b c is = by (used (port_of ports 0)) refl (used (port_of ports 1)) refl (used (port_of ports 2)) refl is
  where
    by : (x : Result Port FormKind) → used (port_of ports 0) ≡ x → (y : Result Port FormKind) → used (port_of ports 1) ≡ y → (z : Result Port FormKind) → used (port_of ports 2) ≡ z → (x >>= λ p. y >>= λ q. z >>= λ r. Ok (three p q r)) ≡ Ok chosen → (length chosen ≡ 4) × (first_pass is_used 3 chosen ≡ true) × All IsVector chosen
    by (Ok p) first (Ok q) second (Ok r) third is =
        let there = used-ok (port_of ports 0) p a first in
        let next = used-ok (port_of ports 1) q b second in
        let last = used-ok (port_of ports 2) r c third in
        let same : three p q r ≡ chosen = cc in
        (ap length (sym same), ap (first_pass is_used 3) (sym same) ∙ three-fit p q r there next last, subst (All IsVector) same (three-vectors p q r there next last))
    by (Err why) first y second z third is = absurd (cc)
    by (Ok p) first (Err why) second z third is = absurd (cc)
    by (Ok p) first (Ok q) second (Err why) third is = absurd (cc)

-- the slots of the operands of a row
abbrev Slots : Operands → Type 0
Slots operands = HasSlots operands × HaveVectors operands

ports-chosen : (kind : Gate) (operands : Operands) (chosen : List Port) → Slots operands → ports_used kind operands.ports ≡ Ok chosen → is_type kind ≡ true → AreChosen kind chosen
unfolding ports_used
ports-chosen gate.And operands chosen slots is type = let c = some-chosen operands.ports chosen slots.0.ports slots.1 is in record { four = c.0; fit = c.1; vectors = c.2 }
ports-chosen gate.Or operands chosen slots is type = let c = some-chosen operands.ports chosen slots.0.ports slots.1 is in record { four = c.0; fit = c.1; vectors = c.2 }
ports-chosen gate.Xor operands chosen slots is type = let c = some-chosen operands.ports chosen slots.0.ports slots.1 is in record { four = c.0; fit = c.1; vectors = c.2 }
ports-chosen gate.Nand operands chosen slots is type = let c = some-chosen operands.ports chosen slots.0.ports slots.1 is in record { four = c.0; fit = c.1; vectors = c.2 }
ports-chosen gate.Nor operands chosen slots is type = let c = some-chosen operands.ports chosen slots.0.ports slots.1 is in record { four = c.0; fit = c.1; vectors = c.2 }
ports-chosen gate.Xnor operands chosen slots is type = let c = some-chosen operands.ports chosen slots.0.ports slots.1 is in record { four = c.0; fit = c.1; vectors = c.2 }
ports-chosen gate.Buf operands chosen slots is type = let c = one-chosen operands.ports chosen (port-vector operands 0 slots.1) is in record { four = c.0; fit = c.1; vectors = c.2 }
ports-chosen gate.Not operands chosen slots is type = let c = one-chosen operands.ports chosen (port-vector operands 0 slots.1) is in record { four = c.0; fit = c.1; vectors = c.2 }
ports-chosen gate.Bufz operands chosen slots is type = let c = one-chosen operands.ports chosen (port-vector operands 0 slots.1) is in record { four = c.0; fit = c.1; vectors = c.2 }
ports-chosen gate.Buft operands chosen slots is type = let c = one-chosen operands.ports chosen (port-vector operands 0 slots.1) is in record { four = c.0; fit = c.1; vectors = c.2 }
ports-chosen gate.Muxz operands chosen slots is type = let c = three-chosen operands.ports chosen (port-vector operands 0 slots.1) (port-vector operands 1 slots.1) (port-vector operands 2 slots.1) is in record { four = c.0; fit = c.1; vectors = c.2 }
ports-chosen (gate.Resolver resolution) operands chosen slots is type = absurd (cc)
ports-chosen (gate.Part base) operands chosen slots is type = absurd (cc)
ports-chosen (gate.PartInto base part) operands chosen slots is type = absurd (cc)
ports-chosen (gate.PartFrom signed) operands chosen slots is type = absurd (cc)
ports-chosen (gate.Concat widths) operands chosen slots is type = absurd (cc)
ports-chosen (gate.Arithmetic operation) operands chosen slots is type = absurd (cc)
ports-chosen (gate.Compare operation compared) operands chosen slots is type = absurd (cc)
ports-chosen (gate.Shift operation) operands chosen slots is type = absurd (cc)
ports-chosen (gate.Reduce operation) operands chosen slots is type = absurd (cc)
ports-chosen (gate.Repeat count) operands chosen slots is type = absurd (cc)
ports-chosen gate.Extend operands chosen slots is type = absurd (cc)

-- the width of a functor: its own, or that of a constant
constant-ok : (first : Port) (bits n : ℕ) → IsVector first → width_or (constant_width first) bits ≡ Ok n → IsWidth n
constant-ok port.Unused bits n vector is = (width-ok bits n is).1
constant-ok (port.Sym name) bits n vector is = (width-ok bits n is).1
constant-ok (port.Fixed constant) bits n vector is = by (nat_lt 1 (length constant)) is
  where
    by : (own : Bool) → width_or (if own then Some (length constant) else None) bits ≡ Ok n → IsWidth n
    by true is = let same : length constant ≡ n = cc in subst IsWidth same (vector.0, vector.1)
    by false is = (width-ok bits n is).1

own-ok : (kind : Gate) (first : Port) (bits n : ℕ) → IsVector first → width_or (own_width kind first) bits ≡ Ok n → IsWidth n
own-ok gate.Buft first bits n vector is = constant-ok first bits n vector is
own-ok gate.And first bits n vector is = (width-ok bits n is).1
own-ok gate.Or first bits n vector is = (width-ok bits n is).1
own-ok gate.Xor first bits n vector is = (width-ok bits n is).1
own-ok gate.Nand first bits n vector is = (width-ok bits n is).1
own-ok gate.Nor first bits n vector is = (width-ok bits n is).1
own-ok gate.Xnor first bits n vector is = (width-ok bits n is).1
own-ok gate.Buf first bits n vector is = (width-ok bits n is).1
own-ok gate.Not first bits n vector is = (width-ok bits n is).1
own-ok gate.Bufz first bits n vector is = (width-ok bits n is).1
own-ok gate.Muxz first bits n vector is = (width-ok bits n is).1
own-ok (gate.Resolver resolution) first bits n vector is = (width-ok bits n is).1
own-ok (gate.Part base) first bits n vector is = (width-ok bits n is).1
own-ok (gate.PartInto base part) first bits n vector is = (width-ok bits n is).1
own-ok (gate.PartFrom signed) first bits n vector is = (width-ok bits n is).1
own-ok (gate.Concat widths) first bits n vector is = (width-ok bits n is).1
own-ok (gate.Arithmetic operation) first bits n vector is = (width-ok bits n is).1
own-ok (gate.Compare operation compared) first bits n vector is = (width-ok bits n is).1
own-ok (gate.Shift operation) first bits n vector is = (width-ok bits n is).1
own-ok (gate.Reduce operation) first bits n vector is = (width-ok bits n is).1
own-ok (gate.Repeat count) first bits n vector is = (width-ok bits n is).1
own-ok gate.Extend first bits n vector is = (width-ok bits n is).1

-- a functor takes at its ports what its kind takes
type-wanted : (kind : Gate) (width k : ℕ) (drives : ℕ × ℕ) (ports : List Port) → is_type kind ≡ true → width_wanted (form.Functor kind width drives ports) (Some width) k ≡ port_takes kind width k
unfolding width_wanted
type-wanted gate.And width k drives ports type = refl
type-wanted gate.Or width k drives ports type = refl
type-wanted gate.Xor width k drives ports type = refl
type-wanted gate.Nand width k drives ports type = refl
type-wanted gate.Nor width k drives ports type = refl
type-wanted gate.Xnor width k drives ports type = refl
type-wanted gate.Buf width k drives ports type = refl
type-wanted gate.Not width k drives ports type = refl
type-wanted gate.Bufz width k drives ports type = refl
type-wanted gate.Buft width k drives ports type = refl
type-wanted gate.Muxz width k drives ports type = refl
type-wanted (gate.Resolver resolution) width k drives ports type = absurd (cc)
type-wanted (gate.Part base) width k drives ports type = absurd (cc)
type-wanted (gate.PartInto base part) width k drives ports type = absurd (cc)
type-wanted (gate.PartFrom signed) width k drives ports type = absurd (cc)
type-wanted (gate.Concat widths) width k drives ports type = absurd (cc)
type-wanted (gate.Arithmetic operation) width k drives ports type = absurd (cc)
type-wanted (gate.Compare operation compared) width k drives ports type = absurd (cc)
type-wanted (gate.Shift operation) width k drives ports type = absurd (cc)
type-wanted (gate.Reduce operation) width k drives ports type = absurd (cc)
type-wanted (gate.Repeat count) width k drives ports type = absurd (cc)
type-wanted gate.Extend width k drives ports type = absurd (cc)

type-numbers : (kind : Gate) (width : ℕ) → is_type kind ≡ true → HasNumbers kind width
type-numbers gate.And width type = tt
type-numbers gate.Or width type = tt
type-numbers gate.Xor width type = tt
type-numbers gate.Nand width type = tt
type-numbers gate.Nor width type = tt
type-numbers gate.Xnor width type = tt
type-numbers gate.Buf width type = tt
type-numbers gate.Not width type = tt
type-numbers gate.Bufz width type = tt
type-numbers gate.Buft width type = tt
type-numbers gate.Muxz width type = tt
type-numbers (gate.Resolver resolution) width type = absurd (cc)
type-numbers (gate.Part base) width type = absurd (cc)
type-numbers (gate.PartInto base part) width type = absurd (cc)
type-numbers (gate.PartFrom signed) width type = absurd (cc)
type-numbers (gate.Concat widths) width type = absurd (cc)
type-numbers (gate.Arithmetic operation) width type = absurd (cc)
type-numbers (gate.Compare operation compared) width type = absurd (cc)
type-numbers (gate.Shift operation) width type = absurd (cc)
type-numbers (gate.Reduce operation) width type = absurd (cc)
type-numbers (gate.Repeat count) width type = absurd (cc)
type-numbers gate.Extend width type = absurd (cc)

at-vector : (ports : List Port) → All IsVector ports → IsVector (port_of ports 0)
at-vector [] vectors = tt
at-vector (p ∷ ports) vectors = vectors 0 port.Unused (omega arith)

functor-formed : (kind : Gate) (operands : Operands) (chosen : List Port) (bits low high n : ℕ) → Slots operands → is_type kind ≡ true → ports_used kind operands.ports ≡ Ok chosen → low ≤ 7 → high ≤ 7 → width_or (own_width kind (port_of chosen 0)) bits ≡ Ok n → IsGateForm (form.Functor kind n (low, high) chosen) kind n
unfolding ports_of
functor-formed kind operands chosen bits low high n slots type is weak strong wide =
    let c : AreChosen kind chosen = ports-chosen kind operands chosen slots is type in
    record {
      in_range = own-ok kind (port_of chosen 0) bits n (at-vector chosen c.vectors) wide;
      four = c.four;
      fit = c.fit;
      vectors = c.vectors;
      numbers = type-numbers kind n type;
      zero_strength = weak;
      one_strength = strong;
      wanted = λ k. type-wanted kind n k (low, high) chosen type;
    }

-- Concatenations

-- no width and no port
nothing-fits : (widths : List ℕ) (ports : List Port) → length widths ≡ length ports → list_all (λ bits. bits == 0) widths ≡ true → ((k : ℕ) → get_or ports k port.Unused ≡ port.Unused) → pass_by_width is_used widths ports ≡ true
nothing-fits [] [] same zeros unused = refl
nothing-fits [] (p ∷ ports) same zeros unused = absurd (cc)
nothing-fits (w ∷ widths) [] same zeros unused = absurd (cc)
nothing-fits (w ∷ widths) (p ∷ ports) same zeros unused =
    let parts = and_parts (w == 0) (list_all (λ bits. bits == 0) widths) zeros in
    let first : p ≡ port.Unused = unused 0 in
    let left : length widths ≡ length ports = omega (arith, same) in
    and_from (is_same (is_used p) (not (nat_eq w 0))) (pass_by_width is_used widths ports) (ap (λ q. is_same (is_used q) (not (nat_eq w 0))) first ∙ ap (λ b. is_same false (not b)) parts.0)
    (nothing-fits widths ports left parts.1 (λ k. unused (suc k)))

count-yes : (w : ℕ) (widths : List ℕ) → (w == 0) ≡ false → widths_len (w ∷ widths) ≡ suc (widths_len widths)
count-yes w widths is = let same : widths_len (w ∷ widths) ≡ 1 + widths_len widths = ap (λ b. if not b then 1 + widths_len widths else 0) is in omega (arith, same)

count-no : (w : ℕ) (widths : List ℕ) → (w == 0) ≡ true → widths_len (w ∷ widths) ≡ 0
count-no w widths is = ap (λ b. if not b then 1 + widths_len widths else 0) is

swapped : (l : List ℕ) → list_all (λ bits. bits == 0) l ≡ true → list_all (nat_eq 0) l ≡ true
swapped [] is = refl
swapped (zero ∷ l) is = swapped l is
swapped (suc n ∷ l) is = let e : suc n ≡ zero = eqb-true (suc n) 0 (and_parts (suc n == 0) (list_all (λ bits. bits == 0) l) is).0 in absurd (omega (arith, e))

-- the used ports are those of the widths that aren't 0, and these are the first ones
widths-fit : (widths : List ℕ) (ports : List Port) (before last : ℕ) → length widths ≡ length ports → list_all (λ bits. bits == 0) (drop (widths_len widths) widths) ≡ true → last + 1 ≡ before + widths_len widths → list_all is_used (take (widths_len widths) ports) ≡ true → ((k : ℕ) → last < before + k → get_or ports k port.Unused ≡ port.Unused) → (pass_by_width is_used widths ports ≡ true) × (zeros_last widths ≡ true)
widths-fit [] [] before last same zeros end there unused = (refl, refl)
widths-fit [] (p ∷ ports) before last same zeros end there unused = absurd (cc)
widths-fit (w ∷ widths) [] before last same zeros end there unused = absurd (cc)
widths-fit (w ∷ widths) (p ∷ ports) before last same zeros end there unused =
    let left : length widths ≡ length ports = omega (arith, same) in
    by (w == 0) refl (widths-fit widths ports (before + 1) last left)
  where
    by : (empty : Bool) → (w == 0) ≡ empty → (list_all (λ bits. bits == 0) (drop (widths_len widths) widths) ≡ true → last + 1 ≡ before + 1 + widths_len widths → list_all is_used (take (widths_len widths) ports) ≡ true → ((k : ℕ) → last < before + 1 + k → get_or ports k port.Unused ≡ port.Unused) → (pass_by_width is_used widths ports ≡ true) × (zeros_last widths ≡ true)) → (pass_by_width is_used (w ∷ widths) (p ∷ ports) ≡ true) × (zeros_last (w ∷ widths) ≡ true)
    by true empty rest =
        let n : widths_len (w ∷ widths) ≡ zero = count-no w widths empty in
        let all : list_all (λ bits. bits == 0) (w ∷ widths) ≡ true = sym (ap (λ m. list_all (λ bits. bits == 0) (drop m (w ∷ widths))) n) ∙ zeros in
        let far : (k : ℕ) → last < before + k = λ k. omega (arith, end, n) in
        (nothing-fits (w ∷ widths) (p ∷ ports) same all (λ k. unused k (far k)), ap (λ b. if b then list_all (nat_eq 0) widths else zeros_last widths) empty ∙ swapped widths (and_parts (w == 0) (list_all (λ bits. bits == 0) widths) all).1)
    by false empty rest =
        let n : widths_len (w ∷ widths) ≡ suc (widths_len widths) = count-yes w widths empty in
        let zero_rest : list_all (λ bits. bits == 0) (drop (widths_len widths) widths) ≡ true = sym (ap (λ m. list_all (λ bits. bits == 0) (drop m (w ∷ widths))) n) ∙ zeros in
        let ports_there : (is_used p && list_all is_used (take (widths_len widths) ports)) ≡ true = sym (ap (λ m. list_all is_used (take m (p ∷ ports))) n) ∙ there in
        let parts = and_parts (is_used p) (list_all is_used (take (widths_len widths) ports)) ports_there in
        let next : last + 1 ≡ before + 1 + widths_len widths = omega (arith, end, n) in
        let more = rest zero_rest next parts.1 (λ k lt. let far : last < before + suc k = omega (arith, lt) in unused (suc k) far) in
        (and_from (is_same (is_used p) (not (nat_eq w 0))) (pass_by_width is_used widths ports) (ap (λ b. is_same b (not (nat_eq w 0))) parts.0 ∙ ap not empty) more.0, ap (λ b. if b then list_all (nat_eq 0) widths else zeros_last widths) empty ∙ more.1)

-- the first width isn't 0
first-some : (w : ℕ) (widths : List ℕ) (last : ℕ) → last + 1 ≡ widths_len (w ∷ widths) → w ≡ 0 → ⊥
first-some w widths last end is =
    let n : widths_len (w ∷ widths) ≡ zero = count-no w widths (ap (λ m. m == 0) is) in
    omega (arith, end, n)

take-four : (numbers : List ℕ) → length numbers ≡ 5 → take 4 numbers ≡ slice_index numbers 0 ∷ slice_index numbers 1 ∷ slice_index numbers 2 ∷ slice_index numbers 3 ∷ []
take-four [] is = absurd (omega (arith, is))
take-four (a ∷ []) is = absurd (omega (arith, is))
take-four (a ∷ b ∷ []) is = absurd (omega (arith, is))
take-four (a ∷ b ∷ c ∷ []) is = absurd (omega (arith, is))
take-four (a ∷ b ∷ c ∷ d ∷ rest) is = refl

widths-ok : (a b c d : ℕ) (widths : List ℕ) → widths_of a b c d ≡ Ok widths → (a ∷ b ∷ c ∷ d ∷ [] ≡ widths) × (a + b + c + d ≤ 128)
unfolding widths_of
widths-ok a b c d widths is = by (nat_lt 128 (a + b + c + d)) refl is
  where
    by : (wide : Bool) → nat_lt 128 (a + b + c + d) ≡ wide → (if wide then Err fault.VectorTooWide else Ok (a ∷ b ∷ c ∷ d ∷ [])) ≡ Ok widths → (a ∷ b ∷ c ∷ d ∷ [] ≡ widths) × (a + b + c + d ≤ 128)
    by true wide is = absurd (cc)
    by false wide is = (cc, ltb-false 128 (a + b + c + d) wide)

parts-of : (widths : List ℕ) (ports : List Port) (last : ℕ) → fits_ports widths ports last ≡ true → (list_all (λ bits. bits == 0) (drop (widths_len widths) widths) ≡ true) × (last + 1 ≡ widths_len widths) × (list_all is_used (take (widths_len widths) ports) ≡ true)
unfolding fits_ports
parts-of widths ports last is =
    let first = and_parts _ _ is in
    let second = and_parts _ _ first.0 in
    (second.0, eqb-true (last + 1) (widths_len widths) second.1, first.1)

-- a concatenation of four widths
made-concat : (a b c d : ℕ) (ports : List Port) (last : ℕ) → length ports ≡ 4 → All IsVector ports → ((k : ℕ) → last < k → get_or ports k port.Unused ≡ port.Unused) → fits_ports (a ∷ b ∷ c ∷ d ∷ []) ports last ≡ true → a + b + c + d ≤ 128 → IsGateForm (form.Concat (a ∷ b ∷ c ∷ d ∷ []) ports) (gate.Concat (a ∷ b ∷ c ∷ d ∷ [])) (sum (a ∷ b ∷ c ∷ d ∷ []))
unfolding ports_of width_wanted
made-concat a b c d ports last four vectors after is most =
    let parts = parts-of (a ∷ b ∷ c ∷ d ∷ []) ports last is in
    let end : last + 1 ≡ 0 + widths_len (a ∷ b ∷ c ∷ d ∷ []) = omega (arith, parts.1) in
    let found = widths-fit (a ∷ b ∷ c ∷ d ∷ []) ports 0 last (sym four) parts.0 end parts.2 (λ k lt. let less : last < k = omega (arith, lt) in after k less) in
    let some : a ≡ 0 → ⊥ = first-some a (b ∷ c ∷ d ∷ []) last parts.1 in
    record {
      in_range = (omega (arith, some), omega (arith, most));
      four = four;
      fit = found.0;
      vectors = vectors;
      numbers = (refl, refl, found.1);
      zero_strength = six;
      one_strength = six;
      wanted = λ k. refl;
    }

concat-formed : (operands : Operands) (widths : List ℕ) → Slots operands → fits_ports (take 4 operands.numbers) operands.ports operands.last_port ≡ true → widths_of (slice_index operands.numbers 0) (slice_index operands.numbers 1) (slice_index operands.numbers 2) (slice_index operands.numbers 3) ≡ Ok widths → IsFormed (form.Concat widths operands.ports)
concat-formed operands widths slots fits is =
    let found = widths-ok _ _ _ _ widths is in
    subst (λ (l : List ℕ). IsGateForm (form.Concat l operands.ports) (gate.Concat l) (sum l)) found.0
    (made-concat _ _ _ _ operands.ports operands.last_port slots.0.ports slots.1 slots.0.after (sym (ap (λ (l : List ℕ). fits_ports l operands.ports operands.last_port) (take-four operands.numbers slots.0.numbers)) ∙ fits) found.1)

-- Each form of a gate

drives_six : (6 ≤ 7) × (6 ≤ 7)
drives_six = (six, six)

resolver-formed : (kind : ResKind) (ports : List Port) → length ports ≡ 4 → All IsVector ports → list_any is_symbol ports ≡ true → IsFormed (form.Resolver kind ports)
unfolding ports_of width_wanted
resolver-formed kind ports four vectors some width fits =
    record { in_range = fits; four = four; fit = some; vectors = vectors; numbers = tt; zero_strength = six; one_strength = six; wanted = λ k. refl }

part-formed : (first : Port) (base n : ℕ) → IsThere first → IsWidth n → IsFormed (form.Part first base n)
unfolding ports_of width_wanted one
part-formed first base n there fits =
    record { in_range = fits; four = refl; fit = one-fits first there; vectors = one-vector first there; numbers = tt; zero_strength = six; one_strength = six; wanted = λ k. refl }

into-formed : (first : Port) (base n whole : ℕ) → IsThere first → IsWidth n → IsWidth whole → IsFormed (form.PartInto first base n whole)
unfolding ports_of width_wanted one
into-formed first base n whole there part fits =
    record { in_range = fits; four = refl; fit = one-fits first there; vectors = one-vector first there; numbers = part; zero_strength = six; one_strength = six; wanted = λ k. refl }

from-formed : (signed : Bool) (first base : Port) (n : ℕ) → IsThere first → IsThere base → IsWidth n → IsFormed (form.PartFrom signed first base n)
unfolding ports_of width_wanted two
from-formed signed first base n there second fits =
    record { in_range = fits; four = refl; fit = two-fit first base there second; vectors = two-vectors first base there second; numbers = tt; zero_strength = six; one_strength = six; wanted = λ k. refl }

arithmetic-formed : (kind : ArithmeticKind) (n : ℕ) (left right : Port) → IsThere left → IsThere right → IsWidth n → IsFormed (form.Arithmetic kind n left right)
unfolding ports_of width_wanted two
arithmetic-formed kind n left right there second fits =
    record { in_range = fits; four = refl; fit = two-fit left right there second; vectors = two-vectors left right there second; numbers = tt; zero_strength = six; one_strength = six; wanted = λ k. refl }

compare-formed : (kind : CompareKind) (n : ℕ) (left right : Port) → IsThere left → IsThere right → IsWidth n → IsFormed (form.Compare kind n left right)
unfolding ports_of width_wanted two
compare-formed kind n left right there second fits =
    record { in_range = unit_width; four = refl; fit = two-fit left right there second; vectors = two-vectors left right there second; numbers = (fits, refl); zero_strength = six; one_strength = six; wanted = λ k. refl }

shift-formed : (kind : ShiftKind) (n : ℕ) (first amount : Port) → IsThere first → IsThere amount → IsWidth n → IsFormed (form.Shift kind n first amount)
unfolding ports_of width_wanted two
shift-formed kind n first amount there second fits =
    record { in_range = fits; four = refl; fit = two-fit first amount there second; vectors = two-vectors first amount there second; numbers = tt; zero_strength = six; one_strength = six; wanted = λ k. refl }

reduce-formed : (kind : ReduceKind) (first : Port) → IsThere first → IsFormed (form.Reduce kind first)
unfolding ports_of width_wanted one
reduce-formed kind first there =
    record { in_range = unit_width; four = refl; fit = one-fits first there; vectors = one-vector first there; numbers = refl; zero_strength = six; one_strength = six; wanted = λ k. refl }

repeat-formed : (n count : ℕ) (first : Port) → IsThere first → IsWidth n → 1 ≤ count → n % count ≡ 0 → IsFormed (form.Repeat n count first)
unfolding ports_of width_wanted one
repeat-formed n count first there fits least even =
    record { in_range = fits; four = refl; fit = one-fits first there; vectors = one-vector first there; numbers = (least, even); zero_strength = six; one_strength = six; wanted = λ k. refl }

extend-formed : (n : ℕ) (first : Port) → IsThere first → IsWidth n → IsFormed (form.Extend n first)
unfolding ports_of width_wanted one
extend-formed n first there fits =
    record { in_range = fits; four = refl; fit = one-fits first there; vectors = one-vector first there; numbers = tt; zero_strength = six; one_strength = six; wanted = λ k. refl }

edge-formed : (kind : EdgeKind) (ports chosen : List Port) → length ports ≡ 4 → All IsVector ports → some_used ports ≡ Ok chosen → IsFormed (form.EdgeEvent kind chosen)
edge-formed kind ports chosen four vectors is =
    let c = some-chosen ports chosen four vectors is in
    record { four = c.0; some = c.1; vectors = c.2 }

count-ok : (n count : ℕ) → (not (count == 0) && n % count == 0) ≡ true → (1 ≤ count) × (n % count ≡ 0)
count-ok n count is =
    let parts = and_parts (not (count == 0)) (n % count == 0) is in
    let some : count ≡ 0 → ⊥ = eqb-false count 0 (not-true (count == 0) parts.0) in
    (omega (arith, some), eqb-true (n % count) 0 parts.1)

into-ok : (part whole n m : ℕ) → (not (part == 0) && not (whole == 0)) ≡ true → not_wide part ≡ Ok n → not_wide whole ≡ Ok m → IsWidth n × IsWidth m
into-ok part whole n m is first second =
    let parts = and_parts (not (part == 0)) (not (whole == 0)) is in
    let a = wide-ok part n first in
    let b = wide-ok whole m second in (
      some-width n (λ none. eqb-false part 0 (not-true (part == 0) parts.0) (sym a.0 ∙ none)) a.1,
      some-width m (λ none. eqb-false whole 0 (not-true (whole == 0) parts.1) (sym b.0 ∙ none)) b.1,
    )

-- Rows

module _ (file : List ℕ) (operands : Operands) (slots : Slots operands) where
  there : (slot : ℕ) (q : Port) → used (port_of operands.ports slot) ≡ Ok q → IsThere q
  there slot q is = used-ok (port_of operands.ports slot) q (port-vector operands slot slots.1) is

  pub row-each : (r : Row) → IfOk (form_of file r operands) IsFormed
  unfolding form_of precision scope current_scope time_scale variable net array functor resolver part part_into part_from concat arithmetic compare shift reduce repeat extend delay edge_event thread
  row-each row.Version = tt
  row-each row.IgnoredText = tt
  row-each row.IgnoredNumber = tt
  row-each row.LoneText = tt
  row-each row.Parameter = tt
  row-each row.Precision = bind-if IsFormed (power (integer operands 0)) _ (λ (z : ℤ) is. power-ok (integer operands 0) z is)
  row-each row.Scope = bind-if IsFormed (kind_needed scope_kind file operands.kind) _ (λ _ _. tt)
  row-each row.CurrentScope = bind-if IsFormed (needed operands.symbol) _ (λ _ _. tt)
  row-each row.TimeScale = bind-if IsFormed (power (integer operands 0)) _ (λ _ _. bind-if IsFormed (power (integer operands 1)) _ (λ _ _. tt))
  row-each (row.Variable kind) = bind-if IsFormed (range (integer operands 0) (integer operands 1)) _ (λ (r : Range) is. range-ok (integer operands 0) (integer operands 1) r is)
  row-each (row.Net signed) = bind-if IsFormed (needed operands.symbol) _ (λ _ _. bind-if IsFormed (range (integer operands 0) (integer operands 1)) _ (λ (r : Range) is. range-ok (integer operands 0) (integer operands 1) r is))
  row-each (row.Array kind) = bind-if IsFormed (range (integer operands 2) (integer operands 3)) _ (λ (r : Range) is. range-ok (integer operands 2) (integer operands 3) r is)
  row-each row.Functor =
      bind-if IsFormed (kind_needed functor_type file operands.kind) _ (λ (kind : Gate) found.
      bind-if IsFormed (strength operands.drives.0) _ (λ (low : ℕ) weak.
      bind-if IsFormed (strength operands.drives.1) _ (λ (high : ℕ) strong.
      bind-if IsFormed (ports_used kind operands.ports) _ (λ (chosen : List Port) ports.
      bind-if IsFormed (width_or (own_width kind (port_of chosen 0)) (number operands 0)) _ (λ (n : ℕ) wide.
      let type = type-needed file operands.kind kind found in
      (functor-formed kind operands chosen (number operands 0) low high n slots type ports (strength-ok operands.drives.0 low weak) (strength-ok operands.drives.1 high strong) wide, type))))))
  row-each row.Resolver =
      bind-if IsFormed (kind_needed resolution file operands.kind) _ (λ (kind : ResKind) _. bind-if IsFormed (allowed (list_any is_symbol operands.ports)) _ (λ x some. resolver-formed kind operands.ports slots.0.ports slots.1 (allowed-ok (list_any is_symbol operands.ports) x some)))
  row-each row.Part = bind-if IsFormed (used (port_of operands.ports 0)) _ (λ (q : Port) is. bind-if IsFormed (width (number operands 1)) _ (λ (n : ℕ) fits. part-formed q (number operands 0) n (there 0 q is) (width-ok (number operands 1) n fits).1))
  row-each row.PartInto =
      bind-if IsFormed (used (port_of operands.ports 0)) _ (λ (q : Port) is. bind-if IsFormed (allowed (not ((number operands 1) == 0) && not ((number operands 2) == 0))) _ (λ x some. bind-if IsFormed (not_wide (number operands 1)) _ (λ (n : ℕ) first. bind-if IsFormed (not_wide (number operands 2)) _ (λ (m : ℕ) second.
      let fits = into-ok (number operands 1) (number operands 2) n m (allowed-ok (not ((number operands 1) == 0) && not ((number operands 2) == 0)) x some) first second in into-formed q (number operands 0) n m (there 0 q is) fits.0 fits.1))))
  row-each (row.PartFrom signed) = bind-if IsFormed (used (port_of operands.ports 0)) _ (λ (q : Port) is. bind-if IsFormed (used (port_of operands.ports 1)) _ (λ (r : Port) also. bind-if IsFormed (width (number operands 0)) _ (λ (n : ℕ) fits. from-formed signed q r n (there 0 q is) (there 1 r also) (width-ok (number operands 0) n fits).1)))
  row-each row.Concat =
      bind-if IsFormed (allowed (fits_ports (take 4 operands.numbers) operands.ports operands.last_port)) _ (λ x fits. bind-if IsFormed (widths_of (number operands 0) (number operands 1) (number operands 2) (number operands 3)) _ (λ (widths : List ℕ) is. concat-formed operands widths slots (allowed-ok (fits_ports (take 4 operands.numbers) operands.ports operands.last_port) x fits) is))
  row-each (row.Arithmetic kind) = bind-if IsFormed (used (port_of operands.ports 0)) _ (λ (q : Port) is. bind-if IsFormed (used (port_of operands.ports 1)) _ (λ (r : Port) also. bind-if IsFormed (width (number operands 0)) _ (λ (n : ℕ) fits. arithmetic-formed kind n q r (there 0 q is) (there 1 r also) (width-ok (number operands 0) n fits).1)))
  row-each (row.Compare kind) = bind-if IsFormed (used (port_of operands.ports 0)) _ (λ (q : Port) is. bind-if IsFormed (used (port_of operands.ports 1)) _ (λ (r : Port) also. bind-if IsFormed (width (number operands 0)) _ (λ (n : ℕ) fits. compare-formed kind n q r (there 0 q is) (there 1 r also) (width-ok (number operands 0) n fits).1)))
  row-each (row.Shift kind) = bind-if IsFormed (used (port_of operands.ports 0)) _ (λ (q : Port) is. bind-if IsFormed (used (port_of operands.ports 1)) _ (λ (r : Port) also. bind-if IsFormed (width (number operands 0)) _ (λ (n : ℕ) fits. shift-formed kind n q r (there 0 q is) (there 1 r also) (width-ok (number operands 0) n fits).1)))
  row-each (row.Reduce kind) = bind-if IsFormed (used (port_of operands.ports 0)) _ (λ (q : Port) is. reduce-formed kind q (there 0 q is))
  row-each row.Repeat =
      bind-if IsFormed (used (port_of operands.ports 0)) _ (λ (q : Port) is. bind-if IsFormed (allowed (not ((number operands 1) == 0) && (number operands 0) % (number operands 1) == 0)) _ (λ x even. bind-if IsFormed (width (number operands 0)) _ (λ (n : ℕ) fits.
      let w = width-ok (number operands 0) n fits in let c = count-ok (number operands 0) (number operands 1) (allowed-ok (not ((number operands 1) == 0) && (number operands 0) % (number operands 1) == 0) x even) in repeat-formed n (number operands 1) q (there 0 q is) w.1 c.0 (ap (λ m. m % (number operands 1)) w.0 ∙ c.1))))
  row-each row.Extend = bind-if IsFormed (used (port_of operands.ports 0)) _ (λ (q : Port) is. bind-if IsFormed (width (number operands 0)) _ (λ (n : ℕ) fits. extend-formed n q (there 0 q is) (width-ok (number operands 0) n fits).1))
  row-each row.Delay = bind-if IsFormed (needed operands.symbol) _ (λ _ _. bind-if IsFormed (width (number operands 0)) _ (λ (n : ℕ) fits. (width-ok (number operands 0) n fits).1))
  row-each row.EdgeEvent =
      bind-if IsFormed (kind_needed edge_kind file operands.kind) _ (λ (kind : EdgeKind) _. bind-if IsFormed (some_used operands.ports) _ (λ (chosen : List Port) is. edge-formed kind operands.ports chosen slots.0.ports slots.1 is))
  row-each row.NamedEvent = tt
  row-each row.EventOr = tt
  row-each row.Thread = bind-if IsFormed (needed operands.symbol) _ (λ _ _. bind-if IsFormed (start_of file operands.kind) _ (λ _ _. tt))

rows-rise : (r : Row) → rises 0 (pieces_of r) ≡ true
unfolding pieces_of
rows-rise row.Version = refl
rows-rise row.IgnoredText = refl
rows-rise row.IgnoredNumber = refl
rows-rise row.LoneText = refl
rows-rise row.Parameter = refl
rows-rise row.Precision = refl
rows-rise row.Scope = refl
rows-rise row.CurrentScope = refl
rows-rise row.TimeScale = refl
rows-rise (row.Variable kind) = refl
rows-rise (row.Net signed) = refl
rows-rise (row.Array kind) = refl
rows-rise row.Functor = refl
rows-rise row.Resolver = refl
rows-rise row.Part = refl
rows-rise row.PartInto = refl
rows-rise (row.PartFrom signed) = refl
rows-rise row.Concat = refl
rows-rise (row.Arithmetic kind) = refl
rows-rise (row.Compare kind) = refl
rows-rise (row.Shift kind) = refl
rows-rise (row.Reduce kind) = refl
rows-rise row.Repeat = refl
rows-rise row.Extend = refl
rows-rise row.Delay = refl
rows-rise row.EdgeEvent = refl
rows-rise row.NamedEvent = refl
rows-rise row.EventOr = refl
rows-rise row.Thread = refl

form-each : (file : List ℕ) (r : Row) (operands : Operands) → IsSpelledBy file r operands → IfOk (form_of file r operands) IsFormed
form-each file r operands spelled =
    row-each file operands (has-slots file (pieces_of r) spelled.tokens operands (rows-rise r) spelled.read, operands-have file (pieces_of r) spelled.tokens operands spelled.read) r

-- what the grammar says of a statement
abbrev pub IsGiven : What → Type 0
IsGiven (what.Form f) = IsFormed f
IsGiven (what.Op o) = Unit {0}

given-all : (file : List ℕ) (all : List Placed) → statements_read file ≡ Ok all → All (λ s. IsGiven s.what) all
given-all file all is = read-each IsGiven file all (λ o. tt) tt (form-each file) is

pub given : (file : List ℕ) (all : List Placed) (place : ℕ) (s : Placed) → statements_read file ≡ Ok all → slice_get all place ≡ Some s → IsGiven s.what
given file all place s is there =
    All-contains (λ (x : Placed). IsGiven x.what) all s (given-all file all is) (place, slice_get_within all place s there, get_or_from_slice_get all place s s there)
