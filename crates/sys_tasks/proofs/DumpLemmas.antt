-- What a dump needs, of a program and of a plane.
use Rattle.std.proofs.Common.{◌≡◌, ℕ, ◌+◌, ◌<◌, ◌≤◌, ◌^◌, true, false, Option, Some, None, List, [], ◌∷◌, length, get_or, map, refl, sym, ap, ◌∙◌, subst, arith, inl, inr, suc}
use Rattle.std.specs.Prelude.{IsTrue, ℤ, ◌⊎◌, ◌≤ℤ◌, pos, negsuc, int_le, nat_lt, slice_get}
use Rattle.std.specs.List.{AllPass}
use Rattle.std.specs.Option.{option_map, option_map_or}
use lib.Signed.{le_z_yes}
use Rattle.std.proofs.Common.{FitsSigned, w8, to_z, of_z}
use Rattle.std.proofs.lemmas.Int.{ints, to_z-of_z}
use Rattle.std.proofs.lemmas.Float.{T_from_true}
use Rattle.std.proofs.lemmas.Bool.{and_parts, false≢true, lt-ltb}
use Rattle.std.proofs.lemmas.List.{length-map}
use Rattle.std.proofs.lemmas.Option.{slice_get-map, slice_get-get_or, slice_get_within, get_or_from_slice_get, same_Some}
use Rattle.four_state.specs.declared.bits.Bit.{Bit}
use Rattle.sym_link.specs.declared.program.Item.{Item}
use Rattle.sym_link.specs.declared.program.ItemKind.{ItemKind}
use Rattle.sym_link.specs.declared.program.ItemKind.TheVariants as kind
use Rattle.sym_link.specs.declared.program.Program.{Program}
use Rattle.sym_link.specs.declared.program.ScopeRow.{ScopeRow}
use Rattle.sym_link.specs.declared.program.TheConstants.{NONE}
use Rattle.sym_link.specs.Sound.{IsItem, IsKind, IsProgram, is_root_kind, is_such}
use Rattle.sym_link.specs.Sound.{width_of as linked_width}
use Rattle.vcd_write.specs.Header.{AreNested}
use Rattle.sys_tasks.specs.declared.design.Entry.{Entry}
use Rattle.sys_tasks.specs.declared.design.EntryKind.{EntryKind}
use Rattle.sys_tasks.specs.declared.design.EntryKind.TheVariants as entry
use Rattle.sys_tasks.specs.Arguments.{value_in}
use Rattle.sys_tasks.specs.Conditions.{Answers, HasWidths, HoldsValues, has_own_value}
use Rattle.sys_tasks.specs.Design.{entry_kind, entry_of, is_dumpable_kind, root_in, width_of, words_in}
use Rattle.sys_tasks.specs.Dumped.{dump_scope, kind_of}
use Rattle.sys_tasks.specs.Sound.{CanDump, IsDumpable}

-- Programs

nested-from : (k : ℕ) (rows : List ScopeRow) → ((n : ℕ) (row : ScopeRow) → slice_get rows n ≡ Some row → (row.parent ≡ NONE) ⊎ (row.parent < k + n)) → AreNested k (map dump_scope rows)
nested-from k [] h = tt
nested-from k (row ∷ rows) h = (
  elim (h 0 row refl) [ inl none ↦ inl none | inr below ↦ inr (omega arith) ],
  nested-from (suc k) rows (λ n r is. elim (h (suc n) r is) [ inl none ↦ inl none | inr below ↦ inr (omega arith) ]),
)

-- the kind of an item of the program
kind-is : (items : List Item) (item : ℕ) (x : Item) → slice_get items item ≡ Some x → kind_of (map entry_of items) item ≡ entry_kind x x.what
kind-is items item x h = ap (λ (o : Option Entry). option_map_or (λ (e : Entry). e.what) o entry.Other) (slice_get-map entry_of items item ∙ ap (option_map entry_of) h)

width-is : (items : List Item) (item : ℕ) (x : Item) → slice_get items item ≡ Some x → width_of (map entry_of items) item ≡ x.width
width-is items item x h = ap (λ (o : Option Entry). option_map_or (λ (e : Entry). e.width) o 0) (slice_get-map entry_of items item ∙ ap (option_map entry_of) h)

own-value : (x : Item) (what : ItemKind) → IsTrue (is_root_kind what) → IsTrue (has_own_value (entry_kind x what))
own-value x (kind.Var integer) h = refl
own-value x (kind.Net root) h = h
own-value x (kind.Functor gate drive ports) h = refl
own-value x (kind.Edge edge ports) h = h
own-value x kind.Named h = h
own-value x (kind.AnyOf events) h = h
own-value x (kind.Array words) h = h
own-value x (kind.Scope scope) h = h
own-value x kind.Param h = h
own-value x (kind.Delay rise fall decay port) h = refl

-- the root of a net
record IsRoot (items : List Item) (root width : ℕ) : Type 0 where
  own : IsTrue (has_own_value (kind_of (map entry_of items) root))
  wide : width_of (map entry_of items) root ≡ width

root-found : (items : List Item) (root width : ℕ) (found : Option Item) → slice_get items root ≡ found → IsTrue (is_such is_root_kind items root) → linked_width items root ≡ width → IsRoot items root width
root-found items root width None is such wide = absurd (false≢true (rw is at such))
root-found items root width (Some x) is such wide =
    let roots : is_root_kind x.what ≡ true = rw is at such in
    let width' : x.width ≡ width = rw is at wide in
    record { own = ap has_own_value (kind-is items root x is) ∙ own-value x x.what roots; wide = width-is items root x is ∙ width' }

dumpable-by : (program : Program) (x : Item) (item : ℕ) (what : ItemKind) → slice_get program.items item ≡ Some x → x.what ≡ what → IsKind program x what → IsTrue (is_dumpable_kind (entry_kind x what))
    → IsDumpable (map entry_of program.items) program.scopes item (entry_of x)
dumpable-by program x item (kind.Var integer) here is parts may =
    let entries = map entry_of program.items in
    let same : (entry_of x).what ≡ entry_kind x (kind.Var integer) = ap (entry_kind x) is in
    record {
      scope = parts.stands;
      root = ap (λ (k : EntryKind). has_own_value (kind_of entries (root_in k item))) same ∙ ap has_own_value (kind-is program.items item x here ∙ same);
      as_wide = sym parts.range.spans ∙ sym (width-is program.items item x here) ∙ sym (ap (λ (k : EntryKind). width_of entries (root_in k item)) same);
      least = subst (λ (n : ℕ). 1 ≤ n) parts.range.spans parts.range.in_range.0;
      most = subst (λ (n : ℕ). n ≤ 128) parts.range.spans parts.range.in_range.1;
    }
dumpable-by program x item (kind.Net root) here is parts may =
    let entries = map entry_of program.items in
    let same : (entry_of x).what ≡ entry_kind x (kind.Net root) = ap (entry_kind x) is in
    let rooted = root-found program.items root x.width (slice_get program.items root) refl parts.leads parts.same in
    record {
      scope = parts.stands;
      root = ap (λ (k : EntryKind). has_own_value (kind_of entries (root_in k item))) same ∙ rooted.own;
      as_wide = sym parts.range.spans ∙ sym rooted.wide ∙ sym (ap (λ (k : EntryKind). width_of entries (root_in k item)) same);
      least = subst (λ (n : ℕ). 1 ≤ n) parts.range.spans parts.range.in_range.0;
      most = subst (λ (n : ℕ). n ≤ 128) parts.range.spans parts.range.in_range.1;
    }
dumpable-by program x item (kind.Functor gate drive ports) here is parts may = absurd (false≢true may)
dumpable-by program x item (kind.Edge edge ports) here is parts may = absurd (false≢true may)
dumpable-by program x item kind.Named here is parts may = absurd (false≢true may)
dumpable-by program x item (kind.AnyOf events) here is parts may = absurd (false≢true may)
dumpable-by program x item (kind.Array words) here is parts may = absurd (false≢true may)
dumpable-by program x item (kind.Scope scope) here is parts may = absurd (false≢true may)
dumpable-by program x item kind.Param here is parts may = absurd (false≢true may)
dumpable-by program x item (kind.Delay rise fall decay port) here is parts may = absurd (false≢true may)

dumpable-found : (program : Program) (item : ℕ) (e : Entry) (found : Option Item) → IsProgram program → slice_get program.items item ≡ found → slice_get (map entry_of program.items) item ≡ Some e → IsTrue (is_dumpable_kind e.what)
    → IsDumpable (map entry_of program.items) program.scopes item e
dumpable-found program item e None h is here may =
    let none : None ≡ Some e = sym (slice_get-map entry_of program.items item ∙ ap (option_map entry_of) is) ∙ here in
    cc
dumpable-found program item e (Some x) h is here may =
    let some : Some (entry_of x) ≡ Some e = sym (slice_get-map entry_of program.items item ∙ ap (option_map entry_of) is) ∙ here in
    let same : entry_of x ≡ e = same_Some (entry_of x) e some in
    let P : Entry → Type 0 = λ y. IsTrue (is_dumpable_kind y.what) → IsDumpable (map entry_of program.items) program.scopes item y in
    let Q : Item → Type 0 = λ y. IsItem program y in
    let each : IsItem program x = subst Q (get_or_from_slice_get program.items item x x is) (h.each_item item x (slice_get_within program.items item x is)) in
    (subst P same (dumpable-by program x item x.what is refl each.is)) may

le_from : (x y : ℤ) → int_le x y ≡ true → x ≤ℤ y
le_from x y h = le_z_yes (T_from_true (int_le x y) h)

-- a linked program can be dumped
pub program-dumps : (program : Program) → IsProgram program → CanDump (map entry_of program.items) program.scopes program.precision
program-dumps program h =
    let tick = and_parts (int_le (negsuc 14) program.precision) (int_le program.precision (pos 2)) h.tick in
    record {
      few = (let count = length-map program.items entry_of in let few = h.few_items in let most : 2 ^ 20 ≡ 1048576 = refl in omega arith);
      least = le_from (negsuc 14) program.precision tick.0;
      most = le_from program.precision (pos 2) tick.1;
      nested = nested-from 0 program.scopes (λ n row is. elim ((h.each_scope n row is).lower) [ inl none ↦ inl none | inr below ↦ inr (omega arith) ]);
      each = λ item e here may. dumpable-found program item e (slice_get program.items item) h refl here may;
    }

-- a tick's power fits
pub program-power : (program : Program) → IsProgram program → to_z w8 (of_z w8 program.precision) ≡ program.precision
program-power program h =
    let tick = and_parts (int_le (negsuc 14) program.precision) (int_le program.precision (pos 2)) h.tick in
    let least = le_from (negsuc 14) program.precision tick.0 in
    let most = le_from program.precision (pos 2) tick.1 in
    let fits : FitsSigned w8 program.precision = omega (arith, ints) in
    to_z-of_z w8 program.precision fits

-- each scope has a scale of at least one tick
pub program-scales : (program : Program) → IsProgram program → AllPass (λ (row : ScopeRow). nat_lt 0 row.scale) program.scopes
program-scales program h = λ k d inside. lt-ltb 0 (get_or program.scopes k d).scale (h.each_scope k (get_or program.scopes k d) (slice_get-get_or program.scopes k d inside)).least

-- Values

own-inside : (entries : List Entry) (item : ℕ) (found : Option Entry) → slice_get entries item ≡ found → IsTrue (has_own_value (kind_of entries item)) → item < length entries
own-inside entries item None is own = absurd (false≢true (rw is at own))
own-inside entries item (Some e) is own = slice_get_within entries item e is

own-words : (what : EntryKind) → IsTrue (has_own_value what) → words_in what ≡ 1
own-words (entry.Var integer dumpable) h = refl
own-words (entry.Net root dumpable) h = refl
own-words entry.Unnamed h = refl
own-words (entry.Array words) h = absurd (false≢true h)
own-words (entry.Scope scope) h = absurd (false≢true h)
own-words entry.Other h = absurd (false≢true h)

-- a plane that has the values has their widths
pub widths-from : (entries : List Entry) (words : ℕ → List (List Bit)) (plane : List (List Bit)) → Answers entries words → HoldsValues entries words plane → HasWidths entries plane
widths-from entries words plane answers holds = record {
  places = holds.places;
  widths = λ item own.
      let inside = own-inside entries item (slice_get entries item) refl own in
      let one : length (words item) ≡ 1 = answers.counts item inside ∙ own-words (kind_of entries item) own in
      ap length (holds.values item own) ∙ answers.widths item 0 (value_in words item) inside (slice_get-get_or (words item) 0 [] (omega arith));
}
