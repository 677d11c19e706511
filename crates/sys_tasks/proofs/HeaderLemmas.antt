-- The items of a header, and the values that a dump has of them.
use Rattle.std.proofs.Common.{◌≡◌, ℕ, ◌+◌, ◌<◌, ◌≤◌, Bool, true, false, Option, Some, None, List, [], ◌∷◌, ◌++◌, length, get_or, take, map, replicate, refl, sym, ap, ◌∙◌, subst, arith, suc}
use Rattle.std.specs.Prelude.{IsTrue, ℤ, nat_lt, slice_get, filter_map}
use Rattle.std.specs.List.{All, list_all}
use Rattle.std.specs.Option.{option_map, option_map_or}
use Rattle.std.proofs.lemmas.Bool.{and_parts, false≢true, lt-ltb, ltb-true}
use Rattle.std.proofs.lemmas.List.{length-replicate, take_more}
use Rattle.std.proofs.lemmas.List.Elements.{filter_map-append}
use Rattle.std.proofs.lemmas.List.Sums.{AllPass-from_list_all}
use Rattle.std.proofs.lemmas.Option.{slice_get_within}
use Rattle.four_state.specs.declared.bits.Bit.{Bit}
use Rattle.four_state.specs.declared.bits.Bit.TheVariants.{Unknown}
use Rattle.sym_link.specs.declared.program.ScopeRow.{ScopeRow}
use Rattle.vcd_write.specs.declared.types.DumpItem.{DumpItem}
use Rattle.vcd_write.specs.Header.{size}
use Rattle.sys_tasks.specs.declared.design.Entry.{Entry}
use Rattle.sys_tasks.specs.declared.design.EntryKind.TheVariants as entry
use Rattle.sys_tasks.specs.Arguments.{value_in}
use Rattle.sys_tasks.specs.Conditions.{HasWidths, HoldsValues, has_own_value}
use Rattle.sys_tasks.specs.Design.{is_dumpable_kind, root_in, root_of, width_of}
use Rattle.sys_tasks.specs.Dumped.{dump_item, dump_items_of, kind_of}
use Rattle.sys_tasks.specs.Sound.{AreChosen, CanDump, IsDumpable}

-- whether an item may be dumped
abbrev pub may_dump : List Entry → ℕ → Bool
may_dump entries item = is_dumpable_kind (kind_of entries item)

-- an item that may be dumped, with what the tasks know of it
record Found (entries : List Entry) (scopes : List ScopeRow) (item : ℕ) : Type 0 where
  known : Entry
  is : slice_get entries item ≡ Some known
  dumps : IsDumpable entries scopes item known

found-by : (entries : List Entry) (scopes : List ScopeRow) (precision : ℤ) (item : ℕ) (found : Option Entry) → CanDump entries scopes precision → slice_get entries item ≡ found → may_dump entries item ≡ true → Found entries scopes item
found-by entries scopes precision item None can is may =
    absurd (false≢true (sym (ap (λ (o : Option Entry). is_dumpable_kind (option_map_or (λ (e : Entry). e.what) o entry.Other)) is) ∙ may))
found-by entries scopes precision item (Some e) can is may = record {
  known = e;
  is = is;
  dumps = can.each item e is (sym (ap (λ (o : Option Entry). is_dumpable_kind (option_map_or (λ (e : Entry). e.what) o entry.Other)) is) ∙ may);
}

module _ (entries : List Entry) (scopes : List ScopeRow) (precision : ℤ) (can : CanDump entries scopes precision) where
  found : (item : ℕ) → may_dump entries item ≡ true → Found entries scopes item
  found item may = found-by entries scopes precision item (slice_get entries item) can refl may

  root-of : (item : ℕ) (e : Entry) → slice_get entries item ≡ Some e → root_of entries item ≡ root_in e.what item
  root-of item e is = ap (λ (o : Option Entry). option_map_or (λ (x : Entry). root_in x.what item) o item) is

  own : (item : ℕ) → may_dump entries item ≡ true → IsTrue (has_own_value (kind_of entries (root_of entries item)))
  own item may = let f = found item may in ap (λ (r : ℕ). has_own_value (kind_of entries r)) (root-of item f.known f.is) ∙ f.dumps.root

  wide : (item : ℕ) (may : may_dump entries item ≡ true) → size (dump_item (found item may).known) ≡ width_of entries (root_of entries item)
  wide item may = let f = found item may in f.dumps.as_wide ∙ sym (ap (width_of entries) (root-of item f.known f.is))

  items-cons : (item : ℕ) (chosen : List ℕ) (may : may_dump entries item ≡ true) → dump_items_of entries (item ∷ chosen) ≡ dump_item (found item may).known ∷ dump_items_of entries chosen
  unfolding dump_items_of
  items-cons item chosen may = rw (ap (option_map dump_item) (found item may).is) refl

  items-nil : dump_items_of entries [] ≡ []
  unfolding dump_items_of
  items-nil = refl

  -- the header's conditions
  scopes-pass : (chosen : List ℕ) → list_all (may_dump entries) chosen ≡ true → list_all (λ (i : DumpItem). nat_lt i.scope (length scopes)) (dump_items_of entries chosen) ≡ true
  scopes-pass [] h = rw items-nil refl
  scopes-pass (item ∷ chosen) h =
      let parts = and_parts _ _ h in
      let rest = scopes-pass chosen parts.1 in
      let first = lt-ltb (found item parts.0).known.scope (length scopes) (found item parts.0).dumps.scope in
      rw (items-cons item chosen parts.0, first) rest

  sizes-pass : (chosen : List ℕ) → list_all (may_dump entries) chosen ≡ true → list_all (λ (i : DumpItem). nat_lt (size i) 129) (dump_items_of entries chosen) ≡ true
  sizes-pass [] h = rw items-nil refl
  sizes-pass (item ∷ chosen) h =
      let parts = and_parts _ _ h in
      let rest = sizes-pass chosen parts.1 in
      let most = (found item parts.0).dumps.most in
      let first = lt-ltb (size (dump_item (found item parts.0).known)) 129 (omega (arith, most)) in
      rw (items-cons item chosen parts.0, first) rest

  length-items : (chosen : List ℕ) → list_all (may_dump entries) chosen ≡ true → length (dump_items_of entries chosen) ≡ length chosen
  length-items [] h = ap length items-nil
  length-items (item ∷ chosen) h =
      let parts = and_parts _ _ h in
      ap length (items-cons item chosen parts.0) ∙ ap suc (length-items chosen parts.1)

  pub header-scopes : (chosen : List ℕ) (items : List DumpItem) → AreChosen entries chosen → items ≡ dump_items_of entries chosen → All (λ (i : DumpItem). i.scope < length scopes) items
  header-scopes chosen items are is =
      let P : List DumpItem → Type 0 = λ xs. All (λ (i : DumpItem). i.scope < length scopes) xs in
      subst P (sym is) (λ k d inside. ltb-true _ _ (AllPass-from_list_all _ _ (scopes-pass chosen are.each) k d inside))

  pub header-sizes : (chosen : List ℕ) (items : List DumpItem) → AreChosen entries chosen → items ≡ dump_items_of entries chosen → All (λ (i : DumpItem). size i ≤ 128) items
  header-sizes chosen items are is =
      let P : List DumpItem → Type 0 = λ xs. All (λ (i : DumpItem). size i ≤ 128) xs in
      subst P (sym is) (λ k d inside. let below = ltb-true (size (get_or (dump_items_of entries chosen) k d)) 129 (AllPass-from_list_all _ _ (sizes-pass chosen are.each) k d inside) in omega (arith, below))

  pub header-few : (chosen : List ℕ) (items : List DumpItem) → AreChosen entries chosen → items ≡ dump_items_of entries chosen → length items ≤ 1048576
  header-few chosen items are is = let n = ap length is ∙ length-items chosen are.each in let few = are.few in let most = can.few in omega arith

  -- widths
  pub start-widths : (chosen : List ℕ) (items : List DumpItem) (dump : List (List Bit)) (roots : List ℕ) → AreChosen entries chosen → items ≡ dump_items_of entries chosen → dump ≡ map (λ (i : DumpItem). replicate (size i) Unknown) items
      → roots ≡ map (root_of entries) chosen → map length dump ≡ map (width_of entries) roots
  start-widths chosen items dump roots are is told r =
      ap (map length) (told ∙ ap (map (λ (i : DumpItem). replicate (size i) Unknown)) is) ∙ all chosen are.each ∙ ap (map (width_of entries)) (sym r)
    where
      cons-same : (a b : ℕ) (xs ys : List ℕ) → a ≡ b → xs ≡ ys → a ∷ xs ≡ b ∷ ys
      cons-same a b xs ys p q = cc

      all : (xs : List ℕ) → list_all (may_dump entries) xs ≡ true → map length (map (λ (i : DumpItem). replicate (size i) Unknown) (dump_items_of entries xs)) ≡ map (width_of entries) (map (root_of entries) xs)
      all [] h = ap (λ (ys : List DumpItem). map length (map (λ (i : DumpItem). replicate (size i) Unknown) ys)) items-nil
      all (item ∷ xs) h =
          let parts = and_parts _ _ h in
          let first : length (replicate (size (dump_item (found item parts.0).known)) Unknown) ≡ width_of entries (root_of entries item) = length-replicate _ Unknown ∙ wide item parts.0 in
          let rest = all xs parts.1 in
          ap (λ (ys : List DumpItem). map length (map (λ (i : DumpItem). replicate (size i) Unknown) ys)) (items-cons item xs parts.0) ∙ cons-same _ _ _ _ first rest

  widths-least : (chosen : List ℕ) → list_all (may_dump entries) chosen ≡ true → list_all (nat_lt 0) (map (width_of entries) (map (root_of entries) chosen)) ≡ true
  widths-least [] h = refl
  widths-least (item ∷ chosen) h =
      let parts = and_parts _ _ h in
      let rest = widths-least chosen parts.1 in
      let least = (found item parts.0).dumps.least in
      let first = lt-ltb 0 (width_of entries (root_of entries item)) (omega (arith, least, wide item parts.0)) in
      rw first rest

  widths-most : (chosen : List ℕ) → list_all (may_dump entries) chosen ≡ true → list_all (λ w. nat_lt w 129) (map (width_of entries) (map (root_of entries) chosen)) ≡ true
  widths-most [] h = refl
  widths-most (item ∷ chosen) h =
      let parts = and_parts _ _ h in
      let rest = widths-most chosen parts.1 in
      let most = (found item parts.0).dumps.most in
      let first = lt-ltb (width_of entries (root_of entries item)) 129 (omega (arith, most, wide item parts.0)) in
      rw first rest

  pub plane-least : (chosen roots widths : List ℕ) → AreChosen entries chosen → roots ≡ map (root_of entries) chosen → widths ≡ map (width_of entries) roots → All (λ w. 1 ≤ w) widths
  plane-least chosen roots widths are r w =
      let P : List ℕ → Type 0 = λ xs. All (λ w. 1 ≤ w) xs in
      subst P (sym (w ∙ ap (map (width_of entries)) r)) (λ k d inside. ltb-true _ _ (AllPass-from_list_all _ _ (widths-least chosen are.each) k d inside))

  pub plane-most : (chosen roots widths : List ℕ) → AreChosen entries chosen → roots ≡ map (root_of entries) chosen → widths ≡ map (width_of entries) roots → All (λ w. w ≤ 128) widths
  plane-most chosen roots widths are r w =
      let P : List ℕ → Type 0 = λ xs. All (λ w. w ≤ 128) xs in
      subst P (sym (w ∙ ap (map (width_of entries)) r))
      (λ k d inside. let below = ltb-true (get_or (map (width_of entries) (map (root_of entries) chosen)) k d) 129 (AllPass-from_list_all _ _ (widths-most chosen are.each) k d inside) in omega (arith, below))

  -- the values of a plane at the roots
  pub values-same : (words : ℕ → List (List Bit)) (plane : List (List Bit)) → HoldsValues entries words plane → (chosen : List ℕ) → list_all (may_dump entries) chosen ≡ true
      → map (λ p. get_or plane p []) (map (root_of entries) chosen) ≡ map (λ item. value_in words (root_of entries item)) chosen
  values-same words plane holds [] h = refl
  values-same words plane holds (item ∷ chosen) h =
      let parts = and_parts _ _ h in
      let first = holds.values (root_of entries item) (own item parts.0) in
      let rest = values-same words plane holds chosen parts.1 in
      join _ _ _ _ first rest
    where
      join : (a b : List Bit) (xs ys : List (List Bit)) → a ≡ b → xs ≡ ys → a ∷ xs ≡ b ∷ ys
      join a b xs ys p q = cc

  pub widths-same : (plane : List (List Bit)) → HasWidths entries plane → (chosen : List ℕ) → list_all (may_dump entries) chosen ≡ true → map (λ p. length (get_or plane p [])) (map (root_of entries) chosen) ≡ map (width_of entries) (map (root_of entries) chosen)
  widths-same plane has [] h = refl
  widths-same plane has (item ∷ chosen) h =
      let parts = and_parts _ _ h in
      let first = has.widths (root_of entries item) (own item parts.0) in
      let rest = widths-same plane has chosen parts.1 in
      join _ _ _ _ first rest
    where
      join : (a b : ℕ) (xs ys : List ℕ) → a ≡ b → xs ≡ ys → a ∷ xs ≡ b ∷ ys
      join a b xs ys p q = cc

  roots-pass : (plane : List (List Bit)) → HasWidths entries plane → (chosen : List ℕ) → list_all (may_dump entries) chosen ≡ true → list_all (λ p. nat_lt p (length plane)) (map (root_of entries) chosen) ≡ true
  roots-pass plane has [] h = refl
  roots-pass plane has (item ∷ chosen) h =
      let parts = and_parts _ _ h in
      let rest = roots-pass plane has chosen parts.1 in
      let root = root_of entries item in
      let inside : root < length entries = own-there root (slice_get entries root) refl (own item parts.0) in
      let first = lt-ltb root (length plane) (omega (arith, has.places)) in
      rw first rest
    where
      own-there : (r : ℕ) (o : Option Entry) → slice_get entries r ≡ o → IsTrue (has_own_value (kind_of entries r)) → r < length entries
      own-there r None is h = absurd (false≢true (sym (ap (λ (x : Option Entry). has_own_value (option_map_or (λ (e : Entry). e.what) x entry.Other)) is) ∙ h))
      own-there r (Some e) is h = slice_get_within entries r e is

  pub roots-there : (plane : List (List Bit)) (chosen roots : List ℕ) → HasWidths entries plane → AreChosen entries chosen → roots ≡ map (root_of entries) chosen → All (λ p. p < length plane) roots
  roots-there plane chosen roots has are r =
      let P : List ℕ → Type 0 = λ xs. All (λ p. p < length plane) xs in
      subst P (sym r) (λ k d inside. ltb-true _ _ (AllPass-from_list_all _ _ (roots-pass plane has chosen are.each) k d inside))

-- vectors of these widths
pub replicate-lengths : (widths : List ℕ) → map length (map (λ w. replicate w Unknown) widths) ≡ widths
replicate-lengths [] = refl
replicate-lengths (w ∷ widths) = ap (λ (n : ℕ). n ∷ map length (map (λ w. replicate w Unknown) widths)) (length-replicate w Unknown) ∙ ap (λ (xs : List ℕ). w ∷ xs) (replicate-lengths widths)

-- one item more in the header
pub items-none : (entries : List Entry) → [] ≡ dump_items_of entries []
unfolding dump_items_of
items-none entries = refl

pub items-more : (entries : List Entry) (chosen : List ℕ) (i item : ℕ) (e : Entry) (items more : List DumpItem) (x : DumpItem) → i < length chosen → item ≡ get_or chosen i item → slice_get entries item ≡ Some e → items ≡ dump_items_of entries (take i chosen)
    → more ≡ items ++ x ∷ [] → x ≡ dump_item e → more ≡ dump_items_of entries (take (i + 1) chosen)
unfolding dump_items_of
items-more entries chosen i item e items more x inside is here told pushed made =
    let f : ℕ → Option DumpItem = λ k. option_map dump_item (slice_get entries k) in
    let one : filter_map f (item ∷ []) ≡ x ∷ [] = rw (ap (option_map dump_item) here) (ap (λ (y : DumpItem). y ∷ []) (sym made)) in
    let next : take (i + 1) chosen ≡ take i chosen ++ item ∷ [] = take_more chosen i item inside ∙ ap (λ (y : ℕ). take i chosen ++ y ∷ []) (sym is) in
    pushed ∙ ap (λ (ys : List DumpItem). ys ++ x ∷ []) told ∙ sym (ap (filter_map f) next ∙ filter_map-append f (take i chosen) (item ∷ []) ∙ ap (λ (ys : List DumpItem). filter_map f (take i chosen) ++ ys) one)
