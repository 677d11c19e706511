-- What a header needs, and the widths of what is dumped, of a linked program whose names are plain.
use Rattle.std.proofs.Common.{◌≡◌, ℕ, Bool, true, cond, ◌||◌, Option, Some, None, List, [], ◌∷◌, length, get_or, map, replicate, refl, sym, ap, subst, ◌∙◌, arith}
use Rattle.std.specs.Prelude.{All, ℤ, filter_map, slice_get}
use Rattle.std.specs.List.{cons_option, list_all}
use Rattle.std.specs.Option.{option_map, option_map_or}
use Rattle.std.proofs.lemmas.Bool.{and_parts, false≢true}
use Rattle.std.proofs.lemmas.List.{length-map, length-replicate}
use Rattle.std.proofs.lemmas.List.Elements.{All-nil, All-cons, All-map}
use Rattle.std.proofs.lemmas.List.Sums.{AllPass-from_list_all}
use Rattle.std.proofs.lemmas.Option.{get_or_from_slice_get, none-some, same_Some, slice_get-map, slice_get_within}
use Rattle.four_state.specs.declared.bits.Bit.{Bit}
use Rattle.four_state.specs.declared.bits.Bit.TheVariants.{Unknown}
use Rattle.vcd_write.specs.declared.types.DumpItem.{DumpItem}
use Rattle.vcd_write.specs.declared.types.DumpScope.{DumpScope}
use Rattle.vcd_write.specs.Header.{size}
use Rattle.vcd_law.specs.Own.{IsHead, is_plain}
use Rattle.sym_link.specs.declared.program.Item.{Item}
use Rattle.sym_link.specs.declared.program.ItemKind.{ItemKind}
use Rattle.sym_link.specs.declared.program.ItemKind.TheVariants as kind
use Rattle.sym_link.specs.declared.program.Program.{Program}
use Rattle.sym_link.specs.declared.program.ScopeRow.{ScopeRow}
use Rattle.sym_link.specs.Roots.{nodes_of}
use Rattle.sym_link.specs.Sound.{IsProgram, is_net_kind, is_variable_kind}
use Rattle.net_engine.specs.Net.{NetValues, words_of}
use Rattle.net_engine.specs.Parts.{AreWide, plane_of}
use Rattle.sys_tasks.specs.declared.design.Entry.{Entry}
use Rattle.sys_tasks.specs.declared.design.EntryKind.TheVariants as entry
use Rattle.sys_tasks.specs.Arguments.{value_in}
use Rattle.sys_tasks.specs.Conditions.{Answers, HasWidths, HoldsValues}
use Rattle.sys_tasks.specs.Design.{Design, design_of, entry_kind, entry_of, is_dumpable_kind, root_of}
use Rattle.sys_tasks.specs.Dumped.{dump_item, dump_items, dump_items_of, dump_scope, dump_scopes, dumped_values, kind_of}
use Rattle.sys_tasks.specs.Sound.{AreChosen, CanDump}
use Rattle.sys_tasks.proofs.DumpLemmas.{program-dumps, widths-from}
use Rattle.sys_tasks.proofs.HeaderLemmas.{header-few, header-scopes, header-sizes, start-widths, values-same, widths-same}
use Rattle.sim_core.proofs.SeenLemmas.{answers-are, holds-are}
use Rattle.dump_law.specs.Plain.{is_plain_item, is_plain_scope, plain_names}

-- ---- names

-- a name that a header shows is one of a variable or a net
plain-by : (x : Item) (what : ItemKind) → cond (is_variable_kind what || is_net_kind what) (is_plain x.name) true ≡ true → is_dumpable_kind (entry_kind x what) ≡ true → is_plain x.name ≡ true
plain-by x (kind.Var integer) plain dumps = plain
plain-by x (kind.Net root) plain dumps = plain
plain-by x (kind.Functor gate drive ports) plain dumps = absurd (false≢true dumps)
plain-by x (kind.Edge edge ports) plain dumps = absurd (false≢true dumps)
plain-by x kind.Named plain dumps = absurd (false≢true dumps)
plain-by x (kind.AnyOf events) plain dumps = absurd (false≢true dumps)
plain-by x (kind.Array words) plain dumps = absurd (false≢true dumps)
plain-by x (kind.Scope scope) plain dumps = absurd (false≢true dumps)
plain-by x kind.Param plain dumps = absurd (false≢true dumps)
plain-by x (kind.Delay rise fall decay port) plain dumps = absurd (false≢true dumps)

plain-entry : (x : Item) → is_plain_item x ≡ true → is_dumpable_kind (entry_of x).what ≡ true → is_plain (entry_of x).name ≡ true
plain-entry x plain dumps = ap (λ (b : Bool). is_plain (cond b x.name [])) dumps ∙ plain-by x x.what plain dumps

abbrev IsNamed : DumpItem → Type 0
IsNamed item = is_plain item.name ≡ true

module _ (items : List Item) (plain : list_all is_plain_item items ≡ true) where
  plain-found : (item : ℕ) (found : Option Item) (e : Entry) → slice_get items item ≡ found → option_map entry_of found ≡ Some e → is_dumpable_kind e.what ≡ true → is_plain e.name ≡ true
  plain-found item None e at is dumps = absurd (none-some e is)
  plain-found item (Some x) e at is dumps =
      let P : Entry → Type 0 = λ y. is_dumpable_kind y.what ≡ true → is_plain y.name ≡ true in
      let passes : is_plain_item x ≡ true =
      ap is_plain_item (sym (get_or_from_slice_get items item x x at)) ∙ AllPass-from_list_all is_plain_item items plain item x (slice_get_within items item x at) in
      subst P (same_Some (entry_of x) e is) (plain-entry x passes) dumps

  plain-at : (item : ℕ) (e : Entry) → slice_get (map entry_of items) item ≡ Some e → is_dumpable_kind e.what ≡ true → is_plain e.name ≡ true
  plain-at item e at dumps = plain-found item (slice_get items item) e refl (sym (slice_get-map entry_of items item) ∙ at) dumps

  -- one item more of a header
  names-next : (item : ℕ) (found : Option Entry) (more : List DumpItem) → slice_get (map entry_of items) item ≡ found → is_dumpable_kind (option_map_or (λ (e : Entry). e.what) found entry.Other) ≡ true → All IsNamed more
      → All IsNamed (cons_option (option_map dump_item found) more)
  names-next item None more at dumps h = h
  names-next item (Some e) more at dumps h = All-cons IsNamed (dump_item e) more (plain-at item e at dumps) h

  pub names-all : (chosen : List ℕ) → list_all (λ item. is_dumpable_kind (kind_of (map entry_of items) item)) chosen ≡ true → All IsNamed (dump_items_of (map entry_of items) chosen)
  unfolding dump_items_of
  names-all [] h = All-nil IsNamed
  names-all (item ∷ chosen) h =
      let parts = and_parts _ _ h in
      names-next item (slice_get (map entry_of items) item) (filter_map (λ k. option_map dump_item (slice_get (map entry_of items) k)) chosen) refl parts.0 (names-all chosen parts.1)

-- ---- the header

scope-names : (rows : List ScopeRow) → list_all is_plain_scope rows ≡ true → All (λ (scope : DumpScope). is_plain scope.name ≡ true) (map dump_scope rows)
scope-names rows plain = All-map (λ (scope : DumpScope). is_plain scope.name ≡ true) dump_scope rows (λ k d inside. AllPass-from_list_all is_plain_scope rows plain k d inside)

head-in : (program : Program) (chosen : List ℕ) → IsProgram program → plain_names program ≡ true → AreChosen (map entry_of program.items) chosen
    → IsHead program.precision (map dump_scope program.scopes) (dump_items_of (map entry_of program.items) chosen)
head-in program chosen linked plain are =
    let entries : List Entry = map entry_of program.items in
    let can = program-dumps program linked in
    let parts = and_parts (list_all is_plain_scope program.scopes) (list_all is_plain_item program.items) plain in
    let as_many = length-map program.scopes dump_scope in
    record {
      least = can.least;
      most = can.most;
      nested = can.nested;
      inside = λ k d within.
          let below = header-scopes entries program.scopes program.precision can chosen (dump_items_of entries chosen) are refl k d within in
          omega (arith, below, as_many);
      few = header-few entries program.scopes program.precision can chosen (dump_items_of entries chosen) are refl;
      sizes = header-sizes entries program.scopes program.precision can chosen (dump_items_of entries chosen) are refl;
      scope_names = scope-names program.scopes parts.0;
      item_names = names-all program.items parts.1 chosen are.each;
    }

head-design : (program : Program) (chosen : List ℕ) → IsProgram program → plain_names program ≡ true → AreChosen (design_of program).entries chosen
    → IsHead (design_of program).precision (dump_scopes (design_of program)) (dump_items (design_of program) chosen)
unfolding design_of
head-design program chosen linked plain are = head-in program chosen linked plain are

-- the header of the items that are chosen
pub head-of : (program : Program) (design : Design) (chosen : List ℕ) → IsProgram program → plain_names program ≡ true → design ≡ design_of program → AreChosen design.entries chosen
    → IsHead design.precision (dump_scopes design) (dump_items design chosen)
head-of program design chosen linked plain is are =
    let P : Design → Type 0 = λ d. AreChosen d.entries chosen → IsHead d.precision (dump_scopes d) (dump_items d chosen) in
    subst P (sym is) (head-design program chosen linked plain) are

-- ---- values

lengths-of : (plane : List (List Bit)) (roots : List ℕ) → map length (map (λ p. get_or plane p []) roots) ≡ map (λ p. length (get_or plane p [])) roots
lengths-of plane [] = refl
lengths-of plane (r ∷ roots) = ap (λ (xs : List ℕ). length (get_or plane r []) ∷ xs) (lengths-of plane roots)

blank-lengths : (items : List DumpItem) → map length (map (λ (i : DumpItem). replicate (size i) Unknown) items) ≡ map size items
blank-lengths [] = refl
blank-lengths (i ∷ items) = ap (λ (n : ℕ). n ∷ map length (map (λ (i : DumpItem). replicate (size i) Unknown) items)) (length-replicate (size i) Unknown) ∙ ap (λ (xs : List ℕ). size i ∷ xs) (blank-lengths items)

values-in : (entries : List Entry) (scopes : List ScopeRow) (precision : ℤ) (words : ℕ → List (List Bit)) (plane : List (List Bit)) (chosen : List ℕ) → CanDump entries scopes precision → HoldsValues entries words plane → HasWidths entries plane
    → AreChosen entries chosen → map length (map (λ item. value_in words (root_of entries item)) chosen) ≡ map size (dump_items_of entries chosen)
values-in entries scopes precision words plane chosen can holds has are =
    let roots : List ℕ = map (root_of entries) chosen in
    let items : List DumpItem = dump_items_of entries chosen in
    ap (map length) (sym (values-same entries scopes precision can words plane holds chosen are.each))
    ∙ lengths-of plane roots ∙ widths-same entries scopes precision can plane has chosen are.each
    ∙ sym (start-widths entries scopes precision can chosen items (map (λ (i : DumpItem). replicate (size i) Unknown) items) roots are refl refl refl)
    ∙ blank-lengths items

values-design : (program : Program) (words : ℕ → List (List Bit)) (plane : List (List Bit)) (chosen : List ℕ) → IsProgram program → HoldsValues (design_of program).entries words plane → Answers (design_of program).entries words
    → AreChosen (design_of program).entries chosen → map length (dumped_values (design_of program) words chosen) ≡ map size (dump_items (design_of program) chosen)
unfolding design_of dumped_values
values-design program words plane chosen linked holds answers are =
    values-in (map entry_of program.items) program.scopes program.precision words plane chosen (program-dumps program linked) holds (widths-from (map entry_of program.items) words plane answers holds) are

-- the values of the chosen items are as wide as the items
pub values-wide : (program : Program) (design : Design) (values : NetValues) (chosen : List ℕ) → IsProgram program → AreWide (nodes_of program) values → design ≡ design_of program → AreChosen design.entries chosen
    → map length (dumped_values design (words_of (nodes_of program) values) chosen) ≡ map size (dump_items design chosen)
values-wide program design values chosen linked wide is are =
    let words : ℕ → List (List Bit) = words_of (nodes_of program) values in
    let plane : List (List Bit) = plane_of (nodes_of program) values in
    let P : Design → Type 0 = λ d. AreChosen d.entries chosen → map length (dumped_values d words chosen) ≡ map size (dump_items d chosen) in
    subst P (sym is) (values-design program words plane chosen linked (holds-are program values (design_of program) refl) (answers-are program values (design_of program) linked wide refl)) are
