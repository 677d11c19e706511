-- The values of a net are those that the tasks look at.
use Rattle.std.proofs.Common.{◌≡◌, ℕ, zero, suc, ◌+◌, ◌<◌, true, Some, option_map, IsTrue, List, [], ◌∷◌, length, map, refl, sym, ap, subst, ◌∙◌, arith}
use Rattle.std.specs.Prelude.{slice_index_or}
use Rattle.std.specs.List.{All, enumerate_from, slice_get}
use Rattle.std.proofs.lemmas.List.{get_or-map, length-map}
use Rattle.std.proofs.lemmas.List.FromFn.{get_or-enumerate_from, length-enumerate_from}
use Rattle.std.proofs.lemmas.Option.{get_or_from_slice_get, slice_get_within}
use Rattle.four_state.specs.declared.bits.Bit.{Bit}
use Rattle.sym_link.specs.declared.program.Item.{Item}
use Rattle.sym_link.specs.declared.program.ItemKind.{ItemKind}
use Rattle.sym_link.specs.declared.program.ItemKind.TheVariants as kind
use Rattle.sym_link.specs.declared.program.Program.{Program}
use Rattle.sym_link.specs.Roots.{Node, node_of, nodes_of}
use Rattle.sym_link.specs.Sound.{IsProgram, is_such, is_value_kind, width_of as width_in}
use Rattle.net_engine.specs.Net.{NetValues, words_by, words_of}
use Rattle.net_engine.specs.Parts.{AreWide, IsWide, place_by, plane_of}
use Rattle.net_engine.proofs.ReadLemmas.{words-one}
use Rattle.sys_tasks.specs.declared.design.Entry.{Entry}
use Rattle.sys_tasks.specs.declared.design.EntryKind.{EntryKind}
use Rattle.sys_tasks.specs.Design.{Design, design_of, entry_kind, entry_of, words_in}
use Rattle.sys_tasks.specs.Dumped.{kind_of as entry_kind_of}
use Rattle.sys_tasks.specs.Conditions.{Answers, HoldsValues, has_own_value}
use Rattle.sim_core.proofs.CallFitLemmas.{entries-are, entry-kind, entry-width}
use Rattle.sim_core.proofs.ExecutableLemmas.{value-width}
use Rattle.sim_core.proofs.FitLemmas.{get-map, has-levels, kind-is}

some_same : {X : Type 0} (x y : X) → Some x ≡ Some y → x ≡ y
some_same x y e = cc

-- ---- words

words-at : (program : Program) (values : NetValues) (k : ℕ) (item : Item) → slice_get program.items k ≡ Some item → words_of (nodes_of program) values k ≡ words_by values k (Some item.what)
unfolding words_of
words-at program values k item at = ap (words_by values k) (kind-is program k item at)

counts-by : (values : NetValues) (k : ℕ) (item : Item) (what : ItemKind) → IsWide values k (node_of item) what → length (words_by values k (Some what)) ≡ words_in (entry_kind item what)
counts-by values k item (kind.Var integer) wide = refl
counts-by values k item (kind.Net root) wide = refl
counts-by values k item (kind.Functor gate drive ports) wide = refl
counts-by values k item (kind.Delay rise fall decay port) wide = refl
counts-by values k item (kind.Array words) wide = wide.1
counts-by values k item (kind.Edge edge ports) wide = refl
counts-by values k item kind.Named wide = refl
counts-by values k item (kind.AnyOf events) wide = refl
counts-by values k item (kind.Scope scope) wide = refl
counts-by values k item kind.Param wide = refl

one-word : (x word : List Bit) (index : ℕ) → slice_get (x ∷ []) index ≡ Some word → word ≡ x
one-word x word zero at = sym (some_same x word at)
one-word x word (suc index) at = absurd (let none : ⊥ = cc in none)

array-word : (words : List (List Bit)) (width index : ℕ) (word : List Bit) → All (λ (w : List Bit). length w ≡ width) words → slice_get words index ≡ Some word → length word ≡ width
array-word words width index word all at =
    ap length (sym (get_or_from_slice_get words index word [] at)) ∙ all index [] (slice_get_within words index word at)

-- a word of an item with a value is as wide as the item
value-word : (program : Program) (values : NetValues) (k index : ℕ) (item : Item) (word : List Bit) → IsProgram program → AreWide (nodes_of program) values → slice_get program.items k ≡ Some item → is_value_kind item.what ≡ true
    → slice_get (words_of (nodes_of program) values k) index ≡ Some word → length word ≡ item.width
value-word program values k index item word linked wide at is has =
    let such : IsTrue (is_such is_value_kind program.items k) = such-of program.items k item at is in
    let one = words-one (nodes_of program) values k (has-levels program k such) in
    let same = one-word _ word index (ap (λ (ws : List (List Bit)). slice_get ws index) (sym one) ∙ has) in
    ap length same ∙ ap (λ (ws : List (List Bit)). length (slice_index_or ws 0 [])) (sym one) ∙ value-width program values k linked wide such ∙ width-of program.items k item at
  where
    such-of : (items : List Item) (j : ℕ) (i : Item) → slice_get items j ≡ Some i → is_value_kind i.what ≡ true → IsTrue (is_such is_value_kind items j)
    such-of [] j i there value = absurd (let none : ⊥ = cc in none)
    such-of (x ∷ items) zero i there value = ap (λ (y : Item). is_value_kind y.what) (some_same x i there) ∙ value
    such-of (x ∷ items) (suc j) i there value = such-of items j i there value

    width-of : (items : List Item) (j : ℕ) (i : Item) → slice_get items j ≡ Some i → width_in items j ≡ i.width
    width-of [] j i there = absurd (let none : ⊥ = cc in none)
    width-of (x ∷ items) zero i there = ap (λ (y : Item). y.width) (some_same x i there)
    width-of (x ∷ items) (suc j) i there = width-of items j i there

no-word : (index : ℕ) (word : List Bit) (n : ℕ) → slice_get [] index ≡ Some word → length word ≡ n
no-word index word n at = absurd (let none : ⊥ = cc in none)

widths-by : (program : Program) (values : NetValues) (k index : ℕ) (item : Item) (what : ItemKind) (word : List Bit) → IsProgram program → AreWide (nodes_of program) values → slice_get program.items k ≡ Some item → item.what ≡ what
    → IsWide values k (node_of item) what → slice_get (words_of (nodes_of program) values k) index ≡ Some word → length word ≡ item.width
widths-by program values k index item (kind.Array words) word linked wide at is fits has =
    array-word _ item.width index word fits.2 (ap (λ (ws : List (List Bit)). slice_get ws index) (sym (words-at program values k item at ∙ ap (λ (w : ItemKind). words_by values k (Some w)) is)) ∙ has)
widths-by program values k index item (kind.Var integer) word linked wide at is fits has = value-word program values k index item word linked wide at (ap is_value_kind is) has
widths-by program values k index item (kind.Net root) word linked wide at is fits has = value-word program values k index item word linked wide at (ap is_value_kind is) has
widths-by program values k index item (kind.Functor gate drive ports) word linked wide at is fits has = value-word program values k index item word linked wide at (ap is_value_kind is) has
widths-by program values k index item (kind.Delay rise fall decay port) word linked wide at is fits has = value-word program values k index item word linked wide at (ap is_value_kind is) has
widths-by program values k index item (kind.Edge edge ports) word linked wide at is fits has = no-word index word item.width (ap (λ (ws : List (List Bit)). slice_get ws index) (sym (words-at program values k item at ∙ ap (λ (w : ItemKind). words_by values k (Some w)) is)) ∙ has)
widths-by program values k index item kind.Named word linked wide at is fits has = no-word index word item.width (ap (λ (ws : List (List Bit)). slice_get ws index) (sym (words-at program values k item at ∙ ap (λ (w : ItemKind). words_by values k (Some w)) is)) ∙ has)
widths-by program values k index item (kind.AnyOf events) word linked wide at is fits has = no-word index word item.width (ap (λ (ws : List (List Bit)). slice_get ws index) (sym (words-at program values k item at ∙ ap (λ (w : ItemKind). words_by values k (Some w)) is)) ∙ has)
widths-by program values k index item (kind.Scope scope) word linked wide at is fits has = no-word index word item.width (ap (λ (ws : List (List Bit)). slice_get ws index) (sym (words-at program values k item at ∙ ap (λ (w : ItemKind). words_by values k (Some w)) is)) ∙ has)
widths-by program values k index item kind.Param word linked wide at is fits has = no-word index word item.width (ap (λ (ws : List (List Bit)). slice_get ws index) (sym (words-at program values k item at ∙ ap (λ (w : ItemKind). words_by values k (Some w)) is)) ∙ has)

get-there : {X : Type 0} (xs : List X) (k : ℕ) → k < length xs → (x : X) × (slice_get xs k ≡ Some x)
get-there [] k within = absurd (omega arith)
get-there (x ∷ xs) zero within = (x, refl)
get-there (x ∷ xs) (suc k) within = get-there xs k (omega arith)

-- what is wide of an item by its number
wide-at : (program : Program) (values : NetValues) (k : ℕ) (item : Item) → AreWide (nodes_of program) values → slice_get program.items k ≡ Some item → IsWide values k (node_of item) item.what
wide-at program values k item wide at = wide.each k (node_of item) (get-map node_of program.items k ∙ ap (option_map node_of) at)

answers-in : (program : Program) (values : NetValues) → IsProgram program → AreWide (nodes_of program) values → Answers (map entry_of program.items) (words_of (nodes_of program) values)
answers-in program values linked wide = record {
  counts = λ k within.
      let there = get-there program.items k (omega (arith, within, length-map program.items entry_of)) in
      ap length (words-at program values k there.0 there.1) ∙ counts-by values k there.0 there.0.what (wide-at program values k there.0 wide there.1) ∙ ap words_in (sym (entry-kind program.items k there.0 there.1));
  widths = λ k index word within has.
      let there = get-there program.items k (omega (arith, within, length-map program.items entry_of)) in
      widths-by program values k index there.0 there.0.what word linked wide there.1 refl (wide-at program values k there.0 wide there.1) has ∙ sym (entry-width program.items k there.0 there.1);
}

-- the values answer for each item of the design
pub answers-are : (program : Program) (values : NetValues) (design : Design) → IsProgram program → AreWide (nodes_of program) values → design ≡ design_of program → Answers design.entries (words_of (nodes_of program) values)
answers-are program values design linked wide is =
    subst (λ (entries : List Entry). Answers entries (words_of (nodes_of program) values)) (sym (ap (λ (d : Design). d.entries) is ∙ entries-are program)) (answers-in program values linked wide)

-- ---- the plane

plane-length : (nodes : List Node) (values : NetValues) → length (plane_of nodes values) ≡ length nodes
unfolding plane_of
plane-length nodes values = length-map (enumerate_from 0 nodes) (place_by values) ∙ length-enumerate_from 0 nodes

plane-at : (nodes : List Node) (values : NetValues) (k : ℕ) (node : Node) → slice_get nodes k ≡ Some node → slice_index_or (plane_of nodes values) k [] ≡ place_by values (k, node)
unfolding plane_of
plane-at nodes values k node at =
    let within = slice_get_within nodes k node at in
    get_or-map (place_by values) (enumerate_from 0 nodes) k (0, node) [] (omega (arith, within, length-enumerate_from 0 nodes))
    ∙ ap (place_by values) (get_or-enumerate_from 0 nodes k (0, node) within ∙ ap (λ (n : Node). (0 + k, n)) (get_or_from_slice_get nodes k node node at))
    ∙ ap (λ (i : ℕ). place_by values (i, node)) (let same : 0 + k ≡ k = omega arith in same)

own-by : (values : NetValues) (k : ℕ) (item : Item) (what : ItemKind) → item.what ≡ what → IsTrue (has_own_value (entry_kind item what)) → place_by values (k, node_of item) ≡ slice_index_or (words_by values k (Some what)) 0 []
own-by values k item (kind.Var integer) is own = rw is refl
own-by values k item (kind.Functor gate drive ports) is own = rw is refl
own-by values k item (kind.Delay rise fall decay port) is own = rw is refl
own-by values k item (kind.Net root) is own = absurd (let none : ⊥ = cc in none)
own-by values k item (kind.Edge edge ports) is own = absurd (let none : ⊥ = cc in none)
own-by values k item kind.Named is own = absurd (let none : ⊥ = cc in none)
own-by values k item (kind.AnyOf events) is own = absurd (let none : ⊥ = cc in none)
own-by values k item (kind.Array words) is own = absurd (let none : ⊥ = cc in none)
own-by values k item (kind.Scope scope) is own = absurd (let none : ⊥ = cc in none)
own-by values k item kind.Param is own = absurd (let none : ⊥ = cc in none)

none-own : (items : List Item) (k : ℕ) → IsTrue (has_own_value (entry_kind_of (map entry_of items) k)) → k < length items
none-own [] k own = absurd (let none : ⊥ = cc in none)
none-own (item ∷ items) zero own = omega arith
none-own (item ∷ items) (suc k) own = (let rest = none-own items k own in omega (arith, rest))

holds-in : (program : Program) (values : NetValues) → HoldsValues (map entry_of program.items) (words_of (nodes_of program) values) (plane_of (nodes_of program) values)
holds-in program values = record {
  places = plane-length (nodes_of program) values ∙ length-map program.items node_of ∙ sym (length-map program.items entry_of);
  values = λ k own.
      let there = get-there program.items k (none-own program.items k own) in
      plane-at (nodes_of program) values k (node_of there.0) (get-map node_of program.items k ∙ ap (option_map node_of) there.1)
      ∙ own-by values k there.0 there.0.what refl (subst (λ (e : EntryKind). IsTrue (has_own_value e)) (entry-kind program.items k there.0 there.1) own)
      ∙ ap (λ (ws : List (List Bit)). slice_index_or ws 0 []) (sym (words-at program values k there.0 there.1));
}

-- the plane has the values of the items
pub holds-are : (program : Program) (values : NetValues) (design : Design) → design ≡ design_of program → HoldsValues design.entries (words_of (nodes_of program) values) (plane_of (nodes_of program) values)
holds-are program values design is =
    subst (λ (entries : List Entry). HoldsValues entries (words_of (nodes_of program) values) (plane_of (nodes_of program) values)) (sym (ap (λ (d : Design). d.entries) is ∙ entries-are program)) (holds-in program values)
