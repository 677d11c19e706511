-- What is read of items.
use Rattle.std.proofs.Common.{◌≡◌, ℕ, zero, suc, ◌+◌, ◌<◌, Bool, true, false, nat_eq, if◌then◌else◌, Option, Some, None, List, [], ◌∷◌, length, map, get_or, slice_get, refl, sym, ap, subst, ◌∙◌, arith}
use Rattle.std.specs.List.{AllPairs, enumerate_from}
use Rattle.std.proofs.lemmas.Bool.Decides.{nat_tests}
use Rattle.std.proofs.lemmas.List.{length-map, ext_get_or}
use Rattle.std.proofs.lemmas.List.FromFn.{length-enumerate_from}
use Rattle.std.proofs.lemmas.Option.{slice_get-get_or, get_or_from_slice_get}
use Rattle.four_state.specs.declared.bits.Bit.{Bit}
use Rattle.four_state.specs.declared.bits.Bit.TheVariants.{Unknown}
use Rattle.strengths.specs.Interval.{Interval}
use Rattle.vvp_ops.specs.Ranges.{IsWidth}
use Rattle.sym_link.specs.declared.program.ItemKind.{ItemKind}
use Rattle.sym_link.specs.declared.program.ItemKind.TheVariants.{Var, Net, Functor, Delay, Edge, Named, AnyOf, Array, Scope, Param}
use Rattle.sym_link.specs.Roots.{Node, kind_of, root_of, root_by}
use Rattle.net_engine.specs.Net.{NetValues, driven_of, levels_of, array_of, seen, words_by, words_of}
use Rattle.net_engine.specs.Kept.{IsDelay, HasOutput}
use Rattle.net_engine.specs.Parts.{AreWide, IsWide, IsLinked, has_value, HasValue, HasLevels, IsGateKind, place_by, place_by_value, plane_of}
use Rattle.net_engine.proofs.MixLemmas.{map-get, enumerate-get}
use Rattle.net_engine.proofs.LinkedLemmas.{item-at, node-of-kind}
use Rattle.net_engine.proofs.RootLemmas.{own-width}

-- ---- words

-- an item with words is there
pub words-there : (nodes : List Node) (values : NetValues) (item word : ℕ) → word < length (words_of nodes values item) → item < length nodes
unfolding words_of
words-there nodes values item word h = go nodes item values item h where
  go : (ns : List Node) (k : ℕ) (v : NetValues) (i : ℕ) → word < length (words_by v i (kind_of ns k)) → k < length ns
  go [] k v i h = absurd (omega (arith, h))
  go (n ∷ ns) zero v i h = omega arith
  go (n ∷ ns) (suc k) v i h = let rest = go ns k v i h in omega (arith, rest)

-- and is no array, or has levels
words-levels-by : (values : NetValues) (item word : ℕ) (kind : Option ItemKind) → word < length (words_by values item kind) → ((count : ℕ) → kind ≡ Some (Array count) → ⊥) → HasLevels kind
words-levels-by values item word None h other = absurd (omega (arith, h))
words-levels-by values item word (Some (Array count)) h other = absurd (other count refl)
words-levels-by values item word (Some (Var integer)) h other = tt
words-levels-by values item word (Some (Net root)) h other = tt
words-levels-by values item word (Some (Functor gate drive ports)) h other = tt
words-levels-by values item word (Some (Delay rise fall decay port)) h other = tt
words-levels-by values item word (Some (Edge edge ports)) h other = absurd (omega (arith, h))
words-levels-by values item word (Some Named) h other = absurd (omega (arith, h))
words-levels-by values item word (Some (AnyOf events)) h other = absurd (omega (arith, h))
words-levels-by values item word (Some (Scope scope)) h other = absurd (omega (arith, h))
words-levels-by values item word (Some Param) h other = absurd (omega (arith, h))

pub words-levels : (nodes : List Node) (values : NetValues) (item word : ℕ) → word < length (words_of nodes values item) → ((count : ℕ) → kind_of nodes item ≡ Some (Array count) → ⊥) → HasLevels (kind_of nodes item)
unfolding words_of
words-levels nodes values item word h other = words-levels-by values item word (kind_of nodes item) h other

-- the words of an array
pub words-array : (nodes : List Node) (values : NetValues) (item count : ℕ) → kind_of nodes item ≡ Some (Array count) → words_of nodes values item ≡ array_of values item
unfolding words_of
words-array nodes values item count is = ap (words_by values item) is

-- the one word of an item with levels
words-one-by : (values : NetValues) (item : ℕ) (kind : Option ItemKind) → HasLevels kind → words_by values item kind ≡ seen (levels_of values (root_by kind item)) ∷ []
words-one-by values item (Some (Var integer)) h = refl
words-one-by values item (Some (Net root)) h = refl
words-one-by values item (Some (Functor gate drive ports)) h = refl
words-one-by values item (Some (Delay rise fall decay port)) h = refl
words-one-by values item None h = absurd h
words-one-by values item (Some (Array count)) h = absurd h
words-one-by values item (Some (Edge edge ports)) h = absurd h
words-one-by values item (Some Named) h = absurd h
words-one-by values item (Some (AnyOf events)) h = absurd h
words-one-by values item (Some (Scope scope)) h = absurd h
words-one-by values item (Some Param) h = absurd h

pub words-one : (nodes : List Node) (values : NetValues) (item : ℕ) → HasLevels (kind_of nodes item) → words_of nodes values item ≡ seen (levels_of values (root_of nodes item)) ∷ []
unfolding words_of
words-one nodes values item h = words-one-by values item (kind_of nodes item) h

one-word : {X : Type 0} (xs : List X) (x y : X) (k : ℕ) → xs ≡ x ∷ [] → k < length xs → y ≡ x → slice_get xs k ≡ Some y
one-word xs x y k is inside same =
    let first : k ≡ 0 = omega (arith, ap length is, inside) in
    ap (λ ys. slice_get ys k) is ∙ ap (λ (i : ℕ). slice_get (x ∷ []) i) first ∙ ap (λ z. Some z) (sym same)

pub read-value : (nodes : List Node) (values : NetValues) (item word : ℕ) (bits : List Bit) → word < length (words_of nodes values item) → HasLevels (kind_of nodes item) → bits ≡ seen (levels_of values (root_of nodes item))
    → slice_get (words_of nodes values item) word ≡ Some bits
read-value nodes values item word bits h levels is = one-word (words_of nodes values item) (seen (levels_of values (root_of nodes item))) bits word (words-one nodes values item levels) h is

pub read-word : (nodes : List Node) (values : NetValues) (item count word : ℕ) (bits : List Bit) → kind_of nodes item ≡ Some (Array count) → slice_get (array_of values item) word ≡ Some bits → slice_get (words_of nodes values item) word ≡ Some bits
read-word nodes values item count word bits is at = ap (λ (ws : List (List Bit)). slice_get ws word) (words-array nodes values item count is) ∙ at

pub array-word : (nodes : List Node) (values : NetValues) (item count word : ℕ) → kind_of nodes item ≡ Some (Array count) → word < length (words_of nodes values item) → word < length (array_of values item)
array-word nodes values item count word is h = let same = ap length (words-array nodes values item count is) in omega (arith, same, h)

-- ---- items with a value

pub value-levels : (kind : Option ItemKind) → HasValue kind → HasLevels kind
value-levels None h = absurd h
value-levels (Some (Var integer)) h = tt
value-levels (Some (Functor gate drive ports)) h = tt
value-levels (Some (Delay rise fall decay port)) h = tt
value-levels (Some (Net root)) h = cc
value-levels (Some (Edge edge ports)) h = cc
value-levels (Some Named) h = cc
value-levels (Some (AnyOf events)) h = cc
value-levels (Some (Array count)) h = cc
value-levels (Some (Scope scope)) h = cc
value-levels (Some Param) h = cc

pub value-root : (kind : Option ItemKind) (item : ℕ) → HasValue kind → root_by kind item ≡ item
value-root None item h = absurd h
value-root (Some (Var integer)) item h = refl
value-root (Some (Functor gate drive ports)) item h = refl
value-root (Some (Delay rise fall decay port)) item h = refl
value-root (Some (Net root)) item h = cc
value-root (Some (Edge edge ports)) item h = cc
value-root (Some Named) item h = cc
value-root (Some (AnyOf events)) item h = cc
value-root (Some (Array count)) item h = cc
value-root (Some (Scope scope)) item h = cc
value-root (Some Param) item h = cc

pub delay-value : (kind : Option ItemKind) → IsDelay kind → HasValue kind
delay-value (Some (Delay rise fall decay port)) h = refl
delay-value None h = absurd h
delay-value (Some (Var integer)) h = absurd h
delay-value (Some (Functor gate drive ports)) h = absurd h
delay-value (Some (Net root)) h = absurd h
delay-value (Some (Edge edge ports)) h = absurd h
delay-value (Some Named) h = absurd h
delay-value (Some (AnyOf events)) h = absurd h
delay-value (Some (Array count)) h = absurd h
delay-value (Some (Scope scope)) h = absurd h
delay-value (Some Param) h = absurd h

pub output-value : (kind : Option ItemKind) → HasOutput kind → HasValue kind
output-value (Some (Functor gate drive ports)) h = refl
output-value (Some (Delay rise fall decay port)) h = refl
output-value None h = absurd h
output-value (Some (Var integer)) h = cc
output-value (Some (Net root)) h = cc
output-value (Some (Edge edge ports)) h = cc
output-value (Some Named) h = cc
output-value (Some (AnyOf events)) h = cc
output-value (Some (Array count)) h = cc
output-value (Some (Scope scope)) h = cc
output-value (Some Param) h = cc

-- an item with an output that is no net delay is a gate
pub output-gate : (kind : ItemKind) → HasOutput (Some kind) → ((rise fall decay port : ℕ) → kind ≡ Delay rise fall decay port → ⊥) → IsGateKind (Some kind)
output-gate (Functor gate drive ports) h other = tt
output-gate (Delay rise fall decay port) h other = absurd (other rise fall decay port refl)
output-gate (Var integer) h other = cc
output-gate (Net root) h other = cc
output-gate (Edge edge ports) h other = cc
output-gate Named h other = cc
output-gate (AnyOf events) h other = cc
output-gate (Array count) h other = cc
output-gate (Scope scope) h other = cc
output-gate Param h other = cc

-- what an item with a value drives, by the nodes alone
pub value-width : (nodes : List Node) (values : NetValues) (k : ℕ) (node : Node) → IsLinked nodes → AreWide nodes values → slice_get nodes k ≡ Some node → has_value node.what ≡ true
    → (length (driven_of values k) ≡ node.width) × IsWidth node.width
value-width nodes values k node linked wide at is =
    let program = linked.program in
    let found = item-at program.items k node (ap (λ (ns : List Node). slice_get ns k) linked.same ∙ at) in
    let kind : has_value found.0.what ≡ true = ap (λ (n : Node). has_value n.what) (sym found.2) ∙ is in
    let own = own-width program values k found.0 linked.linked (subst (λ (ns : List Node). AreWide ns values) (sym linked.same) wide) found.1 kind in
    let width : found.0.width ≡ node.width = ap (λ (n : Node). n.width) (sym found.2) in
    (own.0 ∙ width, subst IsWidth width own.1)

-- ---- the plane

none-driven : (values : NetValues) (k : ℕ) (node : Node) (kind : ItemKind) → has_value kind ≡ false → IsWide values k node kind → driven_of values k ≡ []
none-driven values k node (Net root) is h = h
none-driven values k node (Edge edge ports) is h = h
none-driven values k node Named is h = h
none-driven values k node (AnyOf events) is h = h
none-driven values k node (Array count) is h = h.0
none-driven values k node (Scope scope) is h = h
none-driven values k node Param is h = h
none-driven values k node (Var integer) is h = cc
none-driven values k node (Functor gate drive ports) is h = cc
none-driven values k node (Delay rise fall decay port) is h = cc

place-is : (nodes : List Node) (values : NetValues) (k : ℕ) (node : Node) → IsLinked nodes → AreWide nodes values → slice_get nodes k ≡ Some node → place_by_value values k ≡ place_by values (k, node)
place-is nodes values k node linked wide at = go (has_value node.what) refl where
  choice : Bool → List Bit
  choice b = if b then Unknown ∷ [] else seen (levels_of values k)

  go : (b : Bool) → has_value node.what ≡ b → place_by_value values k ≡ (if has_value node.what then seen (levels_of values k) else Unknown ∷ [])
  go true is =
      let own = value-width nodes values k node linked wide at is in
      let least = own.1.0 in
      let long = own.0 in
      let some : nat_eq (length (driven_of values k)) 0 ≡ false = grind (arith, nat_tests) in
      ap choice some ∙ ap (λ (b : Bool). if b then seen (levels_of values k) else Unknown ∷ []) (sym is)
  go false is =
      let none : nat_eq (length (driven_of values k)) 0 ≡ true = ap (λ (d : List Interval). nat_eq (length d) 0) (none-driven values k node node.what is (wide.each k node at)) in
      ap choice none ∙ ap (λ (b : Bool). if b then seen (levels_of values k) else Unknown ∷ []) (sym is)

pub plane-is : (nodes : List Node) (values : NetValues) (plane : List (List Bit)) → IsLinked nodes → AreWide nodes values → length plane ≡ length values.driven
    → ((item : ℕ) → item < length values.driven → slice_get plane item ≡ Some (place_by_value values item)) → plane ≡ plane_of nodes values
unfolding plane_of
plane-is nodes values plane linked wide count places =
    ext_get_or [] plane (map (place_by values) (enumerate_from 0 nodes)) (count ∙ wide.drivens ∙ sym (length-map (enumerate_from 0 nodes) (place_by values) ∙ length-enumerate_from 0 nodes))
    (λ k inside.
    let in_driven : k < length values.driven = omega (arith, count, inside) in
    let in_nodes : k < length nodes = omega (arith, wide.drivens, in_driven) in
    let node = get_or nodes k (record { width = 0; what = Named }) in
    let at : slice_get nodes k ≡ Some node = slice_get-get_or nodes k (record { width = 0; what = Named }) in_nodes in
    let number : 0 + k ≡ k = omega arith in
    get_or_from_slice_get plane k (place_by_value values k) [] (places k in_driven)
    ∙ place-is nodes values k node linked wide at
    ∙ sym (get_or_from_slice_get (map (place_by values) (enumerate_from 0 nodes)) k (place_by values (0 + k, node)) [] (map-get (place_by values) (enumerate_from 0 nodes) k (0 + k, node) (enumerate-get nodes 0 k node at))
    ∙ ap (λ (i : ℕ). place_by values (i, node)) number))

-- ---- how many words, and how wide

pub count-array : (nodes : List Node) (values : NetValues) (item count : ℕ) → AreWide nodes values → kind_of nodes item ≡ Some (Array count) → count ≡ length (words_of nodes values item)
count-array nodes values item count wide is =
    let found = node-of-kind nodes item (Array count) is in
    let sound : IsWide values item found.0 (Array count) = subst (IsWide values item found.0) found.2 (wide.each item found.0 found.1) in
    sym sound.1 ∙ sym (ap length (words-array nodes values item count is))

pub count-one : (nodes : List Node) (values : NetValues) (item : ℕ) → HasLevels (kind_of nodes item) → 1 ≡ length (words_of nodes values item)
count-one nodes values item h = sym (ap length (words-one nodes values item h))

pub one-width-array : (nodes : List Node) (values : NetValues) (item count : ℕ) → AreWide nodes values → kind_of nodes item ≡ Some (Array count) → AllPairs (λ (x y : List Bit). length x ≡ length y) (words_of nodes values item)
one-width-array nodes values item count wide is =
    let found = node-of-kind nodes item (Array count) is in
    let sound : IsWide values item found.0 (Array count) = subst (IsWide values item found.0) found.2 (wide.each item found.0 found.1) in
    subst (AllPairs (λ (x y : List Bit). length x ≡ length y)) (sym (words-array nodes values item count is))
    (λ i j d before inside. sound.2 i d (omega arith) ∙ sym (sound.2 j d inside))

pub one-width-one : (nodes : List Node) (values : NetValues) (item : ℕ) → HasLevels (kind_of nodes item) → AllPairs (λ (x y : List Bit). length x ≡ length y) (words_of nodes values item)
one-width-one nodes values item h =
    subst (AllPairs (λ (x y : List Bit). length x ≡ length y)) (sym (words-one nodes values item h)) (λ i j d before inside. absurd (omega arith))
