-- An item with levels shows those of its root, which are as many as it has bits.
use Rattle.std.proofs.Common.{◌≡◌, ℕ, zero, suc, ◌≤◌, true, false, Option, Some, List, [], ◌∷◌, length, map, slice_get, refl, sym, ap, subst, ◌∙◌, arith}
use Rattle.std.specs.List.{zip}
use Rattle.std.specs.Option.{option_map_or}
use Rattle.std.proofs.lemmas.List.{length-map}
use Rattle.vvp_ops.specs.Ranges.{IsWidth}
use Rattle.sym_link.specs.declared.program.Program.{Program}
use Rattle.sym_link.specs.declared.program.Item.{Item}
use Rattle.sym_link.specs.declared.program.ItemKind.{ItemKind}
use Rattle.sym_link.specs.declared.program.ItemKind.TheVariants.{Var, Net, Functor, Delay, Edge, Named, AnyOf, Array, Scope, Param}
use Rattle.sym_link.specs.Roots.{Node, node_of, nodes_of, kind_of, root_of, root_by}
use Rattle.sym_link.specs.Sound.{IsProgram, IsKind, is_such, is_value_kind, is_root_kind, width_of}
use Rattle.net_engine.specs.Net.{NetValues, driven_of, forced_of, levels_of, shown_level}
use Rattle.net_engine.specs.Parts.{AreWide, IsWide, IsLinked, has_value, HasLevels}
use Rattle.net_engine.proofs.MixLemmas.{map-get, zip-length}
use Rattle.net_engine.proofs.LinkedLemmas.{such-at, item-sound, is-true, kind-at}

-- as many levels as places are driven
pub levels-length : (values : NetValues) (item : ℕ) → length (forced_of values item) ≡ length (driven_of values item) → length (levels_of values item) ≡ length (driven_of values item)
unfolding levels_of
levels-length values item same = length-map (zip (forced_of values item) (driven_of values item)) shown_level ∙ zip-length (forced_of values item) (driven_of values item) same

-- what an item with a value of its own is as wide as
wide-own : (values : NetValues) (k : ℕ) (node : Node) (kind : ItemKind) → has_value kind ≡ true → IsWide values k node kind → length (driven_of values k) ≡ node.width
wide-own values k node (Var integer) is wide = wide
wide-own values k node (Functor gate drive ports) is wide = wide
wide-own values k node (Delay rise fall decay port) is wide = wide.0
wide-own values k node (Net root) is wide = cc
wide-own values k node (Edge edge ports) is wide = cc
wide-own values k node Named is wide = cc
wide-own values k node (AnyOf events) is wide = cc
wide-own values k node (Array words) is wide = cc
wide-own values k node (Scope scope) is wide = cc
wide-own values k node Param is wide = cc

width-own : (program : Program) (item : Item) (kind : ItemKind) → has_value kind ≡ true → IsKind program item kind → IsWidth item.width
width-own program item (Var integer) is h = h.range.in_range
width-own program item (Functor gate drive ports) is h = h.in_range
width-own program item (Delay rise fall decay port) is h = h.in_range
width-own program item (Net root) is h = cc
width-own program item (Edge edge ports) is h = cc
width-own program item Named is h = cc
width-own program item (AnyOf events) is h = cc
width-own program item (Array words) is h = cc
width-own program item (Scope scope) is h = cc
width-own program item Param is h = cc

-- what an item with a value of its own drives
pub own-width : (program : Program) (values : NetValues) (k : ℕ) (item : Item) → IsProgram program → AreWide (nodes_of program) values → slice_get program.items k ≡ Some item → has_value item.what ≡ true
    → (length (driven_of values k) ≡ item.width) × IsWidth item.width
own-width program values k item linked wide at is =
    (wide-own values k (node_of item) item.what is (wide.each k (node_of item) (map-get node_of program.items k item at)), width-own program item item.what is (item-sound program k item linked at))

width-at : (items : List Item) (k : ℕ) (item : Item) → slice_get items k ≡ Some item → width_of items k ≡ item.width
width-at items k item at = ap (λ (o : Option Item). option_map_or (λ (i : Item). i.width) o 0) at

root-kind : (kind : ItemKind) → is_root_kind kind ≡ true → has_value kind ≡ true
root-kind (Var integer) is = refl
root-kind (Functor gate drive ports) is = refl
root-kind (Delay rise fall decay port) is = refl
root-kind (Net root) is = cc
root-kind (Edge edge ports) is = cc
root-kind Named is = cc
root-kind (AnyOf events) is = cc
root-kind (Array words) is = cc
root-kind (Scope scope) is = cc
root-kind Param is = cc

-- what a source, a net or a thing with a value of its own, shows
pub record Rooted (program : Program) (values : NetValues) (k : ℕ) : Type 0 where
  pub width : length (driven_of values (root_of (nodes_of program) k)) ≡ width_of program.items k
  pub sized : IsWidth (width_of program.items k)

root-at : (program : Program) (k : ℕ) (item : Item) → slice_get program.items k ≡ Some item → root_of (nodes_of program) k ≡ root_by (Some item.what) k
root-at program k item at = ap (λ (kind : Option ItemKind). root_by kind k) (kind-at (nodes_of program) k (node_of item) (map-get node_of program.items k item at))

own-rooted : (program : Program) (values : NetValues) (k : ℕ) (item : Item) → IsProgram program → AreWide (nodes_of program) values → slice_get program.items k ≡ Some item → has_value item.what ≡ true
    → root_of (nodes_of program) k ≡ k → Rooted program values k
own-rooted program values k item linked wide at is itself =
    let own = own-width program values k item linked wide at is in
    record {
      width = ap (λ (r : ℕ). length (driven_of values r)) itself ∙ own.0 ∙ sym (width-at program.items k item at);
      sized = subst IsWidth (sym (width-at program.items k item at)) own.1;
    }

net-rooted : (program : Program) (values : NetValues) (k root : ℕ) (item : Item) → IsProgram program → AreWide (nodes_of program) values → slice_get program.items k ≡ Some item → item.what ≡ Net root
    → Rooted program values k
net-rooted program values k root item linked wide at is =
    let sound : IsKind program item (Net root) = subst (IsKind program item) is (item-sound program k item linked at) in
    let found = such-at is_root_kind program.items root (is-true _ sound.leads) in
    let own = own-width program values root found.0 linked wide found.1 (root-kind found.0.what found.2) in
    let to : root_of (nodes_of program) k ≡ root = root-at program k item at ∙ ap (λ (kind : ItemKind). root_by (Some kind) k) is in
    let same : width_of program.items k ≡ found.0.width = width-at program.items k item at ∙ sym sound.same ∙ width-at program.items root found.0 found.1 in
    record {
      width = ap (λ (r : ℕ). length (driven_of values r)) to ∙ own.0 ∙ sym same;
      sized = subst IsWidth (sym same) own.1;
    }

kind-rooted : (program : Program) (values : NetValues) (k : ℕ) (item : Item) (kind : ItemKind) → IsProgram program → AreWide (nodes_of program) values → slice_get program.items k ≡ Some item → item.what ≡ kind → is_value_kind kind ≡ true
    → Rooted program values k
kind-rooted program values k item (Net root) linked wide at is value = net-rooted program values k root item linked wide at is
kind-rooted program values k item (Var integer) linked wide at is value =
    own-rooted program values k item linked wide at (ap has_value is) (root-at program k item at ∙ ap (λ (kind : ItemKind). root_by (Some kind) k) is)
kind-rooted program values k item (Functor gate drive ports) linked wide at is value =
    own-rooted program values k item linked wide at (ap has_value is) (root-at program k item at ∙ ap (λ (kind : ItemKind). root_by (Some kind) k) is)
kind-rooted program values k item (Delay rise fall decay port) linked wide at is value =
    own-rooted program values k item linked wide at (ap has_value is) (root-at program k item at ∙ ap (λ (kind : ItemKind). root_by (Some kind) k) is)
kind-rooted program values k item (Edge edge ports) linked wide at is value = absurd (let no_value : false ≡ true = value in cc)
kind-rooted program values k item Named linked wide at is value = absurd (let no_value : false ≡ true = value in cc)
kind-rooted program values k item (AnyOf events) linked wide at is value = absurd (let no_value : false ≡ true = value in cc)
kind-rooted program values k item (Array words) linked wide at is value = absurd (let no_value : false ≡ true = value in cc)
kind-rooted program values k item (Scope scope) linked wide at is value = absurd (let no_value : false ≡ true = value in cc)
kind-rooted program values k item Param linked wide at is value = absurd (let no_value : false ≡ true = value in cc)

pub rooted : (program : Program) (values : NetValues) (k : ℕ) → IsProgram program → AreWide (nodes_of program) values → is_such is_value_kind program.items k ≡ true → Rooted program values k
rooted program values k linked wide is =
    let found = such-at is_value_kind program.items k is in
    kind-rooted program values k found.0 found.0.what linked wide found.1 refl found.2

-- ---- by the nodes alone

value-of-levels : (kind : ItemKind) → HasLevels (Some kind) → is_value_kind kind ≡ true
value-of-levels (Var integer) h = refl
value-of-levels (Net root) h = refl
value-of-levels (Functor gate drive ports) h = refl
value-of-levels (Delay rise fall decay port) h = refl
value-of-levels (Edge edge ports) h = absurd h
value-of-levels Named h = absurd h
value-of-levels (AnyOf events) h = absurd h
value-of-levels (Array words) h = absurd h
value-of-levels (Scope scope) h = absurd h
value-of-levels Param h = absurd h

pub levels-such : (items : List Item) (k : ℕ) → HasLevels (kind_of (map node_of items) k) → is_such is_value_kind items k ≡ true
levels-such [] k h = absurd h
levels-such (item ∷ items) zero h = value-of-levels item.what h
levels-such (item ∷ items) (suc k) h = levels-such items k h

-- an item with levels has a root that drives at least one place
pub levels-driven : (nodes : List Node) (values : NetValues) (k : ℕ) → IsLinked nodes → AreWide nodes values → HasLevels (kind_of nodes k) → 1 ≤ length (driven_of values (root_of nodes k))
levels-driven nodes values k linked wide h =
    let program = linked.program in
    let wide_program : AreWide (nodes_of program) values = subst (λ (ns : List Node). AreWide ns values) (sym linked.same) wide in
    let there : HasLevels (kind_of (nodes_of program) k) = subst (λ (ns : List Node). HasLevels (kind_of ns k)) (sym linked.same) h in
    let r = rooted program values k linked.linked wide_program (levels-such program.items k there) in
    let least : 1 ≤ length (driven_of values (root_of (nodes_of program) k)) = (let sized = r.sized.0 in omega (arith, r.width, sized)) in
    subst (λ (ns : List Node). 1 ≤ length (driven_of values (root_of ns k))) linked.same least
