-- What the items of a linked program are.
use Rattle.std.proofs.Common.{◌≡◌, ℕ, zero, suc, ◌+◌, ◌<◌, Bool, true, IsTrue, Some, None, List, [], ◌∷◌, length, map, slice_get, refl, sym, ap, subst, arith}
use Rattle.std.specs.List.{All}
use Rattle.std.specs.Option.{option_map}
use Rattle.std.proofs.lemmas.List.Elements.{All-nil, All-cons, All-weaker}
use Rattle.std.proofs.lemmas.Option.{slice_get_within, get_or_from_slice_get}
use Rattle.sym_link.specs.declared.program.Program.{Program}
use Rattle.sym_link.specs.declared.program.Item.{Item}
use Rattle.sym_link.specs.declared.program.ItemKind.{ItemKind}
use Rattle.sym_link.specs.declared.program.ItemKind.TheVariants.{Var, Net, Functor, Delay, Edge, Named, AnyOf, Array, Scope, Param}
use Rattle.sym_link.specs.declared.program.Source.{Source}
use Rattle.sym_link.specs.declared.program.Source.TheVariants as source
use Rattle.sym_link.specs.declared.widths.Wanted.{Wanted}
use Rattle.sym_link.specs.declared.widths.Wanted.TheVariants as wants
use Rattle.sym_link.specs.Roots.{Node, node_of, kind_of, ports_of}
use Rattle.sym_link.specs.Sound.{IsProgram, IsItem, IsKind, IsSource, AreSources, is_such, is_value_kind, is_one_event_kind, port_takes}
use Rattle.net_engine.specs.Built.{IsSized, IsSizedBy, AreEvents}
use Rattle.net_engine.specs.Parts.{IsNamed, AreNamed, HasLevels}

-- ---- items by number

-- the item of a node
pub item-at : (items : List Item) (k : ℕ) (node : Node) → slice_get (map node_of items) k ≡ Some node → (item : Item) × (slice_get items k ≡ Some item) × (node ≡ node_of item)
item-at [] k node at = absurd (let no_item : None ≡ Some node = at in cc)
item-at (item ∷ items) zero node at = (item, refl, (let same : Some (node_of item) ≡ Some node = at in let is : node_of item ≡ node = cc in sym is))
item-at (item ∷ items) (suc k) node at = item-at items k node at

-- and what is known of it
pub item-sound : (program : Program) (k : ℕ) (item : Item) → IsProgram program → slice_get program.items k ≡ Some item → IsKind program item item.what
item-sound program k item linked at =
    let inside = slice_get_within program.items k item at in
    let here = get_or_from_slice_get program.items k item item at in
    (subst (IsItem program) here (linked.each_item k item inside)).is

-- an item of some kind is there
pub such-at : (test : ItemKind → Bool) (items : List Item) (k : ℕ) → is_such test items k ≡ true → (item : Item) × (slice_get items k ≡ Some item) × (test item.what ≡ true)
such-at test [] k is = cc
such-at test (item ∷ items) zero is = (item, refl, is)
such-at test (item ∷ items) (suc k) is = such-at test items k is

pub such-within : (test : ItemKind → Bool) (items : List Item) (k : ℕ) → is_such test items k ≡ true → k < length items
such-within test items k is = let found = such-at test items k is in slice_get_within items k found.0 found.1

-- IsTrue as an equation
pub is-true : (b : Bool) → IsTrue b → b ≡ true
is-true b h = h

-- ---- sources

pub source-named : (items : List Item) (want : Wanted) (s : Source) → IsSource items want s → IsNamed (length items) s
source-named items want source.Unused h = tt
source-named items want (source.Item number) h = such-within is_value_kind items number (is-true _ h.0)
source-named items want (source.Fixed bits) h = tt

pub sources-named : (items : List Item) (wants : ℕ → Wanted) (port : ℕ) (sources : List Source) → AreSources items wants port sources → AreNamed (length items) sources
sources-named items wants port [] h = All-nil (IsNamed (length items))
sources-named items wants port (s ∷ sources) h =
    All-cons (IsNamed (length items)) s sources (source-named items (wants port) s h.0) (sources-named items wants (port + 1) sources h.1)

-- the sources of an item's ports are items
pub ports-named : (program : Program) (item : Item) (kind : ItemKind) → IsKind program item kind → AreNamed (length program.items) (ports_of kind)
ports-named program item (Functor gate drive ports) h = sources-named program.items (port_takes gate item.width) 0 ports h.each_port
ports-named program item (Edge edge ports) h = sources-named program.items (λ port. wants.Any) 0 ports h.each_port
ports-named program item (Delay rise fall decay port) h =
    All-cons (IsNamed (length program.items)) (source.Item port) [] (such-within is_value_kind program.items port (is-true _ h.follows)) (All-nil (IsNamed (length program.items)))
ports-named program item (Var integer) h = All-nil (IsNamed (length program.items))
ports-named program item (Net root) h = All-nil (IsNamed (length program.items))
ports-named program item Named h = All-nil (IsNamed (length program.items))
ports-named program item (AnyOf events) h = All-nil (IsNamed (length program.items))
ports-named program item (Array words) h = All-nil (IsNamed (length program.items))
ports-named program item (Scope scope) h = All-nil (IsNamed (length program.items))
ports-named program item Param h = All-nil (IsNamed (length program.items))

-- the events that an item lists are items
pub events-there : (program : Program) (item : Item) (kind : ItemKind) → IsKind program item kind → AreEvents (length program.items) kind
events-there program item (AnyOf events) h =
    All-weaker (λ (event : ℕ). IsTrue (is_such is_one_event_kind program.items event)) (λ (event : ℕ). event < length program.items) (λ event is. such-within is_one_event_kind program.items event (is-true _ is)) events h.each_event
events-there program item (Functor gate drive ports) h = All-nil (λ (event : ℕ). event < length program.items)
events-there program item (Edge edge ports) h = All-nil (λ (event : ℕ). event < length program.items)
events-there program item (Delay rise fall decay port) h = All-nil (λ (event : ℕ). event < length program.items)
events-there program item (Var integer) h = All-nil (λ (event : ℕ). event < length program.items)
events-there program item (Net root) h = All-nil (λ (event : ℕ). event < length program.items)
events-there program item Named h = All-nil (λ (event : ℕ). event < length program.items)
events-there program item (Array words) h = All-nil (λ (event : ℕ). event < length program.items)
events-there program item (Scope scope) h = All-nil (λ (event : ℕ). event < length program.items)
events-there program item Param h = All-nil (λ (event : ℕ). event < length program.items)

-- the widths and strengths of an item are those of its form
pub item-sized : (program : Program) (item : Item) (kind : ItemKind) → IsKind program item kind → IsSizedBy (node_of item) kind
item-sized program item (Var integer) h = h.range.in_range
item-sized program item (Functor gate drive ports) h = (h.in_range, h.zero_strength, h.one_strength)
item-sized program item (Delay rise fall decay port) h = h.in_range
item-sized program item (Array words) h = h.range.in_range
item-sized program item (Net root) h = tt
item-sized program item (AnyOf events) h = tt
item-sized program item (Edge edge ports) h = tt
item-sized program item Named h = tt
item-sized program item (Scope scope) h = tt
item-sized program item Param h = tt

pub all-sized : (program : Program) → IsProgram program → All (λ item. IsSized (node_of item)) program.items
all-sized program linked = All-weaker (IsItem program) (λ item. IsSized (node_of item)) (λ item h. item-sized program item item.what h.is) program.items linked.each_item

pub all-events : (program : Program) → IsProgram program → All (λ item. AreEvents (length program.items) item.what) program.items
all-events program linked = All-weaker (IsItem program) (λ item. AreEvents (length program.items) item.what) (λ item h. events-there program item item.what h.is) program.items linked.each_item

-- ---- roots

-- an item with levels is there
pub levels-there : (nodes : List Node) (item : ℕ) → HasLevels (kind_of nodes item) → item < length nodes
levels-there [] item h = absurd h
levels-there (node ∷ nodes) zero h = omega arith
levels-there (node ∷ nodes) (suc item) h = let inside = levels-there nodes item h in omega arith

-- the kind of an item that is there
pub kind-at : (nodes : List Node) (item : ℕ) (node : Node) → slice_get nodes item ≡ Some node → kind_of nodes item ≡ Some node.what
kind-at nodes item node at = ap (option_map (λ (n : Node). n.what)) at

-- the node of an item whose kind is known
pub node-of-kind : (nodes : List Node) (item : ℕ) (kind : ItemKind) → kind_of nodes item ≡ Some kind → (node : Node) × (slice_get nodes item ≡ Some node) × (node.what ≡ kind)
node-of-kind [] item kind is = absurd (let none : None ≡ Some kind = is in cc)
node-of-kind (node ∷ nodes) zero kind is = (node, refl, (let same : Some node.what ≡ Some kind = is in cc))
node-of-kind (node ∷ nodes) (suc item) kind is = node-of-kind nodes item kind is
