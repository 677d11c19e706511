-- What the parts of a net are to each other, and what its calls do to them.
use Rattle.std.specs.Prelude.{◌≡◌, ℕ, ◌+◌, ◌<◌, ◌≤◌, nat_eq, Bool, true, false, if◌then◌else◌, Option, Some, None, List, [], ◌∷◌, length, map, slice_get, All}
use Rattle.std.specs.List.{enumerate_from}
use Rattle.std.specs.Option.{ForSome}
use Rattle.event_pool.specs.Schedule.{Schedule}
use Rattle.four_state.specs.declared.bits.Bit.{Bit}
use Rattle.four_state.specs.declared.bits.Bit.TheVariants.{Unknown}
use Rattle.port_chain.specs.Link.{InputPort}
use Rattle.strengths.specs.Interval.{Interval}
use Rattle.vvp_threads.specs.Keyed.{KeyedTable}
use Rattle.sym_link.specs.declared.program.Program.{Program}
use Rattle.sym_link.specs.declared.program.ItemKind.{ItemKind}
use Rattle.sym_link.specs.declared.program.ItemKind.TheVariants.{Var, Net, Functor, Delay, Array}
use Rattle.sym_link.specs.declared.program.Source.{Source}
use Rattle.sym_link.specs.declared.program.Source.TheVariants as source
use Rattle.sym_link.specs.Roots.{Node, nodes_of, root_of}
use Rattle.sym_link.specs.Sound.{IsProgram}
use Rattle.net_engine.specs.declared.store.Change.{Change}
use Rattle.net_engine.specs.Net.{NetValues, levels_of, driven_of, forced_of, array_of, request_of, seen}
use Rattle.net_engine.specs.State.{State}
use Rattle.net_engine.specs.Delivery.{same_levels, delivered}
use Rattle.net_engine.specs.Kept.{NetNow, Fits, Delivers}
use Rattle.net_engine.specs.Readers.{driven_ports, listeners_of}

-- ---- the plane of values

-- whether an item of a kind has a value of its own
abbrev pub has_value : ItemKind → Bool
has_value (Var integer) = true
has_value (Functor gate drive ports) = true
has_value (Delay rise fall decay port) = true
has_value other = false

-- the place of an item in the plane of values: the bits that a variable or a gate is seen as, and one x for any other item
abbrev pub place_by : NetValues → ℕ × Node → List Bit
place_by values item = if has_value item.1.what then seen (levels_of values item.0) else Unknown ∷ []

-- the plane of values, a place by item
unfoldable pub plane_of : List Node → NetValues → List (List Bit)
plane_of nodes values = map (place_by values) (enumerate_from 0 nodes)

-- ---- the items of a linked program

-- each item that is a source is one of so many
abbrev pub IsNamed : ℕ → Source → Type 0
IsNamed count source.Unused = Unit {0}
IsNamed count (source.Item named) = named < count
IsNamed count (source.Fixed bits) = Unit {0}

abbrev pub AreNamed : ℕ → List Source → Type 0
AreNamed count sources = All (IsNamed count) sources

-- these are the items of a program that was linked
pub record IsLinked (nodes : List Node) : Type 0 where
  pub program : Program
  pub linked : IsProgram program
  pub same : nodes_of program ≡ nodes

-- a fan-out, given by its nodes and their ports, and the events that list each event
pub record IsDesign (count : ℕ) (pairs : ℕ → List InputPort) (listeners : List (List ℕ)) (nodes : List Node) : Type 0 where
  pub linked : IsLinked nodes
  pub counted : count ≡ length nodes
  pub paired : (node : ℕ) → node < length nodes → pairs node ≡ driven_ports nodes node
  pub listed : listeners ≡ map (λ event. listeners_of nodes event.0) (enumerate_from 0 nodes)

-- ---- the widths of values

-- as many levels as an item has bits, where it has a value of its own, and as many words of that width as an array has
abbrev pub IsWide : NetValues → ℕ → Node → ItemKind → Type 0
IsWide values item node (Var integer) = length (driven_of values item) ≡ node.width
IsWide values item node (Functor gate drive ports) = length (driven_of values item) ≡ node.width
IsWide values item node (Delay rise fall decay port) =
    (length (driven_of values item) ≡ node.width) × ForSome (request_of values item).kept (λ kept. length kept ≡ node.width)
IsWide values item node (Array words) =
    (driven_of values item ≡ []) × (length (array_of values item) ≡ words) × All (λ word. length word ≡ node.width) (array_of values item)
IsWide values item node other = driven_of values item ≡ []

-- the values of all items are as wide as these are
pub record AreWide (nodes : List Node) (values : NetValues) : Type 0 where
  pub each : (item : ℕ) (node : Node) → slice_get nodes item ≡ Some node → IsWide values item node node.what
  pub forced : (item : ℕ) → length (forced_of values item) ≡ length (driven_of values item)
  pub drivens : length values.driven ≡ length nodes
  pub arrays : length values.words ≡ length nodes
  pub asked : length values.requests ≡ length nodes

-- items, their values and their marks
pub record IsNet (nodes : List Node) (values : NetValues) (marks : List Bool) : Type 0 where
  pub linked : IsLinked nodes
  pub wide : AreWide nodes values
  pub marked : length marks ≡ length nodes

-- ---- which items there are

-- a variable, a net, a gate or a net delay
abbrev pub HasLevels : Option ItemKind → Type 0
HasLevels (Some (Var integer)) = Unit {0}
HasLevels (Some (Net root)) = Unit {0}
HasLevels (Some (Functor gate drive ports)) = Unit {0}
HasLevels (Some (Delay rise fall decay port)) = Unit {0}
HasLevels other = ⊥

-- a variable, a gate or a net delay: an item with a value of its own
abbrev pub HasValue : Option ItemKind → Type 0
HasValue None = ⊥
HasValue (Some kind) = has_value kind ≡ true

-- a gate
abbrev pub IsGateKind : Option ItemKind → Type 0
IsGateKind (Some (Functor gate drive ports)) = Unit {0}
IsGateKind other = ⊥

-- a source that is an item shows a value
abbrev pub IsShowing : List Node → NetValues → Source → Type 0
IsShowing nodes values source.Unused = Unit {0}
IsShowing nodes values (source.Item named) = (named < length nodes) × (1 ≤ length (driven_of values (root_of nodes named)))
IsShowing nodes values (source.Fixed bits) = Unit {0}

abbrev pub AreShowing : List Node → NetValues → List Source → Type 0
AreShowing nodes values sources = All (IsShowing nodes values) sources

-- the place of an item in the plane, by whether it has a value
abbrev pub place_by_value : NetValues → ℕ → List Bit
place_by_value values item = if nat_eq (length (driven_of values item)) 0 then Unknown ∷ [] else seen (levels_of values item)

-- whether a request keeps these levels
abbrev pub keeps : List Interval → Option (List Interval) → Bool
keeps wanted None = false
keeps wanted (Some kept) = same_levels wanted kept

-- ---- what follows from a change

-- the two vectors of a change are equally wide
abbrev pub HasBits : Change → Type 0
HasBits change = (length change.old ≡ length change.new) × (1 ≤ length change.old)

-- a net of these parts
abbrev pub net_of : List Node → NetValues → List Bool → NetNow
net_of nodes values marks = record { nodes = nodes; values = values; marks = marks }

-- what an item was seen as and is seen as, where it shows other levels than before
abbrev pub IsChange : Option Change → List Interval → List Interval → Type 0
IsChange None old new = same_levels old new ≡ true
IsChange (Some change) old new = (same_levels old new ≡ false) × (change.old ≡ seen old) × (change.new ≡ seen new)

-- a change, if it is one
abbrev pub change_if : Bool → Change → Option Change
change_if true change = Some change
change_if false change = None

-- what follows where an item shows other levels than before
abbrev pub followed : List Node → ℕ → List Interval → List Interval → State → State
followed nodes item old new state = if same_levels old new then state else delivered nodes (seen old) (seen new) item state

-- with some values, the items and marks fit the threads and the agenda
pub record MayFit (nodes : List Node) (marks : List Bool) (threads : KeyedTable) (schedule : Schedule) : Type 0 where
  pub values : NetValues
  pub fits : Fits (net_of nodes values marks) threads schedule

-- whatever the values that fit, marks, threads and agenda do what f does to a state
pub record Reaches (f : State → State) (nodes : List Node) (old_marks new_marks : List Bool) (old_threads new_threads : KeyedTable) (old new : Schedule) : Type 0 where
  pub delivers : (values : NetValues) → Fits (net_of nodes values old_marks) old_threads old
      → Delivers f (net_of nodes values old_marks) (net_of nodes values new_marks) old_threads new_threads old new

-- the last request of each net delay has at most this number more than before
pub record AsksAtMost (more : ℕ) (old new : NetValues) : Type 0 where
  pub each : (item : ℕ) → (request_of new item).serial ≤ (request_of old item).serial + more
