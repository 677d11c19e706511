-- How a net begins.
use Rattle.std.specs.Prelude.{◌≡◌, ℕ, ◌-◌, ◌<◌, ◌≤◌, nat_eq, All, Bool, false, if◌then◌else◌, Option, Some, None, List, [], ◌∷◌, ◌++◌, length, map, slice_get, slice_index_or}
use Rattle.std.specs.List.{list_any}
use Rattle.std.specs.Option.{option_map}
use Rattle.strengths.specs.Interval.{Interval}
use Rattle.vvp_ops.specs.Ranges.{IsWidth}
use Rattle.sym_link.specs.declared.program.ItemKind.{ItemKind}
use Rattle.sym_link.specs.declared.program.ItemKind.TheVariants.{Var, Functor, Delay, Array, AnyOf}
use Rattle.sym_link.specs.Roots.{Node}
use Rattle.net_engine.specs.Net.{first_driven_by}
use Rattle.four_state.specs.declared.bits.Bit.{Bit}
use Rattle.net_engine.specs.Slots.{Held, SlotNow, place_in, held_in}

-- what drives an item before anything has happened, where it has a value of its own
abbrev pub first_levels : Node → ItemKind → Option (List Interval)
first_levels node (Var integer) = Some (first_driven_by node (Var integer))
first_levels node (Functor gate drive ports) = Some (first_driven_by node (Functor gate drive ports))
first_levels node (Delay rise fall decay port) = Some (first_driven_by node (Delay rise fall decay port))
first_levels node other = None

-- driven so, and nothing forced
abbrev pub held_of : List Interval → Held
held_of levels = record { driven = levels; forced = map (λ level. None) levels }

-- the value of an item before anything has happened
abbrev pub first_slot : Node → Option Held
first_slot node = option_map held_of (first_levels node node.what)

-- the bits that an item has in the plane before anything has happened
abbrev pub first_place : Node → List Bit
first_place node = place_in (first_slot node)

-- with these bits in the plane, what is kept of an item is its value before anything has happened
abbrev pub IsFirst : Option SlotNow → Node → Type 0
IsFirst slot node = held_in (slot, first_place node) ≡ first_slot node

-- the widths and strengths of an item are those of its form
abbrev pub IsSizedBy : Node → ItemKind → Type 0
IsSizedBy node (Var integer) = IsWidth node.width
IsSizedBy node (Functor gate drive ports) = IsWidth node.width × (drive.0 ≤ 7) × (drive.1 ≤ 7)
IsSizedBy node (Delay rise fall decay port) = IsWidth node.width
IsSizedBy node (Array words) = IsWidth node.width
IsSizedBy node other = Unit {0}

abbrev pub IsSized : Node → Type 0
IsSized node = IsSizedBy node node.what

-- ---- lists of events

-- the events that an item lists
abbrev pub events_of : ItemKind → List ℕ
events_of (AnyOf events) = events
events_of other = []

-- each of them is one of so many
abbrev pub AreEvents : ℕ → ItemKind → Type 0
AreEvents count kind = All (λ event. event < count) (events_of kind)

-- whether what may be there is this number
abbrev pub is_number : ℕ → Option ℕ → Bool
is_number number None = false
is_number number (Some other) = nat_eq other number

-- whether a number is the last of some
abbrev pub is_last : List ℕ → ℕ → Bool
is_last numbers number = is_number number (slice_get numbers (length numbers - 1))

-- a number more, at the end, unless it is the last already
abbrev pub once : List ℕ → ℕ → List ℕ
once numbers number = if is_last numbers number then numbers else numbers ++ number ∷ []

-- the lists of these events have an item more, at the end, and all other lists are as before
pub record IsListing (old new : List (List ℕ)) (item : ℕ) (events : List ℕ) : Type 0 where
  pub count : length new ≡ length old
  pub each : (event : ℕ) → event < length old → slice_index_or new event [] ≡ slice_index_or old event [] ++ (if list_any (nat_eq event) events then item ∷ [] else [])
