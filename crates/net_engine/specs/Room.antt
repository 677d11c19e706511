-- Which items have room for a request, and what a store holds.
use Rattle.std.specs.Prelude.{◌≡◌, ℕ, Bool, true, Option, Some, None, List, map, slice_get}
use Rattle.sym_link.specs.declared.program.ItemKind.{ItemKind}
use Rattle.sym_link.specs.declared.program.ItemKind.TheVariants.{Delay}
use Rattle.sym_link.specs.Roots.{Node, kind_of}
use Rattle.net_engine.specs.Net.{NetValues, Request}
use Rattle.net_engine.specs.Kept.{IsDelay}

-- the values of all items, and whether each has room for a request
pub record StoreNow : Type 0 where
  pub values : NetValues
  pub room : List Bool

-- the request that was never made
abbrev pub no_request : Request
no_request = record { serial = 0; kept = None }

-- the last request, where there is room for one; none was made where there isn't
abbrev pub last_request : Option Request → Request
last_request None = no_request
last_request (Some request) = request

-- the room of an item of a kind, before anything has happened: only a net delay has any
abbrev pub first_room_by : ItemKind → Option Request
first_room_by (Delay rise fall decay port) = Some no_request
first_room_by other = None

abbrev pub first_room : Node → Option Request
first_room node = first_room_by node.what

-- each net delay has room for a request
pub record HasRoom (nodes : List Node) (room : List Bool) : Type 0 where
  pub each : (item : ℕ) → IsDelay (kind_of nodes item) → slice_get room item ≡ Some true
