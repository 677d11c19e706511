-- Room for the requests of net delays.
use Rattle.std.proofs.Common.{◌≡◌, ℕ, zero, suc, ◌<◌, Bool, true, Option, Some, None, List, [], ◌∷◌, length, map, slice_get, get_or, set, refl, sym, ap, subst, ◌∙◌, arith}
use Rattle.std.specs.Prelude.{is_some}
use Rattle.sym_link.specs.declared.program.ItemKind.{ItemKind}
use Rattle.sym_link.specs.declared.program.ItemKind.TheVariants as item
use Rattle.sym_link.specs.Roots.{Node, kind_of}
use Rattle.net_engine.specs.Net.{Request}
use Rattle.net_engine.specs.Kept.{IsDelay}
use Rattle.net_engine.specs.Room.{no_request, last_request, first_room_by, first_room, HasRoom}
use Rattle.net_engine.proofs.MixLemmas.{map-get}
use Rattle.net_engine.proofs.LinkedLemmas.{node-of-kind}

-- room that stays is room
pub same-room : (nodes : List Node) (room new_room : List Bool) → HasRoom nodes room → new_room ≡ room → HasRoom nodes new_room
same-room nodes room new_room has same = subst (HasRoom nodes) (sym same) has

pub delay-room : (nodes : List Node) (room : List Bool) (item : ℕ) → HasRoom nodes room → IsDelay (kind_of nodes item) → slice_get room item ≡ Some true
delay-room nodes room item has delay = has.each item delay

-- where there is room there is a request
pub room-some : (requests : List (Option Request)) (item : ℕ) → slice_get (map is_some requests) item ≡ Some true → (request : Request) × (slice_get requests item ≡ Some (Some request))
room-some [] item there = cc
room-some (None ∷ requests) zero there = cc
room-some (Some request ∷ requests) zero there = (request, refl)
room-some (place ∷ requests) (suc item) there = room-some requests item there

-- what is read of an item without room, or with some, is its last request
pub request-read : (requests : List (Option Request)) (item : ℕ) (read : Option Request) → item < length requests → read ≡ get_or requests item read → last_request read ≡ get_or (map last_request requests) item no_request
request-read [] item read inside is = absurd (omega arith)
request-read (place ∷ requests) zero read inside is = ap last_request is
request-read (place ∷ requests) (suc item) read inside is = request-read requests item read (omega arith) is

-- a request that is set where there was one
pub requests-set : (requests : List (Option Request)) (item : ℕ) (request : Request) → map last_request (set requests item (Some request)) ≡ set (map last_request requests) item request
requests-set [] item request = refl
requests-set (place ∷ requests) zero request = refl
requests-set (place ∷ requests) (suc item) request = ap (λ rs. last_request place ∷ rs) (requests-set requests item request)

pub room-set : (requests : List (Option Request)) (item : ℕ) (request : Request) → slice_get (map is_some requests) item ≡ Some true → map is_some (set requests item (Some request)) ≡ map is_some requests
room-set [] item request there = refl
room-set (None ∷ requests) zero request there = cc
room-set (Some old ∷ requests) zero request there = refl
room-set (place ∷ requests) (suc item) request there = ap (λ rs. is_some place ∷ rs) (room-set requests item request there)

-- ---- the start

first-none : (what : ItemKind) → last_request (first_room_by what) ≡ no_request
first-none (item.Var integer) = refl
first-none (item.Net root) = refl
first-none (item.Functor gate drive ports) = refl
first-none (item.Edge edge ports) = refl
first-none item.Named = refl
first-none (item.AnyOf events) = refl
first-none (item.Array words) = refl
first-none (item.Scope scope) = refl
first-none item.Param = refl
first-none (item.Delay rise fall decay port) = refl

pub requests-first : (nodes : List Node) → map last_request (map first_room nodes) ≡ map (λ (node : Node). no_request) nodes
requests-first [] = refl
requests-first (node ∷ nodes) = ap (λ r. r ∷ map last_request (map first_room nodes)) (first-none node.what) ∙ ap (λ rs. no_request ∷ rs) (requests-first nodes)

delay-first : (what : ItemKind) → IsDelay (Some what) → is_some (first_room_by what) ≡ true
delay-first (item.Var integer) delay = absurd delay
delay-first (item.Net root) delay = absurd delay
delay-first (item.Functor gate drive ports) delay = absurd delay
delay-first (item.Edge edge ports) delay = absurd delay
delay-first item.Named delay = absurd delay
delay-first (item.AnyOf events) delay = absurd delay
delay-first (item.Array words) delay = absurd delay
delay-first (item.Scope scope) delay = absurd delay
delay-first item.Param delay = absurd delay
delay-first (item.Delay rise fall decay port) delay = refl

some-kind : (found : Option ItemKind) → IsDelay found → (what : ItemKind) × (found ≡ Some what)
some-kind None delay = absurd delay
some-kind (Some what) delay = (what, refl)

pub room-first : (nodes : List Node) → HasRoom nodes (map is_some (map first_room nodes))
room-first nodes = record {
  each = λ place delay.
      let what = some-kind (kind_of nodes place) delay in
      let found = node-of-kind nodes place what.0 what.1 in
      let has = delay-first found.0.what (subst (λ (k : ItemKind). IsDelay (Some k)) (sym found.2) (subst IsDelay what.1 delay)) in
      map-get is_some (map first_room nodes) place (first_room found.0) (map-get first_room nodes place found.0 found.1) ∙ ap (λ (b : Bool). Some b) has;
}
