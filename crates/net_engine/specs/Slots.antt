-- How the values of items are kept, and what a change of one says.
use Rattle.std.specs.Prelude.{◌≡◌, ℕ, ◌≤◌, Bool, true, false, Option, Some, None, List, [], ◌∷◌, length, map, zip, replicate, unwrap_or, slice_get, slice_set, All}
use Rattle.std.specs.List.{enumerate_from}
use Rattle.std.specs.Option.{ForSome}
use Rattle.four_state.specs.declared.bits.Bit.{Bit}
use Rattle.four_state.specs.declared.bits.Bit.TheVariants.{Unknown}
use Rattle.strengths.specs.Interval.{Interval}
use Rattle.net_engine.specs.Net.{shown_level, seen, strongly}
use Rattle.net_engine.specs.Delivery.{forced_after, kept_after}

-- ---- the value of an item

-- what drives the places of an item, and what is forced on them
pub record Held : Type 0 where
  pub driven : List Interval
  pub forced : List (Option Interval)

-- the levels that it shows
abbrev pub held_levels : Held → List Interval
held_levels held = map shown_level (zip held.forced held.driven)

-- what drives an item, if it has a value of its own
abbrev pub driven_in : Option Held → List Interval
driven_in None = []
driven_in (Some held) = held.driven

-- what is forced on an item
abbrev pub forced_in : Option Held → List (Option Interval)
forced_in None = []
forced_in (Some held) = held.forced

-- the place of an item in the plane: the bits that it is seen as, or one x where it has no value of its own
abbrev pub place_in : Option Held → List Bit
place_in None = Unknown ∷ []
place_in (Some held) = seen (held_levels held)

-- an item is driven otherwise
abbrev pub driving : List Interval → Held → Held
driving levels held = record held { driven = levels }

-- every place of an item is forced
abbrev pub forcing : List Interval → Held → Held
forcing levels held = record held { forced = map Some levels }

-- what drives an item after a release, as the last word says whether it keeps what was forced
abbrev pub released_driven : ℕ → ℕ → Bool → Held → List Interval
released_driven base width true held = map (kept_after base width) (enumerate_from 0 (zip held.forced held.driven))
released_driven base width false held = held.driven

-- so many places from a base on are no longer forced
abbrev pub released : ℕ → ℕ → Bool → Held → Held
released base width keep held =
    record { driven = released_driven base width keep held; forced = map (forced_after base width) (enumerate_from 0 held.forced) }

-- an item that has a value has 1 to 128 places
abbrev pub HasPlaces : Option Held → Type 0
HasPlaces None = Unit {0}
HasPlaces (Some held) = (1 ≤ length held.driven) × (length held.driven ≤ 128) × (length held.forced ≡ length held.driven)

-- the plane shows what the items show
pub record IsStored (slots : List (Option Held)) (plane : List (List Bit)) : Type 0 where
  pub shown : plane ≡ map place_in slots
  pub sized : All HasPlaces slots

-- ---- how it is kept

-- what a slot has of the value of an item: what is forced on the places, and the levels that drive them, unless these are the
-- bits of the item's place in the plane, driven strongly
pub record SlotNow : Type 0 where
  pub levels : Option (List Interval)
  pub forced : List (Option Interval)

-- the value of an item, by its slot and its place in the plane
abbrev pub held_by : SlotNow → List Bit → Held
held_by slot bits = record { driven = unwrap_or slot.levels (strongly bits); forced = slot.forced }

abbrev pub held_in : Option SlotNow × List Bit → Option Held
held_in (None, bits) = None
held_in (Some slot, bits) = Some (held_by slot bits)

-- the values of all items
abbrev pub helds : List (Option SlotNow) → List (List Bit) → List (Option Held)
helds slots plane = map held_in (zip slots plane)

-- with the bits that a value is seen as in the plane, a slot has that value
abbrev pub KeepsValue : SlotNow → Held → Type 0
KeepsValue slot held = held_by slot (seen (held_levels held)) ≡ held

-- the bits in the plane tell all of an item
pub record IsPlain (slot : SlotNow) : Type 0 where
  pub bare : slot.levels ≡ None
  pub quiet : slot.forced ≡ replicate (length slot.forced) None

-- as many levels as places, and nothing forced where none is said to be or where there are no levels
pub record IsSlot (levels : Option (List Interval)) (forced : List (Option Interval)) (any : Bool) : Type 0 where
  pub places : ForSome levels (λ kept. length kept ≡ length forced)
  pub quiet : any ≡ false → forced ≡ replicate (length forced) None
  pub bare : levels ≡ None → any ≡ false

-- one slot was changed so that its value is what f makes of it: the levels that the item showed, and those that it shows
pub record IsChanged (f : Held → Held) (old new : List (Option SlotNow)) (item : ℕ) (bits : List Bit) (before after : List Interval) : Type 0 where
  pub was : SlotNow
  pub is : SlotNow
  pub there : slice_get old item ≡ Some (Some was)
  pub set : new ≡ slice_set old item (Some is)
  pub keeps : KeepsValue is (f (held_by was bits))
  pub showed : before ≡ held_levels (held_by was bits)
  pub shows : after ≡ held_levels (f (held_by was bits))

-- a slot and a place in the plane for each item, which show the same
pub record IsKept (slots : List (Option SlotNow)) (plane : List (List Bit)) : Type 0 where
  pub places : length plane ≡ length slots
  pub stored : IsStored (helds slots plane) plane
