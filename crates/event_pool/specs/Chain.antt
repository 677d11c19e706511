-- How a pool chains its slots. No public clause cites this module.
use Rattle.std.specs.Prelude.{◌≡◌, ℕ, zero, suc, ◌+◌, ◌<◌, ◌≤◌, nat_eq, List, [], ◌∷◌, ◌++◌, map, length, Some, None, slice_index_or, slice_set, if◌then◌else◌}
use Rattle.std.specs.List.{AllByRecursion, cons_option}
use Rattle.event_pool.specs.declared.pool.TheConstants.{NONE}
use Rattle.event_pool.specs.declared.pool.Slot.{Slot}
use Rattle.event_pool.specs.declared.pool.Ends.{Ends}

-- how often a place is in a list of places
abbrev pub occurrences : ℕ → List ℕ → ℕ
occurrences place [] = 0
occurrences place (other ∷ places) = (if nat_eq other place then 1 else 0) + occurrences place places

-- the sum of a measure over the lists
abbrev pub total : {X : Type 0} → (List X → ℕ) → List (List X) → ℕ
total measure [] = 0
total measure (xs ∷ xss) = measure xs + total measure xss

-- the ends of the first queue with the second behind it
abbrev pub joined_ends : Ends → Ends → Ends
joined_ends first second =
    if nat_eq first.head NONE then second
    else if nat_eq second.head NONE then first
    else record { head = first.head; tail = second.tail }

-- the ends of a queue that loses the slot at `place`, which follows the one at `before`
abbrev pub ends_without : Ends → ℕ → ℕ → Ends
ends_without ends before place = record { head = ends.head; tail = if nat_eq place ends.tail then before else ends.tail }

module _ {E : Type 0} where
  -- the slot at a place
  abbrev pub slot_at : List (Slot E) → ℕ → Slot E
  slot_at slots place = slice_index_or slots place (record { item = None; next = 0 })

  -- the items of the slots that follow one another from a place on, as far as `limit` of them
  abbrev pub items_from : List (Slot E) → ℕ → ℕ → List E
  items_from slots zero start = []
  items_from slots (suc limit) start =
      if nat_eq start NONE then [] else cons_option (slot_at slots start).item (items_from slots limit (slot_at slots start).next)

  -- these are the places of the slots that follow one another from `start` on, to the end
  abbrev pub IsChain : List (Slot E) → ℕ → List ℕ → Type 0
  IsChain slots start [] = start ≡ NONE
  IsChain slots start (place ∷ places) =
      (start ≡ place) × (place < length slots) × IsChain slots (slot_at slots place).next places

  -- the places of a queue, and its items
  abbrev pub places_of : List (ℕ × E) → List ℕ
  places_of = map (λ x. x.0)

  abbrev pub items_of : List (ℕ × E) → List E
  items_of = map (λ x. x.1)

  -- the slots at these places store these items
  abbrev pub Stores : List (Slot E) → List (ℕ × E) → Type 0
  Stores slots = AllByRecursion (λ x. (slot_at slots x.0).item ≡ Some x.1)

  -- the slots that follow one another from `start` on, to the end, are those of this queue
  pub record IsLaidOut (slots : List (Slot E)) (start : ℕ) (queue : List (ℕ × E)) : Type 0 where
    pub linked : IsChain slots start (places_of queue)
    pub stored : Stores slots queue
    pub short : length queue ≤ length slots

  -- the slots at these places follow one another from head to tail and store these items
  pub record IsQueue (slots : List (Slot E)) (ends : Ends) (queue : List (ℕ × E)) : Type 0 where
    pub linked : IsChain slots ends.head (places_of queue)
    pub stored : Stores slots queue
    pub last : 0 < length queue → (front : List ℕ) × (places_of queue ≡ front ++ ends.tail ∷ [])

  -- how often a place is in the chains of the free slots and of the queues
  abbrev pub uses : ℕ → List ℕ → List (List (ℕ × E)) → ℕ
  uses place free queues = occurrences place free + total (λ queue. occurrences place (places_of queue)) queues

  -- the chains from the heads are the queues in order, the chain from the free head has spare
  -- slots, no slot is in two chains or twice in one, and together they have every slot
  pub record IsLinked (slots : List (Slot E)) (ends : List Ends) (free spare : ℕ)
      (queues : List (List (ℕ × E))) : Type 0 where
    pub free_places : List ℕ
    pub counted : length queues ≡ length ends
    pub each : (q : ℕ) → q < length ends
        → IsQueue slots (slice_index_or ends q (record { head = 0; tail = 0 })) (slice_index_or queues q [])
    pub free_linked : IsChain slots free free_places
    pub spared : length free_places ≡ spare
    pub once : (place : ℕ) → uses place free_places queues ≤ 1
    pub whole : length free_places + total length queues ≡ length slots

  -- the slots after the first queue's last slot is led to the second's first
  abbrev pub joined_slots : List (Slot E) → Ends → Ends → List (Slot E)
  joined_slots slots first second =
      if nat_eq first.head NONE then slots
      else if nat_eq second.head NONE then slots
      else slice_set slots first.tail (record (slot_at slots first.tail) { next = second.head })
