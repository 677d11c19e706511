-- What the walks along a pool's chains find, as the view shows it.
use Rattle.std.proofs.Common.{◌≡◌, ◌≢◌, ℕ, zero, suc, ◌^◌, ◌<◌, ◌≤◌, List, [], ◌∷◌, length, get_or, slice_get, Some, None, refl, sym, ap, ◌∙◌, arith}
use Rattle.std.proofs.lemmas.List.{length-map, get_or_read}
use Rattle.event_pool.specs.declared.pool.TheConstants.{NONE}
use Rattle.event_pool.specs.declared.pool.Slot.{Slot}
use Rattle.event_pool.specs.declared.pool.Ends.{Ends}
use Rattle.std.proofs.Common.{replicate}
use Rattle.std.proofs.lemmas.List.{get_or-replicate, length-replicate}
use Rattle.event_pool.specs.Chain.{Stores, occurrences, total, slot_at, IsChain, places_of, items_of, IsLaidOut, IsLinked}
use Rattle.event_pool.proofs.ChainLemmas.{shown, shown-at, total-at, view-queues, queue_read, has_first}

module _ {E : Type 0} where
  -- no queue is longer than the slots
  pub queue_short : (slots : List (Slot E)) (ends : List Ends) (free spare : ℕ) (queues : List (List (ℕ × E))) (q : ℕ) → (l : IsLinked slots ends free spare queues) → q < length ends → length (places_of (get_or queues q [])) ≤ length slots
  queue_short slots ends free spare queues q l within =
      omega (arith, l.whole, l.counted, total-at length queues q (omega (arith, l.counted)), length-map (get_or queues q []) (λ (x : ℕ × E). x.0))

  -- the slots from a queue's head on are those of the queue
  pub laid_out : (slots : List (Slot E)) (ends : List Ends) (free spare : ℕ) (queues : List (List (ℕ × E))) (q : ℕ) (first : Ends) → (l : IsLinked slots ends free spare queues) → q < length ends → first ≡ get_or ends q first → IsLaidOut slots first.head (get_or queues q [])
  laid_out slots ends free spare queues q first l within is_first =
      let read = queue_read slots ends free spare queues q first l within is_first in
      record {
        linked = read.linked;
        stored = read.stored;
        short = omega (arith, queue_short slots ends free spare queues q l within, length-map (get_or queues q []) (λ (x : ℕ × E). x.0));
      }

  -- a queue has as many places as the view shows items
  pub queue_len : (slots : List (Slot E)) (ends : List Ends) (free spare : ℕ) (queues : List (List (ℕ × E))) (q : ℕ) → length slots < 2 ^ 64 → (l : IsLinked slots ends free spare queues) → q < length ends → length (places_of (get_or queues q [])) ≡ length (get_or (shown slots ends) q [])
  queue_len slots ends free spare queues q fits l within =
      length-map (get_or queues q []) (λ (x : ℕ × E). x.0) ∙ sym (length-map (get_or queues q []) (λ (x : ℕ × E). x.1)) ∙ ap length (sym (shown-at slots ends free spare q queues fits l within))

  -- the slot at a place of a queue stores the item at that place of the view
  pub record StoresAt (slots : List (Slot E)) (place k : ℕ) (items : List E) : Type 0 where
    pub inside : place < length slots
    pub item : E
    pub stored : (slot_at slots place).item ≡ Some item
    pub shows : slice_get items k ≡ Some item

  pub stores_at : (slots : List (Slot E)) (start : ℕ) (queue : List (ℕ × E)) (k : ℕ) → IsChain slots start (places_of queue) → Stores slots queue → k < length (places_of queue) → StoresAt slots (get_or (places_of queue) k 0) k (items_of queue)
  stores_at slots start [] k chain stored within = absurd (omega arith)
  stores_at slots start (x ∷ queue) zero chain stored within = record { inside = chain.1; item = x.1; stored = stored.0; shows = refl }
  stores_at slots start (x ∷ queue) (suc k) chain stored within =
      let rest = stores_at slots (slot_at slots x.0).next queue k chain.2 stored.1 (omega arith) in
      record { inside = rest.inside; item = rest.item; stored = rest.stored; shows = rest.shows }

  -- what is read at the place that a walk found
  pub record ReadsAt (slots : List (Slot E)) (place k : ℕ) (items : List E) : Type 0 where
    pub inside : place < length slots
    pub item : E
    pub stored : (slot : Slot E) → slot ≡ get_or slots place slot → slot.item ≡ Some item
    pub shows : slice_get items k ≡ Some item

  pub reads_at : (slots : List (Slot E)) (ends : List Ends) (free spare : ℕ) (queues : List (List (ℕ × E))) (q k : ℕ) (first : Ends) (place : ℕ) → length slots < 2 ^ 64 → (l : IsLinked slots ends free spare queues) → q < length ends → first ≡ get_or ends q first → k < length (get_or (shown slots ends) q []) →
      ((places : List ℕ) → IsChain slots first.head places → k < length places → place ≡ get_or places k 0) → ReadsAt slots place k (get_or (shown slots ends) q [])
  reads_at slots ends free spare queues q k first place fits l within is_first there walked =
      let queue = get_or queues q [] in
      let read = queue_read slots ends free spare queues q first l within is_first in
      let there' : k < length (places_of queue) = omega (arith, there, queue_len slots ends free spare queues q fits l within) in
      let at = stores_at slots first.head queue k read.linked read.stored there' in
      let found : place ≡ get_or (places_of queue) k 0 = walked (places_of queue) read.linked there' in
      let inside : place < length slots = omega (arith, at.inside, found) in
      record {
        inside = inside;
        item = at.item;
        stored = λ slot is. ap (λ (s : Slot E). s.item) (get_or_read slots place slot inside is (record { item = None; next = 0 })) ∙ ap (λ p. (slot_at slots p).item) found ∙ at.stored;
        shows = ap (λ es. slice_get es k) (shown-at slots ends free spare q queues fits l within) ∙ at.shows;
      }

  -- the item in the slot at a queue's head is the first that the view shows
  pub first_is : (slots : List (Slot E)) (ends : List Ends) (free spare : ℕ) (queues : List (List (ℕ × E))) (q : ℕ) (first : Ends) (slot : Slot E) → length slots < 2 ^ 64 → (l : IsLinked slots ends free spare queues) → q < length ends →
      first ≡ get_or ends q first → first.head ≢ NONE → slot ≡ get_or slots first.head slot → slot.item ≡ slice_get (get_or (shown slots ends) q []) 0
  first_is slots ends free spare queues q first slot fits l within is_first some is_slot =
      let h = has_first slots first (get_or queues q []) (queue_read slots ends free spare queues q first l within is_first) some in
      ap (λ (s : Slot E). s.item) (get_or_read slots first.head slot h.inside is_slot (record { item = None; next = 0 })) ∙ h.stored
      ∙ ap (λ es. slice_get es 0) (sym (shown-at slots ends free spare q queues fits l within ∙ ap items_of h.is))

  -- more free slots show the same queues
  pub shown-same : (slots slots' : List (Slot E)) (ends : List Ends) (free free' spare spare' : ℕ) (queues : List (List (ℕ × E))) → length slots < 2 ^ 64 → length slots' < 2 ^ 64 → IsLinked slots ends free spare queues → IsLinked slots' ends free' spare' queues → shown slots' ends ≡ shown slots ends
  shown-same slots slots' ends free free' spare spare' queues fits fits' l l' =
      view-queues slots' ends free' spare' queues fits' l' ∙ sym (view-queues slots ends free spare queues fits l)

  total-replicate : (measure : List (ℕ × E) → ℕ) (n : ℕ) → measure [] ≡ 0 → total measure (replicate n []) ≡ 0
  total-replicate measure zero none = refl
  total-replicate measure (suc n) none = omega (arith, total-replicate measure n none)

  -- empty queues and no slots
  pub IsLinked-new : (n : ℕ) → IsLinked {E = E} [] (replicate n (record { head = NONE; tail = NONE })) NONE 0 (replicate n [])
  IsLinked-new n = record {
    free_places = [];
    counted = length-replicate n [] ∙ sym (length-replicate n (record { head = NONE; tail = NONE }));
    each = λ q within.
        let inside : q < n = omega (arith, within, length-replicate n none) in
        rw (get_or-replicate n q none (record { head = 0; tail = 0 }) inside, get_or-replicate {A = List (ℕ × E)} n q [] [] inside)
        (record { linked = refl; stored = tt; last = λ some. absurd (omega arith) });
    free_linked = refl;
    spared = refl;
    once = λ place. omega (arith, total-replicate (λ qs. occurrences place (places_of qs)) n refl);
    whole = omega (arith, total-replicate length n refl);
  } where
    none : Ends
    none = record { head = NONE; tail = NONE }

  pub shown-new : (n : ℕ) → shown {E = E} [] (replicate n (record { head = NONE; tail = NONE })) ≡ replicate n []
  shown-new zero = refl
  shown-new (suc n) = ap (λ es. [] ∷ es) (shown-new n)
