-- Ending the threads of a scope.
use Rattle.std.proofs.Common.{◌≡◌, ◌≢◌, ℕ, suc, nat_eq, Bool, true, false, not, ◌||◌, cond, Option, Some, None, option_map, option_and_then, List, [], ◌∷◌, map, filter, filter_map, refl, sym, ap, subst, ◌∙◌, inl, inr, ◌⊎◌}
use Rattle.std.specs.List.{cons_option, AllByRecursion}
use Rattle.std.proofs.lemmas.List.{length-map}
use Rattle.std.proofs.lemmas.Bool.{cases_eq}
use Rattle.slab.specs.Slab.{Slab, get}
use Rattle.vvp_threads.specs.declared.places.Place.{Place}
use Rattle.vvp_threads.specs.declared.thread.Thread.{Thread}
use Rattle.vvp_threads.specs.Marks.{is_marked}
use Rattle.vvp_threads.specs.Places.{unmarked}
use Rattle.vvp_threads.specs.Table.{slot_at, has, emptied, made_ready, running_first, outside, joiner_of, joiners_of, without}
use Rattle.vvp_threads.specs.Keyed.{KeyedTable}
use Rattle.vvp_threads.specs.Kept.{thread_at, threads_of, keys_of, kept_as, IsPlaced, IsSound, LeavesOut}
use Rattle.vvp_threads.specs.Wake.{unmarked_serial, unmarked_joiner, marked_serials, is_place_marked, marked_by}
use Rattle.vvp_threads.proofs.SlotLemmas.{no_some, same_slots, slot_at-map, map-emptied, emptied-same}
use Rattle.vvp_threads.proofs.KeptLemmas.{slot_at-threads, length-threads, slot_at-keys, length-keys, under_seen}
use Rattle.vvp_threads.proofs.QueueLemmas.{has-append, has-filter, nat_eq-same, nat_eq-apart, eq_same}
use Rattle.vvp_threads.proofs.JoinLemmas.{IsFree, joiner-is, joiner-free, sound-ready}
use Rattle.vvp_threads.proofs.ResumeLemmas.{AreAt, has-marked}
use Rattle.vvp_threads.proofs.LeaveLemmas.{emptied-marked}

some_same : {X : Type 0} (x y : X) → Some x ≡ Some y → x ≡ y
some_same x y e = cc

-- the running one first: the same members
pub filter_keeps : (p : ℕ → Bool) (xs : List ℕ) (k : ℕ) → p k ≡ true → has (filter p xs) k ≡ has xs k
filter_keeps p [] k e = refl
filter_keeps p (x ∷ xs) k e = go (p x) refl (nat_eq x k) refl (filter_keeps p xs k e) where
  go : (b : Bool) → p x ≡ b → (d : Bool) → nat_eq x k ≡ d → has (filter p xs) k ≡ has xs k → has (cond b (x ∷ filter p xs) (filter p xs)) k ≡ nat_eq x k || has xs k
  go true is d same rest = ap (λ c. nat_eq x k || c) rest
  go false is true same rest = absurd (let never : true ≡ false = sym e ∙ ap p (sym (eq_same x k same)) ∙ is in cc)
  go false is false same rest = rest ∙ ap (λ c. c || has xs k) (sym same)

filter_drops : (p : ℕ → Bool) (xs : List ℕ) (k : ℕ) → p k ≡ false → has (filter p xs) k ≡ false
filter_drops p xs k e = go (has (filter p xs) k) refl where
  go : (b : Bool) → has (filter p xs) k ≡ b → has (filter p xs) k ≡ false
  go false is = is
  go true is = absurd (let r = has-filter p xs k is in let never : true ≡ false = sym r.1 ∙ e in cc)

pub has-running_first : (running : ℕ) (xs : List ℕ) (k : ℕ) → has (running_first running xs) k ≡ has xs k
has-running_first running xs k = has-append (cond (has xs running) (running ∷ []) []) (filter (λ serial. not (nat_eq serial running)) xs) k ∙ go (cases_eq k running) where
  first : (b : Bool) → nat_eq running running ≡ true → has (cond b (running ∷ []) []) running ≡ b
  first true e = ap (λ c. c || false) e
  first false e = refl

  other : (b : Bool) → nat_eq running k ≡ false → has (cond b (running ∷ []) []) k ≡ false
  other true e = ap (λ c. c || false) e
  other false e = refl

  no_more : (b : Bool) → b || false ≡ b
  no_more true = refl
  no_more false = refl

  go : (k ≡ running) ⊎ (k ≢ running) → has (cond (has xs running) (running ∷ []) []) k || has (filter (λ serial. not (nat_eq serial running)) xs) k ≡ has xs k
  go (inl is) =
      ap (λ c. has (cond (has xs running) (running ∷ []) []) k || c) (filter_drops (λ serial. not (nat_eq serial running)) xs k (ap (λ j. not (nat_eq j running)) is ∙ ap not (nat_eq-same running)))
      ∙ no_more (has (cond (has xs running) (running ∷ []) []) k) ∙ ap (has (cond (has xs running) (running ∷ []) [])) is ∙ first (has xs running) (nat_eq-same running) ∙ ap (has xs) (sym is)
  go (inr differ) =
      ap (λ c. c || has (filter (λ serial. not (nat_eq serial running)) xs) k) (other (has xs running) (nat_eq-apart running k (λ same. differ (sym same))))
      ∙ filter_keeps (λ serial. not (nat_eq serial running)) xs k (ap not (nat_eq-apart k running differ))

map_agree : {X Y : Type 0} (f g : X → Y) → ((x : X) → f x ≡ g x) → (xs : List X) → map f xs ≡ map g xs
map_agree f g e [] = refl
map_agree f g e (x ∷ xs) = ap (λ y. y ∷ map f xs) (e x) ∙ ap (λ ys. g x ∷ ys) (map_agree f g e xs)

filter_same : (p q : ℕ → Bool) → ((x : ℕ) → p x ≡ q x) → (xs : List ℕ) → filter p xs ≡ filter q xs
filter_same p q e [] = refl
filter_same p q e (x ∷ xs) = ap (λ b. cond b (x ∷ filter p xs) (filter p xs)) (e x) ∙ ap (λ ys. cond (q x) (x ∷ ys) ys) (filter_same p q e xs)

filter_map_agree : (f g : ℕ → Option ℕ) → ((x : ℕ) → f x ≡ g x) → (xs : List ℕ) → filter_map f xs ≡ filter_map g xs
filter_map_agree f g e [] = refl
filter_map_agree f g e (x ∷ xs) = ap (λ o. cons_option o (filter_map f xs)) (e x) ∙ ap (cons_option (g x)) (filter_map_agree f g e xs)

module _ (slots : List (Option Place)) (slab : Slab Thread) (p : IsPlaced slots slab) (marks : List Bool) where
  abbrev f : Place → Place
  f = marked_by marks

  abbrev marked_slots : List (Option Place)
  marked_slots = map (option_map f) slots

  -- the places with their marks: the threads and the keys stay
  pub record Marked (new : List (Option Place)) : Type 0 where
    pub placed : IsPlaced new slab
    pub threads : threads_of new slab ≡ threads_of slots slab
    pub keys : keys_of new ≡ keys_of slots
    pub serials : marked_serials new ≡ filter (is_marked marks) (filter_map (λ slot. option_map (λ thread. thread.serial) slot) (threads_of slots slab))

  slot_marked : (k : ℕ) → slot_at marked_slots k ≡ option_map f (slot_at slots k)
  slot_marked k = slot_at-map (option_map f) refl slots k

  threads_marked : threads_of marked_slots slab ≡ threads_of slots slab
  threads_marked = same_slots (threads_of marked_slots slab) (threads_of slots slab) (length-threads marked_slots slab ∙ length-map slots (option_map f) ∙ sym (length-threads slots slab)) (λ k.
      slot_at-threads marked_slots slab k ∙ ap (thread_at slab) (slot_marked k) ∙ each (slot_at slots k) ∙ sym (slot_at-threads slots slab k)) where
        each : (slot : Option Place) → thread_at slab (option_map f slot) ≡ thread_at slab slot
        each None = refl
        each (Some place) = refl

  keys_marked : keys_of marked_slots ≡ keys_of slots
  keys_marked = same_slots (keys_of marked_slots) (keys_of slots) (length-keys marked_slots ∙ length-map slots (option_map f) ∙ sym (length-keys slots)) (λ k.
      slot_at-keys marked_slots k ∙ ap (option_map (λ place. place.key)) (slot_marked k) ∙ each (slot_at slots k) ∙ sym (slot_at-keys slots k)) where
        each : (slot : Option Place) → option_map (λ (place : Place). place.key) (option_map f slot) ≡ option_map (λ (place : Place). place.key) slot
        each None = refl
        each (Some place) = refl

  placed_marked : IsPlaced marked_slots slab
  placed_marked = record { placed = λ serial place e. at serial place (slot_at slots serial) refl (sym (slot_marked serial) ∙ e); found = λ key thread e. let r = p.found key thread e in (f r.0, slot_marked thread.serial ∙ ap (option_map f) r.1, r.2) } where
    at : (serial : ℕ) (place : Place) (slot : Option Place) → slot_at slots serial ≡ slot → option_map f slot ≡ Some place → (place.serial ≡ serial) × (thread : Thread) × (get slab place.key ≡ Some thread) × (thread.serial ≡ serial)
    at serial place None is e = absurd (no_some place e)
    at serial place (Some q) is e =
        let same : f q ≡ place = some_same (f q) place e in
        let r = p.placed serial q is in
        (ap (λ t. t.serial) (sym same) ∙ r.0, r.1, ap (λ t. get slab t.key) (sym same) ∙ r.2, r.3)

  serials_marked : (some : List (Option Place)) → ((k : ℕ) (q : Place) → slot_at some k ≡ Some q → (thread : Thread) × (get slab q.key ≡ Some thread) × (thread.serial ≡ q.serial))
      → marked_serials (map (option_map f) some) ≡ filter (is_marked marks) (filter_map (λ slot. option_map (λ thread. thread.serial) slot) (map (thread_at slab) some))
  serials_marked [] at = refl
  serials_marked (None ∷ some) at = serials_marked some (λ k q e. at (suc k) q e)
  serials_marked (Some q ∷ some) at =
      let t = at 0 q refl in
      let rest = serials_marked some (λ k r e. at (suc k) r e) in
      let more : List ℕ = filter_map (λ slot. option_map (λ thread. thread.serial) slot) (map (thread_at slab) some) in
      ap (λ ys. cond (is_marked marks q.serial) (q.serial ∷ ys) ys) rest
      ∙ ap (λ k. cond (is_marked marks k) (k ∷ filter (is_marked marks) more) (filter (is_marked marks) more)) (sym t.2)
      ∙ ap (λ o. filter (is_marked marks) (cons_option (option_map (λ (thread : Thread). thread.serial) o) more)) (sym t.1)

  all_marked : marked_serials marked_slots ≡ filter (is_marked marks) (filter_map (λ slot. option_map (λ thread. thread.serial) slot) (threads_of slots slab))
  unfolding threads_of
  all_marked = serials_marked slots (λ k q e. let r = p.placed k q e in (r.1, r.2, r.3 ∙ sym r.0))

  pub marked : Marked marked_slots
  marked = record { placed = placed_marked; threads = threads_marked; keys = keys_marked; serials = all_marked }

module _ (slots : List (Option Place)) (slab : Slab Thread) (p : IsPlaced slots slab) (running : ℕ) where
  abbrev members : List ℕ
  members = running_first running (marked_serials slots)

  are_at : AreAt slots
  are_at serial place e = (p.placed serial place e).0

  -- who joins a member and isn't one
  outside_unmarked : (serial : ℕ) → outside members (joiner_of (threads_of slots slab) serial) ≡ unmarked_joiner slots (threads_of slots slab) serial
  outside_unmarked serial = go (joiner_of (threads_of slots slab) serial) refl where
    test : (parent : ℕ) (place : Place) → slot_at slots parent ≡ Some place → cond (has members parent) None (Some parent) ≡ unmarked_serial (slot_at slots parent)
    test parent place e =
        ap (λ b. cond b None (Some parent)) (has-running_first running (marked_serials slots) parent ∙ has-marked slots are_at parent)
        ∙ ap (λ slot. cond (is_place_marked slot) None (Some parent)) e
        ∙ ap (λ k. cond place.marked None (Some k)) (sym (are_at parent place e))
        ∙ sym (ap unmarked_serial e)

    go : (j : Option ℕ) → joiner_of (threads_of slots slab) serial ≡ j → outside members (joiner_of (threads_of slots slab) serial) ≡ unmarked_serial (option_and_then (slot_at slots) (joiner_of (threads_of slots slab) serial))
    go None e = ap (outside members) e ∙ sym (ap (λ j. unmarked_serial (option_and_then (slot_at slots) j)) e)
    go (Some parent) e =
        let j = joiner-is (threads_of slots slab) serial parent e in
        let u = under_seen slots slab p parent j.joiner j.there in
        ap (outside members) e ∙ test parent u.0 u.1 ∙ sym (ap (λ j. unmarked_serial (option_and_then (slot_at slots) j)) e)

  pub joiners-unmarked : joiners_of (threads_of slots slab) members ≡ filter_map (unmarked_joiner slots (threads_of slots slab)) members
  joiners-unmarked = filter_map_agree (λ serial. outside members (joiner_of (threads_of slots slab) serial)) (unmarked_joiner slots (threads_of slots slab)) outside_unmarked members

  outside_free : (serial : ℕ) (o : Option ℕ) → outside members (joiner_of (threads_of slots slab) serial) ≡ o → AllByRecursion (IsFree (threads_of slots slab)) (cons_option o [])
  outside_free serial None e = tt
  outside_free serial (Some k) e = go (joiner_of (threads_of slots slab) serial) refl e where
    test : (parent : ℕ) → joiner_of (threads_of slots slab) serial ≡ Some parent → (b : Bool) → cond b None (Some parent) ≡ Some k → AllByRecursion (IsFree (threads_of slots slab)) (cons_option (Some k) [])
    test parent is true e = absurd (no_some k e)
    test parent is false e = (let same = some_same parent k e in subst (IsFree (threads_of slots slab)) same (joiner-free (threads_of slots slab) serial parent (joiner-is (threads_of slots slab) serial parent is)), tt)

    go : (j : Option ℕ) → joiner_of (threads_of slots slab) serial ≡ j → outside members j ≡ Some k → AllByRecursion (IsFree (threads_of slots slab)) (cons_option (Some k) [])
    go None is e = absurd (no_some k e)
    go (Some parent) is e = test parent is (has members parent) e

  free_cons : (o : Option ℕ) (ks : List ℕ) → AllByRecursion (IsFree (threads_of slots slab)) (cons_option o []) → AllByRecursion (IsFree (threads_of slots slab)) ks → AllByRecursion (IsFree (threads_of slots slab)) (cons_option o ks)
  free_cons None ks a b = b
  free_cons (Some k) ks a b = (a.0, b)

  -- they don't wait for an event
  pub joiners-free : (some : List ℕ) → AllByRecursion (IsFree (threads_of slots slab)) (filter_map (λ serial. outside members (joiner_of (threads_of slots slab) serial)) some)
  joiners-free [] = tt
  joiners-free (serial ∷ some) = free_cons (outside members (joiner_of (threads_of slots slab) serial)) (filter_map (λ serial. outside members (joiner_of (threads_of slots slab) serial)) some) (outside_free serial (outside members (joiner_of (threads_of slots slab) serial)) refl) (joiners-free some)

  module _ (queues : List (List ℕ)) (spare : ℕ) (s : IsSound (threads_of slots slab) queues spare) (ready : Slab Thread) (r : threads_of slots ready ≡ made_ready (filter_map (unmarked_joiner slots (threads_of slots slab)) members) (threads_of slots slab)) where
    ready_is : threads_of slots ready ≡ made_ready (joiners_of (threads_of slots slab) members) (threads_of slots slab)
    ready_is = r ∙ ap (λ js. made_ready js (threads_of slots slab)) (sym joiners-unmarked)

    pub joined_sound : IsSound (threads_of slots ready) queues spare
    joined_sound =
        let P : List (Option Thread) → Type 0 = λ ts. IsSound ts queues spare in
        subst P (sym ready_is) (sound-ready (joiners_of (threads_of slots slab) members) (threads_of slots slab) queues spare (joiners-free members) s)

    module _ (new : Slab Thread) (queues' : List (List ℕ)) (spare' : ℕ) (l : LeavesOut slots (marked_serials slots) ready queues new queues' spare') where
      left_is : emptied (marked_serials slots) slots ≡ map unmarked slots
      left_is = emptied-marked slots are_at

      pub left_placed : IsPlaced (map unmarked slots) new
      left_placed = let P : List (Option Place) → Type 0 = λ t. IsPlaced t new in subst P left_is l.placed

      pub left_sound : IsSound (threads_of (map unmarked slots) new) queues' spare'
      left_sound = let P : List (Option Place) → Type 0 = λ t. IsSound (threads_of t new) queues' spare' in subst P left_is l.sound

      same_members : (k : ℕ) → has (marked_serials slots) k ≡ has members k
      same_members k = sym (has-running_first running (marked_serials slots) k)

      keys_left : keys_of (map unmarked slots) ≡ emptied members (keys_of slots)
      unfolding keys_of
      keys_left = ap keys_of (sym left_is) ∙ map-emptied (option_map (λ place. place.key)) refl (marked_serials slots) slots ∙ emptied-same (marked_serials slots) members (keys_of slots) same_members

      pub left_view : kept_as (map unmarked slots) new queues' ≡ record { table = without (record { threads = threads_of slots slab; waiting = queues }) members; keys = emptied members (keys_of slots) }
      left_view =
          let shape : List (Option Thread) → List (List ℕ) → List (Option ℕ) → KeyedTable = λ ts qs ks. record { table = record { threads = ts; waiting = qs }; keys = ks } in
          let after = made_ready (joiners_of (threads_of slots slab) members) (threads_of slots slab) in
          ap (λ ts. shape ts queues' (keys_of (map unmarked slots)))
          (ap (λ t. threads_of t new) (sym left_is) ∙ l.threads ∙ ap (emptied (marked_serials slots)) ready_is ∙ emptied-same (marked_serials slots) members after same_members)
          ∙ ap (λ qs. shape (emptied members after) qs (keys_of (map unmarked slots)))
          (l.left ∙ map_agree (filter (λ serial. not (has (marked_serials slots) serial))) (filter (λ serial. not (has members serial))) (filter_same (λ serial. not (has (marked_serials slots) serial)) (λ serial. not (has members serial)) (λ k. ap not (same_members k))) queues)
          ∙ ap (shape (emptied members after) (map (filter (λ serial. not (has members serial))) queues)) keys_left
