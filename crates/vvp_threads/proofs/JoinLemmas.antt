-- The thread that joins another one.
use Rattle.std.proofs.Common.{◌≡◌, ◌≢◌, ℕ, Bool, true, false, cond, nat_eq, Option, Some, None, option_map, option_and_then, List, [], ◌∷◌, ◌++◌, refl, sym, ap, subst, ◌∙◌, arith, inl, inr, ◌⊎◌}
use Rattle.std.specs.Prelude.{option_to_list}
use Rattle.std.specs.List.{AllByRecursion}
use Rattle.std.proofs.lemmas.Bool.{cases_eq}
use Rattle.slab.specs.Slab.{Slab}
use Rattle.vvp_threads.specs.declared.places.Place.{Place}
use Rattle.vvp_threads.specs.declared.thread.Thread.{Thread}
use Rattle.vvp_threads.specs.declared.thread.ThreadState.{ThreadState}
use Rattle.vvp_threads.specs.declared.thread.ThreadState.TheVariants.{Ready, Waiting, Joining}
use Rattle.vvp_threads.specs.Table.{slot_at, changed_at, in_state, made_ready, is_joining, joining_parent, joiner_of, joiners_of}
use Rattle.vvp_threads.specs.Wake.{joining_place}
use Rattle.vvp_threads.specs.Kept.{threads_of, is_free, IsPlaced, IsSound}
use Rattle.vvp_threads.proofs.SlotLemmas.{no_some, changed_at-some, slot_at-changed_same, slot_at-changed_other}
use Rattle.vvp_threads.proofs.KeptLemmas.{under_seen}
use Rattle.vvp_threads.proofs.QueueLemmas.{nat_eq-apart, eq_same}
use Rattle.vvp_threads.proofs.SoundLemmas.{sound-written}

some_same : {X : Type 0} (x y : X) → Some x ≡ Some y → x ≡ y
some_same x y e = cc

-- a thread, its parent that joins it, and where both stand
pub record IsJoiner (threads : List (Option Thread)) (serial parent : ℕ) : Type 0 where
  pub child : Thread
  pub at : slot_at threads serial ≡ Some child
  pub parent_is : child.parent ≡ Some parent
  pub joiner : Thread
  pub there : slot_at threads parent ≡ Some joiner
  pub joins : is_joining joiner.state serial ≡ true

-- a free thread stands there
pub record IsFree (threads : List (Option Thread)) (serial : ℕ) : Type 0 where
  pub thread : Thread
  pub there : slot_at threads serial ≡ Some thread
  pub free : is_free thread.state ≡ true

joining_free : (state : ThreadState) (serial : ℕ) → is_joining state serial ≡ true → is_free state ≡ true
joining_free Ready serial e = refl
joining_free (Waiting event) serial e = absurd (let never : false ≡ true = e in cc)
joining_free (Joining child) serial e = refl

module _ (threads : List (Option Thread)) (serial : ℕ) where
  parent_joins : (parent p : ℕ) → joining_parent threads serial (Some p) ≡ Some parent → (p ≡ parent) × (joiner : Thread) × (slot_at threads parent ≡ Some joiner) × (is_joining joiner.state serial ≡ true)
  parent_joins parent p e = go (slot_at threads p) refl e where
    test : (thread : Thread) (b : Bool) → is_joining thread.state serial ≡ b → slot_at threads p ≡ Some thread → cond b (Some p) None ≡ Some parent → (p ≡ parent) × (joiner : Thread) × (slot_at threads parent ≡ Some joiner) × (is_joining joiner.state serial ≡ true)
    test thread true is there e = let same = some_same p parent e in (same, thread, ap (slot_at threads) (sym same) ∙ there, is)
    test thread false is there e = absurd (no_some parent e)

    go : (slot : Option Thread) → slot_at threads p ≡ slot → option_and_then (λ thread. cond (is_joining thread.state serial) (Some p) None) slot ≡ Some parent → (p ≡ parent) × (joiner : Thread) × (slot_at threads parent ≡ Some joiner) × (is_joining joiner.state serial ≡ true)
    go None there e = absurd (no_some parent e)
    go (Some thread) there e = test thread (is_joining thread.state serial) refl there e

  pub joiner-is : (parent : ℕ) → joiner_of threads serial ≡ Some parent → IsJoiner threads serial parent
  joiner-is parent e = go (slot_at threads serial) refl e where
    from : (child : Thread) (p : Option ℕ) → slot_at threads serial ≡ Some child → child.parent ≡ p → joining_parent threads serial p ≡ Some parent → IsJoiner threads serial parent
    from child None at is e = absurd (no_some parent e)
    from child (Some p) at is e = let r = parent_joins parent p e in record { child = child; at = at; parent_is = is ∙ ap Some r.0; joiner = r.1; there = r.2; joins = r.3 }

    go : (slot : Option Thread) → slot_at threads serial ≡ slot → option_and_then (λ thread. joining_parent threads serial thread.parent) slot ≡ Some parent → IsJoiner threads serial parent
    go None at e = absurd (no_some parent e)
    go (Some child) at e = from child child.parent at refl e

  pub joiner-free : (parent : ℕ) → IsJoiner threads serial parent → IsFree threads parent
  joiner-free parent j = record { thread = j.joiner; there = j.there; free = joining_free j.joiner.state serial j.joins }

-- the place of the thread that joins, and its serial
pub joiner-place : (slots : List (Option Place)) (slab : Slab Thread) → IsPlaced slots slab → (serial : ℕ) → option_map (λ place. place.serial) (joining_place slots (threads_of slots slab) serial) ≡ joiner_of (threads_of slots slab) serial
joiner-place slots slab p serial = go (joiner_of (threads_of slots slab) serial) refl where
  go : (j : Option ℕ) → joiner_of (threads_of slots slab) serial ≡ j → option_map (λ place. place.serial) (option_and_then (slot_at slots) (joiner_of (threads_of slots slab) serial)) ≡ joiner_of (threads_of slots slab) serial
  go None e = ap (λ j. option_map (λ place. place.serial) (option_and_then (slot_at slots) j)) e ∙ sym e
  go (Some parent) e =
      let j = joiner-is (threads_of slots slab) serial parent e in
      let u = under_seen slots slab p parent j.joiner j.there in
      ap (λ j. option_map (λ place. place.serial) (option_and_then (slot_at slots) j)) e ∙ ap (option_map (λ place. place.serial)) u.1 ∙ ap Some (p.placed parent u.0 u.1).0 ∙ sym e

-- a free thread stays free while free ones become ready
free_kept : (threads : List (Option Thread)) (serial other : ℕ) → IsFree threads serial → IsFree threads other → IsFree (changed_at threads serial (in_state Ready)) other
free_kept threads serial other f g = go (cases_eq other serial) where
  go : (other ≡ serial) ⊎ (other ≢ serial) → IsFree (changed_at threads serial (in_state Ready)) other
  go (inl same) = record { thread = in_state Ready f.thread; there = ap (slot_at (changed_at threads serial (in_state Ready))) same ∙ slot_at-changed_same threads serial (in_state Ready) ∙ ap (option_map (in_state Ready)) f.there; free = refl }
  go (inr differ) = record { thread = g.thread; there = slot_at-changed_other threads serial other (in_state Ready) differ ∙ g.there; free = g.free }

all_free : (threads : List (Option Thread)) (serial : ℕ) → IsFree threads serial → (serials : List ℕ) → AllByRecursion (IsFree threads) serials → AllByRecursion (IsFree (changed_at threads serial (in_state Ready))) serials
all_free threads serial f [] all = tt
all_free threads serial f (other ∷ serials) all = (free_kept threads serial other f all.0, all_free threads serial f serials all.1)

not_free : (event : ℕ) (state : ThreadState) → is_free state ≡ true → state ≡ Waiting event → ⊥
not_free event state free e = let never : false ≡ true = ap is_free (sym e) ∙ free in cc

-- threads that don't wait for an event become ready, and all stays sound
pub sound-ready : (serials : List ℕ) (threads : List (Option Thread)) (queues : List (List ℕ)) (spare : ℕ) → AllByRecursion (IsFree threads) serials → IsSound threads queues spare → IsSound (made_ready serials threads) queues spare
sound-ready [] threads queues spare all s = s
sound-ready (serial ∷ serials) threads queues spare all s =
    let f = all.0 in
    let w = sound-written threads queues spare s serial f.thread f.there (in_state Ready f.thread) refl (sym f.free)
    (λ event e. absurd (not_free event f.thread.state f.free e)) (λ event e. absurd (not_free event Ready refl e)) in
    let P : List (Option Thread) → Type 0 = λ ts. IsSound ts queues spare in
    sound-ready serials (changed_at threads serial (in_state Ready)) queues spare (all_free threads serial f serials all.1) (subst P (sym (changed_at-some threads serial f.thread (in_state Ready) f.there)) w)

module _ (threads : List (Option Thread)) (queues : List (List ℕ)) (spare : ℕ) (s : IsSound threads queues spare) (serial : ℕ) where
  -- nobody joins himself
  pub joiners-one : joiners_of threads (serial ∷ []) ≡ option_to_list (joiner_of threads serial)
  joiners-one = go (joiner_of threads serial) refl where
    go : (j : Option ℕ) → joiner_of threads serial ≡ j → joiners_of threads (serial ∷ []) ≡ option_to_list (joiner_of threads serial)
    go None e = rw e refl
    go (Some parent) e =
        let j = joiner-is threads serial parent e in
        let low = s.below serial parent j.child j.at j.parent_is in
        let apart : nat_eq serial parent ≡ false = nat_eq-apart serial parent (λ same. omega arith) in
        rw (e, apart) refl

  pub joiner-all_free : AllByRecursion (IsFree threads) (option_to_list (joiner_of threads serial))
  joiner-all_free = go (joiner_of threads serial) refl where
    go : (j : Option ℕ) → joiner_of threads serial ≡ j → AllByRecursion (IsFree threads) (option_to_list j)
    go None e = tt
    go (Some parent) e = (joiner-free threads serial parent (joiner-is threads serial parent e), tt)

pub made_ready-append : (js ks : List ℕ) (threads : List (Option Thread)) → made_ready (js ++ ks) threads ≡ made_ready ks (made_ready js threads)
made_ready-append [] ks threads = refl
made_ready-append (j ∷ js) ks threads = made_ready-append js ks (changed_at threads j (in_state Ready))

pub is_joining-same : (state : ThreadState) (a b : ℕ) → is_joining state a ≡ true → is_joining state b ≡ true → a ≡ b
is_joining-same Ready a b e f = absurd (let never : false ≡ true = e in cc)
is_joining-same (Waiting event) a b e f = absurd (let never : false ≡ true = e in cc)
is_joining-same (Joining child) a b e f = sym (eq_same child a e) ∙ eq_same child b f

not_true : (b : Bool) → (b ≡ true → ⊥) → b ≡ false
not_true true h = absurd (h refl)
not_true false h = refl

-- who joins another thread stays the one when a joiner goes on
module _ (threads : List (Option Thread)) (done parent : ℕ) (j : IsJoiner threads done parent) (serial : ℕ) (differ : serial ≢ done) where
  abbrev next : List (Option Thread)
  next = changed_at threads parent (in_state Ready)

  parent_kept : (p : Option ℕ) → joining_parent next serial p ≡ joining_parent threads serial p
  parent_kept None = refl
  parent_kept (Some q) = go (cases_eq q parent) where
    go : (q ≡ parent) ⊎ (q ≢ parent) → option_and_then (λ thread. cond (is_joining thread.state serial) (Some q) None) (slot_at next q) ≡ option_and_then (λ thread. cond (is_joining thread.state serial) (Some q) None) (slot_at threads q)
    go (inl same) =
        let other : is_joining j.joiner.state serial ≡ false = not_true (is_joining j.joiner.state serial) (λ f. differ (is_joining-same j.joiner.state serial done f j.joins)) in
        ap (λ slot. option_and_then (λ thread. cond (is_joining thread.state serial) (Some q) None) slot) (ap (slot_at next) same ∙ slot_at-changed_same threads parent (in_state Ready) ∙ ap (option_map (in_state Ready)) j.there)
        ∙ sym (ap (λ slot. option_and_then (λ thread. cond (is_joining thread.state serial) (Some q) None) slot) (ap (slot_at threads) same ∙ j.there) ∙ ap (λ b. cond b (Some q) None) other)
    go (inr apart) = ap (λ slot. option_and_then (λ thread. cond (is_joining thread.state serial) (Some q) None) slot) (slot_at-changed_other threads parent q (in_state Ready) apart)

  pub joiner-kept : joiner_of next serial ≡ joiner_of threads serial
  joiner-kept = go (cases_eq serial parent) where
    each : (slot : Option Thread) → option_and_then (λ thread. joining_parent next serial thread.parent) slot ≡ option_and_then (λ thread. joining_parent threads serial thread.parent) slot
    each None = refl
    each (Some thread) = parent_kept thread.parent

    go : (serial ≡ parent) ⊎ (serial ≢ parent) → joiner_of next serial ≡ joiner_of threads serial
    go (inl same) =
        ap (λ slot. option_and_then (λ thread. joining_parent next serial thread.parent) slot) (ap (slot_at next) same ∙ slot_at-changed_same threads parent (in_state Ready) ∙ ap (option_map (in_state Ready)) j.there)
        ∙ parent_kept j.joiner.parent
        ∙ sym (ap (λ slot. option_and_then (λ thread. joining_parent threads serial thread.parent) slot) (ap (slot_at threads) same ∙ j.there))
    go (inr apart) = ap (λ slot. option_and_then (λ thread. joining_parent next serial thread.parent) slot) (slot_at-changed_other threads parent serial (in_state Ready) apart) ∙ each (slot_at threads serial)
