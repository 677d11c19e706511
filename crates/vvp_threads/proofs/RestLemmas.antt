-- Who goes on rests, and stands once among those who go on.
use Rattle.std.proofs.Common.{◌≡◌, ℕ, suc, ◌+◌, ◌<◌, nat_eq, Bool, true, false, not, ◌||◌, cond, Option, Some, None, option_map, List, [], ◌∷◌, ◌++◌, filter, filter_map, refl, sym, ap, ◌∙◌, arith}
use Rattle.std.specs.List.{cons_option, list_any, AllByRecursion, IsDistinct}
use Rattle.std.proofs.lemmas.Bool.Decides.{nat_tests}
use Rattle.std.proofs.lemmas.Map.Keys.{IsDistinct-head, IsDistinct-cons}
use Rattle.vvp_threads.specs.declared.thread.Thread.{Thread}
use Rattle.vvp_threads.specs.Marks.{is_marked}
use Rattle.vvp_threads.specs.Table.{Table, slot_at, has, is_joining, running_first, outside, joiner_of, joiners_of, live_serials}
use Rattle.vvp_threads.specs.Disable.{disabled_marks, disabled_serials}
use Rattle.vvp_threads.specs.Kept.{IsSound}
use Rattle.vvp_threads.specs.Runs.{rests, RestIn}
use Rattle.vvp_threads.proofs.SlotLemmas.{no_some}
use Rattle.vvp_threads.proofs.QueueLemmas.{or_true, nat_eq-same, nat_eq-apart, distinct-rest, distinct-none, distinct-filter}
use Rattle.vvp_threads.proofs.SoundLemmas.{queue, queued_thread}
use Rattle.vvp_threads.proofs.JoinLemmas.{IsJoiner, joiner-is, is_joining-same}
use Rattle.vvp_threads.proofs.RunLemmas.{joining-rests}

-- ---- who waits for an event

all_none : (x : ℕ) (xs : List ℕ) → AllByRecursion (λ y. nat_eq x y ≡ false) xs → list_any (nat_eq x) xs ≡ false
all_none x [] all = refl
all_none x (y ∷ xs) all = ap (λ b. b || list_any (nat_eq x) xs) all.0 ∙ all_none x xs all.1

rest-some : (threads : List (Option Thread)) (queues : List (List ℕ)) (spare : ℕ) → IsSound threads queues spare → (event : ℕ) (serials : List ℕ) → IsDistinct nat_eq serials
    → ((k : ℕ) → has serials k ≡ true → has (queue queues event) k ≡ true) → RestIn threads serials
rest-some threads queues spare s event [] d within = tt
rest-some threads queues spare s event (serial ∷ serials) d within =
    let t = queued_thread threads queues spare s event serial (within serial (ap (λ b. b || has serials serial) (nat_eq-same serial))) in (
      (t.0, t.1, ap rests t.2),
      all_none serial serials (IsDistinct-head nat_eq serial serials d),
      rest-some threads queues spare s event serials (distinct-rest serial serials d) (λ k there. within k (ap (λ b. nat_eq serial k || b) there ∙ or_true (nat_eq serial k))),
    )

pub rest-queue : (threads : List (Option Thread)) (queues : List (List ℕ)) (spare : ℕ) → IsSound threads queues spare → (event : ℕ) → RestIn threads (queue queues event)
rest-queue threads queues spare s event = rest-some threads queues spare s event (queue queues event) (s.once event) (λ k there. there)

-- ---- who joins a member

abbrev goer : List (Option Thread) → List ℕ → ℕ → Option ℕ
goer threads members serial = outside members (joiner_of threads serial)

outside-is : (members : List ℕ) (j : Option ℕ) (q : ℕ) → outside members j ≡ Some q → j ≡ Some q
outside-is members None q e = absurd (no_some q e)
outside-is members (Some r) q e = test (has members r) e where
  test : (b : Bool) → cond b None (Some r) ≡ Some q → Some r ≡ Some q
  test true f = absurd (no_some q f)
  test false f = f

some_same : {X : Type 0} (x y : X) → Some x ≡ Some y → x ≡ y
some_same x y e = cc

not_both : true ≡ false → ⊥
not_both e = cc

-- who joins one thread joins no other
joins_one : (threads : List (Option Thread)) (a b p q : ℕ) → IsJoiner threads a p → IsJoiner threads b q → nat_eq a b ≡ false → p ≡ q → ⊥
joins_one threads a b p q i j differ same =
    let one = some_same i.joiner j.joiner (sym i.there ∙ ap (slot_at threads) same ∙ j.there) in
    let e : a ≡ b = is_joining-same i.joiner.state a b i.joins (ap (λ t. is_joining t.state b) one ∙ j.joins) in
    not_both (sym (nat_eq-same a) ∙ ap (nat_eq a) e ∙ differ)

apart-goers : (threads : List (Option Thread)) (members : List ℕ) (serial parent : ℕ) → IsJoiner threads serial parent → (some : List ℕ) → AllByRecursion (λ y. nat_eq serial y ≡ false) some
    → list_any (nat_eq parent) (filter_map (goer threads members) some) ≡ false
apart-goers threads members serial parent j [] all = refl
apart-goers threads members serial parent j (y ∷ some) all = cons (goer threads members y) refl (apart-goers threads members serial parent j some all.1) where
  cons : (o : Option ℕ) → goer threads members y ≡ o → list_any (nat_eq parent) (filter_map (goer threads members) some) ≡ false
      → list_any (nat_eq parent) (cons_option o (filter_map (goer threads members) some)) ≡ false
  cons None is rest = rest
  cons (Some q) is rest =
      let i = joiner-is threads y q (outside-is members (joiner_of threads y) q is) in
      ap (λ b. b || list_any (nat_eq parent) (filter_map (goer threads members) some)) (nat_eq-apart parent q (λ same. joins_one threads serial y parent q j i all.0 same)) ∙ rest

rest-goers : (threads : List (Option Thread)) (members some : List ℕ) → IsDistinct nat_eq some → RestIn threads (filter_map (goer threads members) some)
rest-goers threads members [] d = tt
rest-goers threads members (serial ∷ some) d = cons (goer threads members serial) refl (rest-goers threads members some (distinct-rest serial some d)) where
  cons : (o : Option ℕ) → goer threads members serial ≡ o → RestIn threads (filter_map (goer threads members) some) → RestIn threads (cons_option o (filter_map (goer threads members) some))
  cons None is rest = rest
  cons (Some q) is rest =
      let j = joiner-is threads serial q (outside-is members (joiner_of threads serial) q is) in
      ((j.joiner, j.there, joining-rests j.joiner.state serial j.joins), apart-goers threads members serial q j some (IsDistinct-head nat_eq serial some d), rest)

pub rest-joiners : (threads : List (Option Thread)) (members : List ℕ) → IsDistinct nat_eq members → RestIn threads (joiners_of threads members)
rest-joiners threads members d = rest-goers threads members members d

-- ---- the members of a disable, each once

-- each thread stands at its serial
abbrev pub AreNumberedFrom : ℕ → List (Option Thread) → Type 0
AreNumberedFrom first threads = (k : ℕ) (thread : Thread) → slot_at threads k ≡ Some thread → thread.serial ≡ first + k

abbrev pub serials_of : List (Option Thread) → List ℕ
serials_of threads = filter_map (λ slot. option_map (λ thread. thread.serial) slot) threads

above : (x first : ℕ) (threads : List (Option Thread)) → x < first → AreNumberedFrom first threads → AllByRecursion (λ y. nat_eq x y ≡ false) (serials_of threads)
above x first [] low at = tt
above x first (None ∷ threads) low at = above x (first + 1) threads (omega arith) (λ k t e. omega (arith, at (suc k) t e))
above x first (Some thread ∷ threads) low at =
    (nat_eq-apart x thread.serial (λ same. omega (arith, same, at 0 thread refl)), above x (first + 1) threads (omega arith) (λ k t e. omega (arith, at (suc k) t e)))

distinct-serials : (first : ℕ) (threads : List (Option Thread)) → AreNumberedFrom first threads → IsDistinct nat_eq (serials_of threads)
distinct-serials first [] at = distinct-none
distinct-serials first (None ∷ threads) at = distinct-serials (first + 1) threads (λ k t e. omega (arith, at (suc k) t e))
distinct-serials first (Some thread ∷ threads) at =
    let low : thread.serial < first + 1 = omega (arith, at 0 thread refl) in
    IsDistinct-cons nat_eq thread.serial (serials_of threads) (above thread.serial (first + 1) threads low (λ k t e. omega (arith, at (suc k) t e)))
    (distinct-serials (first + 1) threads (λ k t e. omega (arith, at (suc k) t e)))

not_running : (running : ℕ) (xs : List ℕ) → AllByRecursion (λ y. nat_eq running y ≡ false) (filter (λ serial. not (nat_eq serial running)) xs)
not_running running [] = tt
not_running running (x ∷ xs) = go (nat_eq x running) refl (not_running running xs) where
  go : (b : Bool) → nat_eq x running ≡ b → AllByRecursion (λ y. nat_eq running y ≡ false) (filter (λ serial. not (nat_eq serial running)) xs)
      → AllByRecursion (λ y. nat_eq running y ≡ false) (cond (not b) (x ∷ filter (λ serial. not (nat_eq serial running)) xs) (filter (λ serial. not (nat_eq serial running)) xs))
  go true is rest = rest
  go false is rest = (flipped, rest) where
    flipped : nat_eq running x ≡ false
    flipped = grind (arith, nat_tests)

distinct-running_first : (running : ℕ) (xs : List ℕ) → IsDistinct nat_eq xs → IsDistinct nat_eq (running_first running xs)
distinct-running_first running xs d = go (has xs running) (distinct-filter (λ serial. not (nat_eq serial running)) xs d) where
  go : (b : Bool) → IsDistinct nat_eq (filter (λ serial. not (nat_eq serial running)) xs) → IsDistinct nat_eq (cond b (running ∷ []) [] ++ filter (λ serial. not (nat_eq serial running)) xs)
  go true rest = IsDistinct-cons nat_eq running (filter (λ serial. not (nat_eq serial running)) xs) (not_running running xs) rest
  go false rest = rest

pub distinct-disabled : (table : Table) (running : ℕ) (scope_parents : List ℕ) (scope : ℕ) → AreNumberedFrom 0 table.threads → IsDistinct nat_eq (disabled_serials table running scope_parents scope)
distinct-disabled table running scope_parents scope at =
    let p = is_marked (disabled_marks table.threads scope_parents scope) in
    distinct-running_first running (filter p (live_serials table)) (distinct-filter p (live_serials table) (distinct-serials 0 table.threads at))
