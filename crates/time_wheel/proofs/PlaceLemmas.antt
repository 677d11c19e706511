-- In which queue the dues of a turn stand, and what that says of their order.
use Rattle.std.proofs.Common.{◌≡◌, ◌≢◌, ℕ, zero, suc, ◌+◌, ◌*◌, ◌/◌, ◌%◌, ◌<◌, ◌⊎◌, inl, inr, Bool, true, false, cond, nat_eq, nat_lt, List, [], ◌∷◌, ◌++◌, length, get_or, set, refl, sym, ap, subst, ◌∙◌, arith}
use Rattle.std.specs.List.{AllByRecursion}
use Rattle.std.proofs.lemmas.List.{append-nil, get_or-set_same, get_or-set_other, length-set}
use Rattle.std.proofs.lemmas.List.Elements.{filter-append}
use Rattle.std.proofs.lemmas.Bool.{cases_eq}
use Rattle.std.proofs.lemmas.Bool.Decides.{nat_tests}
use Rattle.event_pool.specs.declared.agenda.Region.{Region}
use Rattle.event_pool.specs.declared.agenda.Region.TheVariants.{Active, Inactive, Nonblocking}
use Rattle.event_pool.specs.declared.agenda.Due.{Due}
use Rattle.event_pool.specs.Order.{rank_of, turn_of, in_order}
use Rattle.event_pool.proofs.OrderLemmas.{at_key, sorted_same}
use Rattle.time_wheel.specs.TimeWheel.{queue_for, IsPlaced, IsWheel, joined}
use Rattle.time_wheel.specs.Queues.{pushed}
use Rattle.time_wheel.specs.declared.queues.TheConstants.{QUEUES}
use Rattle.time_wheel.proofs.JoinedLemmas.{filter-only}

-- the region of a rank
abbrev region_at : ℕ → Region
region_at zero = Active
region_at (suc zero) = Inactive
region_at (suc (suc _)) = Nonblocking

-- the queue of the dues of a turn
abbrev pub place : ℕ → ℕ → ℕ
place now turn = queue_for (region_at (turn % 3)) now (turn / 3)

region_at-rank : (region : Region) (time : ℕ) → region_at ((3 * time + rank_of region) % 3) ≡ region
region_at-rank Active time = let e : (3 * time + 0) % 3 ≡ 0 = omega arith in rw e refl
region_at-rank Inactive time = let e : (3 * time + 1) % 3 ≡ 1 = omega arith in rw e refl
region_at-rank Nonblocking time = let e : (3 * time + 2) % 3 ≡ 2 = omega arith in rw e refl

time_at-rank : (region : Region) (time : ℕ) → (3 * time + rank_of region) / 3 ≡ time
time_at-rank Active time = omega arith
time_at-rank Inactive time = omega arith
time_at-rank Nonblocking time = omega arith

-- a due's queue is that of its turn
pub place-turn : (now : ℕ) (due : Due) → place now (turn_of due) ≡ queue_for due.region now due.time
place-turn now due =
    ap (λ region. queue_for region now (turn_of due / 3)) (region_at-rank due.region due.time)
    ∙ ap (λ time. queue_for due.region now time) (time_at-rank due.region due.time)

-- no due of the turn stands in another queue
pub none_of_turn : (now q n : ℕ) (dues : List Due) → AllByRecursion (IsPlaced now q) dues → place now n ≢ q → at_key turn_of n dues ≡ []
none_of_turn now q n [] all other = refl
none_of_turn now q n (due ∷ dues) all other = go (nat_eq (turn_of due) n) refl (none_of_turn now q n dues all.1 other) where
  go : (b : Bool) → nat_eq (turn_of due) n ≡ b → at_key turn_of n dues ≡ [] → cond b (due ∷ at_key turn_of n dues) (at_key turn_of n dues) ≡ []
  go true is rest =
      let same : turn_of due ≡ n = grind (arith, nat_tests) in
      absurd (other (ap (place now) (sym same) ∙ place-turn now due ∙ all.0.1))
  go false is rest = rest

-- the dues of a turn are those of its queue
pub only_of_turn : (now n : ℕ) (queues : List (List Due)) → IsWheel now queues → at_key turn_of n (joined queues) ≡ at_key turn_of n (get_or queues (place now n) [])
only_of_turn now n queues wheel =
    filter-only (λ due. nat_eq (turn_of due) n) queues (place now n) (λ k within other.
    none_of_turn now k n (get_or queues k []) (wheel.placed k (omega (arith, wheel.counted))) (λ e. other (sym e)))

-- the queues with other dues in one of them, which stand there
pub wheel-set : (now q : ℕ) (queues : List (List Due)) (dues : List Due) → IsWheel now queues → AllByRecursion (IsPlaced now q) dues → IsWheel now (set queues q dues)
wheel-set now q queues dues wheel all = record {
  counted = length-set queues q dues ∙ wheel.counted;
  placed = λ k within. go k within (cases_eq k q);
} where
  go : (k : ℕ) → k < QUEUES → (k ≡ q) ⊎ (k ≢ q) → AllByRecursion (IsPlaced now k) (get_or (set queues q dues) k [])
  go k within (inl same) =
      let long : q < length queues = omega (arith, wheel.counted) in
      subst (λ (j : ℕ). AllByRecursion (IsPlaced now j) (get_or (set queues q dues) j [])) (sym same)
      (subst (AllByRecursion (IsPlaced now q)) (sym (get_or-set_same queues q dues [] long)) all)
  go k within (inr other) = subst (AllByRecursion (IsPlaced now k)) (sym (get_or-set_other queues q k dues [] other)) (wheel.placed k within)

front_of_turn : (now q n : ℕ) (queues : List (List Due)) → IsWheel now queues → q < QUEUES → (place now n ≡ q) ⊎ (place now n ≢ q) →
    at_key turn_of n (get_or queues q []) ++ at_key turn_of n (joined (set queues q [])) ≡ at_key turn_of n (get_or queues (place now n) [])
front_of_turn now q n queues wheel within (inl same) =
    let long : q < length queues = omega (arith, wheel.counted) in
    let rest = only_of_turn now n (set queues q []) (wheel-set now q queues [] wheel tt) in
    let gone : get_or (set queues q []) (place now n) [] ≡ [] = ap (λ j. get_or (set queues q []) j []) same ∙ get_or-set_same queues q [] [] long in
    ap (λ ys. at_key turn_of n (get_or queues q []) ++ ys) (rest ∙ ap (at_key turn_of n) gone)
    ∙ append-nil (at_key turn_of n (get_or queues q []))
    ∙ ap (λ j. at_key turn_of n (get_or queues j [])) (sym same)
front_of_turn now q n queues wheel within (inr other) =
    let rest = only_of_turn now n (set queues q []) (wheel-set now q queues [] wheel tt) in
    ap (λ ys. ys ++ at_key turn_of n (joined (set queues q []))) (none_of_turn now q n (get_or queues q []) (wheel.placed q within) other)
    ∙ rest ∙ ap (at_key turn_of n) (get_or-set_other queues q (place now n) [] [] other)

-- one queue's dues may stand before all others
pub front : (now q : ℕ) (queues : List (List Due)) → IsWheel now queues → q < QUEUES → in_order (joined queues) ≡ in_order (get_or queues q [] ++ joined (set queues q []))
front now q queues wheel within = sorted_same turn_of (joined queues) (get_or queues q [] ++ joined (set queues q [])) (λ n.
    only_of_turn now n queues wheel
    ∙ sym (filter-append (λ due. nat_eq (turn_of due) n) (get_or queues q []) (joined (set queues q [])) ∙ front_of_turn now q n queues wheel within (cases_eq (place now n) q)))

-- a queue is one of the wheel's
pub queue_for-lt : (region : Region) (now time : ℕ) → queue_for region now time < QUEUES
queue_for-lt Active now time =
    elim (nat_eq time now) as (λ b. cond b 512 (cond (nat_lt (now / 256) (time / 256)) 514 (2 * (time % 256))) < 515) [
      | true ↦ omega arith
      | false ↦ elim (nat_lt (now / 256) (time / 256)) as (λ b. cond b 514 (2 * (time % 256)) < 515) [ true ↦ omega arith | false ↦ omega arith ]
    ]
queue_for-lt Inactive now time = omega arith
queue_for-lt Nonblocking now time =
    elim (nat_lt (now / 256) (time / 256)) as (λ b. cond b 514 (2 * (time % 256) + 1) < 515) [ true ↦ omega arith | false ↦ omega arith ]

all_push : (P : Due → Type 0) (dues : List Due) (due : Due) → AllByRecursion P dues → P due → AllByRecursion P (dues ++ due ∷ [])
all_push P [] due all p = (p, tt)
all_push P (x ∷ xs) due all p = (all.0, all_push P xs due all.1 p)

pub wheel-pushed : (now q : ℕ) (queues : List (List Due)) (due : Due) → IsWheel now queues → IsPlaced now q due → q < QUEUES → IsWheel now (pushed queues q due)
wheel-pushed now q queues due wheel placed within =
    wheel-set now q queues (get_or queues q [] ++ due ∷ []) wheel (all_push (IsPlaced now q) (get_or queues q []) due (wheel.placed q within) placed)

pushed_of_turn : (now q n : ℕ) (queues : List (List Due)) (due : Due) → IsWheel now queues → IsPlaced now q due → q < QUEUES → (place now n ≡ q) ⊎ (place now n ≢ q) →
    at_key turn_of n (get_or (pushed queues q due) (place now n) []) ≡ at_key turn_of n (get_or queues (place now n) []) ++ at_key turn_of n (due ∷ [])
pushed_of_turn now q n queues due wheel placed within (inl same) =
    let long : q < length queues = omega (arith, wheel.counted) in
    ap (at_key turn_of n) (ap (λ j. get_or (pushed queues q due) j []) same ∙ get_or-set_same queues q (get_or queues q [] ++ due ∷ []) [] long)
    ∙ filter-append (λ d. nat_eq (turn_of d) n) (get_or queues q []) (due ∷ [])
    ∙ ap (λ j. at_key turn_of n (get_or queues j []) ++ at_key turn_of n (due ∷ [])) (sym same)
pushed_of_turn now q n queues due wheel placed within (inr other) =
    ap (at_key turn_of n) (get_or-set_other queues q (place now n) (get_or queues q [] ++ due ∷ []) [] other)
    ∙ sym (ap (λ ys. at_key turn_of n (get_or queues (place now n) []) ++ ys) (none_of_turn now q n (due ∷ []) (placed, tt) other)
    ∙ append-nil (at_key turn_of n (get_or queues (place now n) [])))

-- a due put last in its queue comes in order as one put last of all
pub put_order : (now q : ℕ) (queues : List (List Due)) (due : Due) → IsWheel now queues → IsPlaced now q due → q < QUEUES → in_order (joined (pushed queues q due)) ≡ in_order (joined queues ++ due ∷ [])
put_order now q queues due wheel placed within = sorted_same turn_of (joined (pushed queues q due)) (joined queues ++ due ∷ []) (λ n.
    only_of_turn now n (pushed queues q due) (wheel-pushed now q queues due wheel placed within)
    ∙ pushed_of_turn now q n queues due wheel placed within (cases_eq (place now n) q)
    ∙ ap (λ ys. ys ++ at_key turn_of n (due ∷ [])) (sym (only_of_turn now n queues wheel))
    ∙ sym (filter-append (λ d. nat_eq (turn_of d) n) (joined queues) (due ∷ [])))
