-- What settling does to the queues, and what that makes of the dues in order.
use Rattle.std.proofs.Common.{◌≡◌, ◌≢◌, ℕ, ◌+◌, ◌*◌, ◌%◌, ◌<◌, ◌⊎◌, inl, inr, Bool, true, false, cond, ◌&&◌, ◌||◌, nat_eq, List, [], ◌∷◌, ◌++◌, length, get_or, set, map, filter, refl, sym, ap, subst, ◌∙◌, arith}
use Rattle.std.specs.List.{AllByRecursion, list_any}
use Rattle.std.proofs.lemmas.List.{get_or-set_same, get_or-set_other, length-set, set-set, set_comm, set-get_or}
use Rattle.std.proofs.lemmas.Bool.{cases_eq}
use Rattle.std.proofs.lemmas.Bool.Decides.{nat_tests}
use Rattle.event_pool.specs.declared.agenda.Region.{Region}
use Rattle.event_pool.specs.declared.agenda.Region.TheVariants.{Active, Inactive, Nonblocking}
use Rattle.event_pool.specs.declared.agenda.Due.{Due}
use Rattle.event_pool.specs.Order.{rank_of, in_order}
use Rattle.event_pool.specs.Schedule.{region_eq, is_due_in, is_active_at, promote}
use Rattle.event_pool.proofs.PendingLemmas.{promote-same}
use Rattle.time_wheel.specs.TimeWheel.{IsPlaced, IsWheel, joined, activated}
use Rattle.time_wheel.specs.declared.queues.TheConstants.{TICKS, ACTIVE, INACTIVE, QUEUES}
use Rattle.time_wheel.proofs.JoinedLemmas.{filter-only, all_joined, all_weaker}
use Rattle.time_wheel.proofs.StandLemmas.{Stand, stand, placed, ready, idle, far, soon, last}
use Rattle.time_wheel.proofs.PlaceLemmas.{front, wheel-set}

-- the queue of the dues of a region that are at now
abbrev pub queue_now : Region → ℕ → ℕ
queue_now Active now = ACTIVE
queue_now Inactive now = INACTIVE
queue_now Nonblocking now = 2 * (now % TICKS) + 1

region_eq-refl : (region : Region) → region_eq region region ≡ true
region_eq-refl Active = refl
region_eq-refl Inactive = refl
region_eq-refl Nonblocking = refl

same_from_region_eq : (a b : Region) → region_eq a b ≡ true → a ≡ b
same_from_region_eq Active Active e = refl
same_from_region_eq Active Inactive e = cc
same_from_region_eq Active Nonblocking e = cc
same_from_region_eq Inactive Active e = cc
same_from_region_eq Inactive Inactive e = refl
same_from_region_eq Inactive Nonblocking e = cc
same_from_region_eq Nonblocking Active e = cc
same_from_region_eq Nonblocking Inactive e = cc
same_from_region_eq Nonblocking Nonblocking e = refl

both_true : (a b : Bool) → a && b ≡ true → (a ≡ true) × (b ≡ true)
both_true true b e = (refl, e)
both_true false b e = cc

due_in : (region : Region) (now : ℕ) (due : Due) → due.region ≡ region → due.time ≡ now → is_due_in region now due ≡ true
due_in region now due same at =
    let here : nat_eq due.time now ≡ true = grind (arith, nat_tests) in
    ap (λ b. b && region_eq due.region region) here ∙ ap (λ r. region_eq r region) same ∙ region_eq-refl region

here_by : (region : Region) (now : ℕ) (due : Due) → Stand now due.time (queue_now region now) due.region → is_due_in region now due ≡ true
here_by Active now due (ready r t is) = due_in Active now due r t
here_by Active now due (idle r t is) = absurd (omega arith)
here_by Active now due (far r b is) = absurd (omega arith)
here_by Active now due (soon r l b is) = absurd (omega arith)
here_by Active now due (last r l b is) = absurd (omega arith)
here_by Inactive now due (ready r t is) = absurd (omega arith)
here_by Inactive now due (idle r t is) = due_in Inactive now due r t
here_by Inactive now due (far r b is) = absurd (omega arith)
here_by Inactive now due (soon r l b is) = absurd (omega arith)
here_by Inactive now due (last r l b is) = absurd (omega arith)
here_by Nonblocking now due (ready r t is) = absurd (omega arith)
here_by Nonblocking now due (idle r t is) = absurd (omega arith)
here_by Nonblocking now due (far r b is) = absurd (omega arith)
here_by Nonblocking now due (soon r l b is) = absurd (omega arith)
here_by Nonblocking now due (last r l b is) = let at : due.time ≡ now = omega arith in due_in Nonblocking now due r at

-- a due in the queue of a region's dues of now is one
pub due_here : (region : Region) (now : ℕ) (due : Due) → IsPlaced now (queue_now region now) due → is_due_in region now due ≡ true
due_here region now due p = here_by region now due (stand now (queue_now region now) due p)

queue_by : (region : Region) (now q : ℕ) (due : Due) → due.region ≡ region → due.time ≡ now → Stand now due.time q due.region → q ≡ queue_now region now
queue_by Active now q due same at (ready r t is) = is
queue_by Active now q due same at (idle r t is) = cc
queue_by Active now q due same at (far r b is) = absurd (omega arith)
queue_by Active now q due same at (soon r l b is) = absurd (omega arith)
queue_by Active now q due same at (last r l b is) = cc
queue_by Inactive now q due same at (ready r t is) = cc
queue_by Inactive now q due same at (idle r t is) = is
queue_by Inactive now q due same at (far r b is) = absurd (r same)
queue_by Inactive now q due same at (soon r l b is) = cc
queue_by Inactive now q due same at (last r l b is) = cc
queue_by Nonblocking now q due same at (ready r t is) = cc
queue_by Nonblocking now q due same at (idle r t is) = cc
queue_by Nonblocking now q due same at (far r b is) = absurd (omega arith)
queue_by Nonblocking now q due same at (soon r l b is) = cc
queue_by Nonblocking now q due same at (last r l b is) = is ∙ ap (λ t. 2 * (t % TICKS) + 1) at

-- a due in another queue is none
pub due_elsewhere : (region : Region) (now q : ℕ) (due : Due) → IsPlaced now q due → q ≢ queue_now region now → is_due_in region now due ≡ false
due_elsewhere region now q due p other = go (is_due_in region now due) refl where
  go : (b : Bool) → is_due_in region now due ≡ b → b ≡ false
  go false is = refl
  go true is =
      let both = both_true (nat_eq due.time now) (region_eq due.region region) is in
      let here = both.0 in
      let at : due.time ≡ now = grind (arith, nat_tests) in
      absurd (other (queue_by region now q due (same_from_region_eq due.region region both.1) at (stand now q due p)))

filter_all : (p : Due → Bool) (dues : List Due) → AllByRecursion (λ due. p due ≡ true) dues → filter p dues ≡ dues
filter_all p [] all = refl
filter_all p (due ∷ dues) all = let here = all.0 in rw (here, filter_all p dues all.1) refl

filter_no : (p : Due → Bool) (dues : List Due) → AllByRecursion (λ due. p due ≡ false) dues → filter p dues ≡ []
filter_no p [] all = refl
filter_no p (due ∷ dues) all = let here = all.0 in rw here (filter_no p dues all.1)

queue_now-lt : (region : Region) (now : ℕ) → queue_now region now < QUEUES
queue_now-lt Active now = omega arith
queue_now-lt Inactive now = omega arith
queue_now-lt Nonblocking now = omega arith

pub all_here : (region : Region) (now : ℕ) (queues : List (List Due)) → IsWheel now queues → AllByRecursion (λ due. is_due_in region now due ≡ true) (get_or queues (queue_now region now) [])
all_here region now queues wheel =
    all_weaker (IsPlaced now (queue_now region now)) (λ due. is_due_in region now due ≡ true) (due_here region now) _ (wheel.placed (queue_now region now) (queue_now-lt region now))

none_elsewhere : (region : Region) (now q : ℕ) (queues : List (List Due)) → IsWheel now queues → q < QUEUES → q ≢ queue_now region now → AllByRecursion (λ due. is_due_in region now due ≡ false) (get_or queues q [])
none_elsewhere region now q queues wheel within other =
    all_weaker (IsPlaced now q) (λ due. is_due_in region now due ≡ false) (λ due p. due_elsewhere region now q due p other) _ (wheel.placed q within)

-- the dues of a region that are at now are those of their queue
pub dues_now : (region : Region) (now : ℕ) (queues : List (List Due)) → IsWheel now queues → filter (is_due_in region now) (joined queues) ≡ get_or queues (queue_now region now) []
dues_now region now queues wheel =
    filter-only (is_due_in region now) queues (queue_now region now) (λ k within other.
    filter_no (is_due_in region now) (get_or queues k []) (none_elsewhere region now k queues wheel (omega (arith, wheel.counted)) other))
    ∙ filter_all (is_due_in region now) (get_or queues (queue_now region now) []) (all_here region now queues wheel)

any-filter : {X : Type 0} (p : X → Bool) (xs : List X) → list_any p xs ≡ list_any (λ _. true) (filter p xs)
any-filter p [] = refl
any-filter p (x ∷ xs) = elim (p x) as (λ b. b || list_any p xs ≡ list_any (λ _. true) (cond b (x ∷ filter p xs) (filter p xs))) [ true ↦ refl | false ↦ any-filter p xs ]

-- whether there is such a due is whether their queue has one
pub any_now : (region : Region) (now : ℕ) (queues : List (List Due)) → IsWheel now queues → list_any (is_due_in region now) (joined queues) ≡ list_any (λ _. true) (get_or queues (queue_now region now) [])
any_now region now queues wheel =
    any-filter (is_due_in region now) (joined queues) ∙ ap (list_any (λ _. true)) (dues_now region now queues wheel)

promote_no : (region : Region) (now : ℕ) (dues : List Due) → AllByRecursion (λ due. is_due_in region now due ≡ false) dues → promote region now dues ≡ dues
promote_no region now [] all = refl
promote_no region now (due ∷ dues) all = let here = all.0 in rw (here, promote_no region now dues all.1) refl

promote_front : (region : Region) (now : ℕ) (dues rest : List Due) → AllByRecursion (λ due. is_due_in region now due ≡ true) dues → AllByRecursion (λ due. is_due_in region now due ≡ false) rest →
    promote region now (dues ++ rest) ≡ map activated dues ++ rest
promote_front region now [] rest all none = promote_no region now rest none
promote_front region now (due ∷ dues) rest all none = let here = all.0 in rw (here, promote_front region now dues rest all.1 none) refl

-- a write of what stands there
pub set_unchanged : (queues : List (List Due)) (q : ℕ) (dues : List Due) → get_or queues q [] ≡ dues → set queues q dues ≡ queues
set_unchanged queues q dues same = ap (set queues q) (sym same) ∙ set-get_or queues q []

-- the queues after dues went from a queue to the active one, which was empty
abbrev pub activated_queues : List (List Due) → ℕ → List (List Due)
activated_queues queues q = set (set queues ACTIVE (map activated (get_or queues q []))) q []

pub to_active : (now q : ℕ) (queues : List (List Due)) → length queues ≡ QUEUES → q ≢ ACTIVE → get_or queues ACTIVE [] ≡ [] → IsWheel now (activated_queues queues q) →
    in_order (joined (activated_queues queues q)) ≡ in_order (map activated (get_or queues q []) ++ joined (set queues q []))
to_active now q queues counted other empty wheel =
    let dues = map activated (get_or queues q []) in
    let long : ACTIVE < length queues = omega arith in
    let other' : ACTIVE ≢ q = (λ e. other (sym e)) in
    let at : get_or (activated_queues queues q) ACTIVE [] ≡ dues = get_or-set_other (set queues ACTIVE dues) q ACTIVE [] [] other' ∙ get_or-set_same queues ACTIVE dues [] long in
    let rest : set (activated_queues queues q) ACTIVE [] ≡ set queues q [] =
    set_comm (set queues ACTIVE dues) q ACTIVE [] [] other ∙ ap (λ qs. set qs q []) (set-set queues ACTIVE dues [] ∙ set_unchanged queues ACTIVE [] empty) in
    front now ACTIVE (activated_queues queues q) wheel (omega arith)
    ∙ ap (λ xs. in_order (xs ++ joined (set (activated_queues queues q) ACTIVE []))) at
    ∙ ap (λ qs. in_order (dues ++ joined qs)) rest

placed_active : (now : ℕ) (due : Due) → due.time ≡ now → IsPlaced now ACTIVE (activated due)
placed_active now due at = placed now ACTIVE (activated due) (ready refl at refl)

time_here : (region : Region) (now : ℕ) (due : Due) → is_due_in region now due ≡ true → due.time ≡ now
time_here region now due is = let here = (both_true (nat_eq due.time now) (region_eq due.region region) is).0 in grind (arith, nat_tests)

all_activated : (region : Region) (now : ℕ) (dues : List Due) → AllByRecursion (λ due. is_due_in region now due ≡ true) dues → AllByRecursion (IsPlaced now ACTIVE) (map activated dues)
all_activated region now [] all = tt
all_activated region now (due ∷ dues) all = (placed_active now due (time_here region now due all.0), all_activated region now dues all.1)

queue_now-other : (region : Region) (now : ℕ) → 0 < rank_of region → queue_now region now ≢ ACTIVE
queue_now-other Active now later = absurd (omega arith)
queue_now-other Inactive now later = λ e. omega arith
queue_now-other Nonblocking now later = λ e. omega arith

pub wheel-settled : (region : Region) (now : ℕ) (queues : List (List Due)) → IsWheel now queues → IsWheel now (activated_queues queues (queue_now region now))
wheel-settled region now queues wheel =
    let q = queue_now region now in
    wheel-set now q (set queues ACTIVE (map activated (get_or queues q []))) []
    (wheel-set now ACTIVE queues (map activated (get_or queues q [])) wheel (all_activated region now (get_or queues q []) (all_here region now queues wheel))) tt

-- where no due is Active at now, moving a region's dues of now to the active queue promotes them
pub promote_order : (region : Region) (now : ℕ) (queues : List (List Due)) → 0 < rank_of region → IsWheel now queues → get_or queues ACTIVE [] ≡ [] →
    in_order (joined (activated_queues queues (queue_now region now))) ≡ in_order (promote region now (joined queues))
promote_order region now queues later wheel empty =
    let q = queue_now region now in
    let dues = get_or queues q [] in
    let rest = joined (set queues q []) in
    let none : list_any (is_active_at now) (joined queues) ≡ false = any_now Active now queues wheel ∙ ap (list_any (λ _. true)) empty in
    let others : AllByRecursion (λ due. is_due_in region now due ≡ false) rest = all_joined (λ due. is_due_in region now due ≡ false) (set queues q []) (λ k within. others_at region now queues wheel k within (cases_eq k q)) in
    to_active now q queues wheel.counted (queue_now-other region now later) empty (wheel-settled region now queues wheel)
    ∙ sym (promote-same region now later (joined queues) (dues ++ rest) none (front now q queues wheel (queue_now-lt region now))
    ∙ ap in_order (promote_front region now dues rest (all_here region now queues wheel) others)) where
      others_at : (region : Region) (now : ℕ) (queues : List (List Due)) → IsWheel now queues → (k : ℕ) → k < length (set queues (queue_now region now) []) → (k ≡ queue_now region now) ⊎ (k ≢ queue_now region now) →
          AllByRecursion (λ due. is_due_in region now due ≡ false) (get_or (set queues (queue_now region now) []) k [])
      others_at region now queues wheel k within (inl same) =
          let long : queue_now region now < length queues = omega (arith, wheel.counted, queue_now-lt region now) in
          subst (AllByRecursion (λ due. is_due_in region now due ≡ false)) (sym (ap (λ j. get_or (set queues (queue_now region now) []) j []) same ∙ get_or-set_same queues (queue_now region now) [] [] long)) tt
      others_at region now queues wheel k within (inr other) =
          subst (AllByRecursion (λ due. is_due_in region now due ≡ false)) (sym (get_or-set_other queues (queue_now region now) k [] [] other))
          (none_elsewhere region now k queues wheel (omega (arith, wheel.counted, length-set queues (queue_now region now) [])) other)
