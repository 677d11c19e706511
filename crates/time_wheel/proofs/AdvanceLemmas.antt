-- What going on to the next time does to the queues, and that it keeps the dues in order.
use Rattle.std.proofs.Common.{◌≡◌, ◌≢◌, ℕ, ◌+◌, ◌*◌, ◌/◌, ◌%◌, ◌<◌, ◌≤◌, ◌⊎◌, inl, inr, min, List, [], ◌∷◌, ◌++◌, length, get_or, set, map, refl, sym, ap, subst, ◌∙◌, arith, slice_get, Some, None}
use Rattle.std.specs.List.{AllByRecursion, All}
use Rattle.std.proofs.lemmas.List.{get_or-set_same, get_or-set_other, length-set, append-nil}
use Rattle.std.proofs.lemmas.List.Elements.{recursion_from_All, All-from_recursion}
use Rattle.std.proofs.lemmas.Bool.{cases_eq, cases_lt}
use Rattle.event_pool.specs.declared.agenda.Region.TheVariants.{Active, Inactive}
use Rattle.event_pool.specs.declared.agenda.Due.{Due}
use Rattle.event_pool.specs.Order.{in_order}
use Rattle.event_pool.specs.Schedule.{IsTimelyAt, earliest, least_time}
use Rattle.event_pool.proofs.ScheduleLemmas.{least_time-le}
use Rattle.event_pool.proofs.PendingLemmas.{in_order-again, all_in_order, all_from_in_order, least_time-same}
use Rattle.time_wheel.specs.TimeWheel.{IsPlaced, IsWheel, joined, activated}
use Rattle.time_wheel.specs.Queues.{AreEmpty, IsFirst}
use Rattle.time_wheel.specs.declared.queues.TheConstants.{TICKS, ACTIVE, INACTIVE, OVERFLOW, QUEUES}
use Rattle.time_wheel.proofs.JoinedLemmas.{all_joined, all_from_joined, all_both, all_weaker, nil_from_all, nil_from_first, joined-none}
use Rattle.time_wheel.proofs.StandLemmas.{Stand, stand, placed, ready, idle, far, soon, last}
use Rattle.time_wheel.proofs.PlaceLemmas.{front}
use Rattle.time_wheel.proofs.SettleLemmas.{activated_queues, to_active}
use Rattle.time_wheel.proofs.PutLemmas.{activated_same}

-- a later due stands in a queue after those of now's tick
above_now : (now k : ℕ) (due : Due) → now < due.time → Stand now due.time k due.region → 2 * (now % TICKS) + 2 ≤ k
above_now now k due later (ready r t is) = absurd (omega arith)
above_now now k due later (idle r t is) = absurd (omega arith)
above_now now k due later (far r b is) = omega arith
above_now now k due later (soon r l b is) = omega arith
above_now now k due later (last r l b is) = omega arith

-- in the block of now, a due of a queue isn't after those of the later queues
not_sooner : (now k q : ℕ) (due first : Due) → now < due.time → now < first.time → q < ACTIVE → q ≤ k → Stand now due.time k due.region → Stand now first.time q first.region → first.time ≤ due.time
not_sooner now k q due first l1 l2 below le (ready r t is) s = absurd (omega arith)
not_sooner now k q due first l1 l2 below le (idle r t is) s = absurd (omega arith)
not_sooner now k q due first l1 l2 below le (far r b is) (ready r2 t2 is2) = absurd (omega arith)
not_sooner now k q due first l1 l2 below le (far r b is) (idle r2 t2 is2) = absurd (omega arith)
not_sooner now k q due first l1 l2 below le (far r b is) (far r2 b2 is2) = absurd (omega arith)
not_sooner now k q due first l1 l2 below le (far r b is) (soon r2 m2 b2 is2) = omega arith
not_sooner now k q due first l1 l2 below le (far r b is) (last r2 m2 b2 is2) = omega arith
not_sooner now k q due first l1 l2 below le (soon r m b is) (ready r2 t2 is2) = absurd (omega arith)
not_sooner now k q due first l1 l2 below le (soon r m b is) (idle r2 t2 is2) = absurd (omega arith)
not_sooner now k q due first l1 l2 below le (soon r m b is) (far r2 b2 is2) = absurd (omega arith)
not_sooner now k q due first l1 l2 below le (soon r m b is) (soon r2 m2 b2 is2) = omega arith
not_sooner now k q due first l1 l2 below le (soon r m b is) (last r2 m2 b2 is2) = omega arith
not_sooner now k q due first l1 l2 below le (last r m b is) (ready r2 t2 is2) = absurd (omega arith)
not_sooner now k q due first l1 l2 below le (last r m b is) (idle r2 t2 is2) = absurd (omega arith)
not_sooner now k q due first l1 l2 below le (last r m b is) (far r2 b2 is2) = absurd (omega arith)
not_sooner now k q due first l1 l2 below le (last r m b is) (soon r2 m2 b2 is2) = omega arith
not_sooner now k q due first l1 l2 below le (last r m b is) (last r2 m2 b2 is2) = omega arith

in_block : (now q : ℕ) (first : Due) → now < first.time → q < ACTIVE → Stand now first.time q first.region → first.time / TICKS ≡ now / TICKS
in_block now q first later below (ready r t is) = absurd (omega arith)
in_block now q first later below (idle r t is) = absurd (omega arith)
in_block now q first later below (far r b is) = absurd (omega arith)
in_block now q first later below (soon r l b is) = b
in_block now q first later below (last r l b is) = b

-- a due later than now, in the queue k, at now
abbrev pub IsLaterIn : ℕ → ℕ → Due → Type 0
IsLaterIn now k due = IsPlaced now k due × (now < due.time)

pub later_in : (now k : ℕ) (queues : List (List Due)) → IsWheel now queues → AllByRecursion (λ due. now < due.time) (joined queues) → k < QUEUES → AllByRecursion (IsLaterIn now k) (get_or queues k [])
later_in now k queues wheel later within =
    all_both (IsPlaced now k) (λ due. now < due.time) (get_or queues k []) (wheel.placed k within) (all_from_joined (λ due. now < due.time) queues later k)

-- where all dues are later, the queues before those after now's tick are empty too
pub lower_empty : (now to k : ℕ) (queues : List (List Due)) → IsWheel now queues → AllByRecursion (λ due. now < due.time) (joined queues) → to ≤ QUEUES → AreEmpty queues (2 * (now % TICKS) + 2) to → k < to → get_or queues k [] ≡ []
lower_empty now to k queues wheel later most empty below = go (get_or queues k []) refl (later_in now k queues wheel later (omega arith)) where
  go : (dues : List Due) → get_or queues k [] ≡ dues → AllByRecursion (IsLaterIn now k) dues → dues ≡ []
  go [] is all = refl
  go (due ∷ dues) is all = sym is ∙ empty k (above_now now k due all.0.1 (stand now k due all.0.0)) below

-- no later due is Active or Inactive at now
no_ready : (now : ℕ) (due : Due) → now < due.time → Stand now due.time ACTIVE due.region → ⊥
no_ready now due later (ready r t is) = omega arith
no_ready now due later (idle r t is) = omega arith
no_ready now due later (far r b is) = omega arith
no_ready now due later (soon r l b is) = omega arith
no_ready now due later (last r l b is) = omega arith

no_idle : (now : ℕ) (due : Due) → now < due.time → Stand now due.time INACTIVE due.region → ⊥
no_idle now due later (ready r t is) = omega arith
no_idle now due later (idle r t is) = omega arith
no_idle now due later (far r b is) = omega arith
no_idle now due later (soon r l b is) = omega arith
no_idle now due later (last r l b is) = omega arith

pub active_empty : (now : ℕ) (queues : List (List Due)) → IsWheel now queues → AllByRecursion (λ due. now < due.time) (joined queues) → get_or queues ACTIVE [] ≡ []
active_empty now queues wheel later =
    nil_from_all (IsLaterIn now ACTIVE) (λ due p. no_ready now due p.1 (stand now ACTIVE due p.0)) (get_or queues ACTIVE []) (later_in now ACTIVE queues wheel later (omega arith))

pub inactive_empty : (now : ℕ) (queues : List (List Due)) → IsWheel now queues → AllByRecursion (λ due. now < due.time) (joined queues) → get_or queues INACTIVE [] ≡ []
inactive_empty now queues wheel later =
    nil_from_all (IsLaterIn now INACTIVE) (λ due p. no_idle now due p.1 (stand now INACTIVE due p.0)) (get_or queues INACTIVE []) (later_in now INACTIVE queues wheel later (omega arith))

-- what holds of each of some dues holds of each of those of the same order
all_same_order : (P : Due → Type 0) (xs ys : List Due) → in_order xs ≡ in_order ys → AllByRecursion P xs → AllByRecursion P ys
all_same_order P xs ys same all = all_from_in_order P ys (subst (AllByRecursion P) same (all_in_order P xs all))

earliest-is : (time : ℕ) (dues : List Due) → AllByRecursion (λ due. time ≤ due.time) dues → earliest time dues ≡ time
earliest-is time [] all = refl
earliest-is time (due ∷ dues) all =
    let here = all.0 in
    let same : min time due.time ≡ time = omega arith in
    ap (λ t. earliest t dues) same ∙ earliest-is time dues all.1

-- no due is before the first of the first queue after now's tick
pub first_least : (now q : ℕ) (first : Due) (queues : List (List Due)) → IsWheel now queues → AllByRecursion (λ due. now < due.time) (joined queues) → q < ACTIVE →
    AreEmpty queues (2 * (now % TICKS) + 2) q → IsPlaced now q first → now < first.time → AllByRecursion (λ due. first.time ≤ due.time) (joined queues)
first_least now q first queues wheel later below empty p l =
    all_joined (λ due. first.time ≤ due.time) queues (λ k within. go k (omega (arith, wheel.counted)) (cases_lt k q)) where
      go : (k : ℕ) → k < QUEUES → (k < q) ⊎ (q ≤ k) → AllByRecursion (λ due. first.time ≤ due.time) (get_or queues k [])
      go k within (inl under) = subst (AllByRecursion (λ due. first.time ≤ due.time)) (sym (lower_empty now q k queues wheel later (omega arith) empty under)) tt
      go k within (inr over) =
          all_weaker (IsLaterIn now k) (λ due. first.time ≤ due.time) (λ due d. not_sooner now k q due first d.1 l below over (stand now k due d.0) (stand now q first p))
          (get_or queues k []) (later_in now k queues wheel later within)

-- its time is the least
least_first : (now q : ℕ) (first : Due) (rest : List Due) (queues : List (List Due)) → IsWheel now queues → q < QUEUES → get_or queues q [] ≡ first ∷ rest →
    AllByRecursion (λ due. first.time ≤ due.time) (joined queues) → least_time (in_order (joined queues)) ≡ first.time
least_first now q first rest queues wheel within is all =
    let others = joined (set queues q []) in
    let same : in_order (joined queues) ≡ in_order ((first ∷ rest) ++ others) = front now q queues wheel within ∙ ap (λ xs. in_order (xs ++ others)) is in
    let bounds = all_same_order (λ due. first.time ≤ due.time) (joined queues) ((first ∷ rest) ++ others) same all in
    least_time-same (in_order (joined queues)) ((first ∷ rest) ++ others) (in_order-again (joined queues) ∙ same)
    ∙ earliest-is first.time (rest ++ others) bounds.1

-- a later due that isn't of the queue that becomes active stays where it is
replaced : (now time k : ℕ) (due : Due) → now < due.time → time ≤ due.time → time / TICKS ≡ now / TICKS → k ≢ 2 * (time % TICKS) → Stand now due.time k due.region → Stand time due.time k due.region
replaced now time k due later le block other (ready r t is) = absurd (omega arith)
replaced now time k due later le block other (idle r t is) = absurd (omega arith)
replaced now time k due later le block other (far r b is) = far r (omega arith) is
replaced now time k due later le block other (soon r l b is) = go (cases_eq due.time time) where
  go : (due.time ≡ time) ⊎ (due.time ≢ time) → Stand time due.time k due.region
  go (inl same) = absurd (other (is ∙ ap (λ t. 2 * (t % TICKS)) same))
  go (inr differ) = soon r (omega arith) (b ∙ sym block) is
replaced now time k due later le block other (last r l b is) = last r le (b ∙ sym block) is

-- the dues of that queue are the Active ones of the new time
becomes_ready : (now time : ℕ) (due : Due) → now < due.time → time / TICKS ≡ now / TICKS → Stand now due.time (2 * (time % TICKS)) due.region → (due.region ≡ Active) × (due.time ≡ time)
becomes_ready now time due later block (ready r t is) = absurd (omega arith)
becomes_ready now time due later block (idle r t is) = absurd (omega arith)
becomes_ready now time due later block (far r b is) = absurd (omega arith)
becomes_ready now time due later block (soon r l b is) = (r, omega arith)
becomes_ready now time due later block (last r l b is) = absurd (omega arith)

abbrev IsReadyAt : ℕ → Due → Type 0
IsReadyAt time due = (due.region ≡ Active) × (due.time ≡ time)

all_ready : (now time : ℕ) (queues : List (List Due)) → IsWheel now queues → AllByRecursion (λ due. now < due.time) (joined queues) → time / TICKS ≡ now / TICKS → AllByRecursion (IsReadyAt time) (get_or queues (2 * (time % TICKS)) [])
all_ready now time queues wheel later block =
    let q = 2 * (time % TICKS) in
    all_weaker (IsLaterIn now q) (IsReadyAt time) (λ due d. becomes_ready now time due d.1 block (stand now q due d.0)) (get_or queues q []) (later_in now q queues wheel later (omega arith))

map_ready : (time : ℕ) (dues : List Due) → AllByRecursion (IsReadyAt time) dues → map activated dues ≡ dues
map_ready time [] all = refl
map_ready time (due ∷ dues) all = ap (λ d. d ∷ map activated dues) (activated_same due all.0.0) ∙ ap (λ ds. due ∷ ds) (map_ready time dues all.1)

placed_ready : (time : ℕ) (dues : List Due) → AllByRecursion (IsReadyAt time) dues → AllByRecursion (IsPlaced time ACTIVE) (map activated dues)
placed_ready time [] all = tt
placed_ready time (due ∷ dues) all = (placed time ACTIVE (activated due) (ready refl all.0.1 refl), placed_ready time dues all.1)

-- the queues are a wheel at the new time
pub wheel-advanced : (now time : ℕ) (queues : List (List Due)) → IsWheel now queues → AllByRecursion (λ due. now < due.time) (joined queues) →
    AllByRecursion (λ due. time ≤ due.time) (joined queues) → time / TICKS ≡ now / TICKS → IsWheel time (activated_queues queues (2 * (time % TICKS)))
wheel-advanced now time queues wheel later least block = record {
  counted = length-set (set queues ACTIVE (map activated (get_or queues (2 * (time % TICKS)) []))) (2 * (time % TICKS)) [] ∙ length-set queues ACTIVE (map activated (get_or queues (2 * (time % TICKS)) [])) ∙ wheel.counted;
  placed = λ k within. go k within (cases_eq k (2 * (time % TICKS))) (cases_eq k ACTIVE);
} where
  go : (k : ℕ) → k < QUEUES → (k ≡ 2 * (time % TICKS)) ⊎ (k ≢ 2 * (time % TICKS)) → (k ≡ ACTIVE) ⊎ (k ≢ ACTIVE) → AllByRecursion (IsPlaced time k) (get_or (activated_queues queues (2 * (time % TICKS))) k [])
  go k within (inl same) either =
      let moved = set queues ACTIVE (map activated (get_or queues (2 * (time % TICKS)) [])) in
      let long : 2 * (time % TICKS) < length moved = omega (arith, wheel.counted, length-set queues ACTIVE (map activated (get_or queues (2 * (time % TICKS)) []))) in
      subst (AllByRecursion (IsPlaced time k)) (sym (ap (λ j. get_or (set moved (2 * (time % TICKS)) []) j []) same ∙ get_or-set_same moved (2 * (time % TICKS)) [] [] long)) tt
  go k within (inr other) (inl same) =
      let dues = get_or queues (2 * (time % TICKS)) [] in
      let long : ACTIVE < length queues = omega (arith, wheel.counted) in
      let there : get_or (activated_queues queues (2 * (time % TICKS))) k [] ≡ map activated dues =
      get_or-set_other (set queues ACTIVE (map activated dues)) (2 * (time % TICKS)) k [] [] other
      ∙ ap (λ j. get_or (set queues ACTIVE (map activated dues)) j []) same ∙ get_or-set_same queues ACTIVE (map activated dues) [] long in
      subst (AllByRecursion (IsPlaced time k)) (sym there) (subst (λ (j : ℕ). AllByRecursion (IsPlaced time j) (map activated dues)) (sym same) (placed_ready time dues (all_ready now time queues wheel later block)))
  go k within (inr other) (inr differ) =
      let dues = get_or queues (2 * (time % TICKS)) [] in
      let there : get_or (activated_queues queues (2 * (time % TICKS))) k [] ≡ get_or queues k [] =
      get_or-set_other (set queues ACTIVE (map activated dues)) (2 * (time % TICKS)) k [] [] other ∙ get_or-set_other queues ACTIVE k (map activated dues) [] differ in
      let all = all_both (IsLaterIn now k) (λ due. time ≤ due.time) (get_or queues k []) (later_in now k queues wheel later within) (all_from_joined (λ due. time ≤ due.time) queues least k) in
      subst (AllByRecursion (IsPlaced time k)) (sym there)
      (all_weaker (λ due. IsLaterIn now k due × (time ≤ due.time)) (IsPlaced time k) (λ due d. placed time k due (replaced now time k due d.0.1 d.1 block other (stand now k due d.0.0))) (get_or queues k []) all)

-- and their dues come in the same order
pub advance_order : (now time : ℕ) (queues : List (List Due)) → IsWheel now queues → AllByRecursion (λ due. now < due.time) (joined queues) →
    AllByRecursion (λ due. time ≤ due.time) (joined queues) → time / TICKS ≡ now / TICKS →
    in_order (joined (activated_queues queues (2 * (time % TICKS)))) ≡ in_order (joined queues)
advance_order now time queues wheel later least block =
    let q = 2 * (time % TICKS) in
    to_active time q queues wheel.counted (λ e. omega arith) (active_empty now queues wheel later) (wheel-advanced now time queues wheel later least block)
    ∙ ap (λ xs. in_order (xs ++ joined (set queues q []))) (map_ready time (get_or queues q []) (all_ready now time queues wheel later block))
    ∙ sym (front now q queues wheel (omega arith))

-- the next time in the block of now: it is the least, and going on to it keeps the dues
pub record Advances (now time : ℕ) (queues : List (List Due)) : Type 0 where
  pub least : least_time (in_order (joined queues)) ≡ time
  pub wheel : IsWheel time (activated_queues queues (2 * (time % TICKS)))
  pub order : in_order (joined (activated_queues queues (2 * (time % TICKS)))) ≡ in_order (joined queues)

cons_from_first : (dues : List Due) (first : Due) → slice_get dues 0 ≡ Some first → (rest : List Due) × (dues ≡ first ∷ rest)
cons_from_first [] first is = cc
cons_from_first (due ∷ dues) first is = (dues, (let same : due ≡ first = cc in ap (λ d. d ∷ dues) same))

pub advances : (now time : ℕ) (queues : List (List Due)) → IsWheel now queues → AllByRecursion (λ due. now < due.time) (joined queues) → IsFirst queues (2 * (now % TICKS) + 2) ACTIVE time → Advances now time queues
advances now time queues wheel later f =
    let split = cons_from_first (get_or queues f.queue []) f.due f.first in
    let below = f.below in
    let there = subst (AllByRecursion (IsLaterIn now f.queue)) split.1 (later_in now f.queue queues wheel later (omega arith)) in
    let all = first_least now f.queue f.due queues wheel later f.below f.before there.0.0 there.0.1 in
    let least = subst (λ (t : ℕ). AllByRecursion (λ due. t ≤ due.time) (joined queues)) f.timed all in
    let block = ap (λ t. t / TICKS) (sym f.timed) ∙ in_block now f.queue f.due there.0.1 f.below (stand now f.queue f.due there.0.0) in
    record {
      least = least_first now f.queue f.due split.0 queues wheel (omega arith) split.1 all ∙ f.timed;
      wheel = wheel-advanced now time queues wheel later least block;
      order = advance_order now time queues wheel later least block;
    }

-- with no due after now in the block of now, all dues stand in overflow
pub record IsOver (now : ℕ) (queues : List (List Due)) : Type 0 where
  pub others : AreEmpty queues 0 OVERFLOW
  pub order : in_order (joined queues) ≡ in_order (get_or queues OVERFLOW [])
  pub least : least_time (in_order (joined queues)) ≡ least_time (get_or queues OVERFLOW [])
  pub timely : All (IsTimelyAt (least_time (get_or queues OVERFLOW []))) (get_or queues OVERFLOW [])

not_idle : (now : ℕ) (due : Due) → Stand now due.time OVERFLOW due.region → due.region ≢ Inactive
not_idle now due (ready r t is) = absurd (omega arith)
not_idle now due (idle r t is) = absurd (omega arith)
not_idle now due (far r b is) = r
not_idle now due (soon r l b is) = absurd (omega arith)
not_idle now due (last r l b is) = absurd (omega arith)

pub over : (now : ℕ) (queues : List (List Due)) → IsWheel now queues → AllByRecursion (λ due. now < due.time) (joined queues) → AreEmpty queues (2 * (now % TICKS) + 2) ACTIVE → IsOver now queues
over now queues wheel later empty =
    let dues = get_or queues OVERFLOW [] in
    let order : in_order (joined queues) ≡ in_order dues =
    front now OVERFLOW queues wheel (omega arith) ∙ ap (λ xs. in_order (dues ++ xs)) (joined-none (set queues OVERFLOW []) (λ k within. emptied k (omega (arith, wheel.counted, length-set queues OVERFLOW [])) (cases_eq k OVERFLOW)))
    ∙ ap in_order (append-nil dues) in
    let bounds = recursion_from_All (λ due. least_time dues ≤ due.time) dues (least_time-le dues) in
    record {
      others = λ q from to. below q to;
      order = order;
      least = least_time-same (in_order (joined queues)) dues (in_order-again (joined queues) ∙ order);
      timely = All-from_recursion (IsTimelyAt (least_time dues)) dues
          (all_weaker (λ due. (least_time dues ≤ due.time) × IsPlaced now OVERFLOW due) (IsTimelyAt (least_time dues)) (λ due d. (d.0, λ idle. absurd (not_idle now due (stand now OVERFLOW due d.1) idle))) dues
          (all_both (λ due. least_time dues ≤ due.time) (IsPlaced now OVERFLOW) dues bounds (wheel.placed OVERFLOW (omega arith))));
    } where
      below : (q : ℕ) → q < OVERFLOW → get_or queues q [] ≡ []
      below q to = go (cases_lt q ACTIVE) (cases_eq q ACTIVE) where
        go : (q < ACTIVE) ⊎ (ACTIVE ≤ q) → (q ≡ ACTIVE) ⊎ (q ≢ ACTIVE) → get_or queues q [] ≡ []
        go (inl under) either = lower_empty now ACTIVE q queues wheel later (omega arith) empty under
        go (inr above) (inl same) = ap (λ j. get_or queues j []) same ∙ active_empty now queues wheel later
        go (inr above) (inr other) = let same : q ≡ INACTIVE = omega arith in ap (λ j. get_or queues j []) same ∙ inactive_empty now queues wheel later

      emptied : (k : ℕ) → k < QUEUES → (k ≡ OVERFLOW) ⊎ (k ≢ OVERFLOW) → get_or (set queues OVERFLOW []) k [] ≡ []
      emptied k within (inl same) =
          let long : OVERFLOW < length queues = omega (arith, wheel.counted) in
          ap (λ j. get_or (set queues OVERFLOW []) j []) same ∙ get_or-set_same queues OVERFLOW [] [] long
      emptied k within (inr other) = get_or-set_other queues OVERFLOW k [] [] other ∙ below k (omega arith)

-- one more empty queue
pub empty-more : (queues : List (List Due)) (from to : ℕ) → AreEmpty queues from to → slice_get (get_or queues to []) 0 ≡ None → AreEmpty queues from (to + 1)
empty-more queues from to empty none = λ q above below. go q above (cases_eq q to) (omega arith) where
  go : (q : ℕ) → from ≤ q → (q ≡ to) ⊎ (q ≢ to) → q ≤ to → get_or queues q [] ≡ []
  go q above (inl same) le = ap (λ j. get_or queues j []) same ∙ nil_from_first (get_or queues to []) none
  go q above (inr other) le = empty q above (omega arith)
