-- Settling a wheel's queues is settling its dues.
use Rattle.std.proofs.Common.{◌≡◌, ◌≢◌, ℕ, ◌+◌, ◌*◌, ◌%◌, ◌<◌, Bool, true, false, cond, nat_eq, List, [], ◌∷◌, length, get_or, map, refl, sym, ap, subst, ◌∙◌, arith, slice_get, is_some}
use Rattle.std.specs.List.{AllByRecursion, All, list_any}
use Rattle.std.proofs.lemmas.List.Elements.{recursion_from_All, All-from_recursion, All-same}
use Rattle.std.proofs.lemmas.Bool.Decides.{nat_tests}
use Rattle.event_pool.specs.declared.agenda.Region.{Region}
use Rattle.event_pool.specs.declared.agenda.Region.TheVariants.{Active, Inactive, Nonblocking}
use Rattle.event_pool.specs.declared.agenda.Settled.TheVariants.{Ready, TimeEnds, Empty}
use Rattle.event_pool.specs.declared.agenda.Due.{Due}
use Rattle.event_pool.specs.Order.{rank_of, in_order}
use Rattle.event_pool.specs.Schedule.{IsTimelyAt, is_due_in, is_active_at, promote, settled_dues, settled_of}
use Rattle.event_pool.proofs.ScheduleLemmas.{settled-later}
use Rattle.event_pool.proofs.PendingLemmas.{in_order-again, settled-same, settled_of-same, settled_of-ends, any-same, all_in_order}
use Rattle.time_wheel.specs.TimeWheel.{IsPlaced, IsWheel, joined, activated, shown}
use Rattle.time_wheel.specs.Queues.{has_due, moved_to_active, promoted_queues, found_in}
use Rattle.time_wheel.specs.declared.queues.TheConstants.{TICKS, ACTIVE, INACTIVE, OVERFLOW, QUEUES}
use Rattle.time_wheel.proofs.JoinedLemmas.{all_joined, all_weaker}
use Rattle.time_wheel.proofs.SettleLemmas.{queue_now, any_now, wheel-settled, promote_order}
use Rattle.time_wheel.proofs.ShownLemmas.{shown_active, shown_other, shown_empty, shown-moved, length-joined_shown, length-moved, moved_other}

any_first : (dues : List Due) → list_any (λ _. true) dues ≡ is_some (slice_get dues 0)
any_first [] = refl
any_first (due ∷ dues) = refl

any_activated : (dues : List Due) → list_any (λ _. true) (map activated dues) ≡ is_some (slice_get dues 0)
any_activated [] = refl
any_activated (due ∷ dues) = refl

-- whether a due is Active at now is whether one stands in the active queue
any_active : (now : ℕ) (queues : List (List Due)) → ACTIVE < length queues → IsWheel now (shown queues) → list_any (is_active_at now) (joined (shown queues)) ≡ has_due queues ACTIVE
any_active now queues long wheel =
    any_now Active now (shown queues) wheel ∙ ap (list_any (λ _. true)) (shown_active queues long) ∙ any_activated (get_or queues ACTIVE [])

any_inactive : (now : ℕ) (queues : List (List Due)) → IsWheel now (shown queues) → list_any (is_due_in Inactive now) (joined (shown queues)) ≡ has_due queues INACTIVE
any_inactive now queues wheel =
    any_now Inactive now (shown queues) wheel ∙ ap (list_any (λ _. true)) (shown_other queues INACTIVE (λ e. omega arith)) ∙ any_first (get_or queues INACTIVE [])

-- what a move to the active queue keeps
pub record Keeps (now : ℕ) (old new : List (List Due)) : Type 0 where
  pub wheel : IsWheel now (shown new)
  pub counted : length (joined new) ≡ length (joined old)
  pub overflow : get_or new OVERFLOW [] ≡ get_or old OVERFLOW []

empty_from : (dues : List Due) → is_some (slice_get dues 0) ≡ false → dues ≡ []
empty_from [] none = refl
empty_from (due ∷ dues) none = cc

keeps_moved : (region : Region) (now : ℕ) (queues : List (List Due)) → queue_now region now < OVERFLOW → queue_now region now ≢ ACTIVE → has_due queues ACTIVE ≡ false → ACTIVE < length queues → length queues ≡ QUEUES → IsWheel now (shown queues) →
    Keeps now queues (moved_to_active queues (queue_now region now))
keeps_moved region now queues below other none long counted wheel =
    let q = queue_now region now in
    let apart : OVERFLOW ≢ q = (λ e. omega arith) in
    record {
      wheel = subst (IsWheel now) (sym (shown-moved queues q long other (empty_from (get_or queues ACTIVE []) none))) (wheel-settled region now (shown queues) wheel);
      counted = length-moved queues q long (omega arith) other;
      overflow = moved_other queues q OVERFLOW (λ e. omega arith) apart;
    }

-- the queues after settling, by whether an Active due and whether an Inactive one is there
abbrev settled_by : Bool → Bool → ℕ → List (List Due) → List (List Due)
settled_by active inactive now queues = cond active queues (moved_to_active queues (cond inactive INACTIVE (2 * (now % TICKS) + 1)))

keeps_by : (active inactive : Bool) (now : ℕ) (queues : List (List Due)) → has_due queues ACTIVE ≡ active → length queues ≡ QUEUES → IsWheel now (shown queues) → Keeps now queues (settled_by active inactive now queues)
keeps_by true inactive now queues is counted wheel = record { wheel = wheel; counted = refl; overflow = refl }
keeps_by false true now queues is counted wheel = keeps_moved Inactive now queues (omega arith) (λ e. omega arith) is (omega arith) counted wheel
keeps_by false false now queues is counted wheel = keeps_moved Nonblocking now queues (omega arith) (λ e. omega arith) is (omega arith) counted wheel

order_moved : (region : Region) (now : ℕ) (queues : List (List Due)) → 0 < rank_of region → queue_now region now ≢ ACTIVE → has_due queues ACTIVE ≡ false → ACTIVE < length queues → IsWheel now (shown queues) →
    in_order (joined (shown (moved_to_active queues (queue_now region now)))) ≡ in_order (promote region now (joined (shown queues)))
order_moved region now queues later other none long wheel =
    let empty = empty_from (get_or queues ACTIVE []) none in
    ap (λ qs. in_order (joined qs)) (shown-moved queues (queue_now region now) long other empty)
    ∙ promote_order region now (shown queues) later wheel (shown_empty queues long empty)

order_by : (active inactive : Bool) (now : ℕ) (queues : List (List Due)) → has_due queues ACTIVE ≡ active → ACTIVE < length queues → IsWheel now (shown queues) →
    in_order (joined (shown (settled_by active inactive now queues)))
    ≡ in_order (cond active (joined (shown queues)) (cond inactive (promote Inactive now (joined (shown queues))) (promote Nonblocking now (joined (shown queues)))))
order_by true inactive now queues is long wheel = refl
order_by false true now queues is long wheel = order_moved Inactive now queues (omega arith) (λ e. omega arith) is long wheel
order_by false false now queues is long wheel = order_moved Nonblocking now queues (omega arith) (λ e. omega arith) is long wheel

pub keeps_settled : (now : ℕ) (queues : List (List Due)) → length queues ≡ QUEUES → IsWheel now (shown queues) → Keeps now queues (promoted_queues now queues)
keeps_settled now queues counted wheel = keeps_by (has_due queues ACTIVE) (has_due queues INACTIVE) now queues refl counted wheel

-- settling the queues settles the dues
pub settled_order : (now : ℕ) (queues : List (List Due)) → length queues ≡ QUEUES → IsWheel now (shown queues) →
    in_order (joined (shown (promoted_queues now queues))) ≡ in_order (settled_dues now (joined (shown queues)))
settled_order now queues counted wheel =
    let long : ACTIVE < length queues = omega arith in
    let dues = joined (shown queues) in
    order_by (has_due queues ACTIVE) (has_due queues INACTIVE) now queues refl long wheel
    ∙ ap (λ b. in_order (cond b dues (cond (has_due queues INACTIVE) (promote Inactive now dues) (promote Nonblocking now dues)))) (sym (any_active now queues long wheel))
    ∙ ap (λ b. in_order (cond (list_any (is_active_at now) dues) dues (cond b (promote Inactive now dues) (promote Nonblocking now dues)))) (sym (any_inactive now queues wheel))

pub settled_again : (now : ℕ) (dues : List Due) → in_order (settled_dues now dues) ≡ in_order (settled_dues now (in_order dues))
settled_again now dues = settled-same now dues (in_order dues) (sym (in_order-again dues))

found_by : (now pending : ℕ) (dues : List Due) (active : Bool) → length dues ≡ pending → list_any (is_active_at now) dues ≡ active → cond (nat_eq pending 0) Empty (cond active Ready TimeEnds) ≡ settled_of now dues
found_by now pending [] active counted is = let zero : nat_eq pending 0 ≡ true = grind (arith, nat_tests) in rw zero refl
found_by now pending (due ∷ dues) active counted is =
    let more : nat_eq pending 0 ≡ false = grind (arith, nat_tests) in
    rw more (ap (λ b. cond b Ready TimeEnds) (sym is))

-- what settling finds
pub found-is : (now pending : ℕ) (queues : List (List Due)) → ACTIVE < length queues → IsWheel now (shown queues) → length (joined queues) ≡ pending → found_in queues pending ≡ settled_of now (in_order (joined (shown queues)))
found-is now pending queues long wheel counted =
    found_by now pending (joined (shown queues)) (has_due queues ACTIVE) (length-joined_shown queues long ∙ counted) (any_active now queues long wheel)
    ∙ settled_of-same now (joined (shown queues)) (in_order (joined (shown queues))) (sym (in_order-again (joined (shown queues))))

pub all_timely : (now : ℕ) (queues : List (List Due)) → IsWheel now queues → AllByRecursion (IsTimelyAt now) (joined queues)
all_timely now queues wheel = all_joined (IsTimelyAt now) queues (λ k within.
    all_weaker (IsPlaced now k) (IsTimelyAt now) (λ due p. p.0) (get_or queues k []) (wheel.placed k (omega (arith, wheel.counted))))

-- where none is Active at now after settling, all dues are later
pub settled_later : (now : ℕ) (dues new : List Due) → AllByRecursion (IsTimelyAt now) dues → in_order new ≡ in_order (settled_dues now dues) → settled_of now (in_order new) ≡ TimeEnds → All (λ due. now < due.time) (in_order new)
settled_later now dues new timely order ends =
    let after = settled_dues now dues in
    let none : list_any (is_active_at now) after ≡ false =
    any-same Active now after (in_order new) (sym (in_order-again new ∙ order)) ∙ settled_of-ends now (in_order new) ends in
    let P = λ (due : Due). now < due.time in
    let later = settled-later now dues (All-from_recursion (IsTimelyAt now) dues timely) none in
    All-same P (in_order new) (in_order after) order (All-from_recursion P (in_order after) (all_in_order P after (recursion_from_All P after later)))
