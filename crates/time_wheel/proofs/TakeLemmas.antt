-- What taking an Active due of now does to the queues, and what that makes of the dues in order.
use Rattle.std.proofs.Common.{◌≡◌, ℕ, zero, suc, ◌<◌, Bool, true, List, [], ◌∷◌, ◌++◌, length, get_or, set, map, take, drop, refl, sym, ap, ◌∙◌, arith, slice_get, Some}
use Rattle.std.specs.List.{AllByRecursion, remove}
use Rattle.std.specs.Option.{option_map}
use Rattle.std.proofs.lemmas.List.{get_or-set_same, set-set, map-append, take-map, drop-map}
use Rattle.std.proofs.lemmas.Option.{slice_get-map}
use Rattle.event_pool.specs.declared.agenda.Region.TheVariants.{Active}
use Rattle.event_pool.specs.declared.agenda.Due.{Due}
use Rattle.event_pool.specs.Order.{in_order}
use Rattle.event_pool.specs.Schedule.{is_active_at, active_dues, without_nth}
use Rattle.event_pool.proofs.PendingLemmas.{in_order-again, active_dues-same, without-same}
use Rattle.time_wheel.specs.TimeWheel.{IsPlaced, IsWheel, joined, activated, shown}
use Rattle.time_wheel.specs.declared.queues.TheConstants.{ACTIVE}
use Rattle.time_wheel.proofs.PlaceLemmas.{front, wheel-set}
use Rattle.time_wheel.proofs.SettleLemmas.{dues_now, all_here}
use Rattle.time_wheel.proofs.ShownLemmas.{shown_active, shown-set_active}

-- the Active dues of now are those of the active queue
pub active_is : (now : ℕ) (queues : List (List Due)) → IsWheel now queues → active_dues now (in_order (joined queues)) ≡ get_or queues ACTIVE []
active_is now queues wheel =
    sym (active_dues-same now (joined queues) (in_order (joined queues)) (sym (in_order-again (joined queues)))) ∙ dues_now Active now queues wheel

without-front : (test : Due → Bool) (k : ℕ) (dues rest : List Due) → AllByRecursion (λ due. test due ≡ true) dues → k < length dues → without_nth test k (dues ++ rest) ≡ remove dues k ++ rest
without-front test k [] rest all within = absurd (omega arith)
without-front test zero (due ∷ dues) rest all within = let here = all.0 in rw here refl
without-front test (suc k) (due ∷ dues) rest all within =
    let here = all.0 in
    let less : k < length dues = omega arith in
    rw here (ap (λ ds. due ∷ ds) (without-front test k dues rest all.1 less))

all_remove : (P : Due → Type 0) (k : ℕ) (dues : List Due) → AllByRecursion P dues → AllByRecursion P (remove dues k)
all_remove P zero [] all = tt
all_remove P (suc k) [] all = tt
all_remove P zero (due ∷ dues) all = all.1
all_remove P (suc k) (due ∷ dues) all = (all.0, all_remove P k dues all.1)

pub wheel-taken : (now k : ℕ) (queues : List (List Due)) → IsWheel now queues → IsWheel now (set queues ACTIVE (remove (get_or queues ACTIVE []) k))
wheel-taken now k queues wheel =
    wheel-set now ACTIVE queues (remove (get_or queues ACTIVE []) k) wheel (all_remove (IsPlaced now ACTIVE) k (get_or queues ACTIVE []) (wheel.placed ACTIVE (omega arith)))

-- what is left comes in order as the dues without the k-th Active one of now
pub take_order : (now k : ℕ) (queues : List (List Due)) → IsWheel now queues → k < length (get_or queues ACTIVE []) →
    in_order (joined (set queues ACTIVE (remove (get_or queues ACTIVE []) k))) ≡ in_order (without_nth (is_active_at now) k (in_order (joined queues)))
take_order now k queues wheel within =
    let dues = get_or queues ACTIVE [] in
    let rest = joined (set queues ACTIVE []) in
    let left = set queues ACTIVE (remove dues k) in
    let long : ACTIVE < length queues = omega (arith, wheel.counted) in
    front now ACTIVE left (wheel-taken now k queues wheel) (omega arith)
    ∙ ap (λ xs. in_order (xs ++ joined (set left ACTIVE []))) (get_or-set_same queues ACTIVE (remove dues k) [] long)
    ∙ ap (λ qs. in_order (remove dues k ++ joined qs)) (set-set queues ACTIVE (remove dues k) [])
    ∙ sym (without-same now k (in_order (joined queues)) (dues ++ rest) (in_order-again (joined queues) ∙ front now ACTIVE queues wheel (omega arith))
    ∙ ap in_order (without-front (is_active_at now) k dues rest (all_here Active now queues wheel) within))

map-remove : (k : ℕ) (dues : List Due) → map activated (remove dues k) ≡ remove (map activated dues) k
map-remove k dues =
    map-append activated (take k dues) (drop (suc k) dues)
    ∙ ap (λ xs. xs ++ map activated (drop (suc k) dues)) (sym (take-map activated k dues))
    ∙ ap (λ xs. take k (map activated dues) ++ xs) (sym (drop-map activated (suc k) dues))

-- the queues as they are shown, after one was taken
pub shown-taken : (k : ℕ) (queues : List (List Due)) → ACTIVE < length queues →
    shown (set queues ACTIVE (remove (get_or queues ACTIVE []) k)) ≡ set (shown queues) ACTIVE (remove (get_or (shown queues) ACTIVE []) k)
shown-taken k queues long =
    shown-set_active queues (remove (get_or queues ACTIVE []) k) long
    ∙ ap (set (shown queues) ACTIVE) (map-remove k (get_or queues ACTIVE []) ∙ ap (λ xs. remove xs k) (sym (shown_active queues long)))

-- the due that was taken, as an Active one
pub nth_shown : (k : ℕ) (queues : List (List Due)) (due : Due) → ACTIVE < length queues → slice_get (get_or queues ACTIVE []) k ≡ Some due → slice_get (get_or (shown queues) ACTIVE []) k ≡ Some (activated due)
nth_shown k queues due long there =
    ap (λ xs. slice_get xs k) (shown_active queues long) ∙ slice_get-map activated (get_or queues ACTIVE []) k ∙ ap (option_map activated) there
