-- What each call keeps of a wheel's fields.
use Rattle.std.proofs.Common.{◌≡◌, ℕ, ◌+◌, ◌-◌, ◌<◌, ◌≤◌, List, [], ◌∷◌, ◌++◌, length, get_or, set, sym, ap, subst, ◌∙◌, arith, Option}
use Rattle.std.specs.List.{remove}
use Rattle.std.proofs.lemmas.List.{get_or-set_other, length-map}
use Rattle.std.proofs.lemmas.List.Edits.{length-remove}
use Rattle.event_pool.specs.declared.agenda.Due.{Due}
use Rattle.event_pool.specs.Contents.{Contents}
use Rattle.event_pool.specs.Order.{in_order}
use Rattle.event_pool.specs.Schedule.{IsTimelyAt, active_dues}
use Rattle.event_pool.proofs.PendingLemmas.{in_order-again, push-same}
use Rattle.time_wheel.specs.TimeWheel.{queue_for, IsWheel, IsKept, joined, activated, shown, least_of}
use Rattle.time_wheel.specs.Queues.{pushed, overflow_time_after}
use Rattle.time_wheel.specs.declared.queues.TheConstants.{ACTIVE, OVERFLOW, QUEUES}
use Rattle.time_wheel.proofs.JoinedLemmas.{length-joined_set, length-joined_at}
use Rattle.time_wheel.proofs.PlaceLemmas.{wheel-pushed, queue_for-lt, put_order}
use Rattle.time_wheel.proofs.ShownLemmas.{length-shown, shown_active}
use Rattle.time_wheel.proofs.TakeLemmas.{active_is, wheel-taken, shown-taken}
use Rattle.time_wheel.proofs.PutLemmas.{overflow_time-pushed, shown-pushed, length-pushed}

pub queues_counted : (now : ℕ) (queues : List (List Due)) → IsWheel now (shown queues) → length queues ≡ QUEUES
queues_counted now queues wheel = sym (length-shown queues) ∙ wheel.counted

-- how many dues are Active at now
pub length-active : (now : ℕ) (queues : List (List Due)) → IsWheel now (shown queues) → length (active_dues now (in_order (joined (shown queues)))) ≡ length (get_or queues ACTIVE [])
length-active now queues wheel =
    ap length (active_is now (shown queues) wheel ∙ shown_active queues (omega (arith, queues_counted now queues wheel))) ∙ length-map (get_or queues ACTIVE []) activated

-- a queue's dues are among all
pub some_pending : (now pending : ℕ) (later : Option ℕ) (contents : Contents Due) → IsKept now pending later contents → length (get_or contents.queues ACTIVE []) ≤ pending
some_pending now pending later contents kept = omega (arith, length-joined_at contents.queues ACTIVE, kept.counted)

pub kept-put : (now pending : ℕ) (later later' : Option ℕ) (old new : Contents Due) (q : ℕ) (due : Due) → IsKept now pending later old → IsTimelyAt now due → q ≡ queue_for due.region now due.time →
    new.queues ≡ pushed old.queues q due → later' ≡ overflow_time_after later q due.time → new.spare + 1 ≡ old.spare → IsKept now (pending + 1) later' new
kept-put now pending later later' old new q due kept timely is queues after spare =
    let counted = queues_counted now old.queues kept.wheel in
    let bound = queue_for-lt due.region now due.time in
    record {
      wheel = subst (λ (qs : List (List Due)). IsWheel now (shown qs)) (sym queues)
          (subst (IsWheel now) (sym (shown-pushed now q old.queues due (omega arith) (timely, sym is))) (wheel-pushed now q (shown old.queues) due kept.wheel (timely, sym is) (omega arith)));
      counted = ap (λ qs. length (joined qs)) queues ∙ length-pushed old.queues q due (omega arith) ∙ ap (λ n. n + 1) kept.counted;
      fits = omega (arith, kept.fits);
      least = after ∙ overflow_time-pushed later old.queues q due (omega arith) kept.least ∙ ap (λ qs. least_of (get_or qs OVERFLOW [])) (sym queues);
    }

-- what putting makes of the dues in order
pub shown_put : (now : ℕ) (queues new : List (List Due)) (q : ℕ) (due : Due) → IsWheel now (shown queues) → IsTimelyAt now due → q ≡ queue_for due.region now due.time → new ≡ pushed queues q due →
    in_order (joined (shown new)) ≡ in_order (in_order (joined (shown queues)) ++ due ∷ [])
shown_put now queues new q due wheel timely is made =
    let counted = queues_counted now queues wheel in
    let bound = queue_for-lt due.region now due.time in
    ap (λ qs. in_order (joined (shown qs))) made
    ∙ ap (λ qs. in_order (joined qs)) (shown-pushed now q queues due (omega arith) (timely, sym is))
    ∙ put_order now q (shown queues) due wheel (timely, sym is) (omega arith)
    ∙ push-same (joined (shown queues)) (in_order (joined (shown queues))) due (sym (in_order-again (joined (shown queues))))

pub kept-taken : (now pending k : ℕ) (later : Option ℕ) (old new : Contents Due) → IsKept now pending later old → k < length (get_or old.queues ACTIVE []) →
    new.queues ≡ set old.queues ACTIVE (remove (get_or old.queues ACTIVE []) k) → new.spare ≡ old.spare + 1 → IsKept now (pending - 1) later new
kept-taken now pending k later old new kept within queues spare =
    let counted = queues_counted now old.queues kept.wheel in
    let dues = get_or old.queues ACTIVE [] in
    let long : ACTIVE < length old.queues = omega arith in
    let fewer = length-remove dues k within in
    let some = some_pending now pending later old kept in
    record {
      wheel = subst (λ (qs : List (List Due)). IsWheel now (shown qs)) (sym queues)
          (subst (IsWheel now) (sym (shown-taken k old.queues long)) (wheel-taken now k (shown old.queues) kept.wheel));
      counted = ap (λ qs. length (joined qs)) queues ∙ omega (arith, length-joined_set old.queues ACTIVE (remove dues k) long, fewer, kept.counted);
      fits = omega (arith, kept.fits, some);
      least = kept.least ∙ ap least_of (sym (ap (λ qs. get_or qs OVERFLOW []) queues ∙ get_or-set_other old.queues ACTIVE OVERFLOW (remove dues k) [] (λ e. omega arith)));
    }
