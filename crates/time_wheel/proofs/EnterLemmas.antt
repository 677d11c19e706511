-- What going on to the next time keeps of a wheel's fields.
use Rattle.std.proofs.Common.{◌≡◌, ◌≢◌, ℕ, ◌+◌, ◌*◌, ◌%◌, ◌<◌, ◌≤◌, ◌⊎◌, inl, inr, List, [], ◌∷◌, length, get_or, map, refl, sym, ap, subst, ◌∙◌, arith, Option, Some, slice_get}
use Rattle.std.specs.List.{AllByRecursion, All}
use Rattle.std.specs.Option.{IsSome}
use Rattle.std.proofs.lemmas.List.Elements.{recursion_from_All}
use Rattle.std.proofs.lemmas.Bool.{cases_eq}
use Rattle.event_pool.specs.declared.agenda.Due.{Due}
use Rattle.event_pool.specs.Contents.{Contents}
use Rattle.event_pool.specs.Order.{in_order}
use Rattle.event_pool.specs.Schedule.{Schedule, IsTimelyAt, least_time}
use Rattle.event_pool.proofs.PendingLemmas.{length-in_order, all_from_in_order}
use Rattle.time_wheel.specs.TimeWheel.{IsPlaced, IsWheel, IsKept, joined, activated, shown, least_of}
use Rattle.time_wheel.specs.Queues.{moved_to_active, AreEmpty, IsFirst}
use Rattle.time_wheel.specs.declared.queues.TheConstants.{TICKS, ACTIVE, OVERFLOW}
use Rattle.time_wheel.proofs.SettleLemmas.{set_unchanged}
use Rattle.time_wheel.proofs.ShownLemmas.{shown_active, shown_other, shown-moved, length-joined_shown, length-moved, moved_other}
use Rattle.time_wheel.proofs.PutLemmas.{active_there, activated_same}
use Rattle.time_wheel.proofs.AdvanceLemmas.{active_empty, advances, over}
use Rattle.time_wheel.proofs.KeptLemmas.{queues_counted}

-- all dues of a wheel are later than now
abbrev pub AllLater : ℕ → List (List Due) → Type 0
AllLater now queues = AllByRecursion (λ due. now < due.time) (joined (shown queues))

pub all_later : (now spare : ℕ) (queues : List (List Due)) (s : Schedule) → record { now = now; dues = in_order (joined (shown queues)); spare = spare } ≡ s → All (λ due. s.now < due.time) s.dues → AllLater now queues
all_later now spare queues s is later =
    let P = λ (due : Due). now < due.time in
    let here : All P (in_order (joined (shown queues))) = subst (λ (t : Schedule). All (λ due. t.now < due.time) t.dues) (sym is) later in
    all_from_in_order P (joined (shown queues)) (recursion_from_All P (in_order (joined (shown queues))) here)

nil_from_map : (dues : List Due) → map activated dues ≡ [] → dues ≡ []
nil_from_map [] none = refl
nil_from_map (due ∷ dues) none = cc

-- no due stands in the active queue
raw_empty : (now : ℕ) (queues : List (List Due)) → IsWheel now (shown queues) → AllLater now queues → get_or queues ACTIVE [] ≡ []
raw_empty now queues wheel later =
    nil_from_map (get_or queues ACTIVE []) (sym (shown_active queues (omega (arith, queues_counted now queues wheel))) ∙ active_empty now (shown queues) wheel later)

empty_shown : (queues : List (List Due)) (from to : ℕ) → to ≤ ACTIVE → AreEmpty queues from to → AreEmpty (shown queues) from to
empty_shown queues from to most empty = λ q above below. shown_other queues q (λ e. omega arith) ∙ empty q above below

first_shown : (queues : List (List Due)) (from time : ℕ) → IsFirst queues from ACTIVE time → IsFirst (shown queues) from ACTIVE time
first_shown queues from time f =
    let below = f.below in
    record {
      queue = f.queue;
      due = f.due;
      above = f.above;
      below = f.below;
      before = empty_shown queues from f.queue (omega arith) f.before;
      first = ap (λ xs. slice_get xs 0) (shown_other queues f.queue (λ e. omega arith)) ∙ f.first;
      timed = f.timed;
    }

-- the wheel is at the least time of its dues, and has the dues that it had
pub record Advanced (time pending : ℕ) (later : Option ℕ) (old new : Contents Due) : Type 0 where
  pub kept : IsKept time pending later new
  pub order : in_order (joined (shown new.queues)) ≡ in_order (joined (shown old.queues))
  pub least : time ≡ least_time (in_order (joined (shown old.queues)))

pub advanced_within : (now time pending q : ℕ) (later : Option ℕ) (old new : Contents Due) → IsKept now pending later old → AllLater now old.queues → IsFirst old.queues (2 * (now % TICKS) + 2) ACTIVE time →
    q ≡ 2 * (time % TICKS) → new.queues ≡ moved_to_active old.queues q → new.spare ≡ old.spare → Advanced time pending later old new
advanced_within now time pending q later old new kept all first is moved spare =
    let queues = old.queues in
    let tick = 2 * (time % TICKS) in
    let counted = queues_counted now queues kept.wheel in
    let long : ACTIVE < length queues = omega arith in
    let other : tick ≢ ACTIVE = (λ e. omega arith) in
    let made : new.queues ≡ moved_to_active queues tick = moved ∙ ap (moved_to_active queues) is in
    let adv = advances now time (shown queues) kept.wheel all (first_shown queues (2 * (now % TICKS) + 2) time first) in
    let seen = ap shown made ∙ shown-moved queues tick long other (raw_empty now queues kept.wheel all) in
    record {
      kept = record {
        wheel = subst (IsWheel time) (sym seen) adv.wheel;
        counted = ap (λ qs. length (joined qs)) made ∙ length-moved queues tick long (omega arith) other ∙ kept.counted;
        fits = omega (arith, kept.fits);
        least = kept.least ∙ ap least_of (sym (ap (λ qs. get_or qs OVERFLOW []) made ∙ moved_other queues tick OVERFLOW (λ e. omega arith) (λ e. omega arith)));
      };
      order = ap (λ qs. in_order (joined qs)) seen ∙ adv.order;
      least = sym adv.least;
    }

least_from : (dues : List Due) (time : ℕ) → least_of dues ≡ Some time → time ≡ least_time dues
least_from [] time is = cc
least_from (due ∷ dues) time is = cc

some_least : (dues : List Due) → 0 < length dues → IsSome (least_of dues)
some_least [] some = absurd (omega arith)
some_least (due ∷ dues) some = refl

-- all dues of a wheel stand in overflow
pub record IsDue (pending : ℕ) (queues : List (List Due)) : Type 0 where
  pub others : AreEmpty queues 0 OVERFLOW
  pub counted : length (get_or queues OVERFLOW []) ≡ pending
  pub timely : All (IsTimelyAt (least_time (get_or queues OVERFLOW []))) (get_or queues OVERFLOW [])
  pub order : in_order (get_or queues OVERFLOW []) ≡ in_order (joined (shown queues))
  pub least : least_time (get_or queues OVERFLOW []) ≡ least_time (in_order (joined (shown queues)))

pub in_overflow : (now pending : ℕ) (later : Option ℕ) (old : Contents Due) → IsKept now pending later old → AllLater now old.queues → AreEmpty old.queues (2 * (now % TICKS) + 2) ACTIVE → IsDue pending old.queues
in_overflow now pending later old kept all empty =
    let queues = old.queues in
    let counted = queues_counted now queues kept.wheel in
    let long : ACTIVE < length queues = omega arith in
    let o = over now (shown queues) kept.wheel all (empty_shown queues (2 * (now % TICKS) + 2) ACTIVE (omega arith) empty) in
    let same : get_or (shown queues) OVERFLOW [] ≡ get_or queues OVERFLOW [] = shown_other queues OVERFLOW (λ e. omega arith) in
    let order : in_order (joined (shown queues)) ≡ in_order (get_or queues OVERFLOW []) = o.order ∙ ap in_order same in
    record {
      others = λ q from below. go q below (cases_eq q ACTIVE) o.others;
      counted = sym (length-in_order (get_or queues OVERFLOW [])) ∙ ap length (sym order) ∙ length-in_order (joined (shown queues)) ∙ length-joined_shown queues long ∙ kept.counted;
      timely = subst (λ (ds : List Due). All (IsTimelyAt (least_time ds)) ds) same o.timely;
      order = sym order;
      least = sym (o.least ∙ ap least_time same);
    } where
      go : (q : ℕ) → q < OVERFLOW → (q ≡ ACTIVE) ⊎ (q ≢ ACTIVE) → AreEmpty (shown old.queues) 0 OVERFLOW → get_or old.queues q [] ≡ []
      go q below (inl same) none = ap (λ j. get_or old.queues j []) same ∙ raw_empty now old.queues kept.wheel all
      go q below (inr other) none = sym (shown_other old.queues q other) ∙ none q (omega arith) below

pub some_later : (now pending : ℕ) (later : Option ℕ) (old : Contents Due) → IsKept now pending later old → IsDue pending old.queues → 0 < pending → IsSome later
some_later now pending later old kept due some = subst IsSome (sym kept.least) (some_least (get_or old.queues OVERFLOW []) (omega (arith, due.counted)))

pub time_is : (now pending : ℕ) (later : Option ℕ) (old : Contents Due) (time : ℕ) → IsKept now pending later old → later ≡ Some time → time ≡ least_time (get_or old.queues OVERFLOW [])
time_is now pending later old time kept is = least_from (get_or old.queues OVERFLOW []) time (sym kept.least ∙ is)

map_active : (now : ℕ) (dues : List Due) → AllByRecursion (IsPlaced now ACTIVE) dues → map activated dues ≡ dues
map_active now [] all = refl
map_active now (due ∷ dues) all = ap (λ d. d ∷ map activated dues) (activated_same due (active_there now due all.0)) ∙ ap (λ ds. due ∷ ds) (map_active now dues all.1)

-- where no due was promoted, the queues are as they are shown
shown_same : (now : ℕ) (queues : List (List Due)) → IsWheel now queues → shown queues ≡ queues
shown_same now queues wheel = set_unchanged queues ACTIVE (map activated (get_or queues ACTIVE [])) (sym (map_active now (get_or queues ACTIVE []) (wheel.placed ACTIVE (omega arith))))

pub advanced_over : (now time pending : ℕ) (later later' : Option ℕ) (old new : Contents Due) → IsKept now pending later old → IsDue pending old.queues → later ≡ Some time →
    IsWheel time new.queues → in_order (joined new.queues) ≡ in_order (get_or old.queues OVERFLOW []) → later' ≡ least_of (get_or new.queues OVERFLOW []) → new.spare ≡ old.spare → Advanced time pending later' old new
advanced_over now time pending later later' old new kept due is wheel order after spare =
    let seen = shown_same time new.queues wheel in
    record {
      kept = record {
        wheel = subst (IsWheel time) (sym seen) wheel;
        counted = sym (length-in_order (joined new.queues)) ∙ ap length order ∙ length-in_order (get_or old.queues OVERFLOW []) ∙ due.counted;
        fits = omega (arith, kept.fits);
        least = after;
      };
      order = ap (λ qs. in_order (joined qs)) seen ∙ order ∙ due.order;
      least = time_is now pending later old time kept is ∙ due.least;
    }
