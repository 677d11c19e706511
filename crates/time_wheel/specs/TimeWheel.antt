-- How the queues of a time wheel stand for its dues. For each time and region, the dues of that time
-- and region stand in one queue, in the order of putting; between queues there is no order.
use Rattle.std.specs.Prelude.{◌≡◌, ℕ, ◌+◌, ◌*◌, ◌/◌, ◌%◌, ◌^◌, ◌<◌, nat_eq, nat_lt, Option, Some, None, List, [], ◌∷◌, ◌++◌, map, length, slice_index_or, slice_set, if◌then◌else◌}
use Rattle.std.specs.List.{AllByRecursion}
use Rattle.event_pool.specs.declared.agenda.Region.{Region}
use Rattle.event_pool.specs.declared.agenda.Region.TheVariants.{Active, Inactive, Nonblocking}
use Rattle.event_pool.specs.declared.agenda.Due.{Due}
use Rattle.event_pool.specs.Contents.{Contents}
use Rattle.event_pool.specs.Schedule.{IsTimelyAt, least_time}
use Rattle.time_wheel.specs.declared.queues.TheConstants.{TICKS, ACTIVE, INACTIVE, OVERFLOW, QUEUES}

-- the queue of the dues of a region at a time: that of now, else the tick's in the block of now, else
-- overflow
abbrev pub queue_for : Region → ℕ → ℕ → ℕ
queue_for Active now time =
    if nat_eq time now then ACTIVE
    else if nat_lt (now / TICKS) (time / TICKS) then OVERFLOW
    else 2 * (time % TICKS)
queue_for Inactive now time = INACTIVE
queue_for Nonblocking now time =
    if nat_lt (now / TICKS) (time / TICKS) then OVERFLOW
    else 2 * (time % TICKS) + 1

-- the due may stand in the queue: it isn't before now, an Inactive one is at now, and the queue is
-- its own
abbrev pub IsPlaced : ℕ → ℕ → Due → Type 0
IsPlaced now queue due = IsTimelyAt now due × (queue_for due.region now due.time ≡ queue)

-- each due stands in its queue
pub record IsWheel (now : ℕ) (queues : List (List Due)) : Type 0 where
  pub counted : length queues ≡ QUEUES
  pub placed : (q : ℕ) → q < QUEUES → AllByRecursion (IsPlaced now q) (slice_index_or queues q [])

-- the lists, one after another
abbrev pub joined : {X : Type 0} → List (List X) → List X
joined [] = []
joined (xs ∷ xss) = xs ++ joined xss

-- the due as an Active one
abbrev pub activated : Due → Due
activated due = record due { region = Active }

-- the queues with the dues of the active one Active: a due that was promoted keeps in its slot the
-- region that it was put with
abbrev pub shown : List (List Due) → List (List Due)
shown queues = slice_set queues ACTIVE (map activated (slice_index_or queues ACTIVE []))

-- the least time of the dues, if there is a due
abbrev pub least_of : List Due → Option ℕ
least_of [] = None
least_of (due ∷ dues) = Some (least_time (due ∷ dues))

-- what holds of a wheel's fields: its queues stand for the dues, `pending` is their number, and
-- `overflow_time` is the least time of those in overflow
pub record IsKept (now pending : ℕ) (overflow_time : Option ℕ) (contents : Contents Due) : Type 0 where
  pub wheel : IsWheel now (shown contents.queues)
  pub counted : length (joined contents.queues) ≡ pending
  pub fits : pending + contents.spare < 2 ^ 64
  pub least : overflow_time ≡ least_of (slice_index_or contents.queues OVERFLOW [])
