-- What each step makes of a wheel's queues. No public clause cites this module.
use Rattle.std.specs.Prelude.{◌≡◌, ℕ, ◌+◌, ◌*◌, ◌%◌, ◌<◌, ◌≤◌, min, Bool, is_some, nat_eq, Option, Some, None, List, [], ◌∷◌, ◌++◌, slice_get, slice_index_or, slice_set, if◌then◌else◌}
use Rattle.event_pool.specs.declared.agenda.Due.{Due}
use Rattle.event_pool.specs.declared.agenda.Settled.{Settled}
use Rattle.event_pool.specs.declared.agenda.Settled.TheVariants.{Ready, TimeEnds, Empty}
use Rattle.time_wheel.specs.TimeWheel.{queue_for, activated}
use Rattle.time_wheel.specs.declared.queues.TheConstants.{TICKS, ACTIVE, INACTIVE, OVERFLOW}

-- a due of a queue as it is meant: in the active queue it is Active
abbrev pub shown_due : ℕ → Due → Due
shown_due queue due = if nat_eq queue ACTIVE then activated due else due

-- the earlier of a time, if there is one, and another
abbrev pub sooner_of : Option ℕ → ℕ → ℕ
sooner_of None time = time
sooner_of (Some other) time = min other time

-- the least time of overflow after a due of this time was put into the queue
abbrev pub overflow_time_after : Option ℕ → ℕ → ℕ → Option ℕ
overflow_time_after least queue time = if nat_eq queue OVERFLOW then Some (sooner_of least time) else least

-- whether a due stands in the queue
abbrev pub has_due : List (List Due) → ℕ → Bool
has_due queues q = is_some (slice_get (slice_index_or queues q []) 0)

-- the queue whose dues become Active where none is: the Inactive one, or where none stands there, the
-- Nonblocking one of now
abbrev pub next_queue : ℕ → List (List Due) → ℕ
next_queue now queues = if has_due queues INACTIVE then INACTIVE else 2 * (now % TICKS) + 1

-- the queues after all items of one went behind those of the active one
abbrev pub moved_to_active : List (List Due) → ℕ → List (List Due)
moved_to_active queues from =
    slice_set (slice_set queues ACTIVE (slice_index_or queues ACTIVE [] ++ slice_index_or queues from [])) from []

-- the queues after settling
abbrev pub promoted_queues : ℕ → List (List Due) → List (List Due)
promoted_queues now queues =
    if has_due queues ACTIVE then queues else moved_to_active queues (next_queue now queues)

-- what settling answers, of so many dues
abbrev pub found_in : List (List Due) → ℕ → Settled
found_in queues pending =
    if nat_eq pending 0 then Empty else if has_due queues ACTIVE then Ready else TimeEnds

-- the queues from one on, below another, are empty
abbrev pub AreEmpty : List (List Due) → ℕ → ℕ → Type 0
AreEmpty queues from to = (q : ℕ) → from ≤ q → q < to → slice_index_or queues q [] ≡ []

-- in the queues from one on, below another, the first due of the first queue that has one is of this
-- time
pub record IsFirst (queues : List (List Due)) (from to time : ℕ) : Type 0 where
  pub queue : ℕ
  pub due : Due
  pub above : from ≤ queue
  pub below : queue < to
  pub before : AreEmpty queues from queue
  pub first : slice_get (slice_index_or queues queue []) 0 ≡ Some due
  pub timed : due.time ≡ time

-- the queues after a due was put last in its queue
abbrev pub pushed : List (List Due) → ℕ → Due → List (List Due)
pushed queues q due = slice_set queues q (slice_index_or queues q [] ++ due ∷ [])

-- the queues after the first of the overflow dues went to its queue
abbrev pub cascaded : ℕ → List (List Due) → List Due → List (List Due)
cascaded now queues [] = queues
cascaded now queues (due ∷ dues) =
    pushed (slice_set queues OVERFLOW dues) (queue_for due.region now due.time) due

-- the least time of those that went back to overflow, after the first of the overflow dues went to
-- its queue
abbrev pub overflow_time_cascaded : ℕ → Option ℕ → List Due → Option ℕ
overflow_time_cascaded now least [] = least
overflow_time_cascaded now least (due ∷ dues) =
    overflow_time_after least (queue_for due.region now due.time) due.time
