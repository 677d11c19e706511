-- What a contract sees of the threads: the machine's table, and the key of each live thread.
use Rattle.std.specs.Prelude.{◌≡◌, ℕ, nat_eq, Bool, false, Option, Some, None, unwrap_or, List, map}
use Rattle.std.specs.List.{position_from}
use Rattle.event_pool.specs.declared.agenda.Act.TheVariants.{Run}
use Rattle.event_pool.specs.declared.agenda.Due.{Due}
use Rattle.event_pool.specs.declared.agenda.Region.TheVariants.{Active}
use Rattle.event_pool.specs.Schedule.{Schedule, put_all}
use Rattle.vvp_threads.specs.declared.thread.Frame.{Frame}
use Rattle.vvp_threads.specs.Table.{Table, slot_at, changed_at, with_frame}

-- the table, and by serial the keys of the live threads
pub record KeyedTable : Type 0 where
  pub table : Table
  pub keys : List (Option ℕ)

-- the live thread with this serial has this key
abbrev pub IsKeyOf : KeyedTable → ℕ → ℕ → Type 0
IsKeyOf threads serial key = slot_at threads.keys serial ≡ Some key

-- no live thread has this key
abbrev pub IsNoKey : KeyedTable → ℕ → Type 0
IsNoKey threads key = (serial : ℕ) → IsKeyOf threads serial key → ⊥

-- no key and no serial, or the key of the live thread with this serial
abbrev pub IsNamed : KeyedTable → Option ℕ → Option ℕ → Type 0
IsNamed threads None None = Unit {0}
IsNamed threads None (Some serial) = ⊥
IsNamed threads (Some key) None = ⊥
IsNamed threads (Some key) (Some serial) = IsKeyOf threads serial key

-- the due with which the thread with this serial, kept under this key, goes on
abbrev pub run_under : ℕ → ℕ → ℕ → Due
run_under now serial key = record { time = now; region = Active; act = Run serial key }

-- the due with which a thread goes on
abbrev pub run_of : ℕ → List (Option ℕ) → ℕ → Due
run_of now keys serial = run_under now serial (unwrap_or (slot_at keys serial) 0)

-- what is pending after the threads with these serials got a Run each, in order
abbrev pub with_runs : Schedule → List (Option ℕ) → List ℕ → Schedule
with_runs schedule keys serials = put_all schedule (map (run_of schedule.now keys) serials)

abbrev pub is_key : ℕ → Option ℕ → Bool
is_key key None = false
is_key key (Some other) = nat_eq other key

-- the serial of the live thread with this key
abbrev pub serial_under : KeyedTable → ℕ → ℕ
serial_under threads key = unwrap_or (position_from (is_key key) 0 threads.keys) 0

-- the threads, with other contents of the frame of the one with this key
abbrev pub with_frame_under : KeyedTable → ℕ → Frame → KeyedTable
with_frame_under threads key frame =
    record threads { table = record threads.table { threads = changed_at threads.table.threads (serial_under threads key) (with_frame frame) } }
