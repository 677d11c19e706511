-- The read-only phase at the end of a time step (IEEE 1364-2005, 5.4.1, 17.1.2, 17.1.3 and 18): the strobes, the monitor, then the dump.
use Rattle.std.specs.Prelude.{◌≡◌, ℕ, Bool, true, false, not, ◌==◌, ◌&&◌, ◌||◌, List, [], ◌∷◌, ◌++◌, Option, Some, None, IfNone, IfSome, if◌then◌else◌}
use Rattle.std.specs.List.{fold}
use Rattle.std.specs.Cmp.Lexicographic.{pointwise}
use Rattle.four_state.specs.declared.bits.Bit.{Bit}
use Rattle.four_state.specs.Same.{is_same}
use Rattle.vcd_write.specs.declared.types.Section.{Section}
use Rattle.vcd_write.specs.declared.types.Section.TheVariants as section
use Rattle.sym_link.specs.declared.program.ScopeRow.{ScopeRow}
use Rattle.sys_tasks.specs.declared.design.Entry.{Entry}
use Rattle.sys_tasks.specs.declared.state.Call.{Call}
use Rattle.sys_tasks.specs.declared.state.TaskState.{TaskState}
use Rattle.sys_tasks.specs.Conditions.{IsBetween}
use Rattle.sys_tasks.specs.Design.{Design}
use Rattle.sys_tasks.specs.Arguments.{watched}
use Rattle.sys_tasks.specs.Dumped.{dump_scopes, dump_items, dumped_values}
use Rattle.vcd_write.specs.Header.{header_text}
use Rattle.vcd_write.specs.Section.{section_text, changes_text, time_text, written_by}
use Rattle.sys_tasks.specs.Tasks.{TasksNow, called_args, call_line, printed, sight_of, with_state}

-- the line that a kept call prints, by the values now and the items that it popped then
abbrev pub line_now : List Entry → List ScopeRow → ℕ → (ℕ → List (List Bit)) → Call → List ℕ
line_now entries scopes now words call = call_line entries (sight_of scopes call now words) (called_args call.op)

-- Strobes

-- each strobe prints its line, in the order of the calls, and none is kept
unfoldable pub lines_now : List Entry → List ScopeRow → ℕ → (ℕ → List (List Bit)) → List Call → List ℕ
lines_now entries scopes now words [] = []
lines_now entries scopes now words (call ∷ calls) = line_now entries scopes now words call ++ lines_now entries scopes now words calls

unfoldable pub strobed : ℕ → (ℕ → List (List Bit)) → TasksNow → TasksNow
strobed now words tasks =
    printed (lines_now tasks.design.entries tasks.design.scopes now words tasks.state.strobes) (with_state (record tasks.state { strobes = [] }) tasks)

-- Monitor

-- whether two lists of vectors are the same, x and z too
unfoldable pub same_values : List (List Bit) → List (List Bit) → Bool
same_values left right = pointwise is_same left right

-- the values that a kept call watches now
abbrev pub watched_now : List Entry → List ScopeRow → ℕ → (ℕ → List (List Bit)) → Call → List (List Bit)
watched_now entries scopes now words call = watched entries (sight_of scopes call now words) (called_args call.op)

-- The monitor prints while it is on, where it is due or a value differs from the one printed last.
abbrev pub monitored_by : ℕ → (ℕ → List (List Bit)) → Option Call → TasksNow → TasksNow
monitored_by now words None tasks = tasks
monitored_by now words (Some call) tasks =
    let values = watched_now tasks.design.entries tasks.design.scopes now words call in
    if tasks.state.monitor_on && (tasks.state.monitor_due || not (same_values values tasks.state.shown))
    then printed (line_now tasks.design.entries tasks.design.scopes now words call) (with_state (record tasks.state { monitor_due = false; shown = values }) tasks)
    else tasks

unfoldable pub monitored : ℕ → (ℕ → List (List Bit)) → TasksNow → TasksNow
monitored now words tasks = monitored_by now words tasks.state.monitor tasks

-- The dump

-- what the dump writes in a phase after the line of the time, whether it is on then, and the values that it has written last
pub record Writing : Type 0 where
  pub body : List ℕ
  pub on : Bool
  pub last : List (List Bit)

-- a section by the values now, after which the dump is on or off
abbrev pub written_section : Section → Bool → List (List Bit) → Writing → Writing
written_section kind on values w = record { body = w.body ++ section_text kind values; on = on; last = written_by kind w.last values }

-- A request: Off while the dump is on writes x for each value and leaves the values written last; On while it is off and All
-- while it is on write the values now. Any other writes nothing.
abbrev pub requested : List (List Bit) → Writing → Section → Writing
requested values w section.Vars = w
requested values w section.Off = if w.on then written_section section.Off false values w else w
requested values w section.On = if w.on then w else written_section section.On true values w
requested values w section.All = if w.on then written_section section.All true values w else w

-- while the dump is on, the items whose value differs from the one written last
abbrev pub with_changes : List (List Bit) → Writing → Writing
with_changes values w = if w.on then record w { body = w.body ++ changes_text w.last values; last = values } else w

-- where the header is due, the section of all values stands before the requests
abbrev pub opened : Bool → List (List Bit) → Writing → Writing
opened header values w = if header then written_section section.Vars true values w else w

-- what a phase writes, after what is written so far: the requests in their order, then what has changed
abbrev pub written : Bool → List (List Bit) → List Section → Writing → Writing
written header values requests w = with_changes values (fold (requested values) (opened header values w) requests)

abbrev pub header_due : Design → TaskState → List ℕ
header_due design state = if state.dumping == 1 then header_text design.precision (dump_scopes design) (dump_items design state.chosen) else []

-- the line of the time stands before what is written, where anything is
abbrev pub timed : ℕ → List ℕ → List ℕ
timed now [] = []
timed now (byte ∷ body) = time_text now ++ (byte ∷ body)

-- the dump after its header
abbrev pub with_header : TasksNow → TasksNow
with_header tasks = record tasks { dump = tasks.dump ++ header_due tasks.design tasks.state }

-- the sections and changes of a phase
abbrev pub with_phase : ℕ → Bool → List (List Bit) → TasksNow → TasksNow
with_phase now header values tasks =
    let w = written header values tasks.state.requests (record { body = []; on = tasks.state.dump_on; last = tasks.state.last }) in
    record tasks { state = record tasks.state { dumping = 2; dump_on = w.on; requests = []; last = w.last }; dump = tasks.dump ++ timed now w.body }

-- the dump's part of a phase; before the first `$dumpvars` it has none
unfoldable pub dumped : ℕ → (ℕ → List (List Bit)) → TasksNow → TasksNow
dumped now words tasks =
    if tasks.state.dumping == 0 then tasks
    else with_phase now (tasks.state.dumping == 1) (dumped_values tasks.design words tasks.state.chosen) (with_header tasks)

-- The phase

unfoldable pub read_only : ℕ → (ℕ → List (List Bit)) → TasksNow → TasksNow
read_only now words tasks = dumped now words (monitored now words (strobed now words tasks))

-- the name of the dump, from the header on
unfoldable pub dump_name : TaskState → Option (List ℕ)
dump_name state = if state.dumping == 2 then Some state.name else None

-- A phase that memory cut short: each buffer has a beginning of what was due. A dump that has a name has the one that is
-- due, and one that has none has no bytes more.
pub record IsPartOf (old due new : TasksNow) : Type 0 where
  pub out : IsBetween old.out due.out new.out
  pub dump : IsBetween old.dump due.dump new.dump
  pub named : IfSome (dump_name new.state) (λ name. dump_name due.state ≡ Some name)
  pub unnamed : IfNone (dump_name new.state) (new.dump ≡ old.dump)
