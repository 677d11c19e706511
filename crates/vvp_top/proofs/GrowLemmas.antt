-- A step only adds to what was printed and dumped, and a dump that has a name keeps it.
use Rattle.std.proofs.Common.{◌≡◌, ℕ, Bool, true, false, cond, ◌&&◌, ◌||◌, not, ◌==◌, nat_lt, Option, Some, None, List, [], ◌∷◌, ◌++◌, slice_get, refl, sym, ap, subst, ◌∙◌, append_assoc, append-nil}
use Rattle.std.specs.Option.{option_map_or}
use Rattle.four_state.specs.declared.bits.Bit.{Bit}
use Rattle.vvp_edge.specs.Bytes.{IsPrefix}
use Rattle.vvp_ops.specs.declared.op.Op.{Op}
use Rattle.vvp_ops.specs.declared.args.Arg.{Arg}
use Rattle.vvp_ops.specs.declared.args.Arg.TheVariants as arg
use Rattle.vcd_write.specs.declared.types.Section.{Section}
use Rattle.vcd_write.specs.declared.types.Section.TheVariants as section
use Rattle.sys_tasks.specs.declared.names.Task.{Task}
use Rattle.sys_tasks.specs.declared.names.Task.TheVariants as task
use Rattle.sys_tasks.specs.declared.names.Said.{Said}
use Rattle.sys_tasks.specs.declared.names.Said.TheVariants as said
use Rattle.sys_tasks.specs.declared.state.Call.{Call}
use Rattle.sys_tasks.specs.declared.state.TaskState.{TaskState}
use Rattle.sys_tasks.specs.Names.{task_of}
use Rattle.sys_tasks.specs.Dumped.{chosen_with, dumped_values}
use Rattle.sys_tasks.specs.Tasks.{TasksNow, called, called_name, called_args, does, named, choosing, requesting, printed, with_state, said_of}
use Rattle.sys_tasks.specs.Phase.{dump_name, strobed, monitored_by, monitored, dumped, read_only, line_now, watched_now, same_values, header_due, timed, written, with_header, with_phase}
use Rattle.event_pool.specs.declared.agenda.Due.{Due}
use Rattle.event_pool.specs.declared.agenda.Act.{Act}
use Rattle.event_pool.specs.declared.agenda.Act.TheVariants.{Eval, Run, Update, Mature}
use Rattle.event_pool.specs.Schedule.{active_dues}
use Rattle.vvp_threads.specs.declared.thread.Frame.{Frame}
use Rattle.vvp_threads.specs.declared.thread.Thread.{Thread}
use Rattle.vvp_threads.specs.Table.{thread_of, live_count}
use Rattle.op_exec.specs.declared.effect.Effect.{Effect}
use Rattle.op_exec.specs.declared.effect.Effect.TheVariants.{Next, Goto, Set, Assign, Delay, Wait, Fork, Join, Disable, Trigger, Task as CallsTask, Func, Force, Release, End, Trap}
use Rattle.op_exec.specs.Does.{does as does_row}
use Rattle.sym_link.specs.declared.program.Program.{Program}
use Rattle.sim_core.specs.declared.ending.Ending.{Ending}
use Rattle.sim_core.specs.Machine.{Machine, now_of, dues_of, words_now, is_live, at_next, phase}
use Rattle.sim_core.specs.Effects.{affect, done, told, with_call, without_items, items_of, scope_at, is_in_time}
use Rattle.sim_core.specs.Step.{proceeds, settle, idle, is_ready, time_ends, ready, apply, without_due, with_taken, take, choice_of, goes_on, step_from, step, is_idle, budgeted}

-- what was printed and dumped goes on, and the name stays
pub record Grows (old new : TasksNow) : Type 0 where
  pub out : IsPrefix old.out new.out
  pub dump : IsPrefix old.dump new.dump
  pub named : (name : List ℕ) → dump_name old.state ≡ Some name → dump_name new.state ≡ Some name

same_prefix : (bytes : List ℕ) → IsPrefix bytes bytes
same_prefix bytes = ([], sym (append-nil bytes))

pub prefix-then : (a b c : List ℕ) → IsPrefix a b → IsPrefix b c → IsPrefix a c
prefix-then a b c (more, first) (rest, second) = (more ++ rest, second ∙ ap (λ x. x ++ rest) first ∙ append_assoc a more rest)

pub grows-none : (tasks : TasksNow) → Grows tasks tasks
grows-none tasks = record { out = same_prefix tasks.out; dump = same_prefix tasks.dump; named = λ name is. is }

pub grows-then : (a b c : TasksNow) → Grows a b → Grows b c → Grows a c
grows-then a b c first second = record {
  out = prefix-then a.out b.out c.out first.out second.out;
  dump = prefix-then a.dump b.dump c.dump first.dump second.dump;
  named = λ name is. second.named name (first.named name is);
}

grows-same : (a b : TasksNow) → b ≡ a → Grows a b
grows-same a b same = subst (Grows a) (sym same) (grows-none a)

grows-either : (choice : Bool) (a b c : TasksNow) → Grows a b → Grows a c → Grows a (cond choice b c)
grows-either true a b c first second = first
grows-either false a b c first second = second

-- ---- what a call of a task makes of the state

named-only : (choice : Bool) (x : List ℕ) (name : List ℕ) → cond choice (Some x) None ≡ Some name → choice ≡ true
named-only true x name is = refl
named-only false x name is = absurd (let none : ⊥ = cc in none)

-- a dump with a name has a header
is-written : (state : TaskState) (name : List ℕ) → dump_name state ≡ Some name → (state.dumping == 2) ≡ true
unfolding dump_name
is-written state name is = named-only (state.dumping == 2) state.name name is

-- where the state of a dump with a header stays
stays-if : (state other : TaskState) (name : List ℕ) → dump_name state ≡ Some name → dump_name (cond (state.dumping == 2) state other) ≡ Some name
stays-if state other name is = ap (λ b. dump_name (cond b state other)) (is-written state name is) ∙ is

named-keeps : (args : List (Arg ℕ)) (state : TaskState) (name : List ℕ) → dump_name state ≡ Some name → dump_name (named args state) ≡ Some name
named-keeps (arg.Text bytes ∷ args) state name is = stays-if state (record state { name = bytes }) name is
named-keeps _ state name is = is

either-named : (choice : Bool) (a b : TaskState) (name : List ℕ) → dump_name a ≡ Some name → dump_name b ≡ Some name → dump_name (cond choice a b) ≡ Some name
either-named true a b name first second = first
either-named false a b name first second = second

keeps-requests : (state : TaskState) (requests : List Section) (name : List ℕ) → dump_name state ≡ Some name → dump_name (record state { requests = requests }) ≡ Some name
unfolding dump_name
keeps-requests state requests name is = is

requesting-keeps : (kind : Section) (state : TaskState) (name : List ℕ) → dump_name state ≡ Some name → dump_name (requesting kind state) ≡ Some name
requesting-keeps kind state name is =
    either-named (state.dumping == 0) state (record state { requests = state.requests ++ kind ∷ [] }) name is (keeps-requests state (state.requests ++ kind ∷ []) name is)

-- another state that names the dump alike
grows-state : (state : TaskState) (tasks : TasksNow) → ((name : List ℕ) → dump_name tasks.state ≡ Some name → dump_name state ≡ Some name) → Grows tasks (with_state state tasks)
grows-state state tasks keeps = record { out = same_prefix tasks.out; dump = same_prefix tasks.dump; named = keeps }

grows-printed : (bytes : List ℕ) (tasks : TasksNow) → Grows tasks (printed bytes tasks)
grows-printed bytes tasks = record { out = (bytes, refl); dump = same_prefix tasks.dump; named = λ name is. is }

-- fields that the name doesn't depend on
keeps-strobes : (state : TaskState) (strobes : List Call) (name : List ℕ) → dump_name state ≡ Some name → dump_name (record state { strobes = strobes }) ≡ Some name
unfolding dump_name
keeps-strobes state strobes name is = is

keeps-monitor : (state : TaskState) (monitor : Option Call) (on due : Bool) (shown : List (List Bit)) (name : List ℕ) → dump_name state ≡ Some name
    → dump_name (record state { monitor = monitor; monitor_on = on; monitor_due = due; shown = shown }) ≡ Some name
unfolding dump_name
keeps-monitor state monitor on due shown name is = is

does-grows : (t : Task) (call : Call) (now : ℕ) (words : ℕ → List (List Bit)) (tasks : TasksNow) → Grows tasks (does t call now words tasks)
does-grows task.Display call now words tasks = grows-printed _ tasks
does-grows task.Write call now words tasks = grows-printed _ tasks
does-grows task.Strobe call now words tasks = grows-state (record tasks.state { strobes = tasks.state.strobes ++ call ∷ [] }) tasks (keeps-strobes tasks.state (tasks.state.strobes ++ call ∷ []))
does-grows task.Monitor call now words tasks = grows-state (record tasks.state { monitor = Some call; monitor_on = true; monitor_due = true; shown = [] }) tasks (keeps-monitor tasks.state (Some call) true true [])
does-grows task.MonitorOff call now words tasks = grows-state (record tasks.state { monitor_on = false }) tasks (keeps-monitor tasks.state tasks.state.monitor false tasks.state.monitor_due tasks.state.shown)
does-grows task.MonitorOn call now words tasks = grows-state (record tasks.state { monitor_on = true; monitor_due = true }) tasks (keeps-monitor tasks.state tasks.state.monitor true true tasks.state.shown)
does-grows task.Finish call now words tasks = grows-none tasks
does-grows task.Stop call now words tasks = grows-none tasks
does-grows task.DumpFile call now words tasks = grows-state (named (called_args call.op) tasks.state) tasks (named-keeps (called_args call.op) tasks.state)
does-grows task.DumpVars call now words tasks =
    grows-state (choosing tasks.design (called_args call.op) tasks.state) tasks
    (stays-if tasks.state (record tasks.state { dumping = 1; chosen = chosen_with tasks.design (called_args call.op) tasks.state.chosen }))
does-grows task.DumpOff call now words tasks = grows-state (requesting section.Off tasks.state) tasks (requesting-keeps section.Off tasks.state)
does-grows task.DumpOn call now words tasks = grows-state (requesting section.On tasks.state) tasks (requesting-keeps section.On tasks.state)
does-grows task.DumpAll call now words tasks = grows-state (requesting section.All tasks.state) tasks (requesting-keeps section.All tasks.state)
does-grows task.DumpFlush call now words tasks = grows-none tasks

called-grows : (op : Op ℕ) (scope : ℕ) (kept : List (List Bit)) (now : ℕ) (words : ℕ → List (List Bit)) (tasks : TasksNow) → Grows tasks (called op scope kept now words tasks)
unfolding called
called-grows op scope kept now words tasks = go (task_of (called_name op)) where
  go : (t : Option Task) → Grows tasks (option_map_or (λ t. does t (record { op = op; scope = scope; kept = kept }) now words tasks) t tasks)
  go None = grows-none tasks
  go (Some t) = does-grows t (record { op = op; scope = scope; kept = kept }) now words tasks

-- ---- the phase

strobed-grows : (now : ℕ) (words : ℕ → List (List Bit)) (tasks : TasksNow) → Grows tasks (strobed now words tasks)
unfolding strobed
strobed-grows now words tasks =
    let bare : TasksNow = with_state (record tasks.state { strobes = [] }) tasks in
    grows-then tasks bare _ (grows-state (record tasks.state { strobes = [] }) tasks (keeps-strobes tasks.state [])) (grows-printed _ bare)

monitored-grows : (now : ℕ) (words : ℕ → List (List Bit)) (tasks : TasksNow) → Grows tasks (monitored now words tasks)
unfolding monitored
monitored-grows now words tasks = by_call tasks.state.monitor where
  by_call : (call : Option Call) → Grows tasks (monitored_by now words call tasks)
  by_call None = grows-none tasks
  by_call (Some call) =
      let values : List (List Bit) = watched_now tasks.design.entries tasks.design.scopes now words call in
      let bare : TasksNow = with_state (record tasks.state { monitor_due = false; shown = values }) tasks in
      grows-either (tasks.state.monitor_on && (tasks.state.monitor_due || not (same_values values tasks.state.shown))) tasks
      (printed (line_now tasks.design.entries tasks.design.scopes now words call) bare) tasks
      (grows-then tasks bare _ (grows-state (record tasks.state { monitor_due = false; shown = values }) tasks (keeps-monitor tasks.state tasks.state.monitor tasks.state.monitor_on false values)) (grows-printed _ bare))
      (grows-none tasks)

-- a dump that has a name before the phase has it after it
phase-named : (now : ℕ) (header : Bool) (values : List (List Bit)) (tasks : TasksNow) (name : List ℕ) → dump_name tasks.state ≡ Some name → dump_name (with_phase now header values (with_header tasks)).state ≡ Some name
unfolding dump_name
phase-named now header values tasks name is = ap (λ b. cond b (Some tasks.state.name) None) (sym (named-only (tasks.state.dumping == 2) tasks.state.name name is)) ∙ is

dumped-grows : (now : ℕ) (words : ℕ → List (List Bit)) (tasks : TasksNow) → Grows tasks (dumped now words tasks)
unfolding dumped
dumped-grows now words tasks =
    let header : Bool = tasks.state.dumping == 1 in
    let values : List (List Bit) = dumped_values tasks.design words tasks.state.chosen in
    grows-either (tasks.state.dumping == 0) tasks tasks (with_phase now header values (with_header tasks)) (grows-none tasks) (record {
      out = same_prefix tasks.out;
      dump = (header_due tasks.design tasks.state ++ timed now (written header values tasks.state.requests (record { body = []; on = tasks.state.dump_on; last = tasks.state.last })).body, append_assoc tasks.dump _ _);
      named = phase-named now header values tasks;
    })

read_only-grows : (now : ℕ) (words : ℕ → List (List Bit)) (tasks : TasksNow) → Grows tasks (read_only now words tasks)
unfolding read_only
read_only-grows now words tasks =
    let strobes : TasksNow = strobed now words tasks in
    let prints : TasksNow = monitored now words strobes in
    grows-then tasks strobes _ (strobed-grows now words tasks) (grows-then strobes prints _ (monitored-grows now words strobes) (dumped-grows now words prints))

-- ---- the machine

phase-grows : (program : Program) (machine : Machine) → Grows machine.tasks (phase program machine).tasks
phase-grows program machine = read_only-grows (now_of machine) (words_now program machine) machine.tasks

told-grows : (program : Program) (s : Said) (machine : Machine) → Grows machine.tasks (told program s machine).tasks
told-grows program said.Going machine = grows-none machine.tasks
told-grows program said.Finish machine = phase-grows program machine
told-grows program said.Stop machine = phase-grows program machine

-- either of two machines whose tasks are as before
either-same : (choice : Bool) (tasks : TasksNow) (a b : Machine) → a.tasks ≡ tasks → b.tasks ≡ tasks → (cond choice a b).tasks ≡ tasks
either-same true tasks a b first second = first
either-same false tasks a b first second = second

affect-grows : (program : Program) (op : Op ℕ) (effect : Effect) (serial : ℕ) (frame : Frame) (machine : Machine) → Grows machine.tasks (affect program op effect serial frame machine).tasks
affect-grows program op Next serial frame machine = grows-none machine.tasks
affect-grows program op (Goto place) serial frame machine = grows-none machine.tasks
affect-grows program op (Set item word offset value) serial frame machine = grows-none machine.tasks
affect-grows program op (Assign item word offset value ticks) serial frame machine = grows-same machine.tasks _ (either-same (is_in_time ticks machine) machine.tasks _ _ refl refl)
affect-grows program op (Delay ticks) serial frame machine = grows-same machine.tasks _ (either-same (is_in_time ticks machine) machine.tasks _ _ refl refl)
affect-grows program op (Wait event) serial frame machine = grows-none machine.tasks
affect-grows program op (Fork code scope) serial frame machine = grows-same machine.tasks _ (either-same (nat_lt (live_count machine.state.threads) 65536) machine.tasks _ _ refl refl)
affect-grows program op (Join child) serial frame machine = grows-same machine.tasks _ (either-same (is_live child machine) machine.tasks _ _ refl refl)
affect-grows program op (Disable scope) serial frame machine = grows-none machine.tasks
affect-grows program op (Trigger event) serial frame machine = grows-none machine.tasks
affect-grows program op CallsTask serial frame machine =
    let called_tasks : TasksNow = called op (scope_at program frame.pc) (items_of op frame) (now_of machine) (words_now program machine) machine.tasks in
    grows-then machine.tasks called_tasks _ (called-grows op (scope_at program frame.pc) (items_of op frame) (now_of machine) (words_now program machine) machine.tasks)
    (told-grows program (said_of op) (at_next serial (without_items op frame) (with_call program op frame machine)))
affect-grows program op Func serial frame machine = grows-none machine.tasks
affect-grows program op (Force item value) serial frame machine = grows-none machine.tasks
affect-grows program op (Release item base width keep) serial frame machine = grows-none machine.tasks
affect-grows program op End serial frame machine = grows-none machine.tasks
affect-grows program op (Trap kind) serial frame machine = grows-none machine.tasks

done-grows : (program : Program) (op : Option (Op ℕ)) (serial : ℕ) (frame : Frame) (machine : Machine) → Grows machine.tasks (done program op serial frame machine).tasks
done-grows program None serial frame machine = grows-none machine.tasks
done-grows program (Some op) serial frame machine = let left = does_row op frame (words_now program machine) in affect-grows program op left.1 serial left.0 machine

proceeds-grows : (program : Program) (serial : ℕ) (thread : Option Thread) (machine : Machine) → Grows machine.tasks (proceeds program serial thread machine).tasks
proceeds-grows program serial None machine = grows-none machine.tasks
proceeds-grows program serial (Some thread) machine = done-grows program (slice_get program.code thread.frame.pc) serial thread.frame machine

time_ends-grows : (program : Program) (dues : List Due) (machine : Machine) → Grows machine.tasks (time_ends program dues machine).tasks
time_ends-grows program [] machine = phase-grows program machine
time_ends-grows program (due ∷ dues) machine = phase-grows program machine

either-grows : (choice : Bool) (tasks : TasksNow) (a b : Machine) → Grows tasks a.tasks → Grows tasks b.tasks → Grows tasks (cond choice a b).tasks
either-grows true tasks a b first second = first
either-grows false tasks a b first second = second

ready-grows : (program : Program) (machine : Machine) → Grows machine.tasks (ready program machine).tasks
ready-grows program machine =
    let settled : Machine = settle machine in
    either-grows (is_ready settled) machine.tasks settled (time_ends program (dues_of settled) settled) (grows-none machine.tasks) (time_ends-grows program (dues_of settled) settled)

apply-same : (program : Program) (act : Act) (machine : Machine) → (apply program act machine).tasks ≡ machine.tasks
apply-same program (Eval item) machine = refl
apply-same program (Run serial key) machine = either-same (is_live serial machine) machine.tasks _ _ refl refl
apply-same program (Update item word offset value) machine = refl
apply-same program (Mature item number) machine = refl

take-same : (program : Program) (place : ℕ) (due : Option Due) (machine : Machine) → (take program place due machine).tasks ≡ machine.tasks
take-same program place None machine = refl
take-same program place (Some due) machine = apply-same program due.act (with_taken (without_due place machine))

goes_on-grows : (program : Program) (choose : Machine → ℕ) (running : Option ℕ) (machine : Machine) → Grows machine.tasks (goes_on program choose running machine).tasks
goes_on-grows program choose (Some serial) machine = proceeds-grows program serial (thread_of machine.state.threads serial) machine
goes_on-grows program choose None machine =
    let settled : Machine = ready program machine in
    grows-then machine.tasks settled.tasks _ (ready-grows program machine)
    (grows-same settled.tasks _ (take-same program (choose settled) (slice_get (active_dues (now_of settled) (dues_of settled)) (choose settled)) settled))

step_from-grows : (program : Program) (choose : Machine → ℕ) (ending : Option Ending) (machine : Machine) → Grows machine.tasks (step_from program choose ending machine).tasks
step_from-grows program choose (Some ending) machine = grows-none machine.tasks
step_from-grows program choose None machine = goes_on-grows program choose machine.running machine

pub step-grows : (program : Program) (order : ℕ) (machine : Machine) → Grows machine.tasks (step program order machine).tasks
step-grows program order machine = step_from-grows program (choice_of order) machine.ending machine

pub budgeted-grows : (program : Program) (machine : Machine) → Grows machine.tasks (budgeted program machine).tasks
budgeted-grows program machine = either-grows (is_idle machine) machine.tasks (idle (phase program machine)) machine (phase-grows program machine) (grows-none machine.tasks)
