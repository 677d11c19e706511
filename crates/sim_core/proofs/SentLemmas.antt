-- What was printed before is no matter to what is printed next: so a buffer may be handed over and cleared between two steps.
use Rattle.std.proofs.Common.{◌≡◌, ℕ, Bool, true, false, cond, ◌&&◌, ◌||◌, not, ◌==◌, ◌+◌, nat_lt, Option, Some, None, List, [], ◌∷◌, ◌++◌, slice_get, refl, ap, ◌∙◌, append_assoc}
use Rattle.std.specs.Option.{option_map_or}
use Rattle.four_state.specs.declared.bits.Bit.{Bit}
use Rattle.vvp_ops.specs.declared.op.Op.{Op}
use Rattle.sys_tasks.specs.declared.names.Task.{Task}
use Rattle.sys_tasks.specs.declared.names.Task.TheVariants as task
use Rattle.sys_tasks.specs.declared.state.Call.{Call}
use Rattle.sys_tasks.specs.Names.{task_of}
use Rattle.sys_tasks.specs.Tasks.{TasksNow, called, called_name, does, printed, with_state}
use Rattle.sys_tasks.specs.Phase.{strobed, monitored_by, monitored, dumped, read_only, line_now, watched_now, same_values, header_due, timed, written, with_header, with_phase}
use Rattle.sys_tasks.specs.Dumped.{dumped_values}
use Rattle.sys_tasks.specs.Tasks.{said_of}
use Rattle.sys_tasks.specs.declared.names.Said.{Said}
use Rattle.sys_tasks.specs.declared.names.Said.TheVariants as said
use Rattle.event_pool.specs.declared.agenda.Due.{Due}
use Rattle.event_pool.specs.declared.agenda.Act.{Act}
use Rattle.event_pool.specs.declared.agenda.Act.TheVariants.{Eval, Run, Update, Mature}
use Rattle.event_pool.specs.declared.agenda.Region.TheVariants.{Nonblocking}
use Rattle.event_pool.specs.Schedule.{active_dues}
use Rattle.event_pool.specs.Pending.{run_of}
use Rattle.event_pool.specs.Following.{Follows}
use Rattle.vvp_threads.specs.declared.thread.Frame.{Frame}
use Rattle.vvp_threads.specs.declared.thread.Thread.{Thread}
use Rattle.vvp_threads.specs.Table.{thread_of, live_count, joins_on}
use Rattle.op_exec.specs.declared.effect.TrapKind.TheVariants.{TimeOver, ThreadsOver}
use Rattle.op_exec.specs.declared.effect.Effect.{Effect}
use Rattle.op_exec.specs.declared.effect.Effect.TheVariants.{Next, Goto, Set, Assign, Delay, Wait, Fork, Join, Disable, Trigger, Task as CallsTask, Func, Force, Release, End, Trap}
use Rattle.op_exec.specs.Does.{does as does_row}
use Rattle.sym_link.specs.declared.program.Program.{Program}
use Rattle.sim_core.specs.declared.ending.Ending.{Ending}
use Rattle.sim_core.specs.declared.ending.Ending.TheVariants.{Finish, Stop}
use Rattle.sim_core.specs.Machine.{Machine, now_of, dues_of, words_now, is_live, on_threads, put_due, with_running, at_next, ended_as, trapped, counted, phase}
use Rattle.sim_core.specs.Effects.{affect, done, told, task_called, with_call, without_items, items_of, scope_at, is_in_time, delay_region, child_started}
use Rattle.sim_core.specs.Step.{proceeds, settle, advance, idle, is_ready, time_ends, ready, apply, without_due, with_taken, take, take_at, choice_of, goes_on, step_from, step, is_idle, budgeted}
use Rattle.sim_core.specs.Engine.{Sent, after_sent, with_sent, in_turn_of_machine}

-- bytes more after what was handed over
more : (sent : List ℕ) (out bytes : List ℕ) (put : List ℕ → TasksNow) → put ((sent ++ out) ++ bytes) ≡ put (sent ++ (out ++ bytes))
more sent out bytes put = ap put (append_assoc sent out bytes)

does-after : (t : Task) (call : Call) (now : ℕ) (words : ℕ → List (List Bit)) (sent : Sent) (tasks : TasksNow) → does t call now words (after_sent sent tasks) ≡ after_sent sent (does t call now words tasks)
does-after task.Display call now words sent tasks = more sent.out tasks.out _ (λ bytes. record (after_sent sent tasks) { out = bytes })
does-after task.Write call now words sent tasks = more sent.out tasks.out _ (λ bytes. record (after_sent sent tasks) { out = bytes })
does-after task.Strobe call now words sent tasks = refl
does-after task.Monitor call now words sent tasks = refl
does-after task.MonitorOff call now words sent tasks = refl
does-after task.MonitorOn call now words sent tasks = refl
does-after task.Finish call now words sent tasks = refl
does-after task.Stop call now words sent tasks = refl
does-after task.DumpFile call now words sent tasks = refl
does-after task.DumpVars call now words sent tasks = refl
does-after task.DumpOff call now words sent tasks = refl
does-after task.DumpOn call now words sent tasks = refl
does-after task.DumpAll call now words sent tasks = refl
does-after task.DumpFlush call now words sent tasks = refl

pub called-after : (op : Op ℕ) (scope : ℕ) (kept : List (List Bit)) (now : ℕ) (words : ℕ → List (List Bit)) (sent : Sent) (tasks : TasksNow)
    → called op scope kept now words (after_sent sent tasks) ≡ after_sent sent (called op scope kept now words tasks)
unfolding called
called-after op scope kept now words sent tasks = go (task_of (called_name op)) where
  go : (t : Option Task) → option_map_or (λ t. does t (record { op = op; scope = scope; kept = kept }) now words (after_sent sent tasks)) t (after_sent sent tasks)
      ≡ after_sent sent (option_map_or (λ t. does t (record { op = op; scope = scope; kept = kept }) now words tasks) t tasks)
  go None = refl
  go (Some t) = does-after t (record { op = op; scope = scope; kept = kept }) now words sent tasks

pub strobed-after : (now : ℕ) (words : ℕ → List (List Bit)) (sent : Sent) (tasks : TasksNow) → strobed now words (after_sent sent tasks) ≡ after_sent sent (strobed now words tasks)
unfolding strobed
strobed-after now words sent tasks = more sent.out tasks.out _ (λ bytes. record (strobed now words (after_sent sent tasks)) { out = bytes })

pub monitored-after : (now : ℕ) (words : ℕ → List (List Bit)) (sent : Sent) (tasks : TasksNow) → monitored now words (after_sent sent tasks) ≡ after_sent sent (monitored now words tasks)
unfolding monitored
monitored-after now words sent tasks = by_call tasks.state.monitor where
  by_call : (call : Option Call) → monitored_by now words call (after_sent sent tasks) ≡ after_sent sent (monitored_by now words call tasks)
  by_call None = refl
  by_call (Some call) = pick (tasks.state.monitor_on && (tasks.state.monitor_due || not (same_values (watched_now tasks.design.entries tasks.design.scopes now words call) tasks.state.shown))) where
    prints : TasksNow → TasksNow
    prints t = printed (line_now t.design.entries t.design.scopes now words call) (with_state (record t.state { monitor_due = false; shown = watched_now t.design.entries t.design.scopes now words call }) t)

    pick : (b : Bool) → cond b (prints (after_sent sent tasks)) (after_sent sent tasks) ≡ after_sent sent (cond b (prints tasks) tasks)
    pick true = more sent.out tasks.out _ (λ bytes. record (prints (after_sent sent tasks)) { out = bytes })
    pick false = refl

-- the header and then the phase are added to the dump
adds-twice : (now : ℕ) (header : Bool) (values : List (List Bit)) (sent : Sent) (tasks : TasksNow)
    → with_phase now header values (with_header (after_sent sent tasks)) ≡ after_sent sent (with_phase now header values (with_header tasks))
adds-twice now header values sent tasks =
    let due : List ℕ = header_due tasks.design tasks.state in
    let body : List ℕ = timed now (written header values tasks.state.requests (record { body = []; on = tasks.state.dump_on; last = tasks.state.last })).body in
    let put : List ℕ → TasksNow = λ bytes. record (with_phase now header values (with_header (after_sent sent tasks))) { dump = bytes } in
    ap (λ (bytes : List ℕ). put (bytes ++ body)) (append_assoc sent.dump tasks.dump due) ∙ ap put (append_assoc sent.dump (tasks.dump ++ due) body)

pub dumped-after : (now : ℕ) (words : ℕ → List (List Bit)) (sent : Sent) (tasks : TasksNow) → dumped now words (after_sent sent tasks) ≡ after_sent sent (dumped now words tasks)
unfolding dumped
dumped-after now words sent tasks = pick (tasks.state.dumping == 0) where
  writes : TasksNow → TasksNow
  writes t = with_phase now (t.state.dumping == 1) (dumped_values t.design words t.state.chosen) (with_header t)

  pick : (b : Bool) → cond b (after_sent sent tasks) (writes (after_sent sent tasks)) ≡ after_sent sent (cond b tasks (writes tasks))
  pick true = refl
  pick false = adds-twice now (tasks.state.dumping == 1) (dumped_values tasks.design words tasks.state.chosen) sent tasks

pub read_only-after : (now : ℕ) (words : ℕ → List (List Bit)) (sent : Sent) (tasks : TasksNow) → read_only now words (after_sent sent tasks) ≡ after_sent sent (read_only now words tasks)
unfolding read_only
read_only-after now words sent tasks =
    ap (λ (t : TasksNow). dumped now words (monitored now words t)) (strobed-after now words sent tasks)
    ∙ ap (dumped now words) (monitored-after now words sent (strobed now words tasks))
    ∙ dumped-after now words sent (monitored now words (strobed now words tasks))

-- ---- the machine

pub phase-after : (program : Program) (sent : Sent) (machine : Machine) → phase program (with_sent sent machine) ≡ with_sent sent (phase program machine)
phase-after program sent machine = ap (λ (t : TasksNow). record machine { tasks = t }) (read_only-after (now_of machine) (words_now program machine) sent machine.tasks)

told-after : (program : Program) (s : Said) (sent : Sent) (machine : Machine) → told program s (with_sent sent machine) ≡ with_sent sent (told program s machine)
told-after program said.Going sent machine = refl
told-after program said.Finish sent machine = ap (ended_as Finish) (phase-after program sent machine)
told-after program said.Stop sent machine = ap (ended_as Stop) (phase-after program sent machine)

pub task-after : (program : Program) (op : Op ℕ) (serial : ℕ) (frame : Frame) (sent : Sent) (machine : Machine)
    → task_called program op serial frame (with_sent sent machine) ≡ with_sent sent (task_called program op serial frame machine)
task-after program op serial frame sent machine =
    ap (λ (t : TasksNow). told program (said_of op) (at_next serial (without_items op frame) (record machine { tasks = t })))
    (called-after op (scope_at program frame.pc) (items_of op frame) (now_of machine) (words_now program machine) sent machine.tasks)
    ∙ told-after program (said_of op) sent (at_next serial (without_items op frame) (with_call program op frame machine))

either-after : (b : Bool) (f g : Machine → Machine) (sent : Sent) (machine : Machine) → f (with_sent sent machine) ≡ with_sent sent (f machine) → g (with_sent sent machine) ≡ with_sent sent (g machine)
    → cond b (f (with_sent sent machine)) (g (with_sent sent machine)) ≡ with_sent sent (cond b (f machine) (g machine))
either-after true f g sent machine first second = first
either-after false f g sent machine first second = second

pub affect-after : (program : Program) (op : Op ℕ) (effect : Effect) (serial : ℕ) (frame : Frame) (sent : Sent) (machine : Machine)
    → affect program op effect serial frame (with_sent sent machine) ≡ with_sent sent (affect program op effect serial frame machine)
affect-after program op Next serial frame sent machine = refl
affect-after program op (Goto place) serial frame sent machine = refl
affect-after program op (Set item word offset value) serial frame sent machine = refl
affect-after program op (Assign item word offset value ticks) serial frame sent machine =
    either-after (is_in_time ticks machine) (λ m. put_due (record { time = now_of m + ticks; region = Nonblocking; act = Update item word offset value }) (at_next serial frame m)) (trapped TimeOver serial frame) sent machine refl refl
affect-after program op (Delay ticks) serial frame sent machine =
    either-after (is_in_time ticks machine) (λ m. put_due (run_of (now_of m + ticks) (delay_region ticks) serial) (with_running None (at_next serial frame m))) (trapped TimeOver serial frame) sent machine refl refl
affect-after program op (Wait event) serial frame sent machine = refl
affect-after program op (Fork code scope) serial frame sent machine =
    either-after (nat_lt (live_count machine.state.threads) 65536) (child_started code scope serial frame) (trapped ThreadsOver serial frame) sent machine refl refl
affect-after program op (Join child) serial frame sent machine =
    either-after (is_live child machine) (λ m. with_running None (on_threads (λ table. joins_on table serial child) (at_next serial frame m))) (at_next serial frame) sent machine refl refl
affect-after program op (Disable scope) serial frame sent machine = refl
affect-after program op (Trigger event) serial frame sent machine = refl
affect-after program op CallsTask serial frame sent machine = task-after program op serial frame sent machine
affect-after program op Func serial frame sent machine = refl
affect-after program op (Force item value) serial frame sent machine = refl
affect-after program op (Release item base width keep) serial frame sent machine = refl
affect-after program op End serial frame sent machine = refl
affect-after program op (Trap kind) serial frame sent machine = refl

done-after : (program : Program) (op : Option (Op ℕ)) (serial : ℕ) (frame : Frame) (sent : Sent) (machine : Machine) → done program op serial frame (with_sent sent machine) ≡ with_sent sent (done program op serial frame machine)
done-after program None serial frame sent machine = refl
done-after program (Some op) serial frame sent machine = let left = does_row op frame (words_now program machine) in affect-after program op left.1 serial left.0 sent machine

pub proceeds-after : (program : Program) (serial : ℕ) (thread : Option Thread) (sent : Sent) (machine : Machine) → proceeds program serial thread (with_sent sent machine) ≡ with_sent sent (proceeds program serial thread machine)
proceeds-after program serial None sent machine = refl
proceeds-after program serial (Some thread) sent machine = ap counted (done-after program (slice_get program.code thread.frame.pc) serial thread.frame sent machine)

time_ends-after : (program : Program) (dues : List Due) (sent : Sent) (machine : Machine) → time_ends program dues (with_sent sent machine) ≡ with_sent sent (time_ends program dues machine)
time_ends-after program [] sent machine = ap idle (phase-after program sent machine)
time_ends-after program (due ∷ dues) sent machine = ap (λ (m : Machine). settle (advance m)) (phase-after program sent machine)

pub ready-after : (program : Program) (sent : Sent) (machine : Machine) → ready program (with_sent sent machine) ≡ with_sent sent (ready program machine)
ready-after program sent machine = either-after (is_ready (settle machine)) (λ m. m) (λ m. time_ends program (dues_of (settle machine)) m) sent (settle machine) refl (time_ends-after program (dues_of (settle machine)) sent (settle machine))

apply-after : (program : Program) (act : Act) (sent : Sent) (machine : Machine) → apply program act (with_sent sent machine) ≡ with_sent sent (apply program act machine)
apply-after program (Eval item) sent machine = refl
apply-after program (Run serial key) sent machine = either-after (is_live serial machine) (with_running (Some serial)) (λ m. m) sent machine refl refl
apply-after program (Update item word offset value) sent machine = refl
apply-after program (Mature item number) sent machine = refl

take-after : (program : Program) (place : ℕ) (due : Option Due) (sent : Sent) (machine : Machine) → take program place due (with_sent sent machine) ≡ with_sent sent (take program place due machine)
take-after program place None sent machine = refl
take-after program place (Some due) sent machine = ap counted (apply-after program due.act sent (with_taken (without_due place machine)))

goes_on-after : (program : Program) (order : ℕ) (running : Option ℕ) (sent : Sent) (machine : Machine) → goes_on program (choice_of order) running (with_sent sent machine) ≡ with_sent sent (goes_on program (choice_of order) running machine)
goes_on-after program order (Some serial) sent machine = proceeds-after program serial (thread_of machine.state.threads serial) sent machine
goes_on-after program order None sent machine =
    ap (λ (m : Machine). take_at program (choice_of order m) m) (ready-after program sent machine)
    ∙ (let found = ready program machine in take-after program (choice_of order found) (slice_get (active_dues (now_of found) (dues_of found)) (choice_of order found)) sent found)

step_from-after : (program : Program) (order : ℕ) (ending : Option Ending) (sent : Sent) (machine : Machine) → step_from program (choice_of order) ending (with_sent sent machine) ≡ with_sent sent (step_from program (choice_of order) ending machine)
step_from-after program order None sent machine = goes_on-after program order machine.running sent machine
step_from-after program order (Some ending) sent machine = refl

-- a step prints alike whatever was handed over before
pub step-after : (program : Program) (order : ℕ) (sent : Sent) (machine : Machine) → step program order (with_sent sent machine) ≡ with_sent sent (step program order machine)
step-after program order sent machine = step_from-after program order machine.ending sent machine

pub budgeted-after : (program : Program) (sent : Sent) (machine : Machine) → budgeted program (with_sent sent machine) ≡ with_sent sent (budgeted program machine)
budgeted-after program sent machine = either-after (is_idle machine) (λ m. idle (phase program m)) (λ m. m) sent machine (ap idle (phase-after program sent machine)) refl

-- so what the engine shows follows the machine with all that was handed over
pub sent-follows : (f : Machine → Machine) (old new : Machine) → ((sent : Sent) (machine : Machine) → f (with_sent sent machine) ≡ with_sent sent (f machine))
    → Follows in_turn_of_machine f old new → (sent : Sent) → Follows in_turn_of_machine f (with_sent sent old) (with_sent sent new)
sent-follows f old new after follows sent = record {
  shown = λ machine e.
      let kept : machine ≡ with_sent sent (record machine { tasks = old.tasks }) = ap (λ (t : TasksNow). record machine { tasks = t }) (ap (λ (m : Machine). m.tasks) e) in
      ap (λ (m : Machine). in_turn_of_machine (f m)) kept
      ∙ ap in_turn_of_machine (after sent (record machine { tasks = old.tasks }))
      ∙ ap (with_sent sent) (follows.shown (record machine { tasks = old.tasks }) (ap (λ (m : Machine). record m { tasks = old.tasks }) e));
}
