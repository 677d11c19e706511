-- The machine's step from what its parts do: each lemma turns the contracts of the net, the threads, the tasks and the agenda
-- into what one step makes of what an engine shows.
use Rattle.std.proofs.Common.{◌≡◌, ℕ, zero, suc, ◌+◌, ◌^◌, ◌<◌, ℤ, max, nat_lt, Bool, true, false, cond, Option, Some, None, List, [], ◌∷◌, length, map, slice_get, refl, sym, ap, ◌∙◌, arith}
use Rattle.std.specs.List.{list_any}
use Rattle.four_state.specs.declared.bits.Bit.{Bit}
use Rattle.event_pool.specs.declared.agenda.Due.{Due}
use Rattle.event_pool.specs.declared.agenda.Act.TheVariants.{Run, Update}
use Rattle.event_pool.specs.declared.agenda.Region.TheVariants.{Active, Nonblocking}
use Rattle.event_pool.specs.Schedule.{Schedule, put_due, settled, advanced, taken, active_dues, is_active_at}
use Rattle.event_pool.specs.Pending.{Pending, put, run_of, pending_of, in_turn, unkeyed}
use Rattle.event_pool.specs.Following.{Follows}
use Rattle.event_pool.proofs.FollowLemmas.{follows-then, follows-exactly, put-follows, settle-follows, advance-follows, take-follows, active-shown, length-shown, any-in_order}
use Rattle.event_pool.proofs.Keys.{nth-unkeyed}
use Rattle.std.proofs.lemmas.List.{length-map}
use Rattle.vvp_ops.specs.declared.op.Op.{Op}
use Rattle.vvp_threads.specs.declared.thread.Frame.{Frame}
use Rattle.vvp_threads.specs.declared.thread.Thread.{Thread}
use Rattle.vvp_threads.specs.Table.{Table, thread_of, spawned, joins_on, without, joiners_of}
use Rattle.vvp_threads.specs.Keyed.{with_runs}
use Rattle.op_exec.specs.declared.effect.TrapKind.{TrapKind}
use Rattle.op_exec.specs.declared.effect.TrapKind.TheVariants.{TimeOver}
use Rattle.op_exec.specs.declared.effect.Effect.TheVariants.{Next, Goto, Set, Wait, Join, Trigger, Task, Func}
use Rattle.op_exec.specs.Does.{does}
use Rattle.net_engine.specs.Net.{NetValues}
use Rattle.net_engine.specs.State.{State, let_go, with_threads}
use Rattle.net_engine.specs.Delivery.{write, trigger}
use Rattle.net_engine.specs.Kept.{in_turn_of, StateFollows}
use Rattle.net_engine.proofs.DeliveryLemmas.{with_schedule, let_go-follows}
use Rattle.sys_tasks.specs.declared.names.Said.{Said}
use Rattle.sys_tasks.specs.declared.names.Said.TheVariants as said
use Rattle.sys_tasks.specs.Tasks.{said_of}
use Rattle.sym_link.specs.declared.program.Program.{Program}
use Rattle.sym_link.specs.Roots.{nodes_of}
use Rattle.sim_core.specs.declared.ending.Ending.{Ending}
use Rattle.sim_core.specs.Machine.{Machine, put_due as put_due_in, now_of, dues_of, words_now, is_live, on_state, on_threads, on_pending, with_running, at_next, counted, phase, trapped}
use Rattle.sim_core.specs.Effects.{affect, done as opcode_done, threads_ended, told, with_call, without_items, child_started, next_serial, delayed, delay_region, assigned_later}
use Rattle.sim_core.specs.Step.{proceeds, proceed, settle, advance, idle, is_ready, time_ends, ready, choices, choice_of, pick, without_due, with_taken, apply, take, take_at, goes_on, step_from, step, after}
use Rattle.sim_core.specs.Engine.{in_turn_of_machine}

-- the machine does f, by what an engine shows
abbrev pub MachineFollows : (Machine → Machine) → Machine → Machine → Type 0
MachineFollows f old new = Follows in_turn_of_machine f old new

-- f is g wherever old is shown
pub follows-by : (f g : Machine → Machine) (old new : Machine) → ((machine : Machine) → in_turn_of_machine machine ≡ old → f machine ≡ g machine)
    → MachineFollows g old new → MachineFollows f old new
follows-by f g old new same done = record { shown = λ machine e. ap in_turn_of_machine (same machine e) ∙ done.shown machine e }

-- what a machine shows but its dues, it has
shown-threads : (machine old : Machine) → in_turn_of_machine machine ≡ old → machine.state.threads ≡ old.state.threads
shown-threads machine old e = ap (λ (m : Machine). m.state.threads) e

-- ---- the state

-- the net's contracts are of the state alone
pub state-follows : (f : State → State) (old : Machine) (new : State) → StateFollows f old.state new → MachineFollows (on_state f) old (record old { state = new })
state-follows f old new done = record {
  shown = λ machine e.
      ap (λ (m : Machine). record m { state = in_turn_of (f machine.state) }) e
      ∙ ap (λ (s : State). record old { state = s }) (done.shown machine.state (ap (λ (m : Machine). m.state) e));
}

-- the agenda's contracts are of what is pending alone
pub pending-follows : (f : Pending → Pending) (old : Machine) (new : Pending) → Follows in_turn f old.state.pending new
    → MachineFollows (on_pending f) old (record old { state = record old.state { pending = new } })
pending-follows f old new done = record {
  shown = λ machine e.
      ap (λ (m : Machine). record m { state = record m.state { pending = in_turn (f machine.state.pending) } }) e
      ∙ ap (λ (p : Pending). record old { state = record old.state { pending = p } }) (done.shown machine.state.pending (ap (λ (m : Machine). m.state.pending) e));
}

-- ---- effects that leave what is pending

pub at_next-follows : (serial : ℕ) (frame : Frame) (old : Machine) → MachineFollows (at_next serial frame) old (at_next serial frame old)
at_next-follows serial frame old = follows-exactly in_turn_of_machine (at_next serial frame) old (λ m. refl)

pub next-follows : (program : Program) (op : Op ℕ) (serial : ℕ) (frame : Frame) (old : Machine)
    → MachineFollows (affect program op Next serial frame) old (affect program op Next serial frame old)
next-follows program op serial frame old = at_next-follows serial frame old

pub goto-follows : (program : Program) (op : Op ℕ) (place serial : ℕ) (frame : Frame) (old : Machine)
    → MachineFollows (affect program op (Goto place) serial frame) old (affect program op (Goto place) serial frame old)
goto-follows program op place serial frame old = follows-exactly in_turn_of_machine (affect program op (Goto place) serial frame) old (λ m. refl)

pub wait-follows : (program : Program) (op : Op ℕ) (event serial : ℕ) (frame : Frame) (old : Machine)
    → MachineFollows (affect program op (Wait event) serial frame) old (affect program op (Wait event) serial frame old)
wait-follows program op event serial frame old = follows-exactly in_turn_of_machine (affect program op (Wait event) serial frame) old (λ m. refl)

pub trap-follows : (kind : TrapKind) (serial : ℕ) (frame : Frame) (old : Machine) → MachineFollows (trapped kind serial frame) old (trapped kind serial frame old)
trap-follows kind serial frame old = follows-exactly in_turn_of_machine (trapped kind serial frame) old (λ m. refl)

pub join-follows : (program : Program) (op : Op ℕ) (child serial : ℕ) (frame : Frame) (old : Machine)
    → MachineFollows (affect program op (Join child) serial frame) old (affect program op (Join child) serial frame old)
join-follows program op child serial frame old = follows-exactly in_turn_of_machine (affect program op (Join child) serial frame) old (λ m. go m (is_live child m))
  where
    waits : Machine → Machine
    waits m = with_running None (on_threads (λ table. joins_on table serial child) (at_next serial frame m))

    go : (m : Machine) (b : Bool) → in_turn_of_machine (cond b (waits m) (at_next serial frame m)) ≡ cond b (waits (in_turn_of_machine m)) (at_next serial frame (in_turn_of_machine m))
    go m true = refl
    go m false = refl

pub func-follows : (program : Program) (op : Op ℕ) (serial : ℕ) (frame : Frame) (old : Machine)
    → MachineFollows (affect program op Func serial frame) old (affect program op Func serial frame old)
func-follows program op serial frame old = follows-exactly in_turn_of_machine (affect program op Func serial frame) old (λ m. refl)

told-apart : (program : Program) (s : Said) (machine : Machine) → in_turn_of_machine (told program s machine) ≡ told program s (in_turn_of_machine machine)
told-apart program said.Going machine = refl
told-apart program said.Finish machine = refl
told-apart program said.Stop machine = refl

pub task-follows : (program : Program) (op : Op ℕ) (serial : ℕ) (frame : Frame) (old : Machine)
    → MachineFollows (affect program op Task serial frame) old (affect program op Task serial frame old)
task-follows program op serial frame old = follows-exactly in_turn_of_machine (affect program op Task serial frame) old
    (λ m. told-apart program (said_of op) (at_next serial (without_items op frame) (with_call program op frame m)))

-- ---- effects on the net

pub set-follows : (program : Program) (op : Op ℕ) (item word : ℕ) (offset : ℤ) (value : List Bit) (serial : ℕ) (frame : Frame) (old : Machine) (new : State)
    → StateFollows (write (nodes_of program) item word offset value) (at_next serial frame old).state new
    → MachineFollows (affect program op (Set item word offset value) serial frame) old (record (at_next serial frame old) { state = new })
set-follows program op item word offset value serial frame old new done =
    follows-then in_turn_of_machine (at_next serial frame) (on_state (write (nodes_of program) item word offset value)) old (at_next serial frame old) _
    (at_next-follows serial frame old) (state-follows (write (nodes_of program) item word offset value) (at_next serial frame old) new done)

pub trigger-follows : (program : Program) (op : Op ℕ) (event serial : ℕ) (frame : Frame) (old : Machine) (new : State)
    → StateFollows (trigger (nodes_of program) event) (at_next serial frame old).state new
    → MachineFollows (affect program op (Trigger event) serial frame) old (record (at_next serial frame old) { state = new })
trigger-follows program op event serial frame old new done =
    follows-then in_turn_of_machine (at_next serial frame) (on_state (trigger (nodes_of program) event)) old (at_next serial frame old) _
    (at_next-follows serial frame old) (state-follows (trigger (nodes_of program) event) (at_next serial frame old) new done)

-- ---- effects that put a due

-- the machine at this time and with these dues pending, as an agenda shows them
abbrev pub with_agenda : Schedule → Machine → Machine
with_agenda s machine = record machine { state = record machine.state { pending = pending_of s } }

pub put-in-machine : (due : Due) (s : Schedule) (old : Machine) → MachineFollows (put_due_in (unkeyed due)) (with_agenda s old) (with_agenda (put_due s due) old)
put-in-machine due s old = pending-follows (put (unkeyed due)) (with_agenda s old) (pending_of (put_due s due)) (put-follows due s)

-- a thread gives way, and its Run is put under its key
pub delayed-follows : (ticks serial key : ℕ) (frame : Frame) (s : Schedule) (old : Machine) → nat_lt (s.now + ticks) (2 ^ 64) ≡ true
    → MachineFollows (delayed ticks serial frame) (with_agenda s old)
    (with_agenda (put_due s (record { time = s.now + ticks; region = delay_region ticks; act = Run serial key })) (with_running None (at_next serial frame old)))
delayed-follows ticks serial key frame s old in_time = record {
  shown = λ machine e.
      ap (λ (now : ℕ). in_turn_of_machine (cond (nat_lt (now + ticks) (2 ^ 64)) (put_due_in (run_of (now + ticks) (delay_region ticks) serial) (with_running None (at_next serial frame machine))) (trapped TimeOver serial frame machine)))
      (ap (λ (m : Machine). m.state.pending.now) e)
      ∙ ap (λ (b : Bool). in_turn_of_machine (cond b (put_due_in (run_of (s.now + ticks) (delay_region ticks) serial) (with_running None (at_next serial frame machine))) (trapped TimeOver serial frame machine))) in_time
      ∙ (put-in-machine (record { time = s.now + ticks; region = delay_region ticks; act = Run serial key }) s (with_running None (at_next serial frame old))).shown
      (with_running None (at_next serial frame machine)) (ap (λ (m : Machine). with_running None (at_next serial frame m)) e);
}

pub delayed-past : (ticks serial : ℕ) (frame : Frame) (s : Schedule) (old : Machine) → nat_lt (s.now + ticks) (2 ^ 64) ≡ false
    → MachineFollows (delayed ticks serial frame) (with_agenda s old) (trapped TimeOver serial frame (with_agenda s old))
delayed-past ticks serial frame s old past = record {
  shown = λ machine e.
      ap (λ (now : ℕ). in_turn_of_machine (cond (nat_lt (now + ticks) (2 ^ 64)) (put_due_in (run_of (now + ticks) (delay_region ticks) serial) (with_running None (at_next serial frame machine))) (trapped TimeOver serial frame machine)))
      (ap (λ (m : Machine). m.state.pending.now) e)
      ∙ ap (λ (b : Bool). in_turn_of_machine (cond b (put_due_in (run_of (s.now + ticks) (delay_region ticks) serial) (with_running None (at_next serial frame machine))) (trapped TimeOver serial frame machine))) past
      ∙ ap (trapped TimeOver serial frame) e;
}

-- a nonblocking assignment is put
pub assigned-follows : (item word : ℕ) (offset : ℤ) (value : List Bit) (ticks serial : ℕ) (frame : Frame) (s : Schedule) (old : Machine) → nat_lt (s.now + ticks) (2 ^ 64) ≡ true
    → MachineFollows (assigned_later item word offset value ticks serial frame) (with_agenda s old)
    (with_agenda (put_due s (record { time = s.now + ticks; region = Nonblocking; act = Update item word offset value })) (at_next serial frame old))
assigned-follows item word offset value ticks serial frame s old in_time = record {
  shown = λ machine e.
      ap (λ (now : ℕ). in_turn_of_machine (cond (nat_lt (now + ticks) (2 ^ 64)) (put_due_in (record { time = now + ticks; region = Nonblocking; act = Update item word offset value }) (at_next serial frame machine)) (trapped TimeOver serial frame machine)))
      (ap (λ (m : Machine). m.state.pending.now) e)
      ∙ ap (λ (b : Bool). in_turn_of_machine (cond b (put_due_in (record { time = s.now + ticks; region = Nonblocking; act = Update item word offset value }) (at_next serial frame machine)) (trapped TimeOver serial frame machine))) in_time
      ∙ (put-in-machine (record { time = s.now + ticks; region = Nonblocking; act = Update item word offset value }) s (at_next serial frame old)).shown
      (at_next serial frame machine) (ap (at_next serial frame) e);
}

-- a child starts, and its Run is put under its key
pub started-follows : (code scope serial key : ℕ) (frame : Frame) (s : Schedule) (old : Machine)
    → MachineFollows (child_started code scope serial frame) (with_agenda s old)
    (with_agenda (put_due s (record { time = s.now; region = Active; act = Run (next_serial old) key })) (on_threads (λ table. spawned table (Some serial) scope code) (at_next serial frame old)))
started-follows code scope serial key frame s old = record {
  shown = λ machine e.
      ap (λ (m : Machine). in_turn_of_machine (put_due_in (run_of (now_of m) Active (next_serial m)) (on_threads (λ table. spawned table (Some serial) scope code) (at_next serial frame machine)))) e
      ∙ (put-in-machine (record { time = s.now; region = Active; act = Run (next_serial old) key }) s (on_threads (λ table. spawned table (Some serial) scope code) (at_next serial frame old))).shown
      (on_threads (λ table. spawned table (Some serial) scope code) (at_next serial frame machine)) (ap (λ (m : Machine). on_threads (λ table. spawned table (Some serial) scope code) (at_next serial frame m)) e);
}

-- ---- threads that end

-- the threads' contract is one equation, and the agenda has a Run more for each thread that goes on
pub end-follows : (serials : List ℕ) (keys : List (Option ℕ)) (values : NetValues) (table : Table) (s : Schedule)
    → StateFollows (threads_ended serials) (with_schedule values table s)
    (with_schedule values (without table serials) (with_runs s keys (joiners_of table.threads serials)))
end-follows serials keys values table s = record {
  shown = λ state e.
      ap (λ (t : Table). in_turn_of (let_go (joiners_of t.threads serials) (with_threads (without t serials) state))) (ap (λ (old : State). old.threads) e)
      ∙ (let_go-follows (joiners_of table.threads serials) keys values (without table serials) s).shown (with_threads (without table serials) state) (ap (with_threads (without table serials)) e);
}

-- ---- counting

pub counted-follows : (old : Machine) → MachineFollows counted old (counted old)
counted-follows old = follows-exactly in_turn_of_machine counted old (λ m.
    ap (λ (n : ℕ). record (in_turn_of_machine m) { steps = m.steps + 1; peak = max m.peak n }) (length-shown m.state.pending (in_turn m.state.pending) refl))

-- ---- a thread's step

pub step-runs : (program : Program) (order serial : ℕ) (machine : Machine) → machine.ending ≡ None → machine.running ≡ Some serial → step program order machine ≡ proceed program serial machine
step-runs program order serial machine going runs =
    ap (λ (e : Option Ending). step_from program (choice_of order) e machine) going
    ∙ ap (λ (r : Option ℕ). goes_on program (choice_of order) r machine) runs

-- the step of the running thread, by its opcode's effect
pub opcode-follows : (program : Program) (order serial : ℕ) (thread : Thread) (op : Op ℕ) (old new : Machine)
    → old.ending ≡ None → old.running ≡ Some serial → thread_of old.state.threads serial ≡ Some thread → slice_get program.code thread.frame.pc ≡ Some op
    → let left = does op thread.frame (words_now program old) in MachineFollows (affect program op left.1 serial left.0) old new
    → MachineFollows (step program order) old (counted new)
opcode-follows program order serial thread op old new going runs live at done =
    follows-by (step program order) (λ machine. counted (affect program op (does op thread.frame (words_now program old)).1 serial (does op thread.frame (words_now program old)).0 machine)) old (counted new)
    (λ machine e.
    step-runs program order serial machine (ap (λ (m : Machine). m.ending) e ∙ going) (ap (λ (m : Machine). m.running) e ∙ runs)
    ∙ ap (λ (t : Option Thread). proceeds program serial t machine) (ap (λ (t : Table). thread_of t serial) (shown-threads machine old e) ∙ live)
    ∙ ap (λ (o : Option (Op ℕ)). counted (opcode_done program o serial thread.frame machine)) at
    ∙ ap (λ (v : NetValues). let left = does op thread.frame (words_now program (record old { state = record old.state { values = v } })) in counted (affect program op left.1 serial left.0 machine))
    (ap (λ (m : Machine). m.state.values) e))
    (follows-then in_turn_of_machine (affect program op (does op thread.frame (words_now program old)).1 serial (does op thread.frame (words_now program old)).0) counted old new (counted new) done (counted-follows new))

-- ---- settling and taking

pub settles : (s : Schedule) (old : Machine) → MachineFollows settle (with_agenda s old) (with_agenda (settled s) old)
settles s old = pending-follows _ (with_agenda s old) (pending_of (settled s)) (settle-follows s)

pub advances : (s : Schedule) (old : Machine) → MachineFollows advance (with_agenda s old) (with_agenda (advanced s) old)
advances s old = pending-follows _ (with_agenda s old) (pending_of (advanced s)) (advance-follows s)

pub phase-follows : (program : Program) (old : Machine) → MachineFollows (phase program) old (phase program old)
phase-follows program old = follows-exactly in_turn_of_machine (phase program) old (λ m. refl)

-- with dues left the phase is done and time advances; with none the run ends
time_ends-some : (program : Program) (dues : List Due) (machine : Machine) → 0 < length dues → time_ends program dues machine ≡ settle (advance (phase program machine))
time_ends-some program [] machine some = absurd (omega arith)
time_ends-some program (due ∷ dues) machine some = refl

time_ends-none : (program : Program) (dues : List Due) (machine : Machine) → length dues ≡ 0 → time_ends program dues machine ≡ idle (phase program machine)
time_ends-none program [] machine none = refl
time_ends-none program (due ∷ dues) machine none = absurd (omega arith)

-- whether a due is ready is seen in what is shown
ready-shown : (machine old : Machine) (s : Schedule) → in_turn_of_machine machine ≡ with_agenda s old → is_ready machine ≡ list_any (is_active_at s.now) (map unkeyed s.dues)
ready-shown machine old s e =
    sym (any-in_order (is_active_at (now_of machine)) (dues_of machine))
    ∙ ap (λ (p : Pending). list_any (is_active_at p.now) p.dues) (ap (λ (m : Machine). m.state.pending) e)

pub ready-now : (program : Program) (s : Schedule) (old : Machine) → list_any (is_active_at s.now) (map unkeyed (settled s).dues) ≡ true
    → MachineFollows (ready program) (with_agenda s old) (with_agenda (settled s) old)
ready-now program s old now = record {
  shown = λ machine e.
      let after = (settles s old).shown machine e in
      ap (λ (b : Bool). in_turn_of_machine (cond b (settle machine) (time_ends program (dues_of (settle machine)) (settle machine)))) (ready-shown (settle machine) old (settled s) after ∙ now)
      ∙ after;
}

pub ready-later : (program : Program) (s : Schedule) (old : Machine) → list_any (is_active_at s.now) (map unkeyed (settled s).dues) ≡ false → 0 < length (settled s).dues
    → MachineFollows (ready program) (with_agenda s old) (with_agenda (settled (advanced (settled s))) (phase program (with_agenda (settled s) old)))
ready-later program s old now some = record {
  shown = λ machine e.
      let after = (settles s old).shown machine e in
      let count : length (dues_of (settle machine)) ≡ length (settled s).dues =
      length-shown (settle machine).state.pending (pending_of (settled s)) (ap (λ (m : Machine). m.state.pending) after) ∙ length-map (settled s).dues unkeyed in
      let left : 0 < length (dues_of (settle machine)) = omega (arith, count, some) in
      ap (λ (b : Bool). in_turn_of_machine (cond b (settle machine) (time_ends program (dues_of (settle machine)) (settle machine)))) (ready-shown (settle machine) old (settled s) after ∙ now)
      ∙ ap in_turn_of_machine (time_ends-some program (dues_of (settle machine)) (settle machine) left)
      ∙ (settles (advanced (settled s)) (phase program (with_agenda (settled s) old))).shown (advance (phase program (settle machine)))
      ((advances (settled s) (phase program (with_agenda (settled s) old))).shown (phase program (settle machine))
      ((phase-follows program (with_agenda (settled s) old)).shown (settle machine) after));
}

pub ready-never : (program : Program) (s : Schedule) (old : Machine) → length (settled s).dues ≡ 0
    → MachineFollows (ready program) (with_agenda s old) (idle (phase program (with_agenda (settled s) old)))
ready-never program s old none = record {
  shown = λ machine e.
      let after = (settles s old).shown machine e in
      let count : length (dues_of (settle machine)) ≡ length (settled s).dues =
      length-shown (settle machine).state.pending (pending_of (settled s)) (ap (λ (m : Machine). m.state.pending) after) ∙ length-map (settled s).dues unkeyed in
      ap (λ (b : Bool). in_turn_of_machine (cond b (settle machine) (time_ends program (dues_of (settle machine)) (settle machine)))) (none_ready (dues_of (settle machine)) (now_of (settle machine)) (count ∙ none))
      ∙ ap in_turn_of_machine (time_ends-none program (dues_of (settle machine)) (settle machine) (count ∙ none))
      ∙ ap idle ((phase-follows program (with_agenda (settled s) old)).shown (settle machine) after);
}
  where
    none_ready : (dues : List Due) (now : ℕ) → length dues ≡ 0 → list_any (is_active_at now) dues ≡ false
    none_ready [] now none = refl
    none_ready (due ∷ dues) now none = absurd (omega arith)

-- the due that the agenda takes at a place is the machine's
pub take-follows-by : (program : Program) (place : ℕ) (s : Schedule) (due : Due) (old new : Machine) → slice_get (active_dues s.now s.dues) place ≡ Some due
    → MachineFollows (apply program (unkeyed due).act) (with_taken (with_agenda (taken place s) old)) new
    → MachineFollows (take_at program place) (with_agenda s old) (counted new)
take-follows-by program place s due old new at applied = record {
  shown = λ machine e.
      let pending = ap (λ (m : Machine). m.state.pending) e in
      ap (λ (d : Option Due). in_turn_of_machine (take program place d machine))
      (ap (λ (ds : List Due). slice_get ds place) (active-shown machine.state.pending s pending) ∙ nth-unkeyed (active_dues s.now s.dues) place due at)
      ∙ (counted-follows new).shown (apply program (unkeyed due).act (with_taken (without_due place machine)))
      (applied.shown (with_taken (without_due place machine))
      (ap with_taken ((pending-follows _ (with_agenda s old) (pending_of (taken place s)) (take-follows place s)).shown machine e)));
}

-- how many there are to choose from is what the agenda says
pub choices-shown : (machine old : Machine) (s : Schedule) → in_turn_of_machine machine ≡ with_agenda s old → choices machine ≡ length (active_dues s.now s.dues)
choices-shown machine old s e = ap (λ (ds : List Due). length ds) (active-shown machine.state.pending s (ap (λ (m : Machine). m.state.pending) e)) ∙ length-map (active_dues s.now s.dues) unkeyed

-- ---- a due's step

pub step-takes : (program : Program) (order : ℕ) (machine : Machine) → machine.ending ≡ None → machine.running ≡ None
    → step program order machine ≡ (let found = ready program machine in take_at program (choice_of order found) found)
step-takes program order machine going rests =
    ap (λ (e : Option Ending). step_from program (choice_of order) e machine) going
    ∙ ap (λ (r : Option ℕ). goes_on program (choice_of order) r machine) rests

-- the step that takes a due: by what settling finds, the place that the order picks, and what the due does
pub due-follows : (program : Program) (order : ℕ) (s : Schedule) (due : Due) (old found new : Machine)
    → old.ending ≡ None → old.running ≡ None
    → MachineFollows (ready program) old (with_agenda s found)
    → slice_get (active_dues s.now s.dues) (pick order found.taken (length (active_dues s.now s.dues))) ≡ Some due
    → MachineFollows (apply program (unkeyed due).act) (with_taken (with_agenda (taken (pick order found.taken (length (active_dues s.now s.dues))) s) found)) new
    → MachineFollows (step program order) old (counted new)
due-follows program order s due old found new going rests finds at applied = record {
  shown = λ machine e.
      let place = pick order found.taken (length (active_dues s.now s.dues)) in
      let shown = finds.shown machine e in
      ap in_turn_of_machine (step-takes program order machine (ap (λ (m : Machine). m.ending) e ∙ going) (ap (λ (m : Machine). m.running) e ∙ rests))
      ∙ ap (λ (k : ℕ). in_turn_of_machine (take_at program (pick order k (choices (ready program machine))) (ready program machine))) (ap (λ (m : Machine). m.taken) shown)
      ∙ ap (λ (count : ℕ). in_turn_of_machine (take_at program (pick order found.taken count) (ready program machine))) (choices-shown (ready program machine) found s shown)
      ∙ (take-follows-by program place s due found new at applied).shown (ready program machine) shown;
}

-- with nothing pending the step is the phase and the end
take-none : (program : Program) (place : ℕ) (machine : Machine) → length (dues_of machine) ≡ 0 → take_at program place machine ≡ machine
take-none program place machine none =
    ap (λ (ds : List Due). take program place (slice_get (active_dues (now_of machine) ds) place) machine) (empty_is (dues_of machine) none)
  where
    empty_is : (dues : List Due) → length dues ≡ 0 → dues ≡ []
    empty_is [] none = refl
    empty_is (due ∷ dues) none = absurd (omega arith)

pub idle-follows : (program : Program) (order : ℕ) (s : Schedule) (old : Machine) → old.ending ≡ None → old.running ≡ None → length (settled s).dues ≡ 0
    → MachineFollows (step program order) (with_agenda s old) (idle (phase program (with_agenda (settled s) old)))
idle-follows program order s old going rests none = record {
  shown = λ machine e.
      let shown = (ready-never program s old none).shown machine e in
      let count : length (dues_of (ready program machine)) ≡ 0 =
      length-shown (ready program machine).state.pending (pending_of (settled s)) (ap (λ (m : Machine). m.state.pending) shown) ∙ length-map (settled s).dues unkeyed ∙ none in
      ap in_turn_of_machine (step-takes program order machine (ap (λ (m : Machine). m.ending) e ∙ going) (ap (λ (m : Machine). m.running) e ∙ rests))
      ∙ ap in_turn_of_machine (take-none program (choice_of order (ready program machine)) (ready program machine) count)
      ∙ shown;
}

-- a run that has ended stays as it is
pub ended-follows : (program : Program) (order : ℕ) (ending : Ending) (old : Machine) → old.ending ≡ Some ending → MachineFollows (step program order) old old
ended-follows program order ending old ended = record {
  shown = λ machine e.
      ap (λ (o : Option Ending). in_turn_of_machine (step_from program (choice_of order) o machine)) (ap (λ (m : Machine). m.ending) e ∙ ended) ∙ e;
}

-- ---- runs

pub after-none : (program : Program) (order : ℕ) (old : Machine) → MachineFollows (after program order 0) old old
after-none program order old = record { shown = λ machine e. e }

pub after-more : (program : Program) (order count : ℕ) (old mid new : Machine)
    → MachineFollows (after program order count) old mid → MachineFollows (step program order) mid new → MachineFollows (after program order (suc count)) old new
after-more program order count old mid new before one = follows-then in_turn_of_machine (after program order count) (step program order) old mid new before one

-- an ended run is that of any greater budget
pub after-stays : (program : Program) (order count more : ℕ) (ending : Ending) (machine : Machine) → (after program order count machine).ending ≡ Some ending
    → after program order (more + count) machine ≡ after program order count machine
after-stays program order count zero ending machine ended = let none : 0 + count ≡ count = omega arith in ap (λ (n : ℕ). after program order n machine) none
after-stays program order count (suc more) ending machine ended =
    let one : suc more + count ≡ suc (more + count) = omega arith in
    ap (λ (n : ℕ). after program order n machine) one
    ∙ ap (step program order) (after-stays program order count more ending machine ended)
    ∙ ap (λ (e : Option Ending). step_from program (choice_of order) e (after program order count machine)) ended
