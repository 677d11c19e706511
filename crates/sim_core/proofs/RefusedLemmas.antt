-- Want of memory: what is as before.
use Rattle.std.proofs.Common.{◌≡◌, ℕ, None, refl, sym, ap, ◌∙◌}
use Rattle.std.specs.Prelude.{IsSome, Option}
use Rattle.event_pool.specs.Pending.{Pending}
use Rattle.event_pool.specs.Schedule.{Schedule}
use Rattle.vvp_threads.specs.declared.thread.Frame.{Frame}
use Rattle.vvp_ops.specs.declared.op.Op.{Op}
use Rattle.op_exec.specs.declared.effect.Effect.{Effect}
use Rattle.vvp_threads.specs.declared.thread.Thread.{Thread}
use Rattle.sim_core.specs.Machine.{Machine, at_next, framed, on_threads, phase}
use Rattle.sim_core.specs.Engine.{EngineKeeps, Shown}
use Rattle.sim_core.specs.Parts.{LeavesBy, Untouched, Unwritten, stepped, task_done, with_pending}
use Rattle.sim_core.proofs.WholeLemmas.{Whole, shown_of}

-- what f leaves as it is stays
pub untouched-by : (f : Machine → Machine) (old new : Shown) → ((machine : Machine) → Untouched machine (f machine)) → new ≡ record old { machine = f old.machine } → Untouched old.machine new.machine
untouched-by f old new keeps same = record {
  values = ap (λ (s : Shown). s.machine.state.values) same ∙ (keeps old.machine).values;
  pending = ap (λ (s : Shown). s.machine.state.pending) same ∙ (keeps old.machine).pending;
  running = ap (λ (s : Shown). s.machine.running) same ∙ (keeps old.machine).running;
  taken = ap (λ (s : Shown). s.machine.taken) same ∙ (keeps old.machine).taken;
  ending = ap (λ (s : Shown). s.machine.ending) same ∙ (keeps old.machine).ending;
}

-- all stays
pub untouched-same : (old new : Shown) → new ≡ old → Untouched old.machine new.machine
untouched-same old new same = untouched-by (λ m. m) old new (λ m. record { values = refl; pending = refl; running = refl; taken = refl; ending = refl }) same

-- one after the other
pub untouched-then : (first middle last : Machine) → Untouched first middle → Untouched middle last → Untouched first last
untouched-then first middle last before behind = record {
  values = behind.values ∙ before.values;
  pending = behind.pending ∙ before.pending;
  running = behind.running ∙ before.running;
  taken = behind.taken ∙ before.taken;
  ending = behind.ending ∙ before.ending;
}

-- ---- parts of a thread's step

-- a thread goes on at the next opcode
pub next-untouched : (old new : Shown) (serial : ℕ) (frame : Frame) → new ≡ record old { machine = at_next serial frame old.machine } → Untouched old.machine new.machine
next-untouched old new serial frame same =
    untouched-by (at_next serial frame) old new (λ m. record { values = refl; pending = refl; running = refl; taken = refl; ending = refl }) same

-- a step is counted
pub stepped-untouched : (old new : Shown) → new ≡ record old { machine = stepped old.machine } → Untouched old.machine new.machine
stepped-untouched old new same = untouched-by stepped old new (λ m. record { values = refl; pending = refl; running = refl; taken = refl; ending = refl }) same

-- an opcode is done on the thread's own frame
pub left-untouched : (old begun left : Shown) (effect : Option Effect) (serial : ℕ) (thread : Thread) → begun ≡ record old { machine = stepped old.machine } → LeavesBy effect begun left serial thread → Untouched old.machine left.machine
left-untouched old begun left effect serial thread begins l =
    untouched-then old.machine begun.machine left.machine (stepped-untouched old begun begins)
    (untouched-by (on_threads (framed serial l.frame)) begun left (λ m. record { values = refl; pending = refl; running = refl; taken = refl; ending = refl }) l.shown)

-- a task is called
pub task-untouched : (old new : Shown) (op : Op ℕ) (serial : ℕ) (frame : Frame) → new ≡ record old { machine = task_done old.program op serial frame old.machine } → Untouched old.machine new.machine
task-untouched old new op serial frame same =
    untouched-by (task_done old.program op serial frame) old new (λ m. record { values = refl; pending = refl; running = refl; taken = refl; ending = refl }) same

-- room was wanted for a due more, and refused
pub schedule-untouched : (w : Whole) (old : Shown) (schedule : Schedule) → shown_of w ≡ old → schedule ≡ w.held.schedule → Untouched old.machine (shown_of (record w { held = record w.held { schedule = schedule } })).machine
schedule-untouched w old schedule view same =
    untouched-same old (shown_of (record w { held = record w.held { schedule = schedule } })) (ap (λ (s : Schedule). shown_of (record w { held = record w.held { schedule = s } })) same ∙ view)

-- ---- steps

-- of a step of the thread that runs
pub running-keeps : (old new : Machine) → Untouched old new → EngineKeeps old new
running-keeps old new stays = record { values = stays.values; running = stays.running; ending = stays.ending; pending = λ runs. stays.pending; taken = λ runs. stays.taken }

no_thread : (running : Option ℕ) → running ≡ None → IsSome running → ⊥
no_thread running none some = cc

-- of a step in which none does
pub waiting-keeps : (old new : Machine) → old.running ≡ None → Unwritten old new → EngineKeeps old new
waiting-keeps old new none stays = record {
  values = stays.values;
  running = stays.running;
  ending = stays.ending;
  pending = λ runs. absurd (no_thread old.running none runs);
  taken = λ runs. absurd (no_thread old.running none runs);
}

-- ---- finding a due

-- one after the other
pub unwritten-by : (first middle last : Machine) → Unwritten first middle → Unwritten middle last → Unwritten first last
unwritten-by first middle last before behind = record { values = behind.values ∙ before.values; running = behind.running ∙ before.running; ending = behind.ending ∙ before.ending }

pub unwritten-then : (first middle last : Machine) → Unwritten first middle → Untouched middle last → Unwritten first last
unwritten-then first middle last before behind = unwritten-by first middle last before (record { values = behind.values; running = behind.running; ending = behind.ending })

-- other dues are pending, or at another time
pub pending-unwritten : (old new : Shown) (pending : Pending) → new ≡ record old { machine = with_pending pending old.machine } → Unwritten old.machine new.machine
pending-unwritten old new pending same =
    record { values = ap (λ (s : Shown). s.machine.state.values) same; running = ap (λ (s : Shown). s.machine.running) same; ending = ap (λ (s : Shown). s.machine.ending) same }

-- the read-only phase
pub phase-unwritten : (old new : Shown) → new ≡ record old { machine = phase old.program old.machine } → Unwritten old.machine new.machine
phase-unwritten old new same =
    record { values = ap (λ (s : Shown). s.machine.state.values) same; running = ap (λ (s : Shown). s.machine.running) same; ending = ap (λ (s : Shown). s.machine.ending) same }
