-- A step may be counted first, and the peak taken last.
use Rattle.std.proofs.Common.{◌≡◌, ℕ, ◌+◌, Bool, true, false, cond, Option, Some, None, refl, sym, ap, nat_lt}
use Rattle.event_pool.specs.declared.agenda.Act.{Act}
use Rattle.event_pool.specs.declared.agenda.Act.TheVariants.{Eval, Run, Update, Mature}
use Rattle.event_pool.specs.declared.agenda.Due.{Due}
use Rattle.event_pool.specs.declared.agenda.Region.TheVariants.{Nonblocking}
use Rattle.event_pool.specs.Pending.{run_of}
use Rattle.vvp_threads.specs.declared.thread.Frame.{Frame}
use Rattle.vvp_threads.specs.Table.{live_count, joins_on}
use Rattle.vvp_ops.specs.declared.op.Op.{Op}
use Rattle.op_exec.specs.declared.effect.TrapKind.TheVariants.{TimeOver, ThreadsOver}
use Rattle.op_exec.specs.declared.effect.Effect.{Effect}
use Rattle.op_exec.specs.declared.effect.Effect.TheVariants.{Next, Goto, Set, Assign, Delay, Wait, Fork, Join, Disable, Trigger, Task as CallsTask, Func, Force, Release, End, Trap}
use Rattle.sys_tasks.specs.declared.names.Said.{Said}
use Rattle.sys_tasks.specs.declared.names.Said.TheVariants as said
use Rattle.sys_tasks.specs.Tasks.{said_of}
use Rattle.sym_link.specs.declared.program.Program.{Program}
use Rattle.sim_core.specs.Machine.{Machine, now_of, is_live, on_threads, put_due, with_running, at_next, trapped}
use Rattle.sim_core.specs.Effects.{affect, told, with_call, without_items, is_in_time, delay_region, child_started}
use Rattle.sim_core.specs.Step.{apply, take, with_taken, without_due}
use Rattle.sim_core.specs.Parts.{stepped, peaked, applied}

either-stepped : (b : Bool) (f g : Machine → Machine) (machine : Machine) → f (stepped machine) ≡ stepped (f machine) → g (stepped machine) ≡ stepped (g machine)
    → cond b (f (stepped machine)) (g (stepped machine)) ≡ stepped (cond b (f machine) (g machine))
either-stepped true f g machine first second = first
either-stepped false f g machine first second = second

told-stepped : (program : Program) (s : Said) (machine : Machine) → told program s (stepped machine) ≡ stepped (told program s machine)
told-stepped program said.Going machine = refl
told-stepped program said.Finish machine = refl
told-stepped program said.Stop machine = refl

pub affect-stepped : (program : Program) (op : Op ℕ) (effect : Effect) (serial : ℕ) (frame : Frame) (machine : Machine)
    → affect program op effect serial frame (stepped machine) ≡ stepped (affect program op effect serial frame machine)
affect-stepped program op Next serial frame machine = refl
affect-stepped program op (Goto place) serial frame machine = refl
affect-stepped program op (Set item word offset value) serial frame machine = refl
affect-stepped program op (Assign item word offset value ticks) serial frame machine =
    either-stepped (is_in_time ticks machine) (λ m. put_due (record { time = now_of m + ticks; region = Nonblocking; act = Update item word offset value }) (at_next serial frame m)) (trapped TimeOver serial frame) machine refl refl
affect-stepped program op (Delay ticks) serial frame machine =
    either-stepped (is_in_time ticks machine) (λ m. put_due (run_of (now_of m + ticks) (delay_region ticks) serial) (with_running None (at_next serial frame m))) (trapped TimeOver serial frame) machine refl refl
affect-stepped program op (Wait event) serial frame machine = refl
affect-stepped program op (Fork code scope) serial frame machine =
    either-stepped (nat_lt (live_count machine.state.threads) 65536) (child_started code scope serial frame) (trapped ThreadsOver serial frame) machine refl refl
affect-stepped program op (Join child) serial frame machine =
    either-stepped (is_live child machine) (λ m. with_running None (on_threads (λ table. joins_on table serial child) (at_next serial frame m))) (at_next serial frame) machine refl refl
affect-stepped program op (Disable scope) serial frame machine = refl
affect-stepped program op (Trigger event) serial frame machine = refl
affect-stepped program op CallsTask serial frame machine = told-stepped program (said_of op) (at_next serial (without_items op frame) (with_call program op frame machine))
affect-stepped program op Func serial frame machine = refl
affect-stepped program op (Force item value) serial frame machine = refl
affect-stepped program op (Release item base width keep) serial frame machine = refl
affect-stepped program op End serial frame machine = refl
affect-stepped program op (Trap kind) serial frame machine = refl

apply-stepped : (program : Program) (act : Act) (machine : Machine) → apply program act (stepped machine) ≡ stepped (apply program act machine)
apply-stepped program (Eval item) machine = refl
apply-stepped program (Run serial key) machine = either-stepped (is_live serial machine) (with_running (Some serial)) (λ m. m) machine refl refl
apply-stepped program (Update item word offset value) machine = refl
apply-stepped program (Mature item number) machine = refl

-- a due that is taken is counted as a step
pub take-counted : (program : Program) (place : ℕ) (due : Due) (machine : Machine) → take program place (Some due) machine ≡ peaked (applied program place (Some due) (stepped machine))
take-counted program place due machine = sym (ap peaked (apply-stepped program due.act (with_taken (without_due place machine))))

apply-tasks : (program : Program) (act : Act) (machine : Machine) → (apply program act machine).tasks ≡ machine.tasks
apply-tasks program (Eval item) machine = refl
apply-tasks program (Run serial key) machine = go (is_live serial machine) where
  go : (b : Bool) → (cond b (with_running (Some serial) machine) machine).tasks ≡ machine.tasks
  go true = refl
  go false = refl
apply-tasks program (Update item word offset value) machine = refl
apply-tasks program (Mature item number) machine = refl

-- taking a due prints nothing
pub take-tasks : (program : Program) (place : ℕ) (due : Option Due) (machine : Machine) → (take program place due machine).tasks ≡ machine.tasks
take-tasks program place None machine = refl
take-tasks program place (Some due) machine = apply-tasks program due.act (with_taken (without_due place machine))
