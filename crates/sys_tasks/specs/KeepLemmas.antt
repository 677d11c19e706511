-- Calls and phases leave what the tasks know of the program.
use Rattle.std.specs.Prelude.{◌≡◌, ℕ, Bool, true, false, ◌==◌, not, ◌&&◌, ◌||◌, List, Option, Some, None, refl, if◌then◌else◌}
use Rattle.std.specs.Option.{option_map_or}
use Rattle.std.proofs.Common.{◌∙◌}
use Rattle.four_state.specs.declared.bits.Bit.{Bit}
use Rattle.vvp_ops.specs.declared.op.Op.{Op}
use Rattle.sys_tasks.specs.declared.names.Task.{Task}
use Rattle.sys_tasks.specs.declared.names.Task.TheVariants as task
use Rattle.sys_tasks.specs.declared.state.Call.{Call}
use Rattle.sys_tasks.specs.Names.{task_of}
use Rattle.sys_tasks.specs.Phase.{dumped, monitored, monitored_by, read_only, same_values, strobed, watched_now}
use Rattle.sys_tasks.specs.Tasks.{TasksNow, called, called_name, does}

does-design : (t : Task) (call : Call) (now : ℕ) (words : ℕ → List (List Bit)) (tasks : TasksNow) → (does t call now words tasks).design ≡ tasks.design
does-design task.Display call now words tasks = refl
does-design task.Write call now words tasks = refl
does-design task.Strobe call now words tasks = refl
does-design task.Monitor call now words tasks = refl
does-design task.MonitorOff call now words tasks = refl
does-design task.MonitorOn call now words tasks = refl
does-design task.Finish call now words tasks = refl
does-design task.Stop call now words tasks = refl
does-design task.DumpFile call now words tasks = refl
does-design task.DumpVars call now words tasks = refl
does-design task.DumpOff call now words tasks = refl
does-design task.DumpOn call now words tasks = refl
does-design task.DumpAll call now words tasks = refl
does-design task.DumpFlush call now words tasks = refl

pub called-design : (op : Op ℕ) (scope : ℕ) (kept : List (List Bit)) (now : ℕ) (words : ℕ → List (List Bit)) (tasks : TasksNow) → (called op scope kept now words tasks).design ≡ tasks.design
unfolding called
called-design op scope kept now words tasks = by (task_of (called_name op))
  where
    by : (o : Option Task) → (option_map_or (λ t. does t (record { op = op; scope = scope; kept = kept }) now words tasks) o tasks).design ≡ tasks.design
    by None = refl
    by (Some t) = does-design t (record { op = op; scope = scope; kept = kept }) now words tasks

chosen-design : (b : Bool) (x y z : TasksNow) → x.design ≡ z.design → y.design ≡ z.design → (if b then x else y).design ≡ z.design
chosen-design true x y z p q = p
chosen-design false x y z p q = q

monitored-design : (now : ℕ) (words : ℕ → List (List Bit)) (o : Option Call) (tasks : TasksNow) → (monitored_by now words o tasks).design ≡ tasks.design
monitored-design now words None tasks = refl
monitored-design now words (Some call) tasks =
    chosen-design (tasks.state.monitor_on && (tasks.state.monitor_due || not (same_values (watched_now tasks.design.entries tasks.design.scopes now words call) tasks.state.shown))) _ _ tasks refl refl

dumped-design : (now : ℕ) (words : ℕ → List (List Bit)) (tasks : TasksNow) → (dumped now words tasks).design ≡ tasks.design
unfolding dumped
dumped-design now words tasks = chosen-design (tasks.state.dumping == 0) _ _ tasks refl refl

pub read_only-design : (now : ℕ) (words : ℕ → List (List Bit)) (tasks : TasksNow) → (read_only now words tasks).design ≡ tasks.design
unfolding read_only monitored strobed
read_only-design now words tasks =
    let printed = strobed now words tasks in
    dumped-design now words (monitored now words printed) ∙ monitored-design now words printed.state.monitor printed
