-- A call of a task keeps what a run keeps of its dump.
use Rattle.std.proofs.Common.{◌≡◌, ℕ, ◌<◌, ◌≤◌, Bool, true, false, cond, ◌==◌, Option, Some, None, List, [], ◌∷◌, ◌++◌, refl, sym, subst, arith}
use Rattle.std.specs.Option.{option_map_or}
use Rattle.std.proofs.lemmas.Bool.Decides.{nat_tests}
use Rattle.four_state.specs.declared.bits.Bit.{Bit}
use Rattle.vvp_ops.specs.declared.op.Op.{Op}
use Rattle.vvp_ops.specs.declared.args.Arg.{Arg}
use Rattle.vvp_ops.specs.declared.args.Arg.TheVariants as arg
use Rattle.vcd_write.specs.declared.types.Section.{Section}
use Rattle.vcd_write.specs.declared.types.Section.TheVariants as section
use Rattle.sym_link.specs.declared.program.Program.{Program}
use Rattle.sys_tasks.specs.declared.names.Task.{Task}
use Rattle.sys_tasks.specs.declared.names.Task.TheVariants as task
use Rattle.sys_tasks.specs.declared.state.Call.{Call}
use Rattle.sys_tasks.specs.declared.state.TaskState.{TaskState}
use Rattle.sys_tasks.specs.Names.{task_of}
use Rattle.sys_tasks.specs.Dumped.{chosen_with}
use Rattle.sys_tasks.specs.Tasks.{TasksNow, called, called_args, called_name, choosing, does, named, printed, requesting, with_state}
use Rattle.sys_tasks.proofs.ChosenLemmas.{chosen-are}
use Rattle.dump_law.specs.Dumping.{IsDumpKept}

-- a dump before its header
below-two : (dumping : ℕ) → (dumping == 2) ≡ false → dumping ≤ 2 → dumping < 2
below-two dumping other most = grind (arith, nat_tests)

module _ (program : Program) (now : ℕ) where
  pub printed-kept : (bytes : List ℕ) (tasks : TasksNow) → IsDumpKept program now tasks → IsDumpKept program now (printed bytes tasks)
  printed-kept bytes tasks h = record { designed = h.designed; chosen = h.chosen; stage = h.stage; before = h.before; begun = λ two. record { text = (h.begun two).text; last = (h.begun two).last } }

  -- a state in which the dump stands as before
  record SameDump (old new : TaskState) : Type 0 where
    dumping : new.dumping ≡ old.dumping
    chosen : new.chosen ≡ old.chosen
    last : new.last ≡ old.last

  same-none : (state : TaskState) → SameDump state state
  same-none state = record { dumping = refl; chosen = refl; last = refl }

  same-either : (choice : Bool) (old a b : TaskState) → SameDump old a → SameDump old b → SameDump old (cond choice a b)
  same-either true old a b first second = first
  same-either false old a b first second = second

  state-kept : (state : TaskState) (tasks : TasksNow) → SameDump tasks.state state → IsDumpKept program now tasks → IsDumpKept program now (with_state state tasks)
  state-kept state tasks same h =
      let P : ℕ → List ℕ → List (List Bit) → Type 0 = λ d c l. IsDumpKept program now (with_state (record state { dumping = d; chosen = c; last = l }) tasks) in
      let bare : P tasks.state.dumping tasks.state.chosen tasks.state.last =
      record { designed = h.designed; chosen = h.chosen; stage = h.stage; before = h.before; begun = λ two. record { text = (h.begun two).text; last = (h.begun two).last } } in
      subst (λ (d : ℕ). P d state.chosen state.last) (sym same.dumping)
      (subst (λ (c : List ℕ). P tasks.state.dumping c state.last) (sym same.chosen) (subst (λ (l : List (List Bit)). P tasks.state.dumping tasks.state.chosen l) (sym same.last) bare))

  named-same : (args : List (Arg ℕ)) (state : TaskState) → SameDump state (named args state)
  named-same (arg.Text bytes ∷ args) state = same-either (state.dumping == 2) state state (record state { name = bytes }) (same-none state) (record { dumping = refl; chosen = refl; last = refl })
  named-same _ state = same-none state

  requesting-same : (kind : Section) (state : TaskState) → SameDump state (requesting kind state)
  requesting-same kind state = same-either (state.dumping == 0) state state (record state { requests = state.requests ++ kind ∷ [] }) (same-none state) (record { dumping = refl; chosen = refl; last = refl })

  choosing-kept : (args : List (Arg ℕ)) (tasks : TasksNow) → IsDumpKept program now tasks → IsDumpKept program now (with_state (choosing tasks.design args tasks.state) tasks)
  choosing-kept args tasks h = by (tasks.state.dumping == 2) refl
    where
      by : (written : Bool) → (tasks.state.dumping == 2) ≡ written
          → IsDumpKept program now (with_state (cond written tasks.state (record tasks.state { dumping = 1; chosen = chosen_with tasks.design args tasks.state.chosen })) tasks)
      by true is = h
      by false is =
          let unwritten : tasks.state.dumping < 2 = below-two tasks.state.dumping is h.stage in
          record {
            designed = h.designed;
            chosen = chosen-are tasks.design.entries tasks.design.scopes args tasks.state.chosen h.chosen;
            stage = omega arith;
            before = λ less. h.before unwritten;
            begun = λ two. absurd (let none : 1 ≡ 2 = two in omega arith);
          }

  does-kept : (t : Task) (call : Call) (time : ℕ) (words : ℕ → List (List Bit)) (tasks : TasksNow) → IsDumpKept program now tasks → IsDumpKept program now (does t call time words tasks)
  does-kept task.Display call time words tasks h = printed-kept _ tasks h
  does-kept task.Write call time words tasks h = printed-kept _ tasks h
  does-kept task.Strobe call time words tasks h = state-kept (record tasks.state { strobes = tasks.state.strobes ++ call ∷ [] }) tasks (record { dumping = refl; chosen = refl; last = refl }) h
  does-kept task.Monitor call time words tasks h = state-kept (record tasks.state { monitor = Some call; monitor_on = true; monitor_due = true; shown = [] }) tasks (record { dumping = refl; chosen = refl; last = refl }) h
  does-kept task.MonitorOff call time words tasks h = state-kept (record tasks.state { monitor_on = false }) tasks (record { dumping = refl; chosen = refl; last = refl }) h
  does-kept task.MonitorOn call time words tasks h = state-kept (record tasks.state { monitor_on = true; monitor_due = true }) tasks (record { dumping = refl; chosen = refl; last = refl }) h
  does-kept task.Finish call time words tasks h = h
  does-kept task.Stop call time words tasks h = h
  does-kept task.DumpFile call time words tasks h = state-kept (named (called_args call.op) tasks.state) tasks (named-same (called_args call.op) tasks.state) h
  does-kept task.DumpVars call time words tasks h = choosing-kept (called_args call.op) tasks h
  does-kept task.DumpOff call time words tasks h = state-kept (requesting section.Off tasks.state) tasks (requesting-same section.Off tasks.state) h
  does-kept task.DumpOn call time words tasks h = state-kept (requesting section.On tasks.state) tasks (requesting-same section.On tasks.state) h
  does-kept task.DumpAll call time words tasks h = state-kept (requesting section.All tasks.state) tasks (requesting-same section.All tasks.state) h
  does-kept task.DumpFlush call time words tasks h = h

  pub called-kept : (op : Op ℕ) (scope : ℕ) (kept : List (List Bit)) (time : ℕ) (words : ℕ → List (List Bit)) (tasks : TasksNow) → IsDumpKept program now tasks → IsDumpKept program now (called op scope kept time words tasks)
  unfolding called
  called-kept op scope kept time words tasks h = by (task_of (called_name op))
    where
      by : (t : Option Task) → IsDumpKept program now (option_map_or (λ t. does t (record { op = op; scope = scope; kept = kept }) time words tasks) t tasks)
      by None = h
      by (Some t) = does-kept t (record { op = op; scope = scope; kept = kept }) time words tasks h
