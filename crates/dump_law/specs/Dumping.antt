-- What the tasks of a run keep of its dump.
use Rattle.std.specs.Prelude.{◌≡◌, ℕ, ◌<◌, ◌≤◌, [], length, map}
use Rattle.vcd_write.specs.Header.{size}
use Rattle.vcd_law.specs.Own.{IsDumpTo}
use Rattle.sym_link.specs.declared.program.Program.{Program}
use Rattle.sys_tasks.specs.Design.{design_of}
use Rattle.sys_tasks.specs.Dumped.{dump_scopes, dump_items}
use Rattle.sys_tasks.specs.Sound.{AreChosen}
use Rattle.sys_tasks.specs.Tasks.{TasksNow}

-- From its header on a dump is one of ours up to a time, with a value for each item as it was written last, of its width.
pub record IsBegun (now : ℕ) (tasks : TasksNow) : Type 0 where
  pub text : IsDumpTo tasks.design.precision (dump_scopes tasks.design) (dump_items tasks.design tasks.state.chosen) now tasks.dump
  pub last : map length tasks.state.last ≡ map size (dump_items tasks.design tasks.state.chosen)

-- The tasks of a program at a time. What is chosen may be dumped; before its header the dump is empty.
pub record IsDumpKept (program : Program) (now : ℕ) (tasks : TasksNow) : Type 0 where
  pub designed : tasks.design ≡ design_of program
  pub chosen : AreChosen tasks.design.entries tasks.state.chosen
  pub stage : tasks.state.dumping ≤ 2
  pub before : tasks.state.dumping < 2 → tasks.dump ≡ []
  pub begun : tasks.state.dumping ≡ 2 → IsBegun now tasks
