-- What stands between any two steps of a run, and what follows for the dump that it has in the end.
use Rattle.std.specs.Prelude.{◌≡◌, ℕ, ◌<◌, ◌^◌, Some, List}
use Rattle.vcd_law.specs.Own.{IsOwn}
use Rattle.sym_link.specs.declared.program.Program.{Program}
use Rattle.sym_link.specs.Roots.{nodes_of}
use Rattle.sys_tasks.specs.Phase.{dump_name}
use Rattle.sim_core.specs.Machine.{Machine, now_of}
use Rattle.dump_law.specs.Dumping.{IsDumpKept}
use Rattle.dump_law.specs.Steady.{IsSteady}

-- a machine at a time
pub record IsKeptAt (program : Program) (now : ℕ) (machine : Machine) : Type 0 where
  pub steady : IsSteady (nodes_of program) now machine.state
  pub dump : IsDumpKept program now machine.tasks

-- a machine between two steps
pub record IsKept (program : Program) (machine : Machine) : Type 0 where
  pub few : now_of machine < 2 ^ 64
  pub at : IsKeptAt program (now_of machine) machine

-- where a dump has a name, it is one of ours
abbrev pub HasOwnDump : Machine → Type 0
HasOwnDump machine = (name : List ℕ) → dump_name machine.tasks.state ≡ Some name → IsOwn machine.tasks.dump
