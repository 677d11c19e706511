-- What an engine shows, and when that follows the list machine.
use Rattle.std.specs.Prelude.{◌≡◌, ℕ, Bool, List, ◌++◌, IsSome}
use Rattle.event_pool.specs.Following.{Follows}
use Rattle.net_engine.specs.Kept.{in_turn_of}
use Rattle.sys_tasks.specs.Conditions.{IsBetween}
use Rattle.sys_tasks.specs.Tasks.{TasksNow}
use Rattle.sym_link.specs.declared.program.Program.{Program}
use Rattle.sim_core.specs.Machine.{Machine, on_state}

-- What an engine shows: its program, its order, the machine with its dues put in order and with what was printed and dumped
-- since the buffers were cleared, and whether memory was wanting.
pub record Shown : Type 0 where
  pub program : Program
  pub order : ℕ
  pub machine : Machine
  pub failed : Bool

-- the machine with its dues put in order
abbrev pub in_turn_of_machine : Machine → Machine
in_turn_of_machine machine = on_state in_turn_of machine

-- what was printed and dumped and has been handed over
pub record Sent : Type 0 where
  pub out : List ℕ
  pub dump : List ℕ

-- tasks that have printed and dumped this before
abbrev pub after_sent : Sent → TasksNow → TasksNow
after_sent sent tasks = record tasks { out = sent.out ++ tasks.out; dump = sent.dump ++ tasks.dump }

-- a machine that has printed and dumped this before
abbrev pub with_sent : Sent → Machine → Machine
with_sent sent machine = record machine { tasks = after_sent sent machine.tasks }

-- the engine does what f does to a machine, whatever was handed over before
pub record EngineFollows (f : Machine → Machine) (old new : Shown) : Type 0 where
  pub machine : (sent : Sent) → Follows in_turn_of_machine f (with_sent sent old.machine) (with_sent sent new.machine)
  pub program : new.program ≡ old.program
  pub order : new.order ≡ old.order
  pub failed : new.failed ≡ old.failed

-- Memory was wanting in f: what is printed and dumped goes on from old, and f goes on from it, whichever machine it is that
-- old shows, and whatever was handed over before.
pub record EngineFails (f : Machine → Machine) (old new : Shown) : Type 0 where
  pub out : (sent : Sent) (machine : Machine) → in_turn_of_machine machine ≡ with_sent sent old.machine
      → IsBetween (sent.out ++ old.machine.tasks.out) (f machine).tasks.out (sent.out ++ new.machine.tasks.out)
  pub dump : (sent : Sent) (machine : Machine) → in_turn_of_machine machine ≡ with_sent sent old.machine
      → IsBetween (sent.dump ++ old.machine.tasks.dump) (f machine).tasks.dump (sent.dump ++ new.machine.tasks.dump)
  pub program : new.program ≡ old.program
  pub order : new.order ≡ old.order

-- Memory was wanting in a step: the values of items, the words of arrays, what is forced and the requests of net delays are those
-- from before it, and so are the thread that runs and the ending. Where a thread was running, so are the time, all that is
-- pending, and how many dues were taken.
pub record EngineKeeps (old new : Machine) : Type 0 where
  pub values : new.state.values ≡ old.state.values
  pub running : new.running ≡ old.running
  pub ending : new.ending ≡ old.ending
  pub pending : IsSome old.running → new.state.pending ≡ old.state.pending
  pub taken : IsSome old.running → new.taken ≡ old.taken
