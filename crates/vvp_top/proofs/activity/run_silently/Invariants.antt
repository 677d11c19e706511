use Rattle.std.proofs.Common.{◌≡◌, ◌≤◌, None}
use Rattle.sim_core.specs.Engine.{in_turn_of_machine}
use Rattle.sim_core.specs.Machine.{Machine}
use Rattle.sim_core.specs.Step.{after}
use Rattle.vvp_top.specs.Activity.{KeepsDump}
use Rattle.vvp_top.proofs.activity.run_silently.Given as goal

abbrev pub invariant-loop-done : goal.invariant-loop-done
invariant-loop-done g l = record {
  kept : (machine : Machine) → in_turn_of_machine machine ≡ l.fn.engine.machine → KeepsDump (after l.fn.engine.program l.fn.engine.order l._done machine) l.engine;
  going : l.engine.machine.ending ≡ None;
  steps : l.engine.machine.steps ≤ l._done;
  program : l.engine.program ≡ l.fn.engine.program;
  order : l.engine.order ≡ l.fn.engine.order;
}
