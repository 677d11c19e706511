use Rattle.std.proofs.Common.{◌≡◌, ◌≤◌, ◌+◌, None}
use Rattle.sim_core.specs.Engine.{EngineFollows}
use Rattle.sim_core.specs.Step.{after}
use Rattle.sim_core.proofs.budget.run.Given as goal

abbrev pub invariant-loop-done : goal.invariant-loop-done
invariant-loop-done g l = record {
  counted : l.engine.machine.steps ≤ l.fn.engine.machine.steps + l._done;
  going : l.engine.machine.ending ≡ None;
  program : l.engine.program ≡ l.fn.engine.program;
  order : l.engine.order ≡ l.fn.engine.order;
  follows : EngineFollows (after l.fn.engine.program l.fn.engine.order l._done) l.fn.engine l.engine;
}
