use Rattle.std.proofs.Common.{◌≡◌, ◌≤◌, ◌-◌, None}
use Rattle.sim_core.specs.Machine.{Machine}
use Rattle.sim_core.specs.Engine.{in_turn_of_machine}
use Rattle.sim_core.specs.Step.{after}
use Rattle.vvp_top.specs.Delivery.{IsReady, Stands, moment}
use Rattle.vvp_top.proofs.delivery.run_engine.Given as goal

abbrev pub invariant-loop-done : goal.invariant-loop-done
invariant-loop-done g l = record {
  stands : (machine : Machine) → in_turn_of_machine machine ≡ l.fn.engine.machine
      → Stands (after l.fn.engine.program l.fn.engine.order l.done machine) (record { held = g.K.Sink.held l.fn.out; files = g.S.Store.files l.fn.store })
      (moment l.made l.engine (g.K.Sink.held l.out) (g.K.Sink.faults l.out) (g.S.Store.files l.store) (g.S.Store.target l.store) (g.S.Store.writing l.store) (g.S.Store.faults l.store));
  ready : IsReady (moment l.made l.engine (g.K.Sink.held l.out) (g.K.Sink.faults l.out) (g.S.Store.files l.store) (g.S.Store.target l.store) (g.S.Store.writing l.store) (g.S.Store.faults l.store));
  going : l.engine.machine.ending ≡ None;
  within : l.done ≤ l.fn.budget;
  steps : l.engine.machine.steps ≤ l.done;
  program : l.engine.program ≡ l.fn.engine.program;
  order : l.engine.order ≡ l.fn.engine.order;
  store_later : g.S.Store.faults l.fn.store ≤ g.S.Store.faults l.store;
  out_later : g.K.Sink.faults l.fn.out ≤ g.K.Sink.faults l.out;
}

abbrev pub decreases-loop-done : goal.decreases-loop-done
decreases-loop-done g l = l.budget - l.done
