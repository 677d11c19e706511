use Rattle.std.proofs.Common.{◌≡◌, [], get_or}
use Rattle.time_wheel.specs.declared.queues.TheConstants.{OVERFLOW}
use Rattle.time_wheel.proofs.CascadeLemmas.{IsCascaded}
use Rattle.time_wheel.proofs.queues.cascade.Given as goal

abbrev pub invariant-cascade : goal.invariant-cascade
invariant-cascade l = record {
  cascaded : IsCascaded l.now (get_or l.initial.pool.queues OVERFLOW []) l.counter l.pool.queues l.least;
  spare : l.pool.spare ≡ l.initial.pool.spare;
}
