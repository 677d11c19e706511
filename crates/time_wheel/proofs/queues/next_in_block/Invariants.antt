use Rattle.std.proofs.Common.{◌+◌, ◌*◌, ◌%◌}
use Rattle.time_wheel.specs.Queues.{AreEmpty}
use Rattle.time_wheel.proofs.queues.next_in_block.Given as goal

abbrev pub invariant-loop-q : goal.invariant-loop-q
invariant-loop-q l = AreEmpty l.pool.queues (2 * (l.now % 256) + 2) l.q
