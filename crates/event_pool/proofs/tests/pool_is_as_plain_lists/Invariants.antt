use Rattle.std.proofs.Common.{◌≡◌, length}
use Rattle.event_pool.proofs.tests.pool_is_as_plain_lists.Given as goal

abbrev pub invariant-calls : goal.invariant-calls
invariant-calls g l = length l.pool.queues ≡ 3
