use Rattle.std.proofs.Common.{◌≡◌, take}
use Rattle.time_wheel.specs.TimeWheel.{joined, shown}
use Rattle.time_wheel.proofs.wheel.WheelAgenda.dues.Given as goal

abbrev pub invariant-loop-queue : goal.invariant-loop-queue
invariant-loop-queue l = l.dues ≡ joined (take l.queue (shown l.self-inside.pool.queues))
