use Rattle.std.proofs.Common.{◌≡◌, ◌++◌, map, take}
use Rattle.time_wheel.specs.Queues.{shown_due}
use Rattle.time_wheel.proofs.queues.copy_queue.Given as goal

abbrev pub invariant-loop-item : goal.invariant-loop-item
invariant-loop-item l = l.dues ≡ l.fn.dues ++ map (shown_due l.queue) (take l.item-index l.item-items)
