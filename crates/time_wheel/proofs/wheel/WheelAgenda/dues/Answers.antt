use Rattle.std.proofs.Common.{◌∙◌, ◌++◌, [], ap, arith, get_or}
use Rattle.std.proofs.lemmas.List.{take_all}
use Rattle.event_pool.specs.Order.{in_order}
use Rattle.time_wheel.specs.TimeWheel.{joined, shown}
use Rattle.time_wheel.proofs.CopyLemmas.{joined-more}
use Rattle.time_wheel.proofs.wheel.WheelAgenda.dues.Goals as goal

pub loop-queue-init : goal.loop-queue-init
loop-queue-init c = c.new-dues.ensures

pub loop-queue-preserved : goal.loop-queue-preserved
loop-queue-preserved c =
    let queues = shown c.self.inside.pool.queues in
    c.in_ok-copy_queue.ensures ∙ ap (λ xs. xs ++ get_or queues c.loop-queue.queue []) c.loop-queue.invariant
    ∙ joined-more queues c.loop-queue.queue (omega (arith, c.self.invariant.wheel.counted))

pub returns : goal.returns
returns c =
    let queues = shown c.self.inside.pool.queues in
    c.in_ok-sort.ensures.ok
    ∙ ap in_order (c.loop-queue.invariant ∙ ap joined (take_all c.loop-queue.queue queues (omega (arith, c.self.invariant.wheel.counted))))
    ∙ ap (λ s. s.dues) c.self.view_is
