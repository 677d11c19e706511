use Rattle.std.proofs.Common.{length, sym, ap, ◌∙◌, arith}
use Rattle.event_pool.proofs.PendingLemmas.{length-in_order}
use Rattle.time_wheel.specs.TimeWheel.{joined, shown}
use Rattle.time_wheel.proofs.ShownLemmas.{length-joined_shown}
use Rattle.time_wheel.proofs.KeptLemmas.{queues_counted}
use Rattle.time_wheel.proofs.wheel.WheelAgenda.pending.Goals as goal

pub returns : goal.returns
returns c =
    let queues = c.self.inside.pool.queues in
    let counted = queues_counted c.self.inside.now queues c.self.invariant.wheel in
    sym (length-in_order (joined (shown queues)) ∙ length-joined_shown queues (omega arith) ∙ c.self.invariant.counted)
    ∙ ap (λ s. length s.dues) c.self.view_is
