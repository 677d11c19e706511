use Rattle.std.proofs.Common.{length, sym, ap, ◌∙◌}
use Rattle.event_pool.specs.Schedule.{active_dues}
use Rattle.time_wheel.proofs.KeptLemmas.{length-active}
use Rattle.time_wheel.proofs.wheel.WheelAgenda.active_len.Goals as goal

pub returns : goal.returns
returns c =
    c.len.ensures ∙ sym (length-active c.self.inside.now c.self.inside.pool.queues c.self.invariant.wheel)
    ∙ ap (λ s. length (active_dues s.now s.dues)) c.self.view_is
