use Rattle.std.proofs.Common.{◌≡◌, ◌-◌, ◌∙◌, ◌++◌, ◌∷◌, [], ap, sym, arith}
use Rattle.event_pool.specs.Order.{in_order}
use Rattle.event_pool.specs.Schedule.{IsTimelyAt, put_due}
use Rattle.time_wheel.specs.TimeWheel.{joined, shown}
use Rattle.time_wheel.proofs.KeptLemmas.{kept-put, shown_put}
use Rattle.time_wheel.proofs.wheel.WheelAgenda.put.Goals as goal

pub invariant_of-self : goal.invariant_of-self
invariant_of-self c =
    let at = ap (λ s. s.now) c.self.view_is in
    let timely : IsTimelyAt c.self.inside.now c.args.due = (omega (arith, c.requires.not_past), λ idle. c.requires.inactive_now idle ∙ sym at) in
    kept-put c.self.inside.now c.self.inside.pending c.self.inside.overflow_time c.overflow_time_after-self-inside.result c.self.inside.pool c.push_back.new.self c.queue_for-queue.result c.args.due
    c.self.invariant timely c.queue_for-queue.ensures c.push_back.ensures.queues c.overflow_time_after-self-inside.ensures c.push_back.ensures.spare

pub returns : goal.returns
returns c =
    let now = c.self.inside.now in
    let queues = c.self.inside.pool.queues in
    let at = ap (λ s. s.now) c.self.view_is in
    let timely : IsTimelyAt now c.args.due = (omega (arith, c.requires.not_past), λ idle. c.requires.inactive_now idle ∙ sym at) in
    let order = shown_put now queues c.push_back.new.self.queues c.queue_for-queue.result c.args.due c.self.invariant.wheel timely c.queue_for-queue.ensures c.push_back.ensures.queues in
    let spare : c.push_back.new.self.spare ≡ c.self.inside.pool.spare - 1 = omega (arith, c.push_back.ensures.spare) in
    ap (λ ds. record { now = now; dues = ds; spare = c.push_back.new.self.spare }) order
    ∙ ap (λ n. record { now = now; dues = in_order (in_order (joined (shown queues)) ++ c.args.due ∷ []); spare = n }) spare
    ∙ ap (λ s. put_due s c.args.due) c.self.view_is
