use Rattle.std.proofs.Common.{sym, ap, subst, ◌∙◌, arith}
use Rattle.event_pool.specs.Schedule.{settled}
use Rattle.event_pool.specs.Order.{in_order}
use Rattle.time_wheel.specs.TimeWheel.{joined, shown, least_of}
use Rattle.time_wheel.proofs.KeptLemmas.{queues_counted}
use Rattle.time_wheel.proofs.PromoteLemmas.{Keeps, keeps_settled, settled_order, settled_again, found-is, all_timely, settled_later}
use Rattle.time_wheel.proofs.wheel.WheelAgenda.settle.Goals as goal

pub invariant_of-self : goal.invariant_of-self
invariant_of-self c =
    let now = c.self.inside.now in
    let old = c.self.inside.pool.queues in
    let made = c.promote.ensures.queues in
    let keeps = subst (Keeps now old) (sym made) (keeps_settled now old (queues_counted now old c.self.invariant.wheel) c.self.invariant.wheel) in
    record {
      wheel = keeps.wheel;
      counted = keeps.counted ∙ c.self.invariant.counted;
      fits = omega (arith, c.self.invariant.fits, c.promote.ensures.spare);
      least = c.self.invariant.least ∙ ap least_of (sym keeps.overflow);
    }

pub returns-clause-schedule : goal.returns-clause-schedule
returns-clause-schedule c =
    let now = c.self.inside.now in
    let old = c.self.inside.pool.queues in
    let order =
    ap (λ qs. in_order (joined (shown qs))) c.promote.ensures.queues
    ∙ settled_order now old (queues_counted now old c.self.invariant.wheel) c.self.invariant.wheel
    ∙ settled_again now (joined (shown old)) in
    ap (λ ds. record { now = now; dues = ds; spare = c.promote.new.pool.spare }) order
    ∙ ap (λ n. record (settled (record { now = now; dues = in_order (joined (shown old)); spare = c.self.inside.pool.spare })) { spare = n }) c.promote.ensures.spare
    ∙ ap settled c.self.view_is

pub returns-clause-answer : goal.returns-clause-answer
returns-clause-answer c =
    let now = c.self.inside.now in
    let old = c.self.inside.pool.queues in
    let new = c.promote.new.pool.queues in
    let keeps = subst (Keeps now old) (sym c.promote.ensures.queues) (keeps_settled now old (queues_counted now old c.self.invariant.wheel) c.self.invariant.wheel) in
    let counted = queues_counted now new keeps.wheel in
    c.found.ensures ∙ found-is now c.self.inside.pending new (omega arith) keeps.wheel (keeps.counted ∙ c.self.invariant.counted)

pub returns-clause-later : goal.returns-clause-later
returns-clause-later c =
    let now = c.self.inside.now in
    let old = c.self.inside.pool.queues in
    let new = c.promote.new.pool.queues in
    let counted = queues_counted now old c.self.invariant.wheel in
    let order = ap (λ qs. in_order (joined (shown qs))) c.promote.ensures.queues ∙ settled_order now old counted c.self.invariant.wheel in
    let keeps = subst (Keeps now old) (sym c.promote.ensures.queues) (keeps_settled now old counted c.self.invariant.wheel) in
    let answer = c.found.ensures ∙ found-is now c.self.inside.pending new (omega (arith, queues_counted now new keeps.wheel)) keeps.wheel (keeps.counted ∙ c.self.invariant.counted) in
    λ ends. settled_later now (joined (shown old)) (joined (shown new)) (all_timely now (shown old) c.self.invariant.wheel) order (sym answer ∙ ends)
