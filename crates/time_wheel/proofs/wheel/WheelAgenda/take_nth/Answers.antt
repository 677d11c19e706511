use Rattle.std.proofs.Common.{◌<◌, length, get_or, [], slice_get, sym, ap, ◌∙◌, arith}
use Rattle.event_pool.specs.Schedule.{active_dues, taken}
use Rattle.event_pool.specs.Order.{in_order}
use Rattle.time_wheel.specs.TimeWheel.{joined, shown}
use Rattle.time_wheel.specs.declared.queues.TheConstants.{ACTIVE}
use Rattle.time_wheel.proofs.KeptLemmas.{queues_counted, length-active, some_pending, kept-taken}
use Rattle.time_wheel.proofs.TakeLemmas.{active_is, take_order, shown-taken, nth_shown}
use Rattle.time_wheel.proofs.wheel.WheelAgenda.take_nth.Goals as goal

pub take_at-due-requires-clause-within : goal.take_at-due-requires-clause-within
take_at-due-requires-clause-within c =
    omega (arith, c.requires, ap (λ s. length (active_dues s.now s.dues)) c.self.view_is, length-active c.self.inside.now c.self.inside.pool.queues c.self.invariant.wheel)

pub overflow_sub-self : goal.overflow_sub-self
overflow_sub-self c =
    omega (
      arith,
      c.requires,
      ap (λ s. length (active_dues s.now s.dues)) c.self.view_is,
      length-active c.self.inside.now c.self.inside.pool.queues c.self.invariant.wheel,
      some_pending c.self.inside.now c.self.inside.pending c.self.inside.overflow_time c.self.inside.pool c.self.invariant,
    )

pub invariant_of-self : goal.invariant_of-self
invariant_of-self c =
    let within : c.args.k < length (get_or c.self.inside.pool.queues ACTIVE []) =
    omega (arith, c.requires, ap (λ s. length (active_dues s.now s.dues)) c.self.view_is, length-active c.self.inside.now c.self.inside.pool.queues c.self.invariant.wheel) in
    kept-taken c.self.inside.now c.self.inside.pending c.args.k c.self.inside.overflow_time c.self.inside.pool c.take_at-due.new.self c.self.invariant within c.take_at-due.ensures.queues c.take_at-due.ensures.spare

pub returns-clause-nth : goal.returns-clause-nth
returns-clause-nth c =
    let now = c.self.inside.now in
    let queues = c.self.inside.pool.queues in
    let counted = queues_counted now queues c.self.invariant.wheel in
    ap (λ s. slice_get (active_dues s.now s.dues) c.args.k) (sym c.self.view_is)
    ∙ ap (λ ds. slice_get ds c.args.k) (active_is now (shown queues) c.self.invariant.wheel)
    ∙ nth_shown c.args.k queues c.take_at-due.result (omega arith) c.take_at-due.ensures.item

pub returns-clause-rest : goal.returns-clause-rest
returns-clause-rest c =
    let now = c.self.inside.now in
    let queues = c.self.inside.pool.queues in
    let counted = queues_counted now queues c.self.invariant.wheel in
    let long : ACTIVE < length queues = omega arith in
    let within : c.args.k < length (get_or (shown queues) ACTIVE []) =
    omega (arith, c.requires, ap (λ s. length (active_dues s.now s.dues)) c.self.view_is, ap length (active_is now (shown queues) c.self.invariant.wheel)) in
    let order =
    ap (λ qs. in_order (joined (shown qs))) c.take_at-due.ensures.queues
    ∙ ap (λ qs. in_order (joined qs)) (shown-taken c.args.k queues long)
    ∙ take_order now c.args.k (shown queues) c.self.invariant.wheel within in
    ap (λ ds. record { now = now; dues = ds; spare = c.take_at-due.new.self.spare }) order
    ∙ ap (λ n. record (taken c.args.k (record { now = now; dues = in_order (joined (shown queues)); spare = c.self.inside.pool.spare })) { spare = n }) c.take_at-due.ensures.spare
    ∙ ap (taken c.args.k) c.self.view_is
