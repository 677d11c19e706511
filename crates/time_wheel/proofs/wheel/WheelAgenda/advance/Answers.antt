use Rattle.std.proofs.Common.{◌∙◌, ◌<◌, length, sym, ap, subst, arith, ℕ, get_or, []}
use Rattle.std.specs.List.{All}
use Rattle.event_pool.specs.Schedule.{IsTimelyAt, advanced}
use Rattle.event_pool.specs.Order.{in_order}
use Rattle.event_pool.proofs.PendingLemmas.{length-in_order}
use Rattle.time_wheel.specs.TimeWheel.{joined, shown}
use Rattle.time_wheel.specs.declared.queues.TheConstants.{OVERFLOW}
use Rattle.time_wheel.proofs.ShownLemmas.{length-joined_shown}
use Rattle.time_wheel.proofs.KeptLemmas.{queues_counted}
use Rattle.time_wheel.proofs.EnterLemmas.{all_later, advanced_within, in_overflow, some_later, time_is, advanced_over}
use Rattle.time_wheel.proofs.wheel.WheelAgenda.advance.Goals as goal

pub invariant_of-self : goal.invariant_of-self
invariant_of-self c =
    let all = all_later c.self.inside.now c.self.inside.pool.spare c.self.inside.pool.queues _ c.self.view_is c.requires.later in
    (advanced_within c.self.inside.now c.in-Some.time c.self.inside.pending c.active_at.result c.self.inside.overflow_time c.self.inside.pool c.move_all.new.self
    c.self.invariant all c.in-Some.ensures c.active_at.ensures c.move_all.ensures.queues c.move_all.ensures.spare).kept

pub unwrap-time-requires : goal.unwrap-time-requires
unwrap-time-requires c =
    let queues = c.self.inside.pool.queues in
    let all = all_later c.self.inside.now c.self.inside.pool.spare queues _ c.self.view_is c.requires.later in
    let due = in_overflow c.self.inside.now c.self.inside.pending c.self.inside.overflow_time c.self.inside.pool c.self.invariant all c.in-None.ensures in
    let counted = queues_counted c.self.inside.now queues c.self.invariant.wheel in
    let some : 0 < c.self.inside.pending =
    omega (arith, c.requires.some, ap (λ s. length s.dues) c.self.view_is, length-in_order (joined (shown queues)), length-joined_shown queues (omega arith), c.self.invariant.counted) in
    some_later c.self.inside.now c.self.inside.pending c.self.inside.overflow_time c.self.inside.pool c.self.invariant due some

pub cascade-self-inside-requires-clause-others : goal.cascade-self-inside-requires-clause-others
cascade-self-inside-requires-clause-others c =
    let all = all_later c.self.inside.now c.self.inside.pool.spare c.self.inside.pool.queues _ c.self.view_is c.requires.later in
    (in_overflow c.self.inside.now c.self.inside.pending c.self.inside.overflow_time c.self.inside.pool c.self.invariant all c.in-None.ensures).others

pub cascade-self-inside-requires-clause-count : goal.cascade-self-inside-requires-clause-count
cascade-self-inside-requires-clause-count c =
    let all = all_later c.self.inside.now c.self.inside.pool.spare c.self.inside.pool.queues _ c.self.view_is c.requires.later in
    (in_overflow c.self.inside.now c.self.inside.pending c.self.inside.overflow_time c.self.inside.pool c.self.invariant all c.in-None.ensures).counted

pub cascade-self-inside-requires-clause-timely : goal.cascade-self-inside-requires-clause-timely
cascade-self-inside-requires-clause-timely c =
    let all = all_later c.self.inside.now c.self.inside.pool.spare c.self.inside.pool.queues _ c.self.view_is c.requires.later in
    let due = in_overflow c.self.inside.now c.self.inside.pending c.self.inside.overflow_time c.self.inside.pool c.self.invariant all c.in-None.ensures in
    let is = time_is c.self.inside.now c.self.inside.pending c.self.inside.overflow_time c.self.inside.pool c.unwrap-time.result c.self.invariant c.unwrap-time.ensures in
    subst (λ (t : ℕ). All (IsTimelyAt t) (get_or c.self.inside.pool.queues OVERFLOW [])) (sym is) due.timely

pub invariant_of-self-in-None : goal.invariant_of-self-in-None
invariant_of-self-in-None c =
    let all = all_later c.self.inside.now c.self.inside.pool.spare c.self.inside.pool.queues _ c.self.view_is c.requires.later in
    let due = in_overflow c.self.inside.now c.self.inside.pending c.self.inside.overflow_time c.self.inside.pool c.self.invariant all c.in-None.ensures in
    let done = c.cascade-self-inside.ensures in
    (advanced_over c.self.inside.now c.unwrap-time.result c.self.inside.pending c.self.inside.overflow_time c.cascade-self-inside.result c.self.inside.pool c.cascade-self-inside.new.pool
    c.self.invariant due c.unwrap-time.ensures done.wheel done.order done.least done.spare).kept

pub returns-in-Some : goal.returns-in-Some
returns-in-Some c =
    let queues = c.self.inside.pool.queues in
    let all = all_later c.self.inside.now c.self.inside.pool.spare queues _ c.self.view_is c.requires.later in
    let gone = advanced_within c.self.inside.now c.in-Some.time c.self.inside.pending c.active_at.result c.self.inside.overflow_time c.self.inside.pool c.move_all.new.self
    c.self.invariant all c.in-Some.ensures c.active_at.ensures c.move_all.ensures.queues c.move_all.ensures.spare in
    ap (λ t. record { now = t; dues = in_order (joined (shown c.move_all.new.self.queues)); spare = c.move_all.new.self.spare }) gone.least
    ∙ ap (λ ds. record (advanced (record { now = c.self.inside.now; dues = in_order (joined (shown queues)); spare = c.move_all.new.self.spare })) { dues = ds }) gone.order
    ∙ ap (λ n. advanced (record { now = c.self.inside.now; dues = in_order (joined (shown queues)); spare = n })) c.move_all.ensures.spare
    ∙ ap advanced c.self.view_is

pub returns-in-None : goal.returns-in-None
returns-in-None c =
    let queues = c.self.inside.pool.queues in
    let all = all_later c.self.inside.now c.self.inside.pool.spare queues _ c.self.view_is c.requires.later in
    let due = in_overflow c.self.inside.now c.self.inside.pending c.self.inside.overflow_time c.self.inside.pool c.self.invariant all c.in-None.ensures in
    let done = c.cascade-self-inside.ensures in
    let gone = advanced_over c.self.inside.now c.unwrap-time.result c.self.inside.pending c.self.inside.overflow_time c.cascade-self-inside.result c.self.inside.pool c.cascade-self-inside.new.pool
    c.self.invariant due c.unwrap-time.ensures done.wheel done.order done.least done.spare in
    ap (λ t. record { now = t; dues = in_order (joined (shown c.cascade-self-inside.new.pool.queues)); spare = c.cascade-self-inside.new.pool.spare }) gone.least
    ∙ ap (λ ds. record (advanced (record { now = c.self.inside.now; dues = in_order (joined (shown queues)); spare = c.cascade-self-inside.new.pool.spare })) { dues = ds }) gone.order
    ∙ ap (λ n. advanced (record { now = c.self.inside.now; dues = in_order (joined (shown queues)); spare = n })) c.cascade-self-inside.ensures.spare
    ∙ ap advanced c.self.view_is
