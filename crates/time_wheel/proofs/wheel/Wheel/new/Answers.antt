use Rattle.std.proofs.Common.{refl, ap}
use Rattle.time_wheel.specs.declared.queues.TheConstants.{QUEUES}
use Rattle.time_wheel.proofs.NewLemmas.{kept-new, dues-new}
use Rattle.time_wheel.proofs.wheel.Wheel.new.Goals as goal

pub invariant_of-result : goal.invariant_of-result
invariant_of-result c =
    let made = c.in_ok-new.ensures in
    kept-new QUEUES c.in_ok-new.field-0 refl (ap (λ p. p.queues) made) (ap (λ p. p.spare) made)

pub returns : goal.returns
returns c =
    let made = c.in_ok-new.ensures in
    let dues = dues-new QUEUES c.in_ok-new.field-0.queues refl (ap (λ p. p.queues) made) in
    let spare = ap (λ p. p.spare) made in
    cc
