use Rattle.four_state.proofs.Masks.{width_spelled}
use Rattle.four_state.proofs.vector.Vec4.planes.Goals as goal

pub returns-clause-spells : goal.returns-clause-spells
returns-clause-spells c = rw (← width_spelled _ _ _ _ c.self.view_is) c.self.view_is

pub returns-clause-low : goal.returns-clause-low
returns-clause-low c = rw (← width_spelled _ _ _ _ c.self.view_is) c.self.invariant.low_fits

pub returns-clause-high : goal.returns-clause-high
returns-clause-high c = rw (← width_spelled _ _ _ _ c.self.view_is) c.self.invariant.high_fits
