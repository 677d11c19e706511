use Rattle.std.proofs.Common.{length, ap, ◌∙◌}
use Rattle.four_state.specs.PlaneLemmas.{length-places}
use Rattle.vec_arith.proofs.tests.number.Goals as goal

pub returns : goal.returns
returns c = ap length c.from_planes.ensures ∙ length-places _ _ _
