use Rattle.std.proofs.Common.{length, ap, ◌∙◌}
use Rattle.four_state.specs.PlaneLemmas.{length-places}
use Rattle.sys_tasks.proofs.tests.values.Goals as goal

pub invariant_of-result : goal.invariant_of-result
invariant_of-result c = record { one = ap length c.from_planes.ensures ∙ length-places _ _ 1; four = ap length c.from_planes-2.ensures ∙ length-places _ _ 4 }
