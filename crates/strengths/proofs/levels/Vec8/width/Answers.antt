use Rattle.std.proofs.Common.{length, sym, ap, ◌∙◌}
use Rattle.strengths.specs.PlaneLemmas.{length-levels}
use Rattle.strengths.proofs.levels.Vec8.width.Goals as goal

pub returns-clause-value : goal.returns-clause-value
returns-clause-value c = sym (length-levels c.self.inside.lo c.self.inside.hi c.self.inside.width) ∙ ap length c.self.view_is
