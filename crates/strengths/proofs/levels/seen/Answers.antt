use Rattle.std.proofs.Common.{rules, ◌∙◌}
use Rattle.strengths.proofs.Shown.{places-seen}
use Rattle.strengths.proofs.Spelled.{width_spelled}
use Rattle.strengths.proofs.levels.seen.Goals as goal

pub returns : goal.returns
returns c = c.from_planes.ensures ∙ places-seen c.places-places.result _ _ (width_spelled _ _ _ _ c.v.view_is) c.v.invariant.most (search rules) (search rules) c.places-places.ensures
