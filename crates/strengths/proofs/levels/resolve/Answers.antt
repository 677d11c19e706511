use Rattle.std.proofs.Common.{◌<◌, ◌∙◌, arith}
use Rattle.strengths.specs.Planes.{level_at}
use Rattle.strengths.proofs.EndLemmas.{IsLevel-ends}
use Rattle.strengths.proofs.Sizes.{IsLevel-end_at}
use Rattle.strengths.proofs.Spelled.{width_spelled, levels-resolved}
use Rattle.strengths.proofs.levels.resolve.Goals as goal

pub from_ends-requires-clause-ordered : goal.from_ends-requires-clause-ordered
from_ends-requires-clause-ordered c i h =
    let within : i < c.b.inside.width = omega (arith, width_spelled _ _ _ _ c.a.view_is, width_spelled _ _ _ _ c.b.view_is) in
    rw (c.lesser.ensures i, c.greater.ensures i)
    (IsLevel-ends (level_at c.a.inside.lo c.a.inside.hi i) (level_at c.b.inside.lo c.b.inside.hi i)
    (IsLevel-end_at _ _ _ (c.a.invariant.ordered i h)) (IsLevel-end_at _ _ _ (c.b.invariant.ordered i within))).ordered

pub returns : goal.returns
returns c =
    c.from_ends.ensures
    ∙ levels-resolved _ _ _ _ _ _ _ _ _ _ c.a.view_is c.b.view_is c.requires c.a.invariant c.b.invariant c.lesser.ensures c.greater.ensures
