use Rattle.std.proofs.Common.{◌∙◌, arith}
use Rattle.strengths.proofs.Sizes.{kept_lo, kept_hi}
use Rattle.strengths.proofs.Spelled.{levels-replicate}
use Rattle.strengths.proofs.levels.Vec8.splat.Goals as goal

pub from_ends-requires-clause-ordered : goal.from_ends-requires-clause-ordered
from_ends-requires-clause-ordered c i h =
    rw (c.everywhere.ensures i (omega arith), c.everywhere-2.ensures i (omega arith), kept_lo _ _ c.level.invariant, kept_hi _ _ c.level.invariant) c.level.invariant.ordered

pub returns : goal.returns
returns c =
    c.from_ends.ensures
    ∙ levels-replicate _ _ _ _ c.requires.most
    (λ i h. rw (c.everywhere.ensures i h, c.everywhere-2.ensures i h, kept_lo _ _ c.level.invariant, kept_hi _ _ c.level.invariant) c.level.view_is)
