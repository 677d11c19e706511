use Rattle.std.proofs.Common.{◌*◌, ◌%◌, ◌^◌, ◌<◌, ◌≤ℤ◌, ◌∙◌, arith}
use Rattle.std.specs.Int.{bit_at}
use Rattle.strengths.specs.Planes.{end_at}
use Rattle.strengths.proofs.Sizes.{kept_lo, kept_hi}
use Rattle.strengths.proofs.Spelled.{chosen_ordered, levels-set}
use Rattle.strengths.proofs.levels.Vec8.with_level.Goals as goal

pub from_ends-requires-clause-ordered : goal.from_ends-requires-clause-ordered
from_ends-requires-clause-ordered c i h =
    let below : i < 128 = omega (arith, c.self.invariant.most) in
    let ordered : end_at c.everywhere.result i ≤ℤ end_at c.everywhere-2.result i =
    rw (c.everywhere.ensures i below, c.everywhere-2.ensures i below, kept_lo _ _ c.level.invariant, kept_hi _ _ c.level.invariant) c.level.invariant.ordered in
    rw (c.select-lo.ensures i, c.select-hi.ensures i) (chosen_ordered (bit_at (1 * 2 ^ c.args.i % 2 ^ 128) i) _ _ _ _ ordered (c.self.invariant.ordered i h))

pub returns : goal.returns
returns c =
    c.from_ends.ensures
    ∙ levels-set _ _ _ _ _ _ _ _ _ _ c.self.view_is c.self.invariant.most c.requires c.select-lo.ensures c.select-hi.ensures
    (λ j h. rw (c.everywhere.ensures j h, c.everywhere-2.ensures j h, kept_lo _ _ c.level.invariant, kept_hi _ _ c.level.invariant) c.level.view_is)
