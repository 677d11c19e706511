use Rattle.strengths.proofs.Spelled.{same_levels}
use Rattle.strengths.proofs.levels.Vec8.from_ends.Goals as goal

pub invariant_of-result : goal.invariant_of-result
invariant_of-result c = record {
  least = c.requires.least;
  most = c.requires.most;
  lo_kept = c.kept.ensures.kept c.args.width c.low_ones-mask.ensures;
  hi_kept = c.kept-2.ensures.kept c.args.width c.low_ones-mask.ensures;
  ordered = λ i h. rw (c.kept.ensures.same c.args.width i c.low_ones-mask.ensures h, c.kept-2.ensures.same c.args.width i c.low_ones-mask.ensures h) (c.requires.ordered i h);
}

pub returns : goal.returns
returns c =
    same_levels _ _ _ _ _
    (λ i h. c.kept.ensures.same c.args.width i c.low_ones-mask.ensures h)
    (λ i h. c.kept-2.ensures.same c.args.width i c.low_ones-mask.ensures h)
