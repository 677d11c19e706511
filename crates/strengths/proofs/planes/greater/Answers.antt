use Rattle.std.proofs.lemmas.Nat.Bits.{bit_at_and, bit_at-lt}
use Rattle.strengths.specs.Planes.{end_at, strength_at}
use Rattle.strengths.proofs.Choices.{greater_digits}
use Rattle.strengths.proofs.planes.greater.Goals as goal

pub returns : goal.returns
unfolding end_at strength_at
returns c i =
    rw (c.choose-2.ensures i, c.choose-3.ensures i, c.choose-4.ensures i, c.choose-5.ensures i, c.choose.ensures i, c.weaker-below.ensures i, c.weaker-above.ensures i, bit_at_and)
    (greater_digits _ _ _ _ _ _ _ _
    (bit_at-lt c.args.x.negative i) (bit_at-lt c.args.x.fours i) (bit_at-lt c.args.x.twos i) (bit_at-lt c.args.x.ones i)
    (bit_at-lt c.args.y.negative i) (bit_at-lt c.args.y.fours i) (bit_at-lt c.args.y.twos i) (bit_at-lt c.args.y.ones i))
