use Rattle.std.specs.Int.{bit_at}
use Rattle.std.proofs.lemmas.Nat.Bits.{bit_at_and, bit_at-lt}
use Rattle.strengths.specs.Planes.{end_at}
use Rattle.strengths.proofs.Choices.{driven_digits}
use Rattle.strengths.proofs.planes.driven_ends.Goals as goal

pub returns : goal.returns
unfolding end_at
returns c i h =
    rw (
      c.choose.ensures i,
      c.choose-2.ensures i,
      c.choose-3.ensures i,
      bit_at_and,
      bit_at_and,
      bit_at_and,
      c.filled.ensures i h,
      c.filled-2.ensures i h,
      c.filled-3.ensures i h,
      c.filled-4.ensures i h,
      c.filled-5.ensures i h,
      c.filled-6.ensures i h,
    )
    (driven_digits (bit_at c.args.down i) (bit_at c.args.up i) c.args.s0 c.args.s1 (bit_at-lt c.args.down i) (bit_at-lt c.args.up i) c.requires.zero c.requires.one)
