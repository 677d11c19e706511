use Rattle.std.proofs.lemmas.Nat.Bits.{bit_at_and, bit_at_xor, bit_at-lt}
use Rattle.strengths.specs.Planes.{strength_at}
use Rattle.strengths.proofs.Choices.{weaker_digit}
use Rattle.strengths.proofs.planes.weaker.Goals as goal

pub returns : goal.returns
unfolding strength_at
returns c i =
    rw (c.choose.ensures i, c.choose-by_twos.ensures i)
    (simp (bit_at_xor, bit_at_and)
    (weaker_digit _ _ _ _ _ _ (bit_at-lt c.args.x.fours i) (bit_at-lt c.args.x.twos i) (bit_at-lt c.args.x.ones i) (bit_at-lt c.args.y.fours i) (bit_at-lt c.args.y.twos i) (bit_at-lt c.args.y.ones i)))
