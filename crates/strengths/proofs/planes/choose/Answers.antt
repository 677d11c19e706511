use Rattle.std.proofs.lemmas.Nat.Bits.{bit_at_and, bit_at_xor, bit_at-lt}
use Rattle.strengths.proofs.Choices.{chosen_digit}
use Rattle.strengths.proofs.planes.choose.Goals as goal

pub returns : goal.returns
returns c i = simp (bit_at_xor, bit_at_and) (chosen_digit _ _ _ (bit_at-lt c.args.mask i) (bit_at-lt c.args.inside i) (bit_at-lt c.args.outside i))
