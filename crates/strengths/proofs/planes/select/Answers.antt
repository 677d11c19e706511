use Rattle.std.specs.Int.{bit_at}
use Rattle.strengths.specs.Planes.{end_at}
use Rattle.strengths.proofs.Choices.{signed_chosen}
use Rattle.strengths.proofs.planes.select.Goals as goal

pub returns : goal.returns
unfolding end_at
returns c i =
    rw (c.choose.ensures i, c.choose-2.ensures i, c.choose-3.ensures i, c.choose-4.ensures i)
    (signed_chosen (bit_at c.args.mask i)
    (bit_at c.args.inside.negative i) (bit_at c.args.inside.fours i) (bit_at c.args.inside.twos i) (bit_at c.args.inside.ones i)
    (bit_at c.args.outside.negative i) (bit_at c.args.outside.fours i) (bit_at c.args.outside.twos i) (bit_at c.args.outside.ones i))
