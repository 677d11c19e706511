use Rattle.std.proofs.Common.{◌≡◌, arith}
use Rattle.std.specs.Int.{bit_at}
use Rattle.std.proofs.lemmas.Int.{ints}
use Rattle.strengths.specs.Planes.{end_at}
use Rattle.strengths.proofs.planes.EndPlanes.end.Goals as goal

pub returns-then-digit-eq1 : goal.returns-then-digit-eq1
unfolding end_at
returns-then-digit-eq1 c =
    let below : bit_at c.args.self.now.negative c.args.i ≡ 1 = omega arith in
    rw (below, ← c.digit.ensures.value, ← c.digit-2.ensures.value, ← c.digit-3.ensures.value) (omega (arith, ints))

pub returns-else-digit-eq1 : goal.returns-else-digit-eq1
unfolding end_at
returns-else-digit-eq1 c =
    let above : bit_at c.args.self.now.negative c.args.i ≡ 0 = omega arith in
    rw (above, ← c.digit.ensures.value, ← c.digit-2.ensures.value, ← c.digit-3.ensures.value) (omega (arith, ints))
