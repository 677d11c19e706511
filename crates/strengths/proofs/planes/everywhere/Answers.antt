use Rattle.std.proofs.Common.{◌≡◌, ◌∙◌, nat_abs, ap}
use Rattle.std.specs.Int.{w8}
use Rattle.std.proofs.lemmas.Int.{to_z-of_z}
use Rattle.std.proofs.lemmas.Nat.Bits.{bit_at_ones, bit_at-zero}
use Rattle.strengths.proofs.Sizes.{below_zero, not_below_zero}
use Rattle.strengths.proofs.planes.everywhere.Goals as goal

pub returns-then-end-lt0 : goal.returns-then-end-lt0
returns-then-end-lt0 c i h =
    let size : c.unsigned_abs-strength.result ≡ nat_abs c.args.end = c.unsigned_abs-strength.ensures.value ∙ ap nat_abs (to_z-of_z w8 c.args.end c.ranges.end) in
    c.driven_ends.ensures i h ∙ rw (bit_at_ones 128 i h, size) (below_zero c.args.end (rw (to_z-of_z w8 c.args.end c.ranges.end) at c.if-end-lt0.true))

pub returns-else-end-lt0 : goal.returns-else-end-lt0
returns-else-end-lt0 c i h =
    let size : c.unsigned_abs-strength.result ≡ nat_abs c.args.end = c.unsigned_abs-strength.ensures.value ∙ ap nat_abs (to_z-of_z w8 c.args.end c.ranges.end) in
    c.driven_ends-else-end-lt0.ensures i h ∙ rw (bit_at_ones 128 i h, bit_at-zero i, size) (not_below_zero c.args.end (rw (to_z-of_z w8 c.args.end c.ranges.end) at c.if-end-lt0.false))
