use Rattle.std.proofs.Common.{◌≡◌, ◌-◌, ◌^◌, arith, ◌∙◌, ap}
use Rattle.std.specs.Int.{bit_at}
use Rattle.std.proofs.lemmas.Nat.{and_le_r}
use Rattle.std.proofs.lemmas.Nat.Bits.{bit_at_and, bit_at_or, bit_at_ones, bit_at-lt}
use Rattle.strengths.specs.Planes.{end_at}
use Rattle.strengths.proofs.Choices.{kept_digits, kept_sign}
use Rattle.strengths.proofs.planes.EndPlanes.kept.Goals as goal

pub returns-clause-same : goal.returns-clause-same
unfolding end_at
returns-clause-same c width i e h =
    let ones : c.args.mask ≡ 2 ^ width - 1 = omega arith in
    let inside : bit_at c.args.mask i ≡ 1 = ap (λ n. bit_at n i) ones ∙ bit_at_ones width i h in
    simp (bit_at_and, bit_at_or, inside)
    (kept_digits (bit_at c.args.self.negative i) (bit_at c.args.self.fours i) (bit_at c.args.self.twos i) (bit_at c.args.self.ones i)
    (bit_at-lt c.args.self.negative i) (bit_at-lt c.args.self.fours i) (bit_at-lt c.args.self.twos i) (bit_at-lt c.args.self.ones i))

pub returns-clause-kept : goal.returns-clause-kept
unfolding end_at
returns-clause-kept c width e = record {
  negative = omega (arith, e, and_le_r);
  fours = omega (arith, e, and_le_r);
  twos = omega (arith, e, and_le_r);
  ones = omega (arith, e, and_le_r);
  signs = λ i h.
      let ones : c.args.mask ≡ 2 ^ width - 1 = omega arith in
      let inside : bit_at c.args.mask i ≡ 1 = ap (λ n. bit_at n i) ones ∙ bit_at_ones width i h in
      simp (bit_at_and, bit_at_or, inside)
      (kept_sign (bit_at c.args.self.negative i) (bit_at c.args.self.fours i) (bit_at c.args.self.twos i) (bit_at c.args.self.ones i)
      (bit_at-lt c.args.self.negative i) (bit_at-lt c.args.self.fours i) (bit_at-lt c.args.self.twos i) (bit_at-lt c.args.self.ones i));
}
