-- Numbers by their signs.
use Rattle.std.proofs.Common.{◌≡◌, ℕ, zero, suc, ◌<◌, ℤ, pos, negsuc, neg_ℤ, nat_abs, ◌≤ℤ◌, true, false, refl, arith}
use Rattle.std.specs.Int.{w8}
use Rattle.std.proofs.lemmas.Int.{ints}
use Rattle.std.proofs.lemmas.Nat.Bits.{bit_at-lt}
use lib.Signed.{lt_z}
use mir.Val.{to_z, of_z}
use Rattle.strengths.specs.declared.planes.EndPlanes.{EndPlanes}
use Rattle.strengths.specs.Interval.{IsLevel}
use Rattle.strengths.specs.Planes.{signed, end_at}

pub below_zero : (z : ℤ) → lt_z z (pos 0) ≡ true → neg_ℤ (pos (nat_abs z)) ≡ z
below_zero (pos n) h = absurd (omega (arith, ints))
below_zero (negsuc n) h = refl

pub not_below_zero : (z : ℤ) → lt_z z (pos 0) ≡ false → pos (nat_abs z) ≡ z
not_below_zero (pos n) h = refl
not_below_zero (negsuc n) h = absurd (cc)

signed_least : (n f t o : ℕ) → f < 2 → t < 2 → o < 2 → negsuc 6 ≤ℤ signed n f t o
signed_least zero f t o p q r = omega (arith, ints)
signed_least (suc n) f t o p q r = omega (arith, ints)

signed_most : (n f t o : ℕ) → f < 2 → t < 2 → o < 2 → signed n f t o ≤ℤ pos 7
signed_most zero f t o p q r = omega (arith, ints)
signed_most (suc n) f t o p q r = omega (arith, ints)

pub IsLevel-end_at : (lo hi : EndPlanes) (i : ℕ) → end_at lo i ≤ℤ end_at hi i → IsLevel (end_at lo i) (end_at hi i)
unfolding end_at
IsLevel-end_at lo hi i h = record {
  least = signed_least _ _ _ _ (bit_at-lt lo.fours i) (bit_at-lt lo.twos i) (bit_at-lt lo.ones i);
  ordered = h;
  most = signed_most _ _ _ _ (bit_at-lt hi.fours i) (bit_at-lt hi.twos i) (bit_at-lt hi.ones i);
}

-- a level keeps its value in an `i8`
pub kept_is : (z : ℤ) → negsuc 6 ≤ℤ z → z ≤ℤ pos 7 → to_z w8 (of_z w8 z) ≡ z
kept_is z h k = omega (arith, ints)

pub kept_lo : (lo hi : ℤ) → IsLevel lo hi → to_z w8 (of_z w8 lo) ≡ lo
kept_lo lo hi p = omega (arith, ints, p.least, p.ordered, p.most)

pub kept_hi : (lo hi : ℤ) → IsLevel lo hi → to_z w8 (of_z w8 hi) ≡ hi
kept_hi lo hi p = omega (arith, ints, p.least, p.ordered, p.most)
