-- Numbers of 128 digits against integers modulo 2 ^ width.
use Rattle.std.proofs.Common.{◌≡◌, ℕ, suc, ◌+◌, ◌-◌, ◌*◌, ◌%◌, ◌^◌, ◌<◌, ◌≤◌, min, ℤ, pos, negsuc, neg_ℤ, ◌+ℤ◌, ◌-ℤ◌, refl, sym, ap, ◌∙◌, arith, inl, inr}
use Rattle.std.specs.Int.{bit_at, int_rem_euclid, w128}
use Rattle.std.specs.Prelude.{unsigned_abs}
use mir.Val.{of_z}
use lib.Signed.{mag}
use Rattle.std.proofs.lemmas.Bool.{cases_eq}
use Rattle.std.proofs.lemmas.Int.{ints, int_rem_euclid_is}
use Rattle.std.proofs.lemmas.Nat.{and_mask, pow-add, pow_pos}
use Rattle.std.proofs.lemmas.Nat.Bits.{bit_at_and, bit_at_ones, bit_at-lt}
use Rattle.four_state.specs.Planes.{places}
use Rattle.four_state.specs.PlaneLemmas.{length-places, get_or-places, places_are}
use Rattle.vec_arith.specs.Arith.{of_integer}

-- ---- digits from the width on don't count
min_one : (n : ℕ) → n < 2 → min n 1 ≡ n
min_one n h = omega arith

bit_at-mod : (n w i : ℕ) → i < w → bit_at (n % 2 ^ w) i ≡ bit_at n i
bit_at-mod n w i h = rw (← and_mask n w, bit_at_and n (2 ^ w - 1) i, bit_at_ones w i h) (min_one (bit_at n i) (bit_at-lt n i))

places-mod : (n v w : ℕ) → w ≤ v → places (n % 2 ^ v) 0 w ≡ places n 0 w
places-mod n v w h =
    places_are (n % 2 ^ v) 0 w (places n 0 w) (length-places n 0 w)
    (λ i d k. rw (bit_at-mod n v i (omega arith)) (sym (get_or-places n 0 w i d k)))

-- ---- the vector of an integer
-- of an integer that misses a natural by a multiple of 2 ^ width
of_integer_above : (z : ℤ) (k m w : ℕ) → z +ℤ pos (k * 2 ^ w) ≡ pos m → places m 0 w ≡ of_integer z w
unfolding of_integer
of_integer_above z k m w e =
    let rest : int_rem_euclid z (pos (2 ^ w)) ≡ pos (m % 2 ^ w) = int_rem_euclid_is z (pos (2 ^ w)) (2 ^ w) k m (pow_pos w) refl e in
    sym (places-mod m w w (omega arith)) ∙ ap (λ r. places (unsigned_abs r) 0 w) (sym rest)

pub of_natural : (n w : ℕ) → places n 0 w ≡ of_integer (pos n) w
of_natural n w = of_integer_above (pos n) 0 n w (omega (arith, ints))

pub of_wrapped : (n w : ℕ) → w ≤ 128 → places (n % 2 ^ 128) 0 w ≡ of_integer (pos n) w
of_wrapped n w h = places-mod n 128 w h ∙ of_natural n w

sum_to : (w : ℕ) → w ≤ 128 → 128 ≡ 128 - w + w
sum_to w h = omega arith

whole : (w : ℕ) → w ≤ 128 → 2 ^ (128 - w) * 2 ^ w ≡ 2 ^ 128
whole w h = sym (ap (λ k. 2 ^ k) (sum_to w h) ∙ pow-add 2 (128 - w) w)

-- of an integer that misses a natural by 2 ^ 128
of_integer_below : (z : ℤ) (m w : ℕ) → w ≤ 128 → z +ℤ pos (2 ^ 128) ≡ pos m → places m 0 w ≡ of_integer z w
of_integer_below z m w h e = of_integer_above z (2 ^ (128 - w)) m w (ap (λ k. z +ℤ pos k) (whole w h) ∙ e)

pub of_difference : (x y w : ℕ) → w ≤ 128 → y ≤ 2 ^ 128 → places ((x + (2 ^ 128 - y)) % 2 ^ 128) 0 w ≡ of_integer (pos x -ℤ pos y) w
of_difference x y w h m =
    places-mod (x + (2 ^ 128 - y)) 128 w h
    ∙ of_integer_below (pos x -ℤ pos y) (x + (2 ^ 128 - y)) w h (omega (arith, ints, m))

-- the 128 digits that keep a negative number
pub of_signed : (z : ℤ) (w : ℕ) → w ≤ 128 → mag z < 2 ^ 128 → places (of_z w128 z) 0 w ≡ of_integer z w
of_signed (pos n) w h f = of_natural n w
of_signed (negsuc n) w h f = of_integer_below (negsuc n) (2 ^ 128 - suc n) w h (omega (arith, ints, f))

-- what `wrapping_neg` leaves
pub of_opposite : (r x w : ℕ) → w ≤ 128 → r < 2 ^ 128 → x < 2 ^ 128 → (r + x) % 2 ^ 128 ≡ 0 → places r 0 w ≡ of_integer (neg_ℤ (pos x)) w
of_opposite r x w h p q e =
    elim (cases_eq x 0) [
      | inl none ↦ of_integer_above (neg_ℤ (pos x)) 0 r w (omega (arith, ints, p, e, none))
      | inr some ↦ of_integer_below (neg_ℤ (pos x)) r w h (omega (arith, ints, p, q, e, some))
    ]
