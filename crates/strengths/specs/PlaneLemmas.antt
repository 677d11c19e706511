-- Planes against the levels that they spell.
use Rattle.std.proofs.Common.{◌≡◌, ℕ, zero, suc, ◌/◌, ◌%◌, ◌^◌, ◌<◌, ℤ, nat_abs, List, [], ◌∷◌, length, get_or, refl, sym, ap, ◌∙◌, arith, zero-add, eqb}
use Rattle.std.proofs.lemmas.List.{same_lists}
use Rattle.std.proofs.lemmas.List.FromFn.{length-map-range_with_len, get_or-map-range_with_len}
use Rattle.std.proofs.lemmas.Nat.Bits.{bit_at_lowest, bit_at-suc, bit_at-lt}
use Rattle.std.proofs.Math.Nat.{pow-suc}
use Rattle.std.specs.Int.{bit_at}
use Rattle.std.proofs.lemmas.Bool.{eqb-true}
use Rattle.strengths.specs.DigitLemmas.{at_four}
use Rattle.strengths.specs.declared.planes.EndPlanes.{EndPlanes}
use Rattle.strengths.specs.Interval.{Interval}
use Rattle.strengths.specs.Planes.{sign_digit, signed, end_at, level_at, levels, AreKept, AreLevels, plane_of, planes_of}

pub length-levels : (lo hi : EndPlanes) (w : ℕ) → length (levels lo hi w) ≡ w
unfolding levels
length-levels lo hi w = length-map-range_with_len _ 0 w

pub get_or-levels : (lo hi : EndPlanes) (w i : ℕ) (d : Interval) → i < w → get_or (levels lo hi w) i d ≡ level_at lo hi i
unfolding levels
get_or-levels lo hi w i d h = get_or-map-range_with_len _ 0 w i i d h (zero-add i)

-- a list is spelled by planes where each of its places is
pub levels_are : (lo hi : EndPlanes) (w : ℕ) (xs : List Interval) → length xs ≡ w
    → ((i : ℕ) (d : Interval) → i < w → level_at lo hi i ≡ get_or xs i d) → levels lo hi w ≡ xs
levels_are lo hi w xs e p =
    same_lists _ _ (length-levels lo hi w ∙ sym e)
    (λ i d h.
    let within : i < w = rw length-levels at h
    in get_or-levels lo hi w i d within ∙ p i d within)

-- ---- back from the list

plane_of-is : (digit : Interval → ℕ) (xs : List Interval) (w p : ℕ) → length xs ≡ w → p < 2 ^ w
    → ((i : ℕ) (d : Interval) → i < w → digit (get_or xs i d) ≡ bit_at p i) → plane_of digit xs ≡ p
unfolding plane_of
plane_of-is digit [] zero p e h each = omega arith
plane_of-is digit [] (suc w) p e h each = absurd (omega (arith, e))
plane_of-is digit (x ∷ xs) zero p e h each = absurd (omega (arith, e))
plane_of-is digit (x ∷ xs) (suc w) p e h each =
    let first : digit x ≡ p % 2 = each 0 x (omega arith) ∙ bit_at_lowest p in
    let rest : plane_of digit xs ≡ p / 2 = plane_of-is digit xs w (p / 2) (omega (arith, e)) (omega (arith, pow-suc)) (λ i d k. each (suc i) d (omega arith) ∙ bit_at-suc p i) in
    omega arith

-- ---- the digits of a number

fours-signed : (n f t o : ℕ) → n < 2 → f < 2 → t < 2 → o < 2 → bit_at (nat_abs (signed n f t o)) 2 ≡ f
fours-signed n f t o p q r s = eqb-true _ _ (at_four (λ n f t o. eqb (bit_at (nat_abs (signed n f t o)) 2) f) refl n f t o p q r s)

twos-signed : (n f t o : ℕ) → n < 2 → f < 2 → t < 2 → o < 2 → bit_at (nat_abs (signed n f t o)) 1 ≡ t
twos-signed n f t o p q r s = eqb-true _ _ (at_four (λ n f t o. eqb (bit_at (nat_abs (signed n f t o)) 1) t) refl n f t o p q r s)

ones-signed : (n f t o : ℕ) → n < 2 → f < 2 → t < 2 → o < 2 → bit_at (nat_abs (signed n f t o)) 0 ≡ o
ones-signed n f t o p q r s = eqb-true _ _ (at_four (λ n f t o. eqb (bit_at (nat_abs (signed n f t o)) 0) o) refl n f t o p q r s)

fours-end_at : (ends : EndPlanes) (i : ℕ) → bit_at (nat_abs (end_at ends i)) 2 ≡ bit_at ends.fours i
unfolding end_at
fours-end_at ends i = fours-signed _ _ _ _ (bit_at-lt ends.negative i) (bit_at-lt ends.fours i) (bit_at-lt ends.twos i) (bit_at-lt ends.ones i)

twos-end_at : (ends : EndPlanes) (i : ℕ) → bit_at (nat_abs (end_at ends i)) 1 ≡ bit_at ends.twos i
unfolding end_at
twos-end_at ends i = twos-signed _ _ _ _ (bit_at-lt ends.negative i) (bit_at-lt ends.fours i) (bit_at-lt ends.twos i) (bit_at-lt ends.ones i)

ones-end_at : (ends : EndPlanes) (i : ℕ) → bit_at (nat_abs (end_at ends i)) 0 ≡ bit_at ends.ones i
unfolding end_at
ones-end_at ends i = ones-signed _ _ _ _ (bit_at-lt ends.negative i) (bit_at-lt ends.fours i) (bit_at-lt ends.twos i) (bit_at-lt ends.ones i)

-- the planes of one end of a list of levels
planes_of-is : (end : Interval → ℤ) (xs : List Interval) (ends : EndPlanes) (w : ℕ) → length xs ≡ w → AreKept ends w
    → ((i : ℕ) (d : Interval) → i < w → end (get_or xs i d) ≡ end_at ends i) → planes_of end xs ≡ ends
planes_of-is end xs ends w e kept each =
    let negative : plane_of (λ level. sign_digit (end level)) xs ≡ ends.negative = plane_of-is _ xs w ends.negative e kept.negative (λ i d h. ap sign_digit (each i d h) ∙ kept.signs i h) in
    let fours : plane_of (λ level. bit_at (nat_abs (end level)) 2) xs ≡ ends.fours = plane_of-is _ xs w ends.fours e kept.fours (λ i d h. ap (λ z. bit_at (nat_abs z) 2) (each i d h) ∙ fours-end_at ends i) in
    let twos : plane_of (λ level. bit_at (nat_abs (end level)) 1) xs ≡ ends.twos = plane_of-is _ xs w ends.twos e kept.twos (λ i d h. ap (λ z. bit_at (nat_abs z) 1) (each i d h) ∙ twos-end_at ends i) in
    let ones : plane_of (λ level. bit_at (nat_abs (end level)) 0) xs ≡ ends.ones = plane_of-is _ xs w ends.ones e kept.ones (λ i d h. ap (λ z. bit_at (nat_abs z) 0) (each i d h) ∙ ones-end_at ends i) in
    rw (negative, fours, twos, ones) refl

pub planes_of-lo : (lo hi : EndPlanes) (w : ℕ) → AreLevels lo hi w → planes_of (λ level. level.lo) (levels lo hi w) ≡ lo
planes_of-lo lo hi w p = planes_of-is _ (levels lo hi w) lo w (length-levels lo hi w) p.lo_kept (λ i d h. ap (λ (level : Interval). level.lo) (get_or-levels lo hi w i d h))

pub planes_of-hi : (lo hi : EndPlanes) (w : ℕ) → AreLevels lo hi w → planes_of (λ level. level.hi) (levels lo hi w) ≡ hi
planes_of-hi lo hi w p = planes_of-is _ (levels lo hi w) hi w (length-levels lo hi w) p.hi_kept (λ i d h. ap (λ (level : Interval). level.hi) (get_or-levels lo hi w i d h))
