-- The signed number of a vector and its planes.
use Rattle.std.proofs.Common.{◌≡◌, ℕ, suc, ◌+◌, ◌-◌, ◌*◌, ◌/◌, ◌%◌, ◌^◌, ◌<◌, ◌≤◌, ℤ, pos, ◌-ℤ◌, Bool, true, false, List, length, Some, None, refl, sym, ap, subst, ◌∙◌, arith, lit<, inl, inr, slice_get}
use mir.Val.{to_z, of_z}
use Rattle.std.specs.Int.{bit_at, w128}
use Rattle.std.specs.List.{list_any}
use Rattle.std.specs.Prelude.{if◌then◌else◌}
use Rattle.std.proofs.lemmas.Bool.{cases_lt, cases_eq}
use Rattle.std.proofs.lemmas.Int.{ints, of_z-to_z}
use Rattle.std.proofs.Math.Facts.{to_z-neg}
use Rattle.std.proofs.lemmas.Option.{get_or_from_slice_get}
use Rattle.std.proofs.lemmas.Nat.{pow-add, pow_pos, shr_below, shr_split, mod_below}
use Rattle.std.proofs.lemmas.Nat.Bits.{bit_at-lt, bit_at-zero, bit_at_above}
use Rattle.std.proofs.Math.Nat.{pow-le-pow_right}
use Rattle.four_state.specs.declared.bits.Bit.{Bit}
use Rattle.four_state.specs.declared.bits.Bit.TheVariants.{Zero, One, Unknown, HighZ}
use Rattle.four_state.specs.Planes.{plane_bit, places, ArePlanes}
use Rattle.four_state.specs.PlaneLemmas.{get_or-places, low_plane-places, at_digit}
use Rattle.four_state.specs.Vector.{is_one, is_unknown, top_bit, number, known_number, signed_number, known_signed_number}
use Rattle.four_state.proofs.Folds.{some_unknown}
use Rattle.four_state.proofs.Masks.{width_spelled}
use Rattle.four_state.proofs.Numbers.{number-known}

-- ---- what a known number says of the list and its planes
of_choice : (t : Bool) (m n : ℕ) → (if t then None else Some m) ≡ Some n → (t ≡ false) × (m ≡ n)
of_choice true m n e = absurd (cc)
of_choice false m n e = (refl, cc)

pub known_parts : (bits : List Bit) (n : ℕ) → known_number bits ≡ Some n → (list_any is_unknown bits ≡ false) × (number bits ≡ n)
known_parts bits n e = of_choice (list_any is_unknown bits) (number bits) n e

no_high_plane : (a b w : ℕ) (bits : List Bit) → places a b w ≡ bits → ArePlanes a b w → list_any is_unknown bits ≡ false → b ≡ 0
no_high_plane a b w bits s p known =
    elim (cases_eq b 0) [
      | inl none ↦ none
      | inr some ↦ absurd (let found = some_unknown a b w bits s p some in cc)
    ]

number_plane : (a b w : ℕ) (bits : List Bit) → places a b w ≡ bits → ArePlanes a b w → list_any is_unknown bits ≡ false → number bits ≡ a
number_plane a b w bits s p known = number-known bits known ∙ rw (← s) (low_plane-places w a b p.low_fits)

-- ---- the top bit against the size of the number
half_set : (n k : ℕ) → bit_at n k ≡ 1 → 2 ^ k ≤ n
half_set n k e =
    elim (cases_lt n (2 ^ k)) [
      | inl low ↦ absurd (omega (arith, e, bit_at_above n k k low (omega arith)))
      | inr high ↦ high
    ]

half_clear : (n k : ℕ) → n < 2 ^ (1 + k) → bit_at n k ≡ 0 → n < 2 ^ k
half_clear n k h e =
    let none : n / 2 ^ k ≡ 0 = omega (arith, shr_below n 1 k h, e) in
    let whole : 0 * 2 ^ k + n % 2 ^ k ≡ n = rw none at (shr_split n k) in
    omega (arith, whole, mod_below n (2 ^ k) (pow_pos k))

digit_is : (x : ℕ) → x < 2 → x ≡ (if is_one (plane_bit x 0) then 1 else 0)
digit_is x h = at_digit (λ x. x ≡ (if is_one (plane_bit x 0) then 1 else 0)) refl refl x h

-- the top bit of a vector without x and z says which half its number is in
top_digit : (a b w : ℕ) (bits : List Bit) → places a b w ≡ bits → 1 ≤ w → b ≡ 0 → bit_at a (w - 1) ≡ (if is_one (top_bit bits) then 1 else 0)
top_digit a b w bits s p none =
    let within : w - 1 < w = omega arith in
    let spelled : top_bit bits ≡ plane_bit (bit_at a (w - 1)) 0 =
    rw (← width_spelled a b w bits s, ← s) (get_or-places a b w (w - 1) Unknown within ∙ rw (none, bit_at-zero (w - 1)) refl) in
    rw spelled (digit_is (bit_at a (w - 1)) (bit_at-lt a (w - 1)))

-- ---- the two readings of 128 bits
signed_high : (n m h : ℕ) → m + 1 ≡ 2 * h → h ≤ 2 ^ 127 → h ≤ n → n ≤ m → to_z w128 (n + (2 ^ 128 - 1 - m)) ≡ pos n -ℤ pos (2 * h)
signed_high n m h e p q r =
    let k : ℕ = m - n in
    let bits_are : n + (2 ^ 128 - 1 - m) ≡ 2 ^ 128 - suc k = omega (arith, e, p, q, r) in
    rw bits_are (to_z-neg w128 k (omega (arith, e, p, q, r)) ∙ omega (arith, ints, e, q, r))

signed_low : (n : ℕ) → n < 2 ^ 127 → to_z w128 n ≡ pos n -ℤ pos 0
signed_low n h = omega (arith, ints)

half : (w : ℕ) → 1 ≤ w → 2 ^ w ≡ 2 * 2 ^ (w - 1)
half w h = ap (λ v. 2 ^ v) (sum w h) ∙ rw pow-add refl where
  sum : (w : ℕ) → 1 ≤ w → w ≡ 1 + (w - 1)
  sum w h = omega arith

half_fits : (w : ℕ) → w ≤ 128 → 2 ^ (w - 1) ≤ 2 ^ 127
half_fits w h = pow-le-pow_right (lit< tt) {j = 127} (omega arith)

-- ---- the answers of `known_signed`
not_one : (bit : Bit) → (bit ≡ One → ⊥) → is_one bit ≡ false
not_one Zero h = refl
not_one One h = absurd (h refl)
not_one Unknown h = refl
not_one HighZ h = refl

top_is : (w : ℕ) (bits : List Bit) (top : Bit) → w ≡ length bits → slice_get bits (w - 1) ≡ Some top → top_bit bits ≡ top
top_is w bits top e h = rw (← e) (get_or_from_slice_get bits (w - 1) top Unknown h)

signed_choice : (bits : List Bit) (z : ℤ) → list_any is_unknown bits ≡ false → z ≡ signed_number bits → Some z ≡ known_signed_number bits
signed_choice bits z known e = rw known (ap (λ z. Some z) e)

pub sum_fits : (n m w l : ℕ) → m + 1 ≡ 2 ^ w → w ≡ l → n < 2 ^ l → m < 2 ^ 128 → n + (2 ^ 128 - 1 - m) < 2 ^ 128
sum_fits n m w l ones same below fits = let under : n < 2 ^ w = rw same below in omega (arith, under, ones, fits)

pub signed_at_one : (a b w m n : ℕ) (bits : List Bit) (z : ℤ) → places a b w ≡ bits → ArePlanes a b w → m + 1 ≡ 2 ^ w
    → known_number bits ≡ Some n → slice_get bits (w - 1) ≡ Some One → z ≡ to_z w128 (n + (2 ^ 128 - 1 - m))
    → Some (to_z w128 (of_z w128 z)) ≡ known_signed_number bits
unfolding signed_number
signed_at_one a b w m n bits z s p ones known last is =
    let parts = known_parts bits n known in
    let low : n ≡ a = sym parts.1 ∙ number_plane a b w bits s p parts.0 in
    let top : top_bit bits ≡ One = top_is w bits One (width_spelled a b w bits s) last in
    let digit : bit_at a (w - 1) ≡ 1 = top_digit a b w bits s p.least (no_high_plane a b w bits s p parts.0) ∙ rw top refl in
    let below : n < 2 ^ w = rw low p.low_fits in
    let halves : m + 1 ≡ 2 * 2 ^ (w - 1) = ones ∙ half w p.least in
    let fits : n + (2 ^ 128 - 1 - m) < 2 ^ 128 = sum_fits n m w w ones refl below (omega (arith, halves, half_fits w p.most)) in
    let reads : to_z w128 (of_z w128 z) ≡ pos n -ℤ pos (2 * 2 ^ (w - 1)) =
    rw (is, of_z-to_z w128 (n + (2 ^ 128 - 1 - m)) fits)
    (signed_high n m (2 ^ (w - 1)) halves (half_fits w p.most) (rw low (half_set a (w - 1) digit)) (omega (arith, below, ones))) in
    signed_choice bits _ parts.0 (reads ∙ rw (parts.1, top, ← half w p.least, width_spelled a b w bits s) refl)

pub signed_at_other : (a b w n : ℕ) (bits : List Bit) (top : Bit) (z : ℤ) → places a b w ≡ bits → ArePlanes a b w
    → known_number bits ≡ Some n → slice_get bits (w - 1) ≡ Some top → (top ≡ One → ⊥) → z ≡ to_z w128 n
    → Some (to_z w128 (of_z w128 z)) ≡ known_signed_number bits
unfolding signed_number
signed_at_other a b w n bits top z s p known last other is =
    let parts = known_parts bits n known in
    let low : n ≡ a = sym parts.1 ∙ number_plane a b w bits s p parts.0 in
    let clear : is_one (top_bit bits) ≡ false = rw (top_is w bits top (width_spelled a b w bits s) last) (not_one top other) in
    let digit : bit_at a (w - 1) ≡ 0 = top_digit a b w bits s p.least (no_high_plane a b w bits s p parts.0) ∙ rw clear refl in
    let below : n < 2 ^ (w - 1) = rw low (half_clear a (w - 1) (subst (λ k. a < k) (half w p.least ∙ rw pow-add refl) p.low_fits) digit) in
    let small : n < 2 ^ 127 = omega (arith, below, half_fits w p.most) in
    let reads : to_z w128 (of_z w128 z) ≡ pos n -ℤ pos 0 = rw (is, of_z-to_z w128 n (omega (arith, small))) (signed_low n small) in
    signed_choice bits _ parts.0 (reads ∙ rw (parts.1, clear) refl)
