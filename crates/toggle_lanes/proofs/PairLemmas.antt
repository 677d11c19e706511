-- The bits that planes gain are the places that rise.
use Rattle.std.proofs.Common.{◌≡◌, ℕ, suc, ◌+◌, ◌*◌, ◌/◌, ◌%◌, ◌^◌, ◌<◌, ◌≤◌, add_comm, List, [], ◌∷◌, length, map, refl, sym, ap, ◌∙◌, arith, Bool, cond}
use Rattle.std.specs.Prelude.{bit_and, bit_or, bit_xor}
use Rattle.std.specs.Int.RustNames.{count_ones}
use Rattle.std.specs.List.{zip}
use Rattle.std.specs.Simd.Lanes.{mask_l}
use Rattle.std.proofs.lemmas.Nat.{and_block, or_block, xor_block, and_mod, or_mod, xor_mod, or_lt, and_le_l, and_shr, or_shr, xor_shr, ones_cat, div-add-mod'}
use Rattle.std.proofs.Math.Nat.{div-eq_of_lt, lt_of_lt_of_le, pow-le-pow_right, pow-suc}
use Rattle.std.proofs.lemmas.Simd.{ones-mask_l}
use Rattle.std.proofs.lemmas.List.Sums.{sum_by-cons}
use Rattle.four_state.specs.declared.bits.Bit.{Bit}
use Rattle.four_state.specs.declared.bits.Bit.TheVariants.{Zero, One, Unknown, HighZ}
use Rattle.four_state.specs.Planes.{low_digit, high_digit, low_plane, high_plane}
use Rattle.toggle_lanes.specs.Counts.{is_rise, is_fall, places_that}
use Rattle.toggle_lanes.specs.Lanes.{gained}

-- one digit below each plane
gained-digit : (a b c d m n o p : ℕ) → a < 2 ^ 1 → b < 2 ^ 1 → c < 2 ^ 1 → d < 2 ^ 1 → gained (m * 2 ^ 1 + a) (n * 2 ^ 1 + b) (o * 2 ^ 1 + c) (p * 2 ^ 1 + d) ≡ gained m n o p * 2 ^ 1 + gained a b c d
gained-digit a b c d m n o p f g h k =
    let cd : bit_or c d < 2 ^ 1 = or_lt 1 c d h k in
    let bcd : bit_or b (bit_or c d) < 2 ^ 1 = or_lt 1 b (bit_or c d) g cd in
    let abcd : bit_and a (bit_or b (bit_or c d)) < 2 ^ 1 = omega (arith, and_le_l a (bit_or b (bit_or c d)), f) in
    ap (λ x. bit_xor (m * 2 ^ 1 + a) (bit_and (m * 2 ^ 1 + a) (bit_or (n * 2 ^ 1 + b) x))) (or_block 1 o p c d h k)
    ∙ ap (λ x. bit_xor (m * 2 ^ 1 + a) (bit_and (m * 2 ^ 1 + a) x)) (or_block 1 n (bit_or o p) b (bit_or c d) g cd)
    ∙ ap (λ x. bit_xor (m * 2 ^ 1 + a) x) (and_block 1 m (bit_or n (bit_or o p)) a (bit_or b (bit_or c d)) f bcd)
    ∙ xor_block 1 m (bit_and m (bit_or n (bit_or o p))) a (bit_and a (bit_or b (bit_or c d))) f abcd

digit-up : (d m : ℕ) → d + 2 * m ≡ m * 2 ^ 1 + d
digit-up d m = omega arith

low-small : (bit : Bit) → low_digit bit < 2 ^ 1
low-small Zero = omega arith
low-small One = omega arith
low-small Unknown = omega arith
low-small HighZ = omega arith

high-small : (bit : Bit) → high_digit bit < 2 ^ 1
high-small Zero = omega arith
high-small One = omega arith
high-small Unknown = omega arith
high-small HighZ = omega arith

-- of single places
rise-digit : (old new : Bit) → gained (low_digit new) (high_digit new) (low_digit old) (high_digit old) ≡ cond (is_rise old new) 1 0
rise-digit Zero Zero = refl
rise-digit Zero One = refl
rise-digit Zero Unknown = refl
rise-digit Zero HighZ = refl
rise-digit One Zero = refl
rise-digit One One = refl
rise-digit One Unknown = refl
rise-digit One HighZ = refl
rise-digit Unknown Zero = refl
rise-digit Unknown One = refl
rise-digit Unknown Unknown = refl
rise-digit Unknown HighZ = refl
rise-digit HighZ Zero = refl
rise-digit HighZ One = refl
rise-digit HighZ Unknown = refl
rise-digit HighZ HighZ = refl

-- the bits that rise, as a mask of the places that do
rise-mask : (old new : List Bit) → length old ≡ length new → gained (low_plane new) (high_plane new) (low_plane old) (high_plane old) ≡ mask_l (map (λ pair. is_rise pair.0 pair.1) (zip old new))
unfolding low_plane high_plane
rise-mask [] [] same = refl
rise-mask [] (new ∷ news) same = absurd (omega arith)
rise-mask (old ∷ olds) [] same = absurd (omega arith)
rise-mask (old ∷ olds) (new ∷ news) same =
    let digits = gained-digit (low_digit new) (high_digit new) (low_digit old) (high_digit old) (low_plane news) (high_plane news) (low_plane olds) (high_plane olds) (low-small new) (high-small new) (low-small old) (high-small old) in
    ap (λ x. gained x (high_digit new + 2 * high_plane news) (low_digit old + 2 * low_plane olds) (high_digit old + 2 * high_plane olds)) (digit-up (low_digit new) (low_plane news))
    ∙ ap (λ x. gained (low_plane news * 2 ^ 1 + low_digit new) x (low_digit old + 2 * low_plane olds) (high_digit old + 2 * high_plane olds)) (digit-up (high_digit new) (high_plane news))
    ∙ ap (λ x. gained (low_plane news * 2 ^ 1 + low_digit new) (high_plane news * 2 ^ 1 + high_digit new) x (high_digit old + 2 * high_plane olds)) (digit-up (low_digit old) (low_plane olds))
    ∙ ap (λ x. gained (low_plane news * 2 ^ 1 + low_digit new) (high_plane news * 2 ^ 1 + high_digit new) (low_plane olds * 2 ^ 1 + low_digit old) x) (digit-up (high_digit old) (high_plane olds))
    ∙ digits
    ∙ ap (λ x. gained (low_plane news) (high_plane news) (low_plane olds) (high_plane olds) * 2 ^ 1 + x) (rise-digit old new)
    ∙ sym (digit-up (cond (is_rise old new) 1 0) (gained (low_plane news) (high_plane news) (low_plane olds) (high_plane olds)))
    ∙ ap (λ x. cond (is_rise old new) 1 0 + 2 * x) (rise-mask olds news (omega (arith, same)))

-- how many places rise
pub rises-are : (old new : List Bit) → length old ≡ length new → count_ones (gained (low_plane new) (high_plane new) (low_plane old) (high_plane old)) ≡ places_that is_rise old new
rises-are old new same = ap count_ones (rise-mask old new same) ∙ ones-mask_l (λ pair. is_rise pair.0 pair.1) (zip old new)

-- a fall is a rise backwards
back : (old new : Bit) → is_rise new old ≡ is_fall old new
back Zero Zero = refl
back Zero One = refl
back Zero Unknown = refl
back Zero HighZ = refl
back One Zero = refl
back One One = refl
back One Unknown = refl
back One HighZ = refl
back Unknown Zero = refl
back Unknown One = refl
back Unknown Unknown = refl
back Unknown HighZ = refl
back HighZ Zero = refl
back HighZ One = refl
back HighZ Unknown = refl
back HighZ HighZ = refl

-- the count with one more place
places-cons : (moves : Bit → Bit → Bool) (old new : Bit) (olds news : List Bit) → places_that moves (old ∷ olds) (new ∷ news) ≡ cond (moves old new) 1 0 + places_that moves olds news
places-cons moves old new olds news = sum_by-cons (λ pair. cond (moves pair.0 pair.1) 1 0) (old, new) (zip olds news)

pub fall-back : (old new : List Bit) → length old ≡ length new → places_that is_rise new old ≡ places_that is_fall old new
fall-back [] [] same = refl
fall-back [] (new ∷ news) same = absurd (omega (arith, same))
fall-back (old ∷ olds) [] same = absurd (omega (arith, same))
fall-back (old ∷ olds) (new ∷ news) same =
    places-cons is_rise new old news olds
    ∙ (ap (λ b. cond b 1 0 + places_that is_rise news olds) (back old new)
    ∙ (ap (λ n. cond (is_fall old new) 1 0 + n) (fall-back olds news (omega (arith, same)))
    ∙ sym (places-cons is_fall old new olds news)))

-- the two halves of the planes
pub halves : (a b c d : ℕ) → count_ones (gained (a % 2 ^ 64) (b % 2 ^ 64) (c % 2 ^ 64) (d % 2 ^ 64)) + count_ones (gained (a / 2 ^ 64) (b / 2 ^ 64) (c / 2 ^ 64) (d / 2 ^ 64)) ≡ count_ones (gained a b c d)
halves a b c d =
    let low : gained (a % 2 ^ 64) (b % 2 ^ 64) (c % 2 ^ 64) (d % 2 ^ 64) ≡ gained a b c d % 2 ^ 64 =
    ap (λ x. bit_xor (a % 2 ^ 64) (bit_and (a % 2 ^ 64) (bit_or (b % 2 ^ 64) x))) (sym (or_mod c d 64))
    ∙ ap (λ x. bit_xor (a % 2 ^ 64) (bit_and (a % 2 ^ 64) x)) (sym (or_mod b (bit_or c d) 64))
    ∙ ap (λ x. bit_xor (a % 2 ^ 64) x) (sym (and_mod a (bit_or b (bit_or c d)) 64))
    ∙ sym (xor_mod a (bit_and a (bit_or b (bit_or c d))) 64) in
    let high : gained (a / 2 ^ 64) (b / 2 ^ 64) (c / 2 ^ 64) (d / 2 ^ 64) ≡ gained a b c d / 2 ^ 64 =
    ap (λ x. bit_xor (a / 2 ^ 64) (bit_and (a / 2 ^ 64) (bit_or (b / 2 ^ 64) x))) (sym (or_shr c d 64))
    ∙ ap (λ x. bit_xor (a / 2 ^ 64) (bit_and (a / 2 ^ 64) x)) (sym (or_shr b (bit_or c d) 64))
    ∙ ap (λ x. bit_xor (a / 2 ^ 64) x) (sym (and_shr a (bit_or b (bit_or c d)) 64))
    ∙ sym (xor_shr a (bit_and a (bit_or b (bit_or c d))) 64) in
    let whole : ℕ = gained a b c d in
    ap (λ x. count_ones x + count_ones (gained (a / 2 ^ 64) (b / 2 ^ 64) (c / 2 ^ 64) (d / 2 ^ 64))) low
    ∙ ap (λ x. count_ones (whole % 2 ^ 64) + count_ones x) high
    ∙ add_comm (count_ones (whole % 2 ^ 64)) (count_ones (whole / 2 ^ 64))
    ∙ sym (ones_cat 64 (whole / 2 ^ 64) (whole % 2 ^ 64) (mod-lt whole))
    ∙ ap count_ones (div-add-mod' whole (2 ^ 64))
  where
    mod-lt : (n : ℕ) → n % 2 ^ 64 < 2 ^ 64
    mod-lt n = omega arith

-- ---- planes of at most 64 places have no high half
below : (digit half n : ℕ) → digit < 2 ^ 1 → half < 2 ^ n → digit + 2 * half < 2 ^ suc n
below digit half n h f = omega (arith, pow-suc)

low-below : (value : List Bit) → low_plane value < 2 ^ length value
unfolding low_plane
low-below [] = omega arith
low-below (bit ∷ bits) = below (low_digit bit) (low_plane bits) (length bits) (low-small bit) (low-below bits)

high-below : (value : List Bit) → high_plane value < 2 ^ length value
unfolding high_plane
high-below [] = omega arith
high-below (bit ∷ bits) = below (high_digit bit) (high_plane bits) (length bits) (high-small bit) (high-below bits)

no-half : (plane places : ℕ) → plane < 2 ^ places → places ≤ 64 → plane / 2 ^ 64 ≡ 0
no-half plane places h few = div-eq_of_lt (lt_of_lt_of_le h (pow-le-pow_right {n = 2} (omega arith) few))

pub low-half : (value : List Bit) → length value ≤ 64 → low_plane value / 2 ^ 64 ≡ 0
low-half value few = no-half (low_plane value) (length value) (low-below value) few

pub high-half : (value : List Bit) → length value ≤ 64 → high_plane value / 2 ^ 64 ≡ 0
high-half value few = no-half (high_plane value) (length value) (high-below value) few
