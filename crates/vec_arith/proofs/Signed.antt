-- The signed divisions, in the 128 digits that keep their operands.
use Rattle.std.proofs.Common.{◌≡◌, ◌≢◌, ℕ, zero, suc, ◌+◌, ◌<◌, ◌≤◌, ◌/◌, ◌^◌, ℤ, pos, negsuc, neg_ℤ, nat_abs, FitsSigned, refl, ◌∙◌, arith}
use Rattle.std.specs.Int.{w128, int_wrapping_div}
use Rattle.std.specs.Prelude.{int_div, int_rem}
use mir.Val.{to_z, of_z}
use lib.Signed.{mag, mag_rem}
use Rattle.std.proofs.Math.Nat.{div-le_self}
use Rattle.std.proofs.lemmas.Int.{to_z-of_z, of_z-to_z}
use Rattle.four_state.specs.Planes.{places}
use Rattle.vec_arith.specs.Arith.{of_integer}
use Rattle.vec_arith.proofs.Modulo.{of_signed}

-- ---- a signed quotient is no greater than what is divided
mag-neg : (n : ℕ) → mag (neg_ℤ (pos n)) ≤ n
mag-neg zero = omega arith
mag-neg (suc n) = omega arith

mag-quot : (x y : ℤ) → mag (int_div x y) ≤ mag x + 1
mag-quot (pos a) (pos b) = omega (arith, div-le_self a b)
mag-quot (pos a) (negsuc b) = omega (arith, mag-neg (a / suc b), div-le_self a (suc b))
mag-quot (negsuc a) (pos b) = omega (arith, mag-neg (suc a / b), div-le_self (suc a) b)
mag-quot (negsuc a) (negsuc b) = omega (arith, div-le_self (suc a) (suc b))

-- ---- what is kept in 128 digits
digits-lt : (z : ℤ) → mag z < 2 ^ 128 → of_z w128 z < 2 ^ 128
digits-lt (pos n) h = h
digits-lt (negsuc n) h = omega arith

kept : (z : ℤ) (n w : ℕ) → w ≤ 128 → mag z < 2 ^ 128 → n ≡ of_z w128 (to_z w128 (of_z w128 z)) → places n 0 w ≡ of_integer z w
kept z n w m h e = rw (e, of_z-to_z w128 (of_z w128 z) (digits-lt z h)) (of_signed z w m h)

-- `x.wrapping_div(y).cast_unsigned()`
pub of_quotient : (x y r : ℤ) (n w : ℕ) → w ≤ 128 → FitsSigned w128 x → FitsSigned w128 y
    → r ≡ int_wrapping_div w128 (to_z w128 (of_z w128 x)) (to_z w128 (of_z w128 y)) → n ≡ of_z w128 (to_z w128 (of_z w128 r))
    → places n 0 w ≡ of_integer (int_div x y) w
of_quotient x y r n w m f g e k =
    let small : mag (int_div x y) < 2 ^ 128 = omega (arith, mag-quot x y, f.sfits) in
    let same : r ≡ to_z w128 (of_z w128 (int_div x y)) = e ∙ rw (to_z-of_z w128 x f, to_z-of_z w128 y g) refl in
    let digits : of_z w128 r ≡ of_z w128 (int_div x y) = rw same (of_z-to_z w128 (of_z w128 (int_div x y)) (digits-lt (int_div x y) small)) in
    kept (int_div x y) n w m small (k ∙ rw digits refl)

-- `x.wrapping_rem(y).cast_unsigned()`
pub of_remainder : (x y r : ℤ) (n w : ℕ) → w ≤ 128 → FitsSigned w128 x → FitsSigned w128 y
    → r ≡ int_rem (to_z w128 (of_z w128 x)) (to_z w128 (of_z w128 y)) → n ≡ of_z w128 (to_z w128 (of_z w128 r))
    → places n 0 w ≡ of_integer (int_rem x y) w
of_remainder x y r n w m f g e k =
    let small : mag (int_rem x y) < 2 ^ 128 = omega (arith, mag_rem x y, f.sfits) in
    let same : r ≡ int_rem x y = e ∙ rw (to_z-of_z w128 x f, to_z-of_z w128 y g) refl in
    kept (int_rem x y) n w m small (k ∙ rw same refl)

-- the test `y != 0`
pub not_zero : (y : ℤ) → (of_z w128 y ≡ 0 → ⊥) → nat_abs y ≢ 0
not_zero (pos n) h = h
not_zero (negsuc n) h = λ e. absurd (omega (arith, e))
