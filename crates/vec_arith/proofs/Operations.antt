-- The operations where both operands are known.
use Rattle.std.proofs.Common.{◌≡◌, ◌≢◌, ℕ, ◌^◌, ℤ, pos, neg_ℤ, List, length, Option, Some}
use Rattle.std.specs.Prelude.{unsigned_abs}
use Rattle.std.proofs.lemmas.Bool.{ne_eqb}
use Rattle.four_state.specs.declared.bits.Bit.{Bit}
use Rattle.four_state.specs.Vector.{known_number, known_signed_number}
use Rattle.vec_arith.specs.Arith.{of_integer, unsigned, signed, computed, divided, negated, raised, ceil_log2, logarithm}

-- what the calls of `known` gave, and what of them was matched
pub computed_unsigned : (give : ℤ → ℤ → ℤ) (left right : List Bit) (o p : Option ℕ) (x y w : ℕ) (bits : List Bit)
    → o ≡ known_number left → p ≡ known_number right → o ≡ Some x → p ≡ Some y → w ≡ length left
    → bits ≡ of_integer (give (pos x) (pos y)) w → bits ≡ computed unsigned give left right
computed_unsigned give left right o p x y w bits a b f g e is = rw (← a, ← b, f, g, ← e) is

pub divided_unsigned : (give : ℤ → ℤ → ℤ) (left right : List Bit) (o p : Option ℕ) (x y w : ℕ) (bits : List Bit)
    → o ≡ known_number left → p ≡ known_number right → o ≡ Some x → p ≡ Some y → w ≡ length left → y ≢ 0
    → bits ≡ of_integer (give (pos x) (pos y)) w → bits ≡ divided unsigned give left right
divided_unsigned give left right o p x y w bits a b f g e n is = rw (← a, ← b, f, g, ← e, ne_eqb y 0 n) is

pub divided_signed : (give : ℤ → ℤ → ℤ) (left right : List Bit) (o p : Option ℤ) (x y : ℤ) (w : ℕ) (bits : List Bit)
    → o ≡ known_signed_number left → p ≡ known_signed_number right → o ≡ Some x → p ≡ Some y → w ≡ length left → unsigned_abs y ≢ 0
    → bits ≡ of_integer (give x y) w → bits ≡ divided signed give left right
divided_signed give left right o p x y w bits a b f g e n is = rw (← a, ← b, f, g, ← e, ne_eqb (unsigned_abs y) 0 n) is

pub negated_known : (v : List Bit) (o : Option ℕ) (x w : ℕ) (bits : List Bit) → o ≡ known_number v → o ≡ Some x → w ≡ length v
    → bits ≡ of_integer (neg_ℤ (pos x)) w → bits ≡ negated v
negated_known v o x w bits a f e is = rw (← a, f, ← e) is

pub raised_known : (left right : List Bit) (o p : Option ℕ) (x y w : ℕ) (bits : List Bit)
    → o ≡ known_number left → p ≡ known_number right → o ≡ Some x → p ≡ Some y → w ≡ length left
    → bits ≡ of_integer (pos (x ^ y)) w → bits ≡ raised left right
raised_known left right o p x y w bits a b f g e is = rw (← a, ← b, f, g, ← e) is

pub logarithm_known : (v : List Bit) (o : Option ℕ) (x : ℕ) (bits : List Bit) → o ≡ known_number v → o ≡ Some x
    → bits ≡ of_integer (pos (ceil_log2 x)) 32 → bits ≡ logarithm v
logarithm_known v o x bits a f is = rw (← a, f) is
