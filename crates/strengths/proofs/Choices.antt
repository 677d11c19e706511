-- Digits of planes, by all choices.
use Rattle.std.specs.Int.{bit_at}
use Rattle.std.proofs.lemmas.Nat.Bits.{bit_at-lt}
use Rattle.std.proofs.Common.{◌≡◌, ℕ, zero, suc, ap, ◌≤◌, ◌+◌, ◌*◌, ◌%◌, ◌<◌, min, max, eqb, ltb, pos, neg_ℤ, refl, arith}
use Rattle.std.specs.Ordering.{int_eq}
use Rattle.std.proofs.lemmas.Bool.{eqb-true}
use Rattle.std.proofs.lemmas.Bool.Decides.{Decides-int_eq}
use Rattle.strengths.specs.DigitLemmas.{at_four, at_eight}
use Rattle.strengths.specs.Planes.{mark, chosen, signed, sign_digit, driven_end}
use Rattle.strengths.specs.Ends.{lesser_end, greater_end}

pub chosen_digit : (m x y : ℕ) → m < 2 → x < 2 → y < 2 → (y + min m ((y + x) % 2)) % 2 ≡ chosen m x y
chosen_digit m x y p q r = eqb-true _ _ (at_four (λ m x y z. eqb ((y + min m ((y + x) % 2)) % 2) (chosen m x y)) refl m x y 0 p q r (omega arith))

pub weaker_digit : (a b c d e f : ℕ) → a < 2 → b < 2 → c < 2 → d < 2 → e < 2 → f < 2
    → chosen ((a + d) % 2) d (chosen ((b + e) % 2) e (min f ((c + f) % 2))) ≡ mark (ltb (4 * a + 2 * b + c) (4 * d + 2 * e + f))
weaker_digit a b c d e f p q r s t u =
    eqb-true _ _
    (at_eight (λ a b c d e f g h. eqb (chosen ((a + d) % 2) d (chosen ((b + e) % 2) e (min f ((c + f) % 2)))) (mark (ltb (4 * a + 2 * b + c) (4 * d + 2 * e + f)))) refl
    a b c d e f 0 0 p q r s t u (omega arith) (omega arith))

-- the lesser end, by the digits of the two
pub lesser_digits : (m a b c n d e f : ℕ) → m < 2 → a < 2 → b < 2 → c < 2 → n < 2 → d < 2 → e < 2 → f < 2
    → signed (chosen (mark (ltb (4 * a + 2 * b + c) (4 * d + 2 * e + f))) n (chosen (mark (ltb (4 * d + 2 * e + f) (4 * a + 2 * b + c))) m (max m n)))
    (chosen (mark (ltb (4 * a + 2 * b + c) (4 * d + 2 * e + f))) d a)
    (chosen (mark (ltb (4 * a + 2 * b + c) (4 * d + 2 * e + f))) e b)
    (chosen (mark (ltb (4 * a + 2 * b + c) (4 * d + 2 * e + f))) f c)
    ≡ lesser_end (signed m a b c) (signed n d e f)
unfolding lesser_end
lesser_digits m a b c n d e f p q r s t u v w =
    (Decides-int_eq _ _).0
    (at_eight (λ m a b c n d e f.
    int_eq (signed (chosen (mark (ltb (4 * a + 2 * b + c) (4 * d + 2 * e + f))) n (chosen (mark (ltb (4 * d + 2 * e + f) (4 * a + 2 * b + c))) m (max m n)))
    (chosen (mark (ltb (4 * a + 2 * b + c) (4 * d + 2 * e + f))) d a)
    (chosen (mark (ltb (4 * a + 2 * b + c) (4 * d + 2 * e + f))) e b)
    (chosen (mark (ltb (4 * a + 2 * b + c) (4 * d + 2 * e + f))) f c))
    (lesser_end (signed m a b c) (signed n d e f)))
    refl m a b c n d e f p q r s t u v w)

-- the greater end, by the digits of the two
pub greater_digits : (m a b c n d e f : ℕ) → m < 2 → a < 2 → b < 2 → c < 2 → n < 2 → d < 2 → e < 2 → f < 2
    → signed (chosen (mark (ltb (4 * a + 2 * b + c) (4 * d + 2 * e + f))) n (chosen (mark (ltb (4 * d + 2 * e + f) (4 * a + 2 * b + c))) m (min m n)))
    (chosen (mark (ltb (4 * a + 2 * b + c) (4 * d + 2 * e + f))) d a)
    (chosen (mark (ltb (4 * a + 2 * b + c) (4 * d + 2 * e + f))) e b)
    (chosen (mark (ltb (4 * a + 2 * b + c) (4 * d + 2 * e + f))) f c)
    ≡ greater_end (signed m a b c) (signed n d e f)
unfolding greater_end
greater_digits m a b c n d e f p q r s t u v w =
    (Decides-int_eq _ _).0
    (at_eight (λ m a b c n d e f.
    int_eq (signed (chosen (mark (ltb (4 * a + 2 * b + c) (4 * d + 2 * e + f))) n (chosen (mark (ltb (4 * d + 2 * e + f) (4 * a + 2 * b + c))) m (min m n)))
    (chosen (mark (ltb (4 * a + 2 * b + c) (4 * d + 2 * e + f))) d a)
    (chosen (mark (ltb (4 * a + 2 * b + c) (4 * d + 2 * e + f))) e b)
    (chosen (mark (ltb (4 * a + 2 * b + c) (4 * d + 2 * e + f))) f c))
    (greater_end (signed m a b c) (signed n d e f)))
    refl m a b c n d e f p q r s t u v w)

pub signed_chosen : (m a b c d e f g h : ℕ) → signed (chosen m a e) (chosen m b f) (chosen m c g) (chosen m d h) ≡ chosen m (signed a b c d) (signed e f g h)
signed_chosen zero a b c d e f g h = refl
signed_chosen (suc m) a b c d e f g h = refl

-- a strength of three digits
three_digits : (s : ℕ) → s ≤ 7 → 4 * bit_at s 2 + 2 * bit_at s 1 + bit_at s 0 ≡ s
three_digits s h = omega arith

pub driven_digits : (down up s0 s1 : ℕ) → down < 2 → up < 2 → s0 ≤ 7 → s1 ≤ 7
    → signed down (chosen down (bit_at s0 2) (min up (bit_at s1 2))) (chosen down (bit_at s0 1) (min up (bit_at s1 1))) (chosen down (bit_at s0 0) (min up (bit_at s1 0)))
    ≡ driven_end down up s0 s1
driven_digits zero zero s0 s1 p q r s = ap pos (omega arith)
driven_digits zero (suc zero) s0 s1 p q r s =
    let least : (n : ℕ) → n < 2 → min 1 n ≡ n = λ (n : ℕ) (h : n < 2). omega arith in
    rw (least (bit_at s1 2) (bit_at-lt s1 2), least (bit_at s1 1) (bit_at-lt s1 1), least (bit_at s1 0) (bit_at-lt s1 0)) (ap pos (three_digits s1 s))
driven_digits zero (suc (suc up)) s0 s1 p q r s = absurd (omega arith)
driven_digits (suc down) up s0 s1 p q r s = ap (λ n. neg_ℤ (pos n)) (three_digits s0 r)

-- what a mask keeps of an end, with no sign where the strength is 0
pub kept_digits : (n f t o : ℕ) → n < 2 → f < 2 → t < 2 → o < 2 → signed (min (min n (max (max f t) o)) 1) (min f 1) (min t 1) (min o 1) ≡ signed n f t o
kept_digits n f t o p q r s =
    (Decides-int_eq _ _).0 (at_four (λ n f t o. int_eq (signed (min (min n (max (max f t) o)) 1) (min f 1) (min t 1) (min o 1)) (signed n f t o)) refl n f t o p q r s)

pub kept_sign : (n f t o : ℕ) → n < 2 → f < 2 → t < 2 → o < 2 → sign_digit (signed (min (min n (max (max f t) o)) 1) (min f 1) (min t 1) (min o 1)) ≡ min (min n (max (max f t) o)) 1
kept_sign n f t o p q r s =
    eqb-true _ _ (at_four (λ n f t o. eqb (sign_digit (signed (min (min n (max (max f t) o)) 1) (min f 1) (min t 1) (min o 1))) (min (min n (max (max f t) o)) 1)) refl n f t o p q r s)
