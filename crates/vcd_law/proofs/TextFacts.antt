-- The bytes of numbers and of bits that are written.
use Rattle.std.proofs.Common.{◌≡◌, ℕ, zero, suc, ◌+◌, ◌/◌, ◌%◌, ◌<◌, ◌≤◌, ◌^◌, Bool, true, false, cond, List, [], ◌∷◌, ◌++◌, length, map, reverse, refl, ap, ◌∙◌, arith, codes}
use Rattle.std.specs.Prelude.{ℤ, pos, negsuc, ◌==◌, nat_lt, not, decimal}
use Rattle.std.specs.List.{list_all}
use Rattle.std.specs.Char.{is_ascii_digit}
use Rattle.std.specs.Fmt.{digit_glyph, digits_onto, digits, signed_decimal}
use Rattle.std.specs.Str.Parse.{digits_value}
use Rattle.std.specs.Ordering.{int_eq}
use Rattle.std.proofs.lemmas.Bool.Decides.{nat_tests}
use Rattle.std.proofs.lemmas.List.Folds.{list_all-append}
use Rattle.std.proofs.lemmas.Fmt.{decimal_is_IsNumeral, decimal_nonempty}
use Rattle.four_state.specs.declared.bits.Bit.{Bit}
use Rattle.four_state.specs.declared.bits.Bit.TheVariants.{Zero, One, Unknown, HighZ}
use Rattle.vcd_read.specs.Words.{is_printable, is_number}
use Rattle.vcd_write.specs.Value.{bit_code, spelled}
use Rattle.vcd_write.specs.Header.{index_text, indices_text, range_text}
use Rattle.vcd_law.proofs.CodeFacts.{and-both, printable}

-- ---- numbers
glyph-all : (p : ℕ → Bool) → ((d : ℕ) → d < 10 → p (48 + d) ≡ true) → (d : ℕ) → d < 10 → p (digit_glyph false d) ≡ true
glyph-all p each d h =
    let small : nat_lt d 10 ≡ true = grind (arith, nat_tests) in
    ap (λ b. p (cond b (48 + d) (87 + d))) small ∙ each d h

onto-all : (p : ℕ → Bool) → ((d : ℕ) → d < 10 → p (48 + d) ≡ true) → (k n : ℕ) (after : List ℕ) → list_all p after ≡ true → list_all p (digits_onto k 10 false n after) ≡ true
onto-all p each zero n after h = h
onto-all p each (suc k) n after h = by_last (onto-all p each k (n / 10) longer more) (n / 10 == 0)
  where
    longer : List ℕ
    longer = digit_glyph false (n % 10) ∷ after

    more : list_all p longer ≡ true
    more = and-both (p (digit_glyph false (n % 10))) (list_all p after) (glyph-all p each (n % 10) (omega arith)) h

    by_last : list_all p (digits_onto k 10 false (n / 10) longer) ≡ true → (last : Bool) → list_all p (cond last longer (digits_onto k 10 false (n / 10) longer)) ≡ true
    by_last again true = more
    by_last again false = again

decimal-all : (p : ℕ → Bool) → ((d : ℕ) → d < 10 → p (48 + d) ≡ true) → (n : ℕ) → list_all p (decimal n) ≡ true
unfolding digits
decimal-all p each n = onto-all p each 64 n [] refl

digit-printable : (d : ℕ) → d < 10 → is_printable (48 + d) ≡ true
digit-printable d h = printable (48 + d) (omega arith) (omega arith)

digit-is : (d : ℕ) → d < 10 → is_ascii_digit (48 + d) ≡ true
digit-is d h = grind (arith, nat_tests)

pub decimal-printable : (n : ℕ) → list_all is_printable (decimal n) ≡ true
decimal-printable n = decimal-all is_printable digit-printable n

pub decimal-some : (n : ℕ) → n < 2 ^ 64 → 1 ≤ length (decimal n)
decimal-some n h = let some = decimal_nonempty n h in omega (arith, some)

pub decimal-number : (n : ℕ) → n < 2 ^ 64 → is_number (decimal n) ≡ true
decimal-number n h =
    let some = decimal-some n h in
    let test : not (length (decimal n) == 0) ≡ true = grind (arith, nat_tests) in
    and-both (not (length (decimal n) == 0)) (list_all is_ascii_digit (decimal n)) test (decimal-all is_ascii_digit digit-is n)

pub decimal-value : (n : ℕ) → n < 2 ^ 64 → digits_value 10 (decimal n) ≡ n
decimal-value n h = (decimal_is_IsNumeral n h).1

signed-printable : (z : ℤ) → list_all is_printable (signed_decimal z) ≡ true
signed-printable (pos n) = decimal-printable n
signed-printable (negsuc n) = decimal-printable (suc n)

both-printable : (xs ys : List ℕ) → list_all is_printable xs ≡ true → list_all is_printable ys ≡ true → list_all is_printable (xs ++ ys) ≡ true
both-printable xs ys p q = list_all-append is_printable xs ys ∙ and-both (list_all is_printable xs) (list_all is_printable ys) p q

-- ---- ranges
-- a range is nothing, or a space, `[` (its code is 91) and more of a word
pub data Range (text : List ℕ) : Type 0 where
  None : text ≡ [] → Range text
  Some : (word : List ℕ) → text ≡ 32 ∷ (91 ∷ word) → list_all is_printable word ≡ true → Range text

index-range : (index : ℤ) → Range (index_text index)
index-range index = Some (signed_decimal index ++ codes "]") refl (both-printable (signed_decimal index) (codes "]") (signed-printable index) refl)

indices-range : (msb lsb : ℤ) → Range (indices_text msb lsb)
indices-range msb lsb =
    Some (signed_decimal msb ++ (codes ":" ++ (signed_decimal lsb ++ codes "]"))) refl
    (both-printable (signed_decimal msb) (codes ":" ++ (signed_decimal lsb ++ codes "]")) (signed-printable msb) (both-printable (signed_decimal lsb) (codes "]") (signed-printable lsb) refl))

pub range-is : (msb lsb : ℤ) → Range (range_text msb lsb)
range-is msb lsb = by_same (int_eq msb lsb) (int_eq msb (pos 0))
  where
    by_same : (same zero_ : Bool) → Range (cond same (cond zero_ [] (index_text msb)) (indices_text msb lsb))
    by_same true true = None refl
    by_same true false = index-range msb
    by_same false zero_ = indices-range msb lsb

-- ---- bits
bit-printable : (bit : Bit) → is_printable (bit_code bit) ≡ true
bit-printable Zero = refl
bit-printable One = refl
bit-printable Unknown = refl
bit-printable HighZ = refl

bits-printable : (bits : List Bit) → list_all is_printable (map bit_code bits) ≡ true
bits-printable [] = refl
bits-printable (bit ∷ bits) = and-both (is_printable (bit_code bit)) (list_all is_printable (map bit_code bits)) (bit-printable bit) (bits-printable bits)

pub spelled-printable : (bits : List Bit) → list_all is_printable (spelled bits) ≡ true
spelled-printable bits = bits-printable (reverse bits)

pub bit-then : (bit : Bit) (code : List ℕ) → list_all is_printable code ≡ true → list_all is_printable (bit_code bit ∷ code) ≡ true
bit-then bit code h = and-both (is_printable (bit_code bit)) (list_all is_printable code) (bit-printable bit) h
