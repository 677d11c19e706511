-- No token but a Text has a `;` in it.
use Rattle.std.proofs.Common.{◌≡◌, ℕ, List, [], ◌∷◌, ◌++◌, refl, sym, ap, ◌∙◌, Bool, true, false, not, ◌||◌, eqb, inl, inr}
use Rattle.std.specs.Prelude.{⊤, ◌⊎◌}
use Rattle.std.specs.List.{list_all}
use Rattle.std.specs.Char.{is_ascii_digit}
use Rattle.std.proofs.lemmas.List.Folds.{list_all-append}
use Rattle.std.proofs.lemmas.Bool.{true≢false, eqb-true, and_parts}
use Rattle.vvp_lex.specs.Token.{is_word_first, is_word_part, is_bit, is_punct}
use Rattle.vvp_lex.specs.Longest.{IsToken}
use Rattle.vvp_lex.specs.declared.types.Token.{Token}
use Rattle.vvp_lex.specs.declared.types.Token.TheVariants.{Word, Number, Text, Const, Based, Punct}

-- any byte but the `;`
abbrev pub is_other : ℕ → Bool
is_other b = not (eqb b 59)

-- what passes a test that the `;` fails is another byte
other-byte : (p : ℕ → Bool) → p 59 ≡ false → (b : ℕ) → p b ≡ true → is_other b ≡ true
other-byte p fails b passes = by (eqb b 59) refl
  where
    by : (semicolon : Bool) → eqb b 59 ≡ semicolon → not semicolon ≡ true
    by false is = refl
    by true is = absurd (true≢false (sym passes ∙ ap p (eqb-true b 59 is) ∙ fails))

other-bytes : (p : ℕ → Bool) → p 59 ≡ false → (bytes : List ℕ) → list_all p bytes ≡ true → list_all is_other bytes ≡ true
other-bytes p fails [] passes = refl
other-bytes p fails (b ∷ bytes) passes =
    let parts = and_parts (p b) (list_all p bytes) passes in
    rw (other-byte p fails b parts.0) (other-bytes p fails bytes parts.1)

-- and so do two lists, one after the other
both-other : (xs ys : List ℕ) → list_all is_other xs ≡ true → list_all is_other ys ≡ true → list_all is_other (xs ++ ys) ≡ true
both-other xs ys first second = list_all-append is_other xs ys ∙ rw (first, second) refl

other-sign : (sign : List ℕ) → (sign ≡ []) ⊎ (sign ≡ 115 ∷ []) → list_all is_other sign ≡ true
other-sign sign (inl is) = rw is refl
other-sign sign (inr is) = rw is refl

-- the bytes of such a token, and of a Text nothing
abbrev pub HasNone : Token → List ℕ → Type 0
HasNone Word bytes = list_all is_other bytes ≡ true
HasNone (Number value) bytes = list_all is_other bytes ≡ true
HasNone Text bytes = ⊤
HasNone Const bytes = list_all is_other bytes ≡ true
HasNone Based bytes = list_all is_other bytes ≡ true
HasNone (Punct b) bytes = list_all is_other bytes ≡ true

pub has_none : (token : Token) (bytes : List ℕ) → IsToken token bytes → HasNone token bytes
has_none Word bytes is =
    rw (is.whole, other-byte is_word_first refl is.first is.begins) (other-bytes is_word_part refl is.more is.goes_on)
has_none (Number value) bytes is = other-bytes is_ascii_digit refl bytes is.digits
has_none Text bytes is = tt
has_none Const bytes is =
    rw (is.whole, other-byte (λ b. eqb b 67 || eqb b 99) refl is.letter is.begins) (both-other is.bits (62 ∷ []) (other-bytes is_bit refl is.bits is.all_bits) refl)
has_none Based bytes is =
    let bits : list_all is_other (98 ∷ is.bits) ≡ true = other-bytes is_bit refl is.bits is.all_bits in
    rw is.whole (both-other is.size (39 ∷ (is.sign ++ (98 ∷ is.bits))) (other-bytes is_ascii_digit refl is.size is.digits) (both-other is.sign (98 ∷ is.bits) (other-sign is.sign is.signed) bits))
has_none (Punct b) bytes is = rw (is.whole, other-byte is_punct refl b is.one) refl
