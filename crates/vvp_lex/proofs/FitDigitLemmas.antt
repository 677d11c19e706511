-- What is read where a digit stands at the front of a text is a Number or a Based; and what is read at the front of any
-- text is a token.
use Rattle.std.proofs.Common.{◌≡◌, ℕ, suc, ◌+◌, ◌^◌, ◌<◌, List, [], ◌∷◌, ◌++◌, length, get_or, take, drop, refl, ap, ◌∙◌, arith, Bool, true, false, not, cond, ◌||◌, eqb, inl, inr}
use Rattle.std.specs.Prelude.{nat_le, nat_lt, ◌⊎◌}
use Rattle.std.specs.List.{prefix_len, list_all}
use Rattle.std.specs.Char.{is_ascii_digit}
use Rattle.std.specs.Str.Parse.{digits_value}
use Rattle.std.proofs.lemmas.List.{get_or-drop, drop-drop}
use Rattle.std.proofs.lemmas.List.Folds.{length-prefix_len}
use Rattle.std.proofs.lemmas.Bool.{eqb-true, or_parts, leb-false, ltb-false, not-false}
use Rattle.std.proofs.lemmas.Bool.Decides.{nat_tests}
use Rattle.vvp_lex.specs.Token.{is_bit, is_constant, mark_after, based_after, number, token_at, is_word_first, is_word_part, is_punct}
use Rattle.vvp_lex.proofs.PassingLemmas.{passing-all}
use Rattle.vvp_lex.proofs.FitLemmas.{ReadsToken, either_reads, take-at, fits-word, fits-punct, fits-text, fits-const}

some-nonzero : (n : ℕ) → eqb n 0 ≡ false → 0 < n
some-nonzero n is = grind (arith, nat_tests)

-- how a vector lies after the digits of its size, without an `s` and with one
spelled-plain : (rest : List ℕ) (quote bits : ℕ) → get_or rest quote 0 ≡ 39 → get_or rest (quote + 1) 0 ≡ 98 → take (quote + 1 + 1 + bits) rest ≡ take quote rest ++ (39 ∷ (98 ∷ take bits (drop (quote + 1 + 1) rest)))
spelled-plain rest quote bits opens mark =
    let len : quote + 1 + 1 + bits ≡ quote + suc (0 + suc bits) = omega arith in
    let place : suc (0 + suc quote) ≡ quote + 1 + 1 = omega arith in
    let next : suc quote + 0 ≡ quote + 1 = omega arith in
    let here : get_or (drop (suc quote) rest) 0 0 ≡ 98 = get_or-drop (suc quote) rest 0 0 ∙ ap (λ i. get_or rest i 0) next ∙ mark in
    ap (λ n. take n rest) len
    ∙ take-at quote (0 + suc bits) rest 39 (omega arith) opens
    ∙ ap (λ l. take quote rest ++ (39 ∷ l)) (take-at 0 bits (drop (suc quote) rest) 98 (omega arith) here)
    ∙ ap (λ l. take quote rest ++ (39 ∷ 98 ∷ take bits l)) (drop-drop 1 (suc quote) rest ∙ ap (λ i. drop i rest) (let e : suc quote + 1 ≡ quote + 1 + 1 = omega arith in e))

spelled-signed : (rest : List ℕ) (quote bits : ℕ) → get_or rest quote 0 ≡ 39 → get_or rest (quote + 1) 0 ≡ 115 → get_or rest (quote + 2) 0 ≡ 98 → take (quote + 2 + 1 + bits) rest ≡ take quote rest ++ (39 ∷ (115 ∷ 98 ∷ take bits (drop (quote + 2 + 1) rest)))
spelled-signed rest quote bits opens sign mark =
    let len : quote + 2 + 1 + bits ≡ quote + suc (0 + suc (0 + suc bits)) = omega arith in
    let next : suc quote + 0 ≡ quote + 1 = omega arith in
    let second : suc quote + 1 ≡ quote + 2 = omega arith in
    let here : get_or (drop (suc quote) rest) 0 0 ≡ 115 = get_or-drop (suc quote) rest 0 0 ∙ ap (λ i. get_or rest i 0) next ∙ sign in
    let passed : drop 1 (drop (suc quote) rest) ≡ drop (quote + 2) rest = drop-drop 1 (suc quote) rest ∙ ap (λ i. drop i rest) second in
    let there : get_or (drop (quote + 2) rest) 0 0 ≡ 98 = get_or-drop (quote + 2) rest 0 0 ∙ ap (λ i. get_or rest i 0) (let e : quote + 2 + 0 ≡ quote + 2 = omega arith in e) ∙ mark in
    ap (λ n. take n rest) len
    ∙ take-at quote (0 + suc (0 + suc bits)) rest 39 (omega arith) opens
    ∙ ap (λ l. take quote rest ++ (39 ∷ l)) (take-at 0 (0 + suc bits) (drop (suc quote) rest) 115 (omega arith) here)
    ∙ ap (λ l. take quote rest ++ (39 ∷ 115 ∷ take (0 + suc bits) l)) passed
    ∙ ap (λ l. take quote rest ++ (39 ∷ 115 ∷ l)) (take-at 0 bits (drop (quote + 2) rest) 98 (omega arith) there)
    ∙ ap (λ l. take quote rest ++ (39 ∷ 115 ∷ 98 ∷ take bits l)) (drop-drop 1 (quote + 2) rest ∙ ap (λ i. drop i rest) (let e : quote + 2 + 1 ≡ quote + 2 + 1 = refl in e))

module _ (b : ℕ) (rest : List ℕ) (n : ℕ) (digits : list_all is_ascii_digit (b ∷ take n rest) ≡ true) where
  -- a vector whose `b` stands at a place
  fits-mark : (mark : ℕ) (sign : List ℕ) → (sign ≡ []) ⊎ (sign ≡ 115 ∷ []) → ((bits : ℕ) → get_or rest mark 0 ≡ 98 → take (mark + 1 + bits) rest ≡ take n rest ++ (39 ∷ (sign ++ (98 ∷ take bits (drop (mark + 1) rest))))) → ReadsToken (b ∷ rest) (based_after (b ∷ take n rest) rest mark)
  fits-mark mark sign signed spelled =
      let bits = prefix_len is_bit (drop (mark + 1) rest) in
      let value = digits_value 10 (b ∷ take n rest) in
      let len : length (take bits (drop (mark + 1) rest)) ≡ bits = length-prefix_len is_bit (drop (mark + 1) rest) in
      either_reads (b ∷ rest) (not (eqb (get_or rest mark 0) 98) || eqb bits 0) _ _ (λ bad. tt) (λ good.
      let parts = or_parts (not (eqb (get_or rest mark 0) 98)) (eqb bits 0) good in
      either_reads (b ∷ rest) (nat_le (2 ^ 64) value) _ _ (λ large. tt) (λ small. either_reads (b ∷ rest) (nat_lt 128 bits) _ _ (λ wide. tt) (λ narrow. record {
        size = b ∷ take n rest;
        sign = sign;
        bits = take bits (drop (mark + 1) rest);
        whole = ap (λ l. b ∷ l) (spelled bits (eqb-true _ 98 (not-false _ parts.0)));
        some_size = omega arith;
        digits = digits;
        fits = leb-false (2 ^ 64) value small;
        signed = signed;
        some_bits = omega (arith, len, some-nonzero bits parts.1);
        all_bits = passing-all is_bit (drop (mark + 1) rest);
        narrow = omega (arith, len, ltb-false 128 bits narrow);
      })))

  fits-based : get_or rest n 0 ≡ 39 → ReadsToken (b ∷ rest) (based_after (b ∷ take n rest) rest (mark_after rest n))
  fits-based opens = by_sign (eqb (get_or rest (n + 1) 0) 115) refl
    where
      by_sign : (signed : Bool) → eqb (get_or rest (n + 1) 0) 115 ≡ signed → ReadsToken (b ∷ rest) (based_after (b ∷ take n rest) rest (cond signed (n + 2) (n + 1)))
      by_sign true is = fits-mark (n + 2) (115 ∷ []) (inr refl) (λ bits mark. spelled-signed rest n bits opens (eqb-true _ 115 is) mark)
      by_sign false is = fits-mark (n + 1) [] (inl refl) (λ bits mark. spelled-plain rest n bits opens mark)

  fits-number : ReadsToken (b ∷ rest) (number b rest n)
  fits-number =
      let value = digits_value 10 (b ∷ take n rest) in
      either_reads (b ∷ rest) (eqb (get_or rest n 0) 39) _ _ (λ quote. fits-based (eqb-true _ 39 quote)) (λ plain.
      either_reads (b ∷ rest) (is_word_part (get_or rest n 0)) _ _ (λ runs_on. tt) (λ ends. either_reads (b ∷ rest) (nat_le (2 ^ 64) value) _ _ (λ large. tt) (λ small. record {
        some = omega arith;
        digits = digits;
        written = refl;
        fits = leb-false (2 ^ 64) value small;
      })))

pub token-fits : (text : List ℕ) → ReadsToken text (token_at text)
token-fits [] = tt
token-fits (b ∷ rest) =
    either_reads (b ∷ rest) (is_ascii_digit b) _ _ (λ digit. fits-number b rest (prefix_len is_ascii_digit rest) (rw digit (passing-all is_ascii_digit rest))) (λ other.
    either_reads (b ∷ rest) (eqb b 34) _ _ (fits-text b rest) (λ no_quote.
    either_reads (b ∷ rest) (is_constant b rest) _ _ (fits-const b rest) (λ no_const.
    either_reads (b ∷ rest) (is_word_first b) _ _ (fits-word b rest) (λ no_word.
    either_reads (b ∷ rest) (is_punct b) _ _ (fits-punct b rest) (λ none. tt)))))
