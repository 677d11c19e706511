-- What is read at the front of a text is a token: a Word, a Text, a Const or a Punct.
use Rattle.std.proofs.Common.{◌≡◌, ℕ, zero, suc, ◌+◌, ◌<◌, List, [], ◌∷◌, ◌++◌, get_or, take, drop, refl, ap, ◌∙◌, arith, Bool, true, false, not, cond, ◌&&◌, ◌||◌, eqb, Option, Some, None}
use Rattle.std.specs.Prelude.{Ok, IfOk, IfSome, nat_lt}
use Rattle.std.proofs.Math.Seq.{take-add}
use Rattle.std.specs.List.{prefix_len, concat}
use Rattle.std.proofs.lemmas.List.{get_or-drop, drop-drop}
use Rattle.std.proofs.lemmas.List.Folds.{length-prefix_len}
use Rattle.std.proofs.lemmas.Bool.{eqb-true, and_parts, ltb-false, not-false}
use Rattle.vvp_lex.specs.Token.{text_len, is_bit, is_constant, constant, closed_text, Reading, is_word_first, is_word_part, is_punct}
use Rattle.vvp_lex.specs.Longest.{IsToken}
use Rattle.vvp_lex.specs.declared.types.Token.TheVariants.{Word, Punct}
use Rattle.vvp_lex.proofs.QuotedLemmas.{AreQuoted, quoted-front}
use Rattle.vvp_lex.proofs.PassingLemmas.{passing-all}

-- what is read is a token
abbrev pub ReadsToken : List ℕ → Reading → Type 0
ReadsToken text read = IfOk read (λ r. IsToken r.0 (take (suc r.1) text))

pub either_reads : (text : List ℕ) (t : Bool) (x y : Reading) → (t ≡ true → ReadsToken text x) → (t ≡ false → ReadsToken text y) → ReadsToken text (cond t x y)
either_reads text true x y holds fails = holds refl
either_reads text false x y holds fails = fails refl

pub fits-word : (b : ℕ) (rest : List ℕ) → is_word_first b ≡ true → ReadsToken (b ∷ rest) (Ok (Word, prefix_len is_word_part rest))
fits-word b rest begins = record {
  first = b;
  more = take (prefix_len is_word_part rest) rest;
  whole = refl;
  begins = begins;
  goes_on = passing-all is_word_part rest;
}

pub fits-punct : (b : ℕ) (rest : List ℕ) → is_punct b ≡ true → ReadsToken (b ∷ rest) (Ok (Punct b, 0))
fits-punct b rest one = record { whole = refl; one = one }

pub fits-text : (b : ℕ) (rest : List ℕ) → eqb b 34 ≡ true → ReadsToken (b ∷ rest) (closed_text (text_len false rest))
fits-text b rest quote = by_len (text_len false rest) (quoted-front false rest)
  where
    by_len : (o : Option ℕ) → IfSome o (AreQuoted false rest) → ReadsToken (b ∷ rest) (closed_text o)
    by_len None is = tt
    by_len (Some n) is = record {
      pieces = is.0;
      whole = ap (λ l. b ∷ l) is.2 ∙ ap (λ c. c ∷ (concat is.0 ++ 34 ∷ [])) (eqb-true b 34 quote);
      inside = is.1;
    }

-- what stands at a place parts what is left there
pub drop-at : (n : ℕ) (xs : List ℕ) (c : ℕ) → 0 < c → get_or xs n 0 ≡ c → drop n xs ≡ c ∷ drop (suc n) xs
drop-at n [] c some is = absurd (omega (arith, is))
drop-at zero (x ∷ xs) c some is = ap (λ b. b ∷ xs) is
drop-at (suc n) (x ∷ xs) c some is = drop-at n xs c some is

pub take-at : (n k : ℕ) (xs : List ℕ) (c : ℕ) → 0 < c → get_or xs n 0 ≡ c → take (n + suc k) xs ≡ take n xs ++ (c ∷ take k (drop (suc n) xs))
take-at n k xs c some is = take-add n (suc k) xs ∙ ap (λ l. take n xs ++ take (suc k) l) (drop-at n xs c some is)

-- how the bits of a vector lie between its brackets
spelled-const : (rest : List ℕ) (bits : ℕ) → get_or rest 0 0 ≡ 52 → get_or rest 1 0 ≡ 60 → get_or rest (2 + bits) 0 ≡ 62 → take (3 + bits) rest ≡ 52 ∷ 60 ∷ (take bits (drop 2 rest) ++ 62 ∷ [])
spelled-const rest bits four opens closes =
    let len : 3 + bits ≡ 0 + suc (suc (bits + suc 0)) = omega arith in
    let second : get_or (drop 1 rest) 0 0 ≡ 60 = get_or-drop 1 rest 0 0 ∙ opens in
    let last : get_or (drop 2 rest) bits 0 ≡ 62 = get_or-drop 2 rest bits 0 ∙ closes in
    ap (λ n. take n rest) len
    ∙ take-at 0 (suc (bits + suc 0)) rest 52 (omega arith) four
    ∙ ap (λ l. 52 ∷ take (suc (bits + suc 0)) l) (drop-at 0 (drop 1 rest) 60 (omega arith) second)
    ∙ ap (λ l. 52 ∷ 60 ∷ take (bits + suc 0) l) (drop-drop 1 1 rest)
    ∙ ap (λ l. 52 ∷ 60 ∷ l) (take-at bits 0 (drop 2 rest) 62 (omega arith) last)

pub fits-const : (b : ℕ) (rest : List ℕ) → is_constant b rest ≡ true → ReadsToken (b ∷ rest) (constant rest (prefix_len is_bit (drop 2 rest)))
fits-const b rest opens =
    let bits = prefix_len is_bit (drop 2 rest) in
    let ends = and_parts ((eqb b 67 || eqb b 99) && eqb (get_or rest 0 0) 52) (eqb (get_or rest 1 0) 60) opens in
    let begins = and_parts (eqb b 67 || eqb b 99) (eqb (get_or rest 0 0) 52) ends.0 in
    either_reads (b ∷ rest) (not (eqb (get_or rest (2 + bits) 0) 62)) _ _ (λ bad. tt) (λ closed. either_reads (b ∷ rest) (nat_lt 128 bits) _ _ (λ wide. tt) (λ narrow. record {
      letter = b;
      bits = take bits (drop 2 rest);
      whole = ap (λ l. b ∷ l) (spelled-const rest bits (eqb-true _ 52 begins.1) (eqb-true _ 60 ends.1) (eqb-true _ 62 (not-false _ closed)));
      begins = begins.0;
      all_bits = passing-all is_bit (drop 2 rest);
      narrow = omega (arith, length-prefix_len is_bit (drop 2 rest), ltb-false 128 bits narrow);
    }))
