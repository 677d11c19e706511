-- How many bytes of a text are read where a Word, a Text or a Const stands at its front.
use Rattle.std.proofs.Common.{◌≡◌, ℕ, suc, ◌+◌, ◌≤◌, List, [], ◌∷◌, ◌++◌, length, get_or, drop, refl, sym, ap, ◌∙◌, arith, Bool, true, false, not, cond, ◌&&◌, ◌||◌, eqb, Some, append_assoc}
use Rattle.std.proofs.lemmas.List.{length-append}
use Rattle.std.specs.Prelude.{Ok, Err, IfOk, All, nat_lt}
use Rattle.std.specs.List.{prefix_len, list_all, concat}
use Rattle.std.specs.Char.{is_ascii_digit}
use Rattle.std.proofs.lemmas.Bool.{true≢false, eqb-true, and_parts}
use Rattle.std.proofs.lemmas.Bool.Decides.{nat_tests}
use Rattle.vvp_lex.specs.Token.{text_len, is_bit, is_constant, constant, Reading, token_at, is_word_first, is_word_part, is_punct}
use Rattle.vvp_lex.specs.declared.types.Token.TheVariants.{Word, Punct}
use Rattle.vvp_lex.specs.declared.types.LexKind.TheVariants.{BadCharacter}
use Rattle.vvp_lex.specs.Longest.{IsPiece}
use Rattle.vvp_lex.proofs.QuotedLemmas.{text_len-pieces}
use Rattle.vvp_lex.proofs.PassingLemmas.{passing-front, passing-exact}

-- what is read has that many bytes at least
abbrev pub Reaches : ℕ → Reading → Type 0
Reaches len read = IfOk read (λ r. len ≤ 1 + r.1)

pub either_reaches : (len : ℕ) (t : Bool) (x y : Reading) → Reaches len x → Reaches len y → Reaches len (cond t x y)
either_reaches len true x y p q = p
either_reaches len false x y p q = q

pub weaker : (len more : ℕ) (r : Reading) → len ≤ more → Reaches more r → Reaches len r
weaker len more (Err kind) less reaches = tt
weaker len more (Ok read) less reaches = omega arith

pub one_at_least : (r : Reading) → Reaches 1 r
one_at_least (Err kind) = tt
one_at_least (Ok read) = omega arith

pub word-no_digit : (b : ℕ) → is_word_first b ≡ true → is_ascii_digit b ≡ false
word-no_digit b begins = grind (arith, nat_tests)

pub word-no_quote : (b : ℕ) → is_word_first b ≡ true → eqb b 34 ≡ false
word-no_quote b begins = by_quote (eqb b 34) refl
  where
    by_quote : (quote : Bool) → eqb b 34 ≡ quote → eqb b 34 ≡ false
    by_quote false is = is
    by_quote true is = absurd (true≢false (sym begins ∙ ap is_word_first (eqb-true b 34 is)))

-- no more bytes of a word than are read
pub reaches-word : (b : ℕ) (parts tail : List ℕ) → is_word_first b ≡ true → list_all is_word_part parts ≡ true → Reaches (suc (length parts)) (token_at (b ∷ (parts ++ tail)))
reaches-word b parts tail begins all =
    rw (word-no_digit b begins, word-no_quote b begins) (by_const (is_constant b (parts ++ tail)) refl)
  where
    short : (parts : List ℕ) → list_all is_word_part parts ≡ true → eqb (get_or (parts ++ tail) 1 0) 60 ≡ true → length parts ≤ 1
    short [] all here = omega arith
    short (p ∷ []) all here = omega arith
    short (p ∷ q ∷ more) all here =
        let first = and_parts (is_word_part p) (list_all is_word_part (q ∷ more)) all in
        let second = and_parts (is_word_part q) (list_all is_word_part more) first.1 in
        absurd (true≢false (sym second.0 ∙ ap is_word_part (eqb-true q 60 here)))

    by_const : (opens : Bool) → is_constant b (parts ++ tail) ≡ opens → Reaches (suc (length parts)) (cond opens (constant (parts ++ tail) (prefix_len is_bit (drop 2 (parts ++ tail)))) (cond (is_word_first b) (Ok (Word, prefix_len is_word_part (parts ++ tail))) (cond (is_punct b) (Ok (Punct b, 0)) (Err BadCharacter))))
    by_const false opens =
        let front : length parts ≤ prefix_len is_word_part (parts ++ tail) = passing-front is_word_part parts tail all in
        rw begins (omega arith)
    by_const true opens =
        let less : length parts ≤ 1 = short parts all (and_parts ((eqb b 67 || eqb b 99) && eqb (get_or (parts ++ tail) 0 0) 52) (eqb (get_or (parts ++ tail) 1 0) 60) opens).1 in
        either_reaches _ (not (eqb (get_or (parts ++ tail) (2 + prefix_len is_bit (drop 2 (parts ++ tail))) 0) 62)) _ _ tt
        (either_reaches _ (nat_lt 128 (prefix_len is_bit (drop 2 (parts ++ tail)))) _ _ tt (omega arith))

-- no more bytes of a text than are read
pub reaches-text : (pieces : List (List ℕ)) (tail : List ℕ) → All IsPiece pieces → Reaches (suc (length (concat pieces ++ 34 ∷ []))) (token_at (34 ∷ ((concat pieces ++ 34 ∷ []) ++ tail)))
reaches-text pieces tail all =
    let split : (concat pieces ++ 34 ∷ []) ++ tail ≡ concat pieces ++ (34 ∷ tail) = append_assoc (concat pieces) (34 ∷ []) tail in
    let closed : text_len false ((concat pieces ++ 34 ∷ []) ++ tail) ≡ Some (suc (length (concat pieces))) = ap (text_len false) split ∙ text_len-pieces pieces tail all in
    rw closed (omega (arith, length-append (concat pieces) (34 ∷ [])))

-- no more bits than are read
pub reaches-const : (letter : ℕ) (bits tail : List ℕ) → (eqb letter 67 || eqb letter 99) ≡ true → list_all is_bit bits ≡ true → Reaches (4 + length bits) (token_at (letter ∷ 52 ∷ 60 ∷ (bits ++ (62 ∷ tail))))
reaches-const letter bits tail begins all = by_upper (eqb letter 67) refl
  where
    read : Reaches (4 + length bits) (constant (52 ∷ 60 ∷ (bits ++ (62 ∷ tail))) (prefix_len is_bit (bits ++ (62 ∷ tail))))
    read =
        let exact : prefix_len is_bit (bits ++ (62 ∷ tail)) ≡ length bits = passing-exact is_bit bits 62 tail all refl in
        either_reaches _ (not (eqb (get_or (52 ∷ 60 ∷ (bits ++ (62 ∷ tail))) (2 + prefix_len is_bit (bits ++ (62 ∷ tail))) 0) 62)) _ _ tt (either_reaches _ (nat_lt 128 (prefix_len is_bit (bits ++ (62 ∷ tail)))) _ _ tt (omega arith))

    by_upper : (upper : Bool) → eqb letter 67 ≡ upper → Reaches (4 + length bits) (token_at (letter ∷ 52 ∷ 60 ∷ (bits ++ (62 ∷ tail))))
    by_upper true is = rw (eqb-true letter 67 is) read
    by_upper false is = rw (eqb-true letter 99 (rw is at begins)) read
