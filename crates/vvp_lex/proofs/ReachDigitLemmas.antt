-- How many bytes of a text are read where a Number or a Based stands at its front.
use Rattle.std.proofs.Common.{◌≡◌, ℕ, suc, ◌+◌, ◌^◌, ◌≤◌, List, [], ◌∷◌, ◌++◌, length, get_or, take, drop, refl, sym, ap, ◌∙◌, subst, arith, Bool, true, false, cond, not, ◌||◌, eqb, inl, inr}
use Rattle.std.specs.Prelude.{nat_le, nat_lt, ◌⊎◌}
use Rattle.std.proofs.Math.Seq.{drop-append_seam}
use Rattle.std.proofs.lemmas.List.{drop-drop, get_or-drop}
use Rattle.std.specs.List.{prefix_len, list_all}
use Rattle.std.specs.Char.{is_ascii_digit}
use Rattle.std.specs.Str.Parse.{digits_value}
use Rattle.std.proofs.lemmas.Bool.{and_parts}
use Rattle.vvp_lex.specs.Token.{is_bit, is_word_part, mark_after, based_after, number, token_at}
use Rattle.vvp_lex.proofs.PassingLemmas.{passing-front, passing-exact}
use Rattle.vvp_lex.proofs.ReachLemmas.{Reaches, either_reaches, weaker}

reaches-after : (digits rest : List ℕ) (mark len : ℕ) → len ≤ mark + 2 + prefix_len is_bit (drop (mark + 1) rest) → Reaches len (based_after digits rest mark)
reaches-after digits rest mark len less =
    either_reaches _ (not (eqb (get_or rest mark 0) 98) || eqb (prefix_len is_bit (drop (mark + 1) rest)) 0) _ _ tt
    (either_reaches _ (nat_le (2 ^ 64) (digits_value 10 digits)) _ _ tt (either_reaches _ (nat_lt 128 (prefix_len is_bit (drop (mark + 1) rest))) _ _ tt (omega arith)))

mark-after_quote : (rest : List ℕ) (quote : ℕ) → quote + 1 ≤ mark_after rest quote
mark-after_quote rest quote = by_sign (eqb (get_or rest (quote + 1) 0) 115)
  where
    by_sign : (sign : Bool) → quote + 1 ≤ cond sign (quote + 2) (quote + 1)
    by_sign true = omega arith
    by_sign false = omega arith

reaches-number : (b : ℕ) (rest : List ℕ) (n : ℕ) → Reaches (suc n) (number b rest n)
reaches-number b rest n =
    either_reaches _ (eqb (get_or rest n 0) 39) _ _
    (reaches-after (b ∷ take n rest) rest (mark_after rest n) (suc n) (omega (arith, mark-after_quote rest n)))
    (either_reaches _ (is_word_part (get_or rest n 0)) _ _ tt (either_reaches _ (nat_le (2 ^ 64) (digits_value 10 (b ∷ take n rest))) _ _ tt (omega arith)))

-- no more digits than are read
pub reaches-digits : (b : ℕ) (more tail : List ℕ) → list_all is_ascii_digit (b ∷ more) ≡ true → Reaches (suc (length more)) (token_at (b ∷ (more ++ tail)))
reaches-digits b more tail all =
    let parts = and_parts (is_ascii_digit b) (list_all is_ascii_digit more) all in
    let front : length more ≤ prefix_len is_ascii_digit (more ++ tail) = passing-front is_ascii_digit more tail parts.1 in
    let least : suc (length more) ≤ suc (prefix_len is_ascii_digit (more ++ tail)) = omega arith in
    rw parts.0 (weaker _ _ (number b (more ++ tail) (prefix_len is_ascii_digit (more ++ tail))) least (reaches-number b (more ++ tail) (prefix_len is_ascii_digit (more ++ tail))))

-- what stands at a place of a text is the first of what is left there
pub byte-left : (text : List ℕ) (at b : ℕ) (left : List ℕ) → drop at text ≡ b ∷ left → get_or text at 0 ≡ b
byte-left text at b left is =
    let none : at + 0 ≡ at = omega arith in
    sym (get_or-drop at text 0 0 ∙ ap (λ i. get_or text i 0) none) ∙ ap (λ l. get_or l 0 0) is

pub next-left : (text : List ℕ) (at b : ℕ) (left : List ℕ) → drop at text ≡ b ∷ left → drop (at + 1) text ≡ left
next-left text at b left is =
    let next : 1 + at ≡ at + 1 = omega arith in
    let place : at + 1 ≡ at + 1 = refl in
    sym (drop-drop 1 at text) ∙ ap (drop 1) is

reaches-mark : (digits rest : List ℕ) (mark : ℕ) (bits tail : List ℕ) → list_all is_bit bits ≡ true → drop (mark + 1) rest ≡ bits ++ tail → Reaches (mark + 2 + length bits) (based_after digits rest mark)
reaches-mark digits rest mark bits tail all left =
    let front : length bits ≤ prefix_len is_bit (drop (mark + 1) rest) = rw left (passing-front is_bit bits tail all) in
    reaches-after digits rest mark (mark + 2 + length bits) (omega arith)

reaches-bits : (digits rest : List ℕ) (quote : ℕ) (sign bits tail : List ℕ) → (sign ≡ []) ⊎ (sign ≡ 115 ∷ []) → list_all is_bit bits ≡ true → drop (quote + 1) rest ≡ sign ++ (98 ∷ (bits ++ tail)) → Reaches (quote + 3 + length sign + length bits) (based_after digits rest (mark_after rest quote))
reaches-bits digits rest quote sign bits tail (inl none) all left =
    let here : drop (quote + 1) rest ≡ 98 ∷ (bits ++ tail) = left ∙ ap (λ s. s ++ (98 ∷ (bits ++ tail))) none in
    let mark : quote + 1 ≡ mark_after rest quote = rw (byte-left rest (quote + 1) 98 (bits ++ tail) here) refl in
    let len : quote + 3 + length sign + length bits ≤ quote + 1 + 2 + length bits = rw none (omega arith) in
    subst (λ m. Reaches (quote + 3 + length sign + length bits) (based_after digits rest m)) mark
    (weaker _ _ (based_after digits rest (quote + 1)) len (reaches-mark digits rest (quote + 1) bits tail all (next-left rest (quote + 1) 98 (bits ++ tail) here)))
reaches-bits digits rest quote sign bits tail (inr one) all left =
    let here : drop (quote + 1) rest ≡ 115 ∷ 98 ∷ (bits ++ tail) = left ∙ ap (λ s. s ++ (98 ∷ (bits ++ tail))) one in
    let two : quote + 1 + 1 ≡ quote + 2 = omega arith in
    let there : drop (quote + 2) rest ≡ 98 ∷ (bits ++ tail) = subst (λ i. drop i rest ≡ 98 ∷ (bits ++ tail)) two (next-left rest (quote + 1) 115 (98 ∷ (bits ++ tail)) here) in
    let mark : quote + 2 ≡ mark_after rest quote = rw (byte-left rest (quote + 1) 115 (98 ∷ (bits ++ tail)) here) refl in
    let len : quote + 3 + length sign + length bits ≤ quote + 2 + 2 + length bits = rw one (omega arith) in
    subst (λ m. Reaches (quote + 3 + length sign + length bits) (based_after digits rest m)) mark
    (weaker _ _ (based_after digits rest (quote + 2)) len (reaches-mark digits rest (quote + 2) bits tail all (next-left rest (quote + 2) 98 (bits ++ tail) there)))

pub reaches-based : (d : ℕ) (ds sign bits tail : List ℕ) → list_all is_ascii_digit (d ∷ ds) ≡ true → (sign ≡ []) ⊎ (sign ≡ 115 ∷ []) → list_all is_bit bits ≡ true → Reaches (length ds + 3 + length sign + length bits) (token_at (d ∷ (ds ++ (39 ∷ (sign ++ (98 ∷ (bits ++ tail)))))))
reaches-based d ds sign bits tail digits signed all =
    let parts = and_parts (is_ascii_digit d) (list_all is_ascii_digit ds) digits in
    let later = sign ++ (98 ∷ (bits ++ tail)) in
    let rest = ds ++ (39 ∷ later) in
    let exact : prefix_len is_ascii_digit rest ≡ length ds = passing-exact is_ascii_digit ds 39 later parts.1 refl in
    let quote : drop (length ds) rest ≡ 39 ∷ later = drop-append_seam ds (39 ∷ later) in
    rw (parts.0, exact, byte-left rest (length ds) 39 later quote)
    (reaches-bits (d ∷ take (length ds) rest) rest (length ds) sign bits tail signed all (next-left rest (length ds) 39 later quote))
