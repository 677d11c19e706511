-- The token at the front of a text is the longest that fits.
use Rattle.std.proofs.Common.{◌≡◌, ℕ, suc, ◌+◌, ◌<◌, ◌≤◌, List, [], ◌∷◌, ◌++◌, length, get_or, take, drop, sym, ap, ◌∙◌, subst, arith, true, false, append_assoc}
use Rattle.std.specs.Prelude.{Ok, IfOk, ◌⊎◌}
use Rattle.std.proofs.lemmas.List.{take-append-drop, length-take-le, length-append}
use Rattle.std.specs.List.{list_all, prefix_len}
use Rattle.std.proofs.lemmas.List.Sums.{prefix_len-le-length}
use Rattle.std.specs.Char.{is_ascii_digit}
use Rattle.vvp_lex.specs.Text.{is_white}
use Rattle.vvp_lex.specs.Token.{is_bit, token_at}
use Rattle.vvp_lex.specs.Longest.{IsToken, IsLongest}
use Rattle.vvp_lex.specs.declared.types.Token.{Token}
use Rattle.vvp_lex.specs.declared.types.Token.TheVariants.{Word, Number, Text, Const, Based, Punct}
use Rattle.vvp_lex.proofs.LineLemmas.{in_line}
use Rattle.vvp_lex.proofs.TokenLemmas.{token_at-inside}
use Rattle.vvp_lex.proofs.FitLemmas.{ReadsToken}
use Rattle.vvp_lex.proofs.FitDigitLemmas.{token-fits}
use Rattle.vvp_lex.proofs.ReachLemmas.{Reaches, weaker, one_at_least, reaches-word, reaches-text, reaches-const}
use Rattle.vvp_lex.proofs.ReachDigitLemmas.{reaches-digits, reaches-based}

-- the bytes of a Based, spelled from its size on
reaches-size : (size sign bits tail : List ℕ) → 0 < length size → list_all is_ascii_digit size ≡ true → (sign ≡ []) ⊎ (sign ≡ 115 ∷ []) → list_all is_bit bits ≡ true → Reaches (length (size ++ (39 ∷ (sign ++ (98 ∷ bits))))) (token_at ((size ++ (39 ∷ (sign ++ (98 ∷ bits)))) ++ tail))
reaches-size [] sign bits tail some digits signed all = absurd (omega arith)
reaches-size (d ∷ ds) sign bits tail some digits signed all =
    let after_sign : (sign ++ (98 ∷ bits)) ++ tail ≡ sign ++ (98 ∷ (bits ++ tail)) = append_assoc sign (98 ∷ bits) tail in
    let split : (ds ++ (39 ∷ (sign ++ (98 ∷ bits)))) ++ tail ≡ ds ++ (39 ∷ (sign ++ (98 ∷ (bits ++ tail)))) = append_assoc ds (39 ∷ (sign ++ (98 ∷ bits))) tail ∙ ap (λ l. ds ++ (39 ∷ l)) after_sign in
    let len : suc (length (ds ++ (39 ∷ (sign ++ (98 ∷ bits))))) ≤ length ds + 3 + length sign + length bits = omega (arith, length-append ds (39 ∷ (sign ++ (98 ∷ bits))), length-append sign (98 ∷ bits)) in
    subst (λ l. Reaches (suc (length (ds ++ (39 ∷ (sign ++ (98 ∷ bits)))))) (token_at (d ∷ l))) (sym split)
    (weaker _ _ (token_at (d ∷ (ds ++ (39 ∷ (sign ++ (98 ∷ (bits ++ tail))))))) len (reaches-based d ds sign bits tail digits signed all))

-- a token that stands at the front is no longer than what is read
pub reaches : (token : Token) (front tail : List ℕ) → IsToken token front → Reaches (length front) (token_at (front ++ tail))
reaches Word front tail is = rw is.whole (reaches-word is.first is.more tail is.begins is.goes_on)
reaches (Number value) [] tail is = absurd (let some : 0 < 0 = is.some in omega arith)
reaches (Number value) (d ∷ ds) tail is = reaches-digits d ds tail is.digits
reaches Text front tail is = rw is.whole (reaches-text is.pieces tail is.inside)
reaches Const front tail is =
    let len : length (is.letter ∷ 52 ∷ 60 ∷ (is.bits ++ 62 ∷ [])) ≤ 4 + length is.bits = omega (arith, length-append is.bits (62 ∷ [])) in
    let split : (is.bits ++ 62 ∷ []) ++ tail ≡ is.bits ++ (62 ∷ tail) = append_assoc is.bits (62 ∷ []) tail in
    rw is.whole (rw split (weaker _ _ (token_at (is.letter ∷ 52 ∷ 60 ∷ (is.bits ++ (62 ∷ tail)))) len (reaches-const is.letter is.bits tail is.begins is.all_bits)))
reaches Based front tail is = rw is.whole (reaches-size is.size is.sign is.bits tail is.some_size is.digits is.signed is.all_bits)
reaches (Punct b) front tail is = rw is.whole (one_at_least (token_at (b ∷ tail)))

pub longest : (text : List ℕ) (read : Token × ℕ) → token_at text ≡ Ok read → (other : Token) (n : ℕ) → n ≤ length text → IsToken other (take n text) → n ≤ suc read.1
longest text read found other n inside is =
    let len : length (take n text) ≡ n = length-take-le n text inside in
    let whole : take n text ++ drop n text ≡ text = take-append-drop n text in
    let ends : Reaches (length (take n text)) (Ok read) = subst (Reaches (length (take n text))) (ap token_at whole ∙ found) (reaches other (take n text) (drop n text) is) in
    omega (arith, ends)

-- it is the longest token there
pub longest_here : (text : List ℕ) (read : Token × ℕ) → is_white (get_or text 0 0) ≡ false → token_at text ≡ Ok read → IsLongest text read.0 (suc read.1)
longest_here text read solid found =
    let in_its_line : read.1 < prefix_len in_line text = subst (λ r. IfOk r (λ x. x.1 < prefix_len in_line text)) found (token_at-inside text solid) in
    record {
      within = omega (arith, in_its_line, prefix_len-le-length in_line text);
      fits = subst (ReadsToken text) found (token-fits text);
      longest = λ other n inside is. longest text read found other n inside is;
    }
