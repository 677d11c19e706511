-- A token that is read before a `;` is the longest of all that follows, too.
use Rattle.std.proofs.Common.{◌≡◌, ℕ, zero, suc, ◌<◌, ◌≤◌, List, [], ◌∷◌, ◌++◌, length, get_or, take, drop, refl, sym, ap, ◌∙◌, subst, arith, Bool, true, false, cond, eqb, Option, Some, None}
use Rattle.std.specs.Prelude.{Ok, nat_le}
use Rattle.std.specs.Option.{option_map}
use Rattle.std.specs.List.{list_all}
use Rattle.std.proofs.lemmas.Bool.{true≢false, and_parts, leb-false, leb-true}
use Rattle.std.proofs.lemmas.List.{take-append-drop, take-append-le, length-take-le, get_or-take}
use Rattle.vvp_lex.specs.Text.{is_white}
use Rattle.vvp_lex.specs.Token.{text_len, closed_text, token_at}
use Rattle.vvp_lex.specs.Longest.{IsToken, IsLongest}
use Rattle.vvp_lex.specs.declared.types.Token.{Token}
use Rattle.vvp_lex.specs.declared.types.Token.TheVariants.{Word, Number, Text, Const, Based, Punct}
use Rattle.vvp_lex.proofs.SemicolonLemmas.{is_other, HasNone, has_none}
use Rattle.vvp_lex.proofs.LongestLemmas.{longest, longest_here}

-- the first bytes of the first bytes
take-front : (n k : ℕ) (xs : List ℕ) → n ≤ length (take k xs) → take n (take k xs) ≡ take n xs
take-front n k xs inside = sym (take-append-le n (take k xs) (drop k xs) inside) ∙ ap (take n) (take-append-drop k xs)

-- a text that is closed is closed there whatever follows
closed-front : (escaped : Bool) (xs ys : List ℕ) (n : ℕ) → text_len escaped xs ≡ Some n → text_len escaped (xs ++ ys) ≡ Some n
closed-front escaped [] ys n closed = absurd (cc)
closed-front escaped (b ∷ xs) ys n closed = by_end (λ e m. closed-front e xs ys m) (eqb b 10) closed
  where
    mapped : (o longer : Option ℕ) → ((m : ℕ) → o ≡ Some m → longer ≡ Some m) → option_map suc o ≡ Some n → option_map suc longer ≡ Some n
    mapped None longer later is = absurd (cc)
    mapped (Some m) longer later is = rw (later m refl) is

    by_quote : ((e : Bool) (m : ℕ) → text_len e xs ≡ Some m → text_len e (xs ++ ys) ≡ Some m) → (quote : Bool) → cond quote (Some 1) (option_map suc (text_len (eqb b 92) xs)) ≡ Some n → cond quote (Some 1) (option_map suc (text_len (eqb b 92) (xs ++ ys))) ≡ Some n
    by_quote later true is = is
    by_quote later false is = mapped _ _ (later (eqb b 92)) is

    by_escaped : ((e : Bool) (m : ℕ) → text_len e xs ≡ Some m → text_len e (xs ++ ys) ≡ Some m) → (e : Bool) → cond e (option_map suc (text_len false xs)) (cond (eqb b 34) (Some 1) (option_map suc (text_len (eqb b 92) xs))) ≡ Some n → cond e (option_map suc (text_len false (xs ++ ys))) (cond (eqb b 34) (Some 1) (option_map suc (text_len (eqb b 92) (xs ++ ys)))) ≡ Some n
    by_escaped later true is = mapped _ _ (later false) is
    by_escaped later false is = by_quote later (eqb b 34) is

    by_end : ((e : Bool) (m : ℕ) → text_len e xs ≡ Some m → text_len e (xs ++ ys) ≡ Some m) → (ends : Bool) → cond ends None (cond escaped (option_map suc (text_len false xs)) (cond (eqb b 34) (Some 1) (option_map suc (text_len (eqb b 92) xs)))) ≡ Some n → cond ends None (cond escaped (option_map suc (text_len false (xs ++ ys))) (cond (eqb b 34) (Some 1) (option_map suc (text_len (eqb b 92) (xs ++ ys))))) ≡ Some n
    by_end later true is = absurd (cc)
    by_end later false is = by_escaped later escaped is

-- a text that is read is read whatever follows
text-front : (rest : List ℕ) (j : ℕ) (read : Token × ℕ) → token_at (34 ∷ take j rest) ≡ Ok read → token_at (34 ∷ rest) ≡ Ok read
text-front rest j read = by_len (text_len false (take j rest)) refl
  where
    by_len : (o : Option ℕ) → text_len false (take j rest) ≡ o → closed_text o ≡ Ok read → closed_text (text_len false rest) ≡ Ok read
    by_len None is found = absurd (cc)
    by_len (Some n) is found =
        let whole : text_len false rest ≡ Some n = ap (text_len false) (sym (take-append-drop j rest)) ∙ closed-front false (take j rest) (drop j rest) n is in
        ap closed_text whole ∙ found

-- where all bytes are others, none is a `;`
none-at : (xs : List ℕ) (i : ℕ) → list_all is_other xs ≡ true → i < length xs → get_or xs i 0 ≡ 59 → ⊥
none-at [] i all inside is = omega arith
none-at (x ∷ xs) zero all inside is =
    let head : is_other x ≡ true = (and_parts (is_other x) (list_all is_other xs) all).0 in
    true≢false (sym head ∙ ap is_other is)
none-at (x ∷ xs) (suc i) all inside is = none-at xs i (and_parts (is_other x) (list_all is_other xs) all).1 (omega arith) is

module _ (text : List ℕ) (k : ℕ) (read : Token × ℕ) (inside : k < length text) (semicolon : get_or text k 0 ≡ 59) (found : token_at (take k text) ≡ Ok read) where
  -- no token but a Text goes on past the `;`
  within-front : (n : ℕ) → n ≤ length text → list_all is_other (take n text) ≡ true → k < n → ⊥
  within-front n most all past = none-at (take n text) k all (omega (arith, length-take-le n text most)) (get_or-take n text k 0 past ∙ semicolon)

  over-text : (text : List ℕ) (k n : ℕ) → token_at (take k text) ≡ Ok read → k < n → n ≤ length text → IsToken Text (take n text) → n ≤ suc read.1
  over-text [] k n found past most is = absurd (omega arith)
  over-text (b ∷ rest) zero n found past most is = absurd (cc)
  over-text (b ∷ rest) (suc j) zero found past most is = absurd (omega arith)
  over-text (b ∷ rest) (suc j) (suc n) found past most is =
      let quote : b ≡ 34 = ap (λ l. get_or l 0 0) is.whole in
      let read_on : token_at (b ∷ rest) ≡ Ok read = ap (λ c. token_at (c ∷ rest)) quote ∙ text-front rest j read (ap (λ c. token_at (c ∷ take j rest)) (sym quote) ∙ found) in
      longest (b ∷ rest) read read_on Text (suc n) most is

  over : (other : Token) (n : ℕ) → k < n → n ≤ length text → HasNone other (take n text) → IsToken other (take n text) → n ≤ suc read.1
  over Word n past most none is = absurd (within-front n most none past)
  over (Number value) n past most none is = absurd (within-front n most none past)
  over Text n past most none is = over-text text k n found past most is
  over Const n past most none is = absurd (within-front n most none past)
  over Based n past most none is = absurd (within-front n most none past)
  over (Punct b) n past most none is = absurd (within-front n most none past)

  pub longest_on : is_white (get_or (take k text) 0 0) ≡ false → IsLongest text read.0 (suc read.1)
  longest_on solid =
      let front = longest_here (take k text) read solid found in
      let len : length (take k text) ≡ k = length-take-le k text (omega arith) in
      record {
        within = omega (arith, front.within, len);
        fits = subst (IsToken read.0) (take-front (suc read.1) k text front.within) front.fits;
        longest = λ other n most is. by_place other n most is (nat_le n k) refl;
      }
    where
      by_place : (other : Token) (n : ℕ) → n ≤ length text → IsToken other (take n text) → (before : Bool) → nat_le n k ≡ before → n ≤ suc read.1
      by_place other n most is true before =
          let front = longest_here (take k text) read solid found in
          let short : n ≤ length (take k text) = omega (arith, leb-true n k before, length-take-le k text (let e : k ≤ length text = omega arith in e)) in
          front.longest other n short (subst (IsToken other) (sym (take-front n k text short)) is)
      by_place other n most is false before = over other n (leb-false n k before) most (has_none other (take n text) is) is
