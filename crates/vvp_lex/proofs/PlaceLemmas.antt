-- Each token of a statement is the longest at its place in the file.
use Rattle.std.proofs.Common.{◌≡◌, ℕ, suc, ◌+◌, ◌-◌, ◌<◌, ◌≤◌, List, [], length, get_or, take, drop, refl, sym, ap, ◌∙◌, subst, arith, false}
use Rattle.std.specs.Prelude.{All, Contains, Result, Ok, Err, IfOk, slice_range}
use Rattle.std.proofs.lemmas.List.{drop-take, length-take, length-drop, get_or-drop}
use Rattle.std.proofs.lemmas.List.Elements.{All-nil, All-push}
use Rattle.vvp_lex.specs.Text.{is_white, LineStart, blanked}
use Rattle.vvp_lex.specs.Token.{Reading, token_at, token_read, token_front}
use Rattle.vvp_lex.specs.Statement.{statements_of, tokens_of}
use Rattle.vvp_lex.specs.Longest.{IsLongest, AreLongest}
use Rattle.vvp_lex.specs.declared.types.Spanned.{Spanned}
use Rattle.vvp_lex.specs.declared.types.Stmt.{Stmt}
use Rattle.vvp_lex.proofs.LineLemmas.{length-blanked, blanked-take, blanked-from}
use Rattle.vvp_lex.proofs.TokenLemmas.{token_at-line}
use Rattle.vvp_lex.proofs.WalkLemmas.{solid_rest}
use Rattle.vvp_lex.proofs.StatementLemmas.{All-cut, statement_placed}
use Rattle.vvp_lex.proofs.EndLemmas.{statement_ends}
use Rattle.vvp_lex.proofs.RestLemmas.{longest_on}

-- what is left of the first bytes
left-of : (xs : List ℕ) (from to : ℕ) → from ≤ to → drop from (take to xs) ≡ take (to - from) (drop from xs)
left-of xs from to ordered =
    let whole : to ≡ from + (to - from) = omega arith in
    ap (λ n. drop from (take n xs)) whole ∙ drop-take from (to - from) xs

abbrev LongestIn : List ℕ → Spanned → Type 0
LongestIn file spanned = IsLongest (drop spanned.from file) spanned.token (spanned.to - spanned.from)

module _ (file : List ℕ) (to : ℕ) (ends : to < length file) (semicolon : get_or file to 0 ≡ 59) where
  longest_each : (place : ℕ) → place < length (blanked LineStart (take to file)) → is_white (get_or (blanked LineStart (take to file)) place 0) ≡ false → All (LongestIn file) (token_front place (drop place (blanked LineStart (take to file)))).gives
  longest_each place inside solid = by_read (token_at (drop place (blanked LineStart (take to file)))) refl
    where
      here : place < length (take to file)
      here = omega (arith, length-blanked LineStart (take to file))

      before : place < to
      before = omega (arith, here, length-take to file)

      part : drop place (take to file) ≡ take (to - place) (drop place file)
      part = left-of file place to (omega (arith, before))

      solid_part : is_white (get_or (drop place (take to file)) 0 0) ≡ false
      solid_part = solid_rest LineStart (take to file) place (record { in_range = omega (arith, here); solid = λ inside. solid }) here

      same : token_at (drop place (blanked LineStart (take to file))) ≡ token_at (take (to - place) (drop place file))
      same =
          ap token_at (blanked-from LineStart place (take to file) here solid)
          ∙ token_at-line (drop place (take to file)) solid_part
          ∙ ap token_at part

      stop : get_or (drop place file) (to - place) 0 ≡ 59
      stop =
          let there : place + (to - place) ≡ to = omega (arith, before) in
          get_or-drop place file (to - place) 0 ∙ ap (λ i. get_or file i 0) there ∙ semicolon

      by_read : (r : Reading) → token_at (drop place (blanked LineStart (take to file))) ≡ r → All (LongestIn file) (token_read place (drop place (blanked LineStart (take to file))) r).gives
      by_read (Err kind) is = All-nil (LongestIn file)
      by_read (Ok read) is =
          let len : suc read.1 ≡ place + 1 + read.1 - place = omega arith in
          let left : to - place < length (drop place file) = omega (arith, before, ends, length-drop place file) in
          let longest : IsLongest (drop place file) read.0 (suc read.1) = longest_on (drop place file) (to - place) read left stop (sym same ∙ is) (subst (λ l. is_white (get_or l 0 0) ≡ false) part solid_part) in
          All-push (LongestIn file) [] (record { token = read.0; from = place; to = place + 1 + read.1 }) (All-nil (LongestIn file)) (subst (IsLongest (drop place file) read.0) len longest)

pub tokens_longest : (file : List ℕ) (s : Stmt) → Contains (statements_of file) s → AreLongest file (tokens_of file s)
unfolding AreLongest
tokens_longest file s given =
    let placed = statement_placed file s given in
    let end = statement_ends file s given in
    let part : drop s.from (blanked LineStart (take s.to file)) ≡ slice_range (blanked LineStart file) s.from s.to = ap (drop s.from) (sym (blanked-take LineStart s.to file)) ∙ left-of (blanked LineStart file) s.from s.to placed.ordered in
    All-cut token_front (LongestIn file) (blanked LineStart (take s.to file)) (longest_each file s.to end.inside end.semicolon) (slice_range (blanked LineStart file) s.from s.to) s.from 0 part

-- so are those of an answer that gives the statement's tokens
pub longest_found : {V E : Type 0} (items : V → List Spanned) (file : List ℕ) (s : Stmt) → Contains (statements_of file) s → (r : Result V E) → IfOk r (λ found. items found ≡ tokens_of file s) → IfOk r (λ found. AreLongest file (items found))
longest_found items file s given (Ok found) is = subst (AreLongest file) (sym is) (tokens_longest file s given)
longest_found items file s given (Err fault) is = tt
