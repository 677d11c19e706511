-- A statement ends before a `;` of the file.
use Rattle.std.proofs.Common.{◌≡◌, ℕ, zero, suc, ◌+◌, ◌<◌, List, [], ◌∷◌, length, get_or, drop, refl, sym, ◌∙◌, arith, false, Option, Some, None}
use Rattle.std.specs.Prelude.{All, Contains}
use Rattle.std.proofs.lemmas.List.{length-drop, get_or-drop}
use Rattle.std.proofs.lemmas.List.Elements.{All-nil, All-push, All-contains}
use Rattle.vvp_lex.specs.Text.{LineState, LineStart, InLine, InComment, after_byte, shown, blanked, is_white}
use Rattle.vvp_lex.specs.Statement.{body_len, statement_at, statement_read, statement_front, statements_of}
use Rattle.vvp_lex.specs.declared.types.Stmt.{Stmt}
use Rattle.vvp_lex.proofs.LineLemmas.{length-blanked}
use Rattle.vvp_lex.proofs.BodyLemmas.{body_len-inside, body_len-byte}
use Rattle.vvp_lex.proofs.StatementLemmas.{All-cut}

-- a `;` of the blanked text is one of the text
shown-semicolon : (state : LineState) (b : ℕ) → shown state b ≡ 59 → b ≡ 59
shown-semicolon LineStart b is = is
shown-semicolon InLine b is = is
shown-semicolon InComment b is = absurd (omega (arith, is))

blanked-semicolon : (state : LineState) (text : List ℕ) (i : ℕ) → get_or (blanked state text) i 0 ≡ 59 → get_or text i 0 ≡ 59
blanked-semicolon state [] i is = is
blanked-semicolon state (b ∷ text) zero is = shown-semicolon (after_byte state b) b is
blanked-semicolon state (b ∷ text) (suc i) is = blanked-semicolon (after_byte state b) text i is

pub record EndsBefore (file : List ℕ) (s : Stmt) : Type 0 where
  pub inside : s.to < length file
  pub semicolon : get_or file s.to 0 ≡ 59

pub statement_ends : (file : List ℕ) (s : Stmt) → Contains (statements_of file) s → EndsBefore file s
statement_ends file s given = All-contains (EndsBefore file) (statements_of file) s (All-cut (statement_front file) (EndsBefore file) (blanked LineStart file) each (blanked LineStart file) 0 0 refl) given
  where
    one : (place : ℕ) → (o : Option ℕ) → body_len 0 (drop place (blanked LineStart file)) ≡ o → All (EndsBefore file) (statement_read file place (drop place (blanked LineStart file)) o).gives
    one place None is = All-nil (EndsBefore file)
    one place (Some len) is = All-push (EndsBefore file) [] (statement_at file place len) (All-nil (EndsBefore file)) (record {
      inside = omega (arith, body_len-inside 0 (drop place (blanked LineStart file)) len is, length-drop place (blanked LineStart file), length-blanked LineStart file);
      semicolon = blanked-semicolon LineStart file (place + len) (sym (get_or-drop place (blanked LineStart file) len 0) ∙ body_len-byte 0 (drop place (blanked LineStart file)) len is);
    })

    each : (place : ℕ) → place < length (blanked LineStart file) → is_white (get_or (blanked LineStart file) place 0) ≡ false → All (EndsBefore file) (statement_front file place (drop place (blanked LineStart file))).gives
    each place inside solid = one place _ refl
