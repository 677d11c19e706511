-- The statements of a file, and its first lexical fault.
use Rattle.std.specs.Prelude.{◌≡◌, ℕ, zero, suc, ◌+◌, ◌-◌, Bool, false, not, ◌||◌, ◌&&◌, ◌==◌, List, [], ◌∷◌, ◌++◌, length, take, drop, map, count_by, slice_index, slice_get, slice_range, Option, None, Some, unwrap_or, if◌then◌else◌}
use Rattle.std.specs.Option.{option_map}
use Rattle.std.specs.List.{prefix_len}
use Rattle.vvp_lex.specs.Text.{Front, cut, blanked, LineStart, is_line_feed}
use Rattle.vvp_lex.specs.Token.{text_len, tokens_from, faults_in}
use Rattle.vvp_lex.specs.declared.types.Spanned.{Spanned}
use Rattle.vvp_lex.specs.declared.types.Stmt.{Stmt}
use Rattle.vvp_lex.specs.declared.types.LexKind.{LexKind}
use Rattle.vvp_lex.specs.declared.types.LexKind.TheVariants.{OpenStatement}
use Rattle.vvp_lex.specs.declared.types.LexFault.{LexFault}
use Rattle.vvp_lex.specs.declared.types.LexFault.TheVariants.{Refused, Memory}

-- lines count from 1
abbrev pub line_at : List ℕ → ℕ → ℕ
line_at file place = 1 + count_by is_line_feed (take place file)

abbrev pub is_column_one : List ℕ → ℕ → Bool
is_column_one file place = place == 0 || is_line_feed (slice_index file (place - 1))

-- how many bytes after a byte belong to the text that it opens: none where it opens no text
abbrev pub covered : ℕ → List ℕ → ℕ
covered b rest = if b == 34 then unwrap_or (text_len false rest) 0 else 0

-- How many bytes stand before the first `;` that no text covers; none where there is no such `;`. The first
-- `passed` bytes are covered already.
abbrev pub body_len : ℕ → List ℕ → Option ℕ
body_len passed [] = None
body_len (suc passed) (b ∷ text) = option_map suc (body_len passed text)
body_len zero (b ∷ text) =
    if b == 59 then Some 0 else option_map suc (body_len (covered b text) text)

-- how many bytes stand before the line's end
abbrev pub line_len : List ℕ → ℕ
line_len text = prefix_len (λ b. not (is_line_feed b)) text

-- how many bytes stand before the next `;` or the line's end
abbrev pub open_len : List ℕ → ℕ
open_len text = prefix_len (λ b. not (b == 59) && not (is_line_feed b)) text

-- how many bytes of a comment stand at the start of a line
abbrev pub comment_len : List ℕ → ℕ
comment_len text = if slice_index text 0 == 35 then line_len text else 0

abbrev pub statement_at : List ℕ → ℕ → ℕ → Stmt
statement_at file place len = record {
  from = place;
  to = place + len;
  line = line_at file place;
  column_one = is_column_one file place;
}

-- a statement covers its `;` and what follows that in the line, a comment
abbrev pub statement_read : List ℕ → ℕ → List ℕ → Option ℕ → Front Stmt
statement_read file place text None = record { gives = []; more = length text }
statement_read file place text (Some len) = record {
  gives = statement_at file place len ∷ [];
  more = len + line_len (drop (suc len) text);
}

abbrev pub statement_front : List ℕ → ℕ → List ℕ → Front Stmt
statement_front file place text = statement_read file place text (body_len 0 text)

-- the statements of a file
abbrev pub statements_of : List ℕ → List Stmt
statements_of file = cut (statement_front file) 0 0 (blanked LineStart file)

-- the tokens of a statement of a file
abbrev pub tokens_of : List ℕ → Stmt → List Spanned
tokens_of file statement = tokens_from statement.from (slice_range (blanked LineStart file) statement.from statement.to)

-- a fault, and the line of its statement
pub record Fault : Type 0 where
  pub line : ℕ
  pub kind : LexKind

abbrev pub faults_at : List ℕ → ℕ → List LexKind → List Fault
faults_at file place kinds = map (λ kind. record { line = line_at file place; kind = kind }) kinds

abbrev pub faults_read : List ℕ → ℕ → List ℕ → Option ℕ → Front Fault
faults_read file place text None = record {
  gives = faults_at file place (faults_in text ++ OpenStatement ∷ []);
  more = length text;
}
faults_read file place text (Some len) = record {
  gives = faults_at file place (faults_in (take len text));
  more = len + line_len (drop (suc len) text);
}

abbrev pub faults_front : List ℕ → ℕ → List ℕ → Front Fault
faults_front file place text = faults_read file place text (body_len 0 text)

-- the faults of a file, by place
abbrev pub faults_of : List ℕ → List Fault
faults_of file = cut (faults_front file) 0 0 (blanked LineStart file)

-- the first fault of a file
abbrev pub lexical : List ℕ → Option Fault
lexical file = slice_get (faults_of file) 0

-- the fault is the one that was found; want of memory says nothing
abbrev pub IsFault : LexFault → Option Fault → Type 0
IsFault (Refused line kind) first = first ≡ Some (record { line = line; kind = kind })
IsFault Memory first = Unit {0}
