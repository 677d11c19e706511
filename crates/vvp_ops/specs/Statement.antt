-- An opcode statement: its label, and what reading it answers.
use Rattle.std.specs.Prelude.{◌≡◌, ℕ, Bool, false, ◌&&◌, ◌==◌, List, drop, IsTrue, Option, None, Some, Result, Ok, Err, slice_get, slice_index, if◌then◌else◌}
use Rattle.vvp_lex.specs.declared.types.Name.{Name}
use Rattle.vvp_lex.specs.declared.types.Spanned.{Spanned}
use Rattle.vvp_lex.specs.declared.types.Stmt.{Stmt}
use Rattle.vvp_lex.specs.declared.types.FormKind.{FormKind}
use Rattle.vvp_lex.specs.declared.types.FormFault.{FormFault}
use Rattle.vvp_lex.specs.declared.types.FormFault.TheVariants as fault
use Rattle.vvp_lex.specs.Label.{is_label, is_word}
use Rattle.vvp_lex.specs.Statement.{tokens_of}
use Rattle.vvp_ops.specs.declared.op.Op.{Op}

-- whether the first token, if there is one, is the statement's label
abbrev pub has_label : List ℕ → Bool → Option Spanned → Bool
has_label file column_one None = false
has_label file column_one (Some first) = is_label file column_one first

-- the tokens after the label
abbrev pub after_label : List ℕ → Bool → List Spanned → List Spanned
after_label file column_one tokens =
    if has_label file column_one (slice_get tokens 0) then drop 1 tokens else tokens

-- whether the first token is a word that begins with `%`
abbrev pub is_opcode : List ℕ → Option Spanned → Bool
is_opcode file None = false
is_opcode file (Some first) = is_word first.token && slice_index file first.from == 37

-- the tokens of a statement after its label
unfoldable pub body_of : List ℕ → Stmt → List Spanned
body_of file statement = after_label file statement.column_one (tokens_of file statement)

-- the statement is an opcode
abbrev pub IsOpcode : List ℕ → Stmt → Type 0
IsOpcode file statement = IsTrue (is_opcode file (slice_get (body_of file statement) 0))

-- A result is what reading gives; a refusal has the statement's line and its kind. Want of memory says nothing.
abbrev pub Answers : Result (Op Name) FormFault → ℕ → Result (Op Name) FormKind → Type 0
Answers (Ok opcode) line read = read ≡ Ok opcode
Answers (Err (fault.Refused at kind)) line read = (at ≡ line) × (read ≡ Err kind)
Answers (Err fault.Memory) line read = Unit {0}
