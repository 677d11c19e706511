-- The verdict on a file: its program, or why it has none.
use Rattle.std.specs.Prelude.{◌≡◌, ℕ, ◌^◌, nat_lt, List, length, Option, Some, None, Result, Ok, Err, if◌then◌else◌}
use Rattle.vvp_lex.specs.declared.types.FormKind.{FormKind}
use Rattle.vvp_lex.specs.declared.types.LexKind.{LexKind}
use Rattle.vvp_lex.specs.Statement.{Fault, lexical}
use Rattle.sym_link.specs.declared.fault.LinkFault.{LinkFault}
use Rattle.sym_link.specs.declared.fault.LinkFault.TheVariants as fault
use Rattle.sym_link.specs.declared.fault.LinkKind.{LinkKind}
use Rattle.sym_link.specs.declared.placed.Placed.{Placed}
use Rattle.sym_link.specs.declared.program.Program.{Program}
use Rattle.sym_link.specs.Meaning.{linked}
use Rattle.sym_link.specs.Spelled.{Refusal, statements_read}

-- a result is what linking gives; want of memory says nothing
abbrev pub Answers : Result Program LinkFault → Result Program (Refusal LinkKind) → Type 0
Answers (Ok program) meant = meant ≡ Ok program
Answers (Err (fault.Refused line kind)) meant = meant ≡ Err (line, kind)
Answers (Err fault.Memory) meant = Unit {0}

-- why a file has no program: it has too many bytes, or a lexical fault, or a statement that nothing spells, or one that breaks a
-- link rule
pub data Why : Type 0 where
  TooLarge : Why
  Unlexed : Refusal LexKind → Why
  Unspelled : Refusal FormKind → Why
  Unlinked : Refusal LinkKind → Why

-- the line that a refusal names: that on which its statement begins, or 0
abbrev pub line_of : Why → ℕ
line_of TooLarge = 0
line_of (Unlexed refusal) = refusal.0
line_of (Unspelled refusal) = refusal.0
line_of (Unlinked refusal) = refusal.0

abbrev pub unlinked_or : Result Program (Refusal LinkKind) → Result Program Why
unlinked_or (Ok program) = Ok program
unlinked_or (Err refusal) = Err (Unlinked refusal)

abbrev pub unspelled_or : List ℕ → Result (List Placed) (Refusal FormKind) → Result Program Why
unspelled_or file (Ok all) = unlinked_or (linked file all)
unspelled_or file (Err refusal) = Err (Unspelled refusal)

abbrev pub unlexed_or : List ℕ → Option Fault → Result Program Why
unlexed_or file None = unspelled_or file (statements_read file)
unlexed_or file (Some first) = Err (Unlexed (first.line, first.kind))

-- The first that applies: the file has more than 67,108,864 bytes; its first lexical fault; the first statement in file order that
-- nothing spells; the first in file order that breaks a link rule, with the first rule that it breaks; its program.
unfoldable pub verdict : List ℕ → Result Program Why
verdict file = if nat_lt (2 ^ 26) (length file) then Err TooLarge else unlexed_or file (lexical file)
