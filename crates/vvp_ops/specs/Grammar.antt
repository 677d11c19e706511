-- The opcode that the tokens of a statement spell, or why they spell none.
use Rattle.std.specs.Prelude.{ℕ, List, drop, slice_get, Option, None, Some, Result, Ok, Err, if◌then◌else◌}
use Rattle.std.specs.Option.{option_map}
use Rattle.vvp_lex.specs.declared.types.Name.{Name}
use Rattle.vvp_lex.specs.declared.types.Spanned.{Spanned}
use Rattle.vvp_lex.specs.declared.types.FormKind.{FormKind}
use Rattle.vvp_lex.specs.declared.types.FormKind.TheVariants as kind
use Rattle.vvp_ops.specs.Unsupported.{is_unsupported}
use Rattle.vvp_ops.specs.declared.op.Op.{Op}
use Rattle.vvp_lex.specs.Place.{span_of, bytes_of}
use Rattle.vvp_lex.specs.Words.{looked_up}
use Rattle.vvp_ops.specs.Table.{Meaning, rows, opcode_of}
use Rattle.vvp_ops.specs.Operands.{operands_of}
use Rattle.vvp_ops.specs.Calls.{is_task, is_function, task_of, function_of}

-- the opcode of a known word; without it its operands are bad
abbrev pub known : Option (Op Name) → Result (Op Name) FormKind
known None = Err kind.BadOperands
known (Some opcode) = Ok opcode

-- by what the row of the word says, if it has one
abbrev pub read_row : List ℕ → Option Meaning → List Spanned → Result (Op Name) FormKind
read_row word None tokens = Err (if is_unsupported word then kind.UnsupportedOpcode else kind.UnknownOpcode)
read_row word (Some (kinds, mnemonic)) tokens = known (option_map (opcode_of mnemonic) (operands_of kinds tokens))

-- what a word and the tokens after it spell
unfoldable pub read_word : List ℕ → List ℕ → List Spanned → Result (Op Name) FormKind
read_word file word tokens =
    if is_task word then known (task_of file tokens)
    else (if is_function word then known (function_of file tokens)
    else read_row word (looked_up rows word) tokens)

abbrev pub read_first : List ℕ → Option Spanned → List Spanned → Result (Op Name) FormKind
read_first file None tokens = Err kind.UnknownStatement
read_first file (Some first) tokens = read_word file (bytes_of file (span_of first)) tokens

-- what the tokens after a label spell: a word, and its operands
abbrev pub read_tokens : List ℕ → List Spanned → Result (Op Name) FormKind
read_tokens file tokens = read_first file (slice_get tokens 0) (drop 1 tokens)
