-- The label of a statement.
use Rattle.std.specs.Prelude.{ℕ, Bool, true, false, ◌||◌, ◌&&◌, ◌==◌, List, slice_index}
use Rattle.std.specs.Char.{is_ascii_alphabetic}
use Rattle.vvp_lex.specs.declared.types.Spanned.{Spanned}
use Rattle.vvp_lex.specs.declared.types.Token.{Token}
use Rattle.vvp_lex.specs.declared.types.Token.TheVariants as token

abbrev pub is_word : Token → Bool
is_word token.Word = true
is_word _ = false

-- a letter, `_`, `$` or `\`
abbrev pub is_label_first : ℕ → Bool
is_label_first byte = is_ascii_alphabetic byte || byte == 95 || byte == 36 || byte == 92

-- whether the first token of a statement, which begins in the first column or not, is its label
abbrev pub is_label : List ℕ → Bool → Spanned → Bool
is_label file column_one first =
    column_one && is_word first.token && is_label_first (slice_index file first.from)
