-- Reading a row's operands: the pieces one after another, each into its slot. Marks are given by their codes: the comma is
-- 44, [ is 91, ] is 93.
use Rattle.std.specs.Prelude.{ℕ, pos, Bool, true, false, List, [], ◌∷◌, length, drop, slice_set, Option, None, Some, if◌then◌else◌}
use Rattle.std.specs.Option.{option_map}
use Rattle.vvp_lex.specs.declared.types.Name.{Name}
use Rattle.vvp_lex.specs.declared.types.Spanned.{Spanned}
use Rattle.vvp_lex.specs.Unescaped.{text_of}
use Rattle.vvp_forms.specs.declared.form.Port.TheVariants as port
use Rattle.vvp_forms.specs.declared.table.Piece.{Piece}
use Rattle.vvp_forms.specs.declared.table.Piece.TheVariants as piece
use Rattle.vvp_forms.specs.declared.pieces.Operands.{Operands}
use Rattle.vvp_lex.specs.Place.{◌>>=◌, is_mark, word_in, span_of, number_at, word_at, text_at, is_mark_at}
use Rattle.vvp_forms.specs.Numbers.{integer_at, power_at}
use Rattle.vvp_forms.specs.Ports.{port_at}

-- before anything is read
unfoldable pub no_operands : Operands
no_operands = record {
  starred = false;
  text = [];
  second_text = [];
  kind = None;
  symbol = None;
  symbols = [];
  numbers = 0 ∷ 0 ∷ 0 ∷ 0 ∷ 0 ∷ [];
  integers = pos 0 ∷ pos 0 ∷ pos 0 ∷ pos 0 ∷ [];
  drives = (6, 6);
  ports = port.Unused ∷ port.Unused ∷ port.Unused ∷ port.Unused ∷ [];
  last_port = 0;
}

-- the operands after a piece, and how many tokens it has
abbrev pub Reading : Type 0
Reading = Option (Operands × ℕ)

abbrev pub with_name : Name → List Name → List Name
with_name name names = name ∷ names

-- more symbols, each after a comma
abbrev pub symbols_after : List Spanned → Option (List Name)
symbols_after [] = Some []
symbols_after (comma ∷ []) = None
symbols_after (comma ∷ symbol ∷ tokens) =
    if is_mark 44 comma.token then (word_in symbol.token (span_of symbol) >>= λ name. option_map (with_name name) (symbols_after tokens))
    else None

-- one symbol or more, with commas between them
unfoldable pub symbols_of : List Spanned → Option (List Name)
symbols_of tokens = word_at tokens 0 >>= λ name. option_map (with_name name) (symbols_after (drop 1 tokens))

-- the two numbers in `[n n]`
unfoldable pub drives_at : List Spanned → Option (ℕ × ℕ)
drives_at tokens = do
  low ← number_at tokens 1
  high ← number_at tokens 2
  if is_mark_at tokens 3 93 then Some (low, high) else None

-- a piece at the front of the tokens
unfoldable pub piece_at : List ℕ → Piece → Operands → List Spanned → Reading
piece_at file piece.Text operands tokens =
    text_at tokens 0 >>= λ name. Some (record operands { text = text_of file name }, 1)
piece_at file piece.SecondText operands tokens =
    text_at tokens 0 >>= λ name. Some (record operands { second_text = text_of file name }, 1)
piece_at file piece.Starred operands tokens =
    if is_mark_at tokens 0 42 then (text_at tokens 1 >>= λ name. Some (record operands { starred = true; text = text_of file name }, 2))
    else (text_at tokens 0 >>= λ name. Some (record operands { text = text_of file name }, 1))
piece_at file piece.Kind operands tokens =
    word_at tokens 0 >>= λ name. Some (record operands { kind = Some name }, 1)
piece_at file piece.Symbol operands tokens =
    word_at tokens 0 >>= λ name. Some (record operands { symbol = Some name }, 1)
piece_at file piece.Symbols operands tokens =
    symbols_of tokens >>= λ names. Some (record operands { symbols = names }, length tokens)
piece_at file (piece.Number slot) operands tokens =
    number_at tokens 0 >>= λ value. Some (record operands { numbers = slice_set operands.numbers slot value }, 1)
piece_at file (piece.Integer slot) operands tokens =
    integer_at tokens >>= λ read. Some (record operands { integers = slice_set operands.integers slot read.0 }, read.1)
piece_at file piece.Power operands tokens =
    power_at tokens >>= λ read. Some (record operands { integers = slice_set operands.integers 0 read.0 }, read.1)
piece_at file (piece.Mark byte) operands tokens = if is_mark_at tokens 0 byte then Some (operands, 1) else None
piece_at file piece.Drives operands tokens =
    if is_mark_at tokens 0 91 then (drives_at tokens >>= λ drives. Some (record operands { drives = drives }, 4))
    else Some (operands, 0)
piece_at file (piece.Port slot) operands tokens =
    port_at file tokens 0 >>= λ port. Some (record operands { ports = slice_set operands.ports slot port; last_port = slot }, 1)
piece_at file piece.MayEnd operands tokens = Some (operands, 0)
piece_at file piece.Anything operands tokens = Some (operands, length tokens)

-- whether the operands end before a piece
abbrev pub ends_before : Piece → List Spanned → Bool
ends_before piece.MayEnd [] = true
ends_before _ tokens = false

-- the pieces one after another, and nothing after them
abbrev pub pieces_at : List ℕ → List Piece → Operands → List Spanned → Option Operands
pieces_at file [] operands [] = Some operands
pieces_at file [] operands (first ∷ tokens) = None
pieces_at file (piece ∷ pieces) operands tokens =
    if ends_before piece tokens then Some operands
    else (piece_at file piece operands tokens >>= λ read. pieces_at file pieces read.0 (drop read.1 tokens))
