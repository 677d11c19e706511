-- The words of a dump (IEEE 1364-2005, 18.2: tokens parted by white space).
use Rattle.std.specs.Prelude.{ℕ, ◌+◌, Bool, not, ◌&&◌, ◌==◌, nat_le, List, [], ◌∷◌, length, slice_index, take, codes, if◌then◌else◌}
use Rattle.std.specs.List.{prefix_len, list_all}
use Rattle.std.specs.Char.{is_ascii_digit}
use Rattle.std.specs.Str.{bytes_eq}
use Rattle.vvp_lex.specs.Text.{Front, cut}
use Rattle.vvp_lex.specs.Statement.{line_at}

-- a byte of a word: from `!` to `~`
abbrev pub is_printable : ℕ → Bool
is_printable byte = nat_le 33 byte && nat_le byte 126

-- a word, or one byte that is neither part of a word nor white space; and the line on which it begins
pub record Spot : Type 0 where
  pub line : ℕ
  pub word : List ℕ

-- how many bytes of a word follow its first
abbrev pub more_len : List ℕ → ℕ
more_len [] = 0
more_len (byte ∷ rest) = if is_printable byte then prefix_len is_printable rest else 0

-- the word at the front is the longest run of such bytes
abbrev pub spot_front : List ℕ → ℕ → List ℕ → Front Spot
spot_front file place text = record {
  gives = record { line = line_at file place; word = take (1 + more_len text) text } ∷ [];
  more = more_len text;
}

-- the words of a file, in order
unfoldable pub spots_of : List ℕ → List Spot
spots_of file = cut (spot_front file) 0 0 file

-- whether it is a word
abbrev pub is_word : List ℕ → Bool
is_word word = is_printable (slice_index word 0)

abbrev pub is_end : List ℕ → Bool
is_end word = bytes_eq word (codes "$end")

-- decimal digits, one or more
abbrev pub is_number : List ℕ → Bool
is_number word = not (length word == 0) && list_all is_ascii_digit word
