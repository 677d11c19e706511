-- A text as words, each with one byte of white space after it.
use Rattle.std.specs.Prelude.{◌≡◌, ℕ, ◌≤◌, true, List, [], ◌∷◌, ◌++◌, length, map}
use Rattle.std.specs.List.{list_all}
use Rattle.vvp_lex.specs.Text.{is_white}
use Rattle.vcd_read.specs.Words.{is_printable}

pub record Written : Type 0 where
  pub word : List ℕ
  pub after : ℕ

-- one or more bytes from `!` to `~`, and white space
pub record IsWritten (w : Written) : Type 0 where
  pub some : 1 ≤ length w.word
  pub printable : list_all is_printable w.word ≡ true
  pub white : is_white w.after ≡ true

abbrev pub AreWritten : List Written → Type 0
AreWritten [] = Unit {0}
AreWritten (w ∷ ws) = IsWritten w × AreWritten ws

abbrev pub text_of : List Written → List ℕ
text_of [] = []
text_of (w ∷ ws) = w.word ++ (w.after ∷ text_of ws)

abbrev pub words_of : List Written → List (List ℕ)
words_of ws = map (λ w. w.word) ws

-- a word and a space (its code is 32)
abbrev pub spaced : List ℕ → Written
spaced word = record { word = word; after = 32 }

-- a word and a line feed (its code is 10)
abbrev pub lined : List ℕ → Written
lined word = record { word = word; after = 10 }
