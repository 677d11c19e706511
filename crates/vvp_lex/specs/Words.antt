-- Lists of texts that a word is held against, and tables of words.
use Rattle.std.specs.Prelude.{ℕ, Bool, false, ◌||◌, List, [], ◌∷◌, nat_eq, Option, None, Some, if◌then◌else◌}
use Rattle.std.specs.List.{starts_with}
use Rattle.std.specs.Str.{bytes_eq}

-- whether the word is one of the texts
abbrev pub is_one : List ℕ → List (List ℕ) → Bool
is_one word [] = false
is_one word (text ∷ texts) = bytes_eq word text || is_one word texts

-- whether it begins with one of them
abbrev pub begins_with_one : List ℕ → List (List ℕ) → Bool
begins_with_one word [] = false
begins_with_one word (text ∷ texts) = starts_with nat_eq word text || begins_with_one word texts

-- what the first row of a table with this word says of it
abbrev pub looked_up : {A : Type 0} → List (List ℕ × A) → List ℕ → Option A
looked_up [] word = None
looked_up (row ∷ more) word = if bytes_eq row.0 word then Some row.1 else looked_up more word
