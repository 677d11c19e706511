-- What stands at the front of the tokens of a statement, or at a place among them, for the crates that read statements. Places
-- count from 0.
use Rattle.std.specs.Prelude.{◌≡◌, ℕ, Bool, false, ◌==◌, List, ◌∷◌, Option, None, Some, slice_get, slice_range, if◌then◌else◌}
use Rattle.vvp_lex.specs.declared.types.Name.{Name}
use Rattle.vvp_lex.specs.declared.types.Spanned.{Spanned}
use Rattle.vvp_lex.specs.declared.types.Token.{Token}
use Rattle.vvp_lex.specs.declared.types.Token.TheVariants as token
use Rattle.vvp_lex.specs.Unescaped.{IsText}

-- the first step that gives none ends a reading
infixl 10 ◌>>=◌
abbrev pub ◌>>=◌ : {A B : Type 0} → Option A → (A → Option B) → Option B
Some x >>= next = next x
None >>= next = None

-- where a token lies
abbrev pub span_of : Spanned → Name
span_of found = record { from = found.from; to = found.to }

-- the bytes of a part of the file
abbrev pub bytes_of : List ℕ → Name → List ℕ
bytes_of file name = slice_range file name.from name.to

-- the tokens begin with one of this kind, and `rest` comes after it
abbrev pub Begins : Token → List Spanned → List Spanned → Type 0
Begins kind tokens rest = (first : Spanned) × (tokens ≡ first ∷ rest) × (first.token ≡ kind)

-- the same, and that token lies at `name` in the file
abbrev pub BeginsAt : Token → Name → List Spanned → List Spanned → Type 0
BeginsAt kind name tokens rest =
    (first : Spanned) × (tokens ≡ first ∷ rest) × (first.token ≡ kind) × (name ≡ span_of first)

-- a token that is a text is a text of the file
unfoldable pub IsTextOf : List ℕ → Spanned → Type 0
IsTextOf file found = found.token ≡ token.Text → IsText file (span_of found)

abbrev pub number_in : Token → Option ℕ
number_in (token.Number value) = Some value
number_in _ = None

-- a word or a text, and where it lies
abbrev pub word_in : Token → Name → Option Name
word_in token.Word span = Some span
word_in _ span = None

abbrev pub text_in : Token → Name → Option Name
text_in token.Text span = Some span
text_in _ span = None

abbrev pub is_mark : ℕ → Token → Bool
is_mark byte (token.Punct other) = other == byte
is_mark byte _ = false

abbrev pub mark_in : ℕ → Option Spanned → Bool
mark_in byte None = false
mark_in byte (Some found) = is_mark byte found.token

-- whether this mark stands at a place, and some where it does
unfoldable pub is_mark_at : List Spanned → ℕ → ℕ → Bool
is_mark_at tokens place byte = mark_in byte (slice_get tokens place)

unfoldable pub mark_at : List Spanned → ℕ → ℕ → Option (Unit {0})
mark_at tokens place byte = if is_mark_at tokens place byte then Some tt else None

unfoldable pub number_at : List Spanned → ℕ → Option ℕ
number_at tokens place = slice_get tokens place >>= λ found. number_in found.token

unfoldable pub word_at : List Spanned → ℕ → Option Name
word_at tokens place = slice_get tokens place >>= λ found. word_in found.token (span_of found)

unfoldable pub text_at : List Spanned → ℕ → Option Name
text_at tokens place = slice_get tokens place >>= λ found. text_in found.token (span_of found)
