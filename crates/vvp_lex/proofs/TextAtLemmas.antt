-- A text at a place, and the texts among the tokens of a statement, are texts of the file.
use Rattle.std.proofs.Common.{◌≡◌, ℕ, zero, suc, List, [], ◌∷◌, drop, Option, None, Some, refl, sym, ap, subst}
use Rattle.std.specs.Prelude.{IfSome}
use Rattle.std.specs.List.{Contains, All, slice_get}
use Rattle.std.proofs.lemmas.List.Elements.{All-head, All-tail, All-drop, All-weaker, All-contains_itself}
use Rattle.vvp_lex.specs.declared.types.Name.{Name}
use Rattle.vvp_lex.specs.declared.types.Spanned.{Spanned}
use Rattle.vvp_lex.specs.declared.types.Stmt.{Stmt}
use Rattle.vvp_lex.specs.declared.types.Token.{Token}
use Rattle.vvp_lex.specs.declared.types.Token.TheVariants as token
use Rattle.vvp_lex.specs.Unescaped.{IsText}
use Rattle.vvp_lex.specs.Statement.{statements_of, tokens_of}
use Rattle.vvp_lex.specs.Place.{◌>>=◌, IsTextOf, text_in, text_at, span_of}

text-IsText : (file : List ℕ) (found : Option Spanned) (name : Name) → IfSome found (IsTextOf file) → (found >>= λ first. text_in first.token (span_of first)) ≡ Some name → IsText file name
unfolding IsTextOf
text-IsText file None name h e = cc
text-IsText file (Some first) name h e = by first.token refl e
  where
    by : (t : Token) → first.token ≡ t → text_in t (span_of first) ≡ Some name → IsText file name
    by token.Text is e = let same : span_of first ≡ name = cc in subst (IsText file) same (h is)
    by _ is e = cc

IfSome-slice_get : (P : Spanned → Type 0) (tokens : List Spanned) (place : ℕ) → All P tokens → IfSome (slice_get tokens place) P
IfSome-slice_get P [] place h = tt
IfSome-slice_get P (first ∷ tokens) zero h = All-head P first tokens h
IfSome-slice_get P (first ∷ tokens) (suc place) h = IfSome-slice_get P tokens place (All-tail P first tokens h)

-- a text at a place is a text of the file
pub text_at-IsText : (file : List ℕ) (tokens : List Spanned) (place : ℕ) (name : Name) → All (IsTextOf file) tokens → text_at tokens place ≡ Some name → IsText file name
unfolding text_at
text_at-IsText file tokens place name h e =
    text-IsText file (slice_get tokens place) name (IfSome-slice_get (IsTextOf file) tokens place h) e

-- what comes after some tokens has texts of the file too
pub texts-after : (file : List ℕ) (tokens rest : List Spanned) (count : ℕ) → rest ≡ drop count tokens → All (IsTextOf file) tokens → All (IsTextOf file) rest
texts-after file tokens rest count is h = subst (All (IsTextOf file)) (sym is) (All-drop (IsTextOf file) count tokens h)

-- the texts among a statement's tokens are texts of the file
pub All-tokens_of : (file : List ℕ) (statement : Stmt) → Contains (statements_of file) statement → All (IsTextOf file) (tokens_of file statement)
unfolding IsTextOf
All-tokens_of file statement given =
    All-weaker (Contains (tokens_of file statement)) (IsTextOf file) is_text (tokens_of file statement) (All-contains_itself (tokens_of file statement))
  where
    is_text : (found : Spanned) → Contains (tokens_of file statement) found → IsTextOf file found
    is_text found at text =
        let same : found ≡ record { token = token.Text; from = found.from; to = found.to } = ap (λ (t : Token). let spanned : Spanned = record { token = t; from = found.from; to = found.to } in spanned) text in
        (statement, given, subst (Contains (tokens_of file statement)) same at)
