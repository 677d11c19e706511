-- The pieces end to end: the operands that are read are spelled so, and those that are spelled so are read.
use Rattle.std.proofs.Common.{◌≡◌, ℕ, Bool, true, false, List, [], ◌∷◌, drop, Option, Some, refl, sym, ap, ◌∙◌, if◌then◌else◌, inl, inr}
use Rattle.std.specs.Prelude.{ℤ}
use Rattle.std.proofs.lemmas.Bool.{false≢true}
use Rattle.vvp_lex.specs.declared.types.Name.{Name}
use Rattle.vvp_lex.specs.declared.types.Spanned.{Spanned}
use Rattle.vvp_lex.specs.declared.types.Token.{Token}
use Rattle.vvp_forms.specs.declared.table.Piece.{Piece}
use Rattle.vvp_forms.specs.declared.table.Piece.TheVariants as piece
use Rattle.vvp_forms.specs.declared.pieces.Operands.{Operands}
use Rattle.vvp_lex.specs.Place.{◌>>=◌, Begins}
use Rattle.vvp_forms.specs.Operands.{piece_at, ends_before, pieces_at}
use Rattle.vvp_forms.specs.Pieces.{IsInteger, AreSymbols, IsPiece, EndsAt, ArePieces}
use Rattle.vvp_lex.proofs.FrontLemmas.{some_inj, bind-some}
use Rattle.vvp_forms.proofs.PieceLaw.{piece-sound, piece-complete}

-- where the operands end before a piece
ends-sound : (p : Piece) (tokens : List Spanned) → ends_before p tokens ≡ true → EndsAt p tokens
ends-sound piece.MayEnd [] is = refl
ends-sound piece.MayEnd (first ∷ tokens) is = absurd (false≢true is)
ends-sound _ tokens is = absurd (false≢true is)

ends-complete : (p : Piece) (tokens : List Spanned) → EndsAt p tokens → ends_before p tokens ≡ true
ends-complete piece.MayEnd tokens is = rw is refl
ends-complete _ tokens is = absurd is

-- where no token is left
no-token : (kind : Token) (tokens rest : List Spanned) → tokens ≡ [] → Begins kind tokens rest → ⊥
no-token kind tokens rest none one = let same : [] ≡ one.0 ∷ rest = sym none ∙ one.1 in absurd (cc)

no-symbols : (names : List Name) (tokens : List Spanned) → tokens ≡ [] → AreSymbols names tokens → ⊥
no-symbols [] tokens none is = is
no-symbols (name ∷ names) tokens none is = no-token _ tokens is.0 none (is.1.0, is.1.1, is.1.2)

no-integer : (value : ℤ) (tokens rest : List Spanned) → tokens ≡ [] → IsInteger value tokens rest → ⊥
no-integer value tokens rest none (inl is) = no-token _ tokens rest none is.1.0
no-integer value tokens rest none (inr is) = no-token _ tokens is.1.0 none is.1.1

-- a piece without tokens changes nothing
empty-piece : (file : List ℕ) (p : Piece) (before after : Operands) (tokens rest : List Spanned) → tokens ≡ [] → IsPiece file p before after tokens rest → (after ≡ before) × (rest ≡ [])
unfolding IsPiece
empty-piece file piece.Text before after tokens rest none is =
    absurd (no-token _ tokens rest none (is.1.0, is.1.1, is.1.2))
empty-piece file piece.SecondText before after tokens rest none is =
    absurd (no-token _ tokens rest none (is.1.0, is.1.1, is.1.2))
empty-piece file piece.Starred before after tokens rest none (inl is) =
    absurd (no-token _ tokens rest none (is.1.0, is.1.1, is.1.2))
empty-piece file piece.Starred before after tokens rest none (inr is) =
    absurd (no-token _ tokens is.1.0 none is.1.1)
empty-piece file piece.Kind before after tokens rest none is =
    absurd (no-token _ tokens rest none (is.1.0, is.1.1, is.1.2))
empty-piece file piece.Symbol before after tokens rest none is =
    absurd (no-token _ tokens rest none (is.1.0, is.1.1, is.1.2))
empty-piece file piece.Symbols before after tokens rest none is = absurd (no-symbols is.0 tokens none is.1)
empty-piece file (piece.Number slot) before after tokens rest none is = absurd (no-token _ tokens rest none is.1)
empty-piece file (piece.Integer slot) before after tokens rest none is =
    absurd (no-integer is.0 tokens rest none is.1)
empty-piece file piece.Power before after tokens rest none (value, inl is, same) =
    absurd (no-integer value tokens rest none is)
empty-piece file piece.Power before after tokens rest none (value, inr is, same) =
    absurd (no-token _ tokens is.1.0 none is.1.1)
empty-piece file (piece.Mark byte) before after tokens rest none is = absurd (no-token _ tokens rest none is.0)
empty-piece file piece.Drives before after tokens rest none (inl is) = (is.2, sym is.1 ∙ none)
empty-piece file piece.Drives before after tokens rest none (inr is) = absurd (no-token _ tokens is.2.0 none is.2.1)
empty-piece file (piece.Port slot) before after tokens rest none (found, inl is, same) =
    absurd (no-token _ tokens rest none (is.1.0, is.1.1, is.1.2))
empty-piece file (piece.Port slot) before after tokens rest none (found, inr is, same) =
    absurd (no-token _ tokens rest none (is.1.0, is.1.1, is.1.2))
empty-piece file piece.MayEnd before after tokens rest none is = (is.1, sym is.0 ∙ none)
empty-piece file piece.Anything before after tokens rest none is = (is.1, is.0)

empty-pieces : (file : List ℕ) (pieces : List Piece) (before after : Operands) (tokens : List Spanned) → tokens ≡ [] → ArePieces file pieces before after tokens → after ≡ before
empty-pieces file [] before after tokens none is = is.1
empty-pieces file (p ∷ pieces) before after tokens none (inl is) = is.1
empty-pieces file (p ∷ pieces) before after tokens none (inr is) =
    let first = empty-piece file p before is.0 tokens is.1 none is.2 in
    empty-pieces file pieces is.0 after is.1 first.1 is.3 ∙ first.0

-- where a row may end and no token is left, the operands stay
ended : (file : List ℕ) (p : Piece) (pieces : List Piece) (before after middle : Operands) (tokens rest : List Spanned) → EndsAt p tokens → IsPiece file p before middle tokens rest → ArePieces file pieces middle after rest → after ≡ before
ended file piece.MayEnd pieces before after middle tokens rest none is more =
    let first = empty-piece file piece.MayEnd before middle tokens rest none is in
    empty-pieces file pieces middle after rest first.1 more ∙ first.0
ended file _ pieces before after middle tokens rest none is more = absurd none

abbrev pieces_after : List ℕ → List Piece → List Spanned → Operands × ℕ → Option Operands
pieces_after file pieces tokens read = pieces_at file pieces read.0 (drop read.1 tokens)

-- the operands that are read are spelled so
pub pieces-sound : (file : List ℕ) (pieces : List Piece) (before after : Operands) (tokens : List Spanned) → pieces_at file pieces before tokens ≡ Some after → ArePieces file pieces before after tokens
pieces-sound file [] before after [] is = (refl, sym (some_inj before after is))
pieces-sound file [] before after (first ∷ tokens) is = absurd (cc)
pieces-sound file (p ∷ pieces) before after tokens is =
    by (ends_before p tokens) refl (λ middle rest read. pieces-sound file pieces middle after rest read) is
  where
    by : (ends : Bool) → ends_before p tokens ≡ ends → ((middle : Operands) (rest : List Spanned) → pieces_at file pieces middle rest ≡ Some after → ArePieces file pieces middle after rest) → (if ends then Some before else (piece_at file p before tokens >>= pieces_after file pieces tokens)) ≡ Some after → ArePieces file (p ∷ pieces) before after tokens
    by true e later h = inl (ends-sound p tokens e, sym (some_inj before after h))
    by false e later h =
        let read = bind-some (piece_at file p before tokens) (pieces_after file pieces tokens) after h in
        inr (read.0.0, drop read.0.1 tokens, piece-sound file p before read.0.0 read.0.1 tokens read.1, later read.0.0 (drop read.0.1 tokens) read.2)

-- the operands that are spelled so are read
pub pieces-complete : (file : List ℕ) (pieces : List Piece) (before after : Operands) (tokens : List Spanned) → ArePieces file pieces before after tokens → pieces_at file pieces before tokens ≡ Some after
pieces-complete file [] before after tokens is = rw (is.0, is.1) refl
pieces-complete file (p ∷ pieces) before after tokens (inl is) = rw (ends-complete p tokens is.0, is.1) refl
pieces-complete file (p ∷ pieces) before after tokens (inr is) =
    by (ends_before p tokens) refl (pieces-complete file pieces is.0 after is.1 is.3)
  where
    by : (ends : Bool) → ends_before p tokens ≡ ends → pieces_at file pieces is.0 is.1 ≡ Some after → (if ends then Some before else (piece_at file p before tokens >>= pieces_after file pieces tokens)) ≡ Some after
    by true e later = ap Some (sym (ended file p pieces before after is.0 tokens is.1 (ends-sound p tokens e) is.2 is.3))
    by false e later =
        let read = piece-complete file p before is.0 tokens is.1 is.2 in
        rw read.1 (ap (pieces_at file pieces is.0) read.2 ∙ later)
