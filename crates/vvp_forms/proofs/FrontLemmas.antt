-- One token at the front that isn't the mark, and what is passed by.
use Rattle.std.proofs.Common.{◌≡◌, ℕ, suc, Bool, true, false, List, [], ◌∷◌, drop, refl, sym, ap, ◌∙◌}
use Rattle.std.proofs.lemmas.Bool.{false≢true}
use Rattle.vvp_lex.specs.declared.types.Name.{Name}
use Rattle.vvp_lex.specs.declared.types.Spanned.{Spanned}
use Rattle.vvp_lex.specs.declared.types.Token.{Token}
use Rattle.vvp_lex.specs.Place.{is_mark_at, number_at, text_at, Begins}
use Rattle.vvp_forms.specs.Pieces.{IsMark, NoMark, IsNumber, IsTextAt}
use Rattle.vvp_lex.proofs.FrontLemmas.{is_mark_at-sound, is_mark_at-complete}

-- no such mark at the front
pub no_mark-sound : (byte : ℕ) (tokens : List Spanned) → is_mark_at tokens 0 byte ≡ false → NoMark byte tokens
no_mark-sound byte tokens none =
    λ rest one. false≢true (sym none ∙ (is_mark_at-complete 0 tokens tokens rest byte refl one).0)

pub no_mark-complete : (byte : ℕ) (tokens : List Spanned) → NoMark byte tokens → is_mark_at tokens 0 byte ≡ false
no_mark-complete byte tokens none = by (is_mark_at tokens 0 byte) refl
  where
    by : (test : Bool) → is_mark_at tokens 0 byte ≡ test → is_mark_at tokens 0 byte ≡ false
    by true e = absurd (none (drop 1 tokens) (is_mark_at-sound 0 tokens byte e))
    by false e = e

-- another token than the mark
pub number-no_mark : (value byte : ℕ) (tokens rest : List Spanned) → IsNumber value tokens rest → is_mark_at tokens 0 byte ≡ false
unfolding is_mark_at
number-no_mark value byte tokens rest one = rw (one.1, one.2) refl

pub minus-no_plus : (tokens rest : List Spanned) → IsMark 45 tokens rest → is_mark_at tokens 0 43 ≡ false
unfolding is_mark_at
minus-no_plus tokens rest one = rw (one.1, one.2) refl

pub text-no_mark : (name : Name) (byte : ℕ) (tokens rest : List Spanned) → IsTextAt name tokens rest → is_mark_at tokens 0 byte ≡ false
unfolding is_mark_at
text-no_mark name byte tokens rest one = rw (one.1, one.2) refl

-- the place after the first token is the front of the others
pub number-next : (tokens : List Spanned) (place : ℕ) → number_at tokens (suc place) ≡ number_at (drop 1 tokens) place
unfolding number_at
number-next [] place = refl
number-next (first ∷ tokens) place = refl

pub text-next : (tokens : List Spanned) (place : ℕ) → text_at tokens (suc place) ≡ text_at (drop 1 tokens) place
unfolding text_at
text-next [] place = refl
text-next (first ∷ tokens) place = refl

-- one token is passed
pub drop-one : (kind : Token) (tokens rest : List Spanned) → Begins kind tokens rest → drop 1 tokens ≡ rest
drop-one kind tokens rest one = ap (drop 1) one.1
