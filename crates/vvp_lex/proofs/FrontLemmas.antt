-- What stands at a place, and what stands at the front of the tokens from there on: what is read is spelled so, and what is spelled
-- so is read.
use Rattle.std.proofs.Common.{◌≡◌, ℕ, zero, suc, List, [], ◌∷◌, drop, Bool, true, false, Option, None, Some, refl, sym, ap, ◌∙◌, if◌then◌else◌, eqb-true}
use Rattle.std.specs.List.{slice_get}
use Rattle.std.proofs.lemmas.Bool.{false≢true, eq-eqb}
use Rattle.vvp_lex.specs.declared.types.Name.{Name}
use Rattle.vvp_lex.specs.declared.types.Spanned.{Spanned}
use Rattle.vvp_lex.specs.declared.types.Token.{Token}
use Rattle.vvp_lex.specs.declared.types.Token.TheVariants as token
use Rattle.vvp_lex.specs.Place.{◌>>=◌, span_of, number_in, word_in, text_in, is_mark, mark_in, is_mark_at, mark_at, number_at, word_at, text_at, Begins, BeginsAt}

pub some_inj : {A : Type 0} (x y : A) → Some x ≡ Some y → x ≡ y
some_inj x y e = cc

-- a step that gave some has been given some
pub bind-some : {A B : Type 0} (read : Option A) (next : A → Option B) (value : B) → (read >>= next) ≡ Some value → (x : A) × (read ≡ Some x) × (next x ≡ Some value)
bind-some None next value h = cc
bind-some (Some x) next value h = (x, refl, h)

-- a test that gave some has passed
pub test-some : {A : Type 0} (test : Bool) (read : Option A) (value : A) → (if test then read else None) ≡ Some value → (test ≡ true) × (read ≡ Some value)
test-some true read value h = (refl, h)
test-some false read value h = cc

-- from a place on, the token there stands at the front
pub get-sound : (place : ℕ) (tokens : List Spanned) (first : Spanned) → slice_get tokens place ≡ Some first → drop place tokens ≡ first ∷ drop (suc place) tokens
get-sound zero [] first h = cc
get-sound zero (other ∷ tokens) first h = ap (λ x. x ∷ tokens) (some_inj other first h)
get-sound (suc place) [] first h = cc
get-sound (suc place) (other ∷ tokens) first h = get-sound place tokens first h

pub get-complete : (place : ℕ) (tokens here rest : List Spanned) (first : Spanned) → drop place tokens ≡ here → here ≡ first ∷ rest → (slice_get tokens place ≡ Some first) × (drop (suc place) tokens ≡ rest)
get-complete zero [] here rest first from is = absurd (let none : [] ≡ first ∷ rest = from ∙ is in cc)
get-complete zero (other ∷ tokens) here rest first from is =
    let same : other ∷ tokens ≡ first ∷ rest = from ∙ is in (cc, cc)
get-complete (suc place) [] here rest first from is = absurd (let none : [] ≡ first ∷ rest = from ∙ is in cc)
get-complete (suc place) (other ∷ tokens) here rest first from is = get-complete place tokens here rest first from is

number_in-is : (t : Token) (value : ℕ) → number_in t ≡ Some value → t ≡ token.Number value
number_in-is (token.Number n) value h = ap token.Number (some_inj n value h)
number_in-is _ value h = cc

word_in-is : (t : Token) (span name : Name) → word_in t span ≡ Some name → (t ≡ token.Word) × (name ≡ span)
word_in-is token.Word span name h = (refl, sym (some_inj span name h))
word_in-is _ span name h = cc

text_in-is : (t : Token) (span name : Name) → text_in t span ≡ Some name → (t ≡ token.Text) × (name ≡ span)
text_in-is token.Text span name h = (refl, sym (some_inj span name h))
text_in-is _ span name h = cc

pub is_mark-is : (byte : ℕ) (t : Token) → is_mark byte t ≡ true → t ≡ token.Punct byte
is_mark-is byte (token.Punct other) h = ap token.Punct (eqb-true other byte h)
is_mark-is byte _ h = cc

pub is_mark-punct : (byte : ℕ) → is_mark byte (token.Punct byte) ≡ true
is_mark-punct byte = eq-eqb byte byte refl

mark_in-is : (byte : ℕ) (found : Option Spanned) → mark_in byte found ≡ true → (first : Spanned) × (found ≡ Some first) × (first.token ≡ token.Punct byte)
mark_in-is byte None h = absurd (false≢true h)
mark_in-is byte (Some first) h = (first, refl, is_mark-is byte first.token h)

-- a number, a word, a text or a mark that is read at a place is spelled there
pub number-sound : (place : ℕ) (tokens : List Spanned) (value : ℕ) → number_at tokens place ≡ Some value → Begins (token.Number value) (drop place tokens) (drop (suc place) tokens)
unfolding number_at
number-sound place tokens value h =
    let found = bind-some (slice_get tokens place) _ value h in
    (found.0, get-sound place tokens found.0 found.1, number_in-is found.0.token value found.2)

pub word-sound : (place : ℕ) (tokens : List Spanned) (name : Name) → word_at tokens place ≡ Some name → BeginsAt token.Word name (drop place tokens) (drop (suc place) tokens)
unfolding word_at
word-sound place tokens name h =
    let found = bind-some (slice_get tokens place) _ name h in
    let is = word_in-is found.0.token (span_of found.0) name found.2 in
    (found.0, get-sound place tokens found.0 found.1, is.0, is.1)

pub text-sound : (place : ℕ) (tokens : List Spanned) (name : Name) → text_at tokens place ≡ Some name → BeginsAt token.Text name (drop place tokens) (drop (suc place) tokens)
unfolding text_at
text-sound place tokens name h =
    let found = bind-some (slice_get tokens place) _ name h in
    let is = text_in-is found.0.token (span_of found.0) name found.2 in
    (found.0, get-sound place tokens found.0 found.1, is.0, is.1)

pub is_mark_at-sound : (place : ℕ) (tokens : List Spanned) (byte : ℕ) → is_mark_at tokens place byte ≡ true → Begins (token.Punct byte) (drop place tokens) (drop (suc place) tokens)
unfolding is_mark_at
is_mark_at-sound place tokens byte h =
    let found = mark_in-is byte (slice_get tokens place) h in
    (found.0, get-sound place tokens found.0 found.1, found.2)

pub mark-sound : (place : ℕ) (tokens : List Spanned) (byte : ℕ) → mark_at tokens place byte ≡ Some tt → Begins (token.Punct byte) (drop place tokens) (drop (suc place) tokens)
unfolding mark_at
mark-sound place tokens byte h =
    let read = test-some (is_mark_at tokens place byte) (Some tt) tt h in
    is_mark_at-sound place tokens byte read.0

-- what is spelled there is read at the place
pub number-complete : (place : ℕ) (tokens here rest : List Spanned) (value : ℕ) → drop place tokens ≡ here → Begins (token.Number value) here rest → (number_at tokens place ≡ Some value) × (drop (suc place) tokens ≡ rest)
unfolding number_at
number-complete place tokens here rest value from one =
    let found = get-complete place tokens here rest one.0 from one.1 in (rw (found.0, one.2) refl, found.1)

pub word-complete : (place : ℕ) (tokens here rest : List Spanned) (name : Name) → drop place tokens ≡ here → BeginsAt token.Word name here rest → (word_at tokens place ≡ Some name) × (drop (suc place) tokens ≡ rest)
unfolding word_at
word-complete place tokens here rest name from one =
    let found = get-complete place tokens here rest one.0 from one.1 in
    (rw (found.0, one.2) (ap Some (sym one.3)), found.1)

pub text-complete : (place : ℕ) (tokens here rest : List Spanned) (name : Name) → drop place tokens ≡ here → BeginsAt token.Text name here rest → (text_at tokens place ≡ Some name) × (drop (suc place) tokens ≡ rest)
unfolding text_at
text-complete place tokens here rest name from one =
    let found = get-complete place tokens here rest one.0 from one.1 in
    (rw (found.0, one.2) (ap Some (sym one.3)), found.1)

pub is_mark_at-complete : (place : ℕ) (tokens here rest : List Spanned) (byte : ℕ) → drop place tokens ≡ here → Begins (token.Punct byte) here rest → (is_mark_at tokens place byte ≡ true) × (drop (suc place) tokens ≡ rest)
unfolding is_mark_at
is_mark_at-complete place tokens here rest byte from one =
    let found = get-complete place tokens here rest one.0 from one.1 in
    (rw (found.0, one.2, is_mark-punct byte) refl, found.1)

pub mark-complete : (place : ℕ) (tokens here rest : List Spanned) (byte : ℕ) → drop place tokens ≡ here → Begins (token.Punct byte) here rest → (mark_at tokens place byte ≡ Some tt) × (drop (suc place) tokens ≡ rest)
unfolding mark_at
mark-complete place tokens here rest byte from one =
    let found = is_mark_at-complete place tokens here rest byte from one in (rw found.0 refl, found.1)

-- the place after the first token is the front of the others
pub is_mark_at-next : (tokens : List Spanned) (place byte : ℕ) → is_mark_at tokens (suc place) byte ≡ is_mark_at (drop 1 tokens) place byte
unfolding is_mark_at
is_mark_at-next [] place byte = refl
is_mark_at-next (first ∷ tokens) place byte = refl

pub mark-next : (tokens : List Spanned) (place byte : ℕ) → mark_at tokens (suc place) byte ≡ mark_at (drop 1 tokens) place byte
unfolding mark_at
mark-next tokens place byte = rw (is_mark_at-next tokens place byte) refl
