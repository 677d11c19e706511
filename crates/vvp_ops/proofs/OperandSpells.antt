-- The operands of a row: what is read is spelled so, and what is spelled so is read.
use Rattle.std.proofs.Common.{◌≡◌, ℕ, ◌^◌, List, ◌∷◌, Bool, true, false, nat_lt, None, Some, refl, sym, ap, ◌∙◌, subst, if◌then◌else◌}
use Rattle.std.specs.Prelude.{option_and_then}
use Rattle.std.specs.List.{slice_get}
use Rattle.std.proofs.lemmas.Bool.{ltb-true, lt-ltb}
use Rattle.vvp_lex.specs.declared.types.Name.{Name}
use Rattle.vvp_lex.specs.declared.types.Spanned.{Spanned}
use Rattle.vvp_lex.specs.declared.types.Token.{Token}
use Rattle.vvp_lex.specs.declared.types.Token.TheVariants as token
use Rattle.vvp_ops.specs.declared.table.Kind.{Kind}
use Rattle.vvp_ops.specs.declared.table.Kind.TheVariants as k
use Rattle.vvp_ops.specs.declared.operand.Operand.{Operand}
use Rattle.vvp_ops.specs.declared.operand.Operand.TheVariants as operand
use Rattle.vvp_lex.specs.Place.{span_of, is_mark, Begins}
use Rattle.vvp_ops.specs.Operands.{symbol_as, number_as, operand_as, operand_at}
use Rattle.vvp_ops.specs.Spelled.{IsSymbol, IsNumber, IsBelow, IsOperand, IsNext}
use Rattle.vvp_lex.proofs.FrontLemmas.{some_inj, is_mark-is, is_mark-punct}

-- a token of the kind, at the front
abbrev HasOperand : Kind → List Spanned → List Spanned → Operand → Type 0
HasOperand kind tokens rest found =
    (first : Spanned) × (tokens ≡ first ∷ rest) × (operand_as kind first ≡ Some found)

symbol-spelled : (first : Spanned) (rest : List Spanned) (found : Operand) → first.token ≡ token.Word → Some (operand.Symbol (span_of first)) ≡ Some found → IsSymbol (first ∷ rest) rest found
symbol-spelled first rest found word h = (span_of first, (first, refl, word, refl), sym (some_inj _ found h))

number-spelled : (first : Spanned) (rest : List Spanned) (found : Operand) (number : ℕ) → first.token ≡ token.Number number → Some (operand.Number number) ≡ Some found → IsNumber (first ∷ rest) rest found
number-spelled first rest found number is h = (number, (first, refl, is), sym (some_inj _ found h))

below-spelled : (limit : ℕ) (first : Spanned) (rest : List Spanned) (found : Operand) (number : ℕ) → first.token ≡ token.Number number → (if nat_lt number limit then Some (operand.Half number) else None) ≡ Some found → IsBelow limit (first ∷ rest) rest found
below-spelled limit first rest found number is h = by (nat_lt number limit) refl h
  where
    by : (test : Bool) → nat_lt number limit ≡ test → (if test then Some (operand.Half number) else None) ≡ Some found → IsBelow limit (first ∷ rest) rest found
    by true e h = (number, (first, refl, is), ltb-true _ _ e, sym (some_inj _ found h))
    by false e h = cc

word-spelled : (kind : Kind) (first : Spanned) (rest : List Spanned) (found : Operand) → first.token ≡ token.Word → symbol_as kind (span_of first) ≡ Some found → IsOperand kind (first ∷ rest) rest found
word-spelled k.Label first rest found word h = symbol-spelled first rest found word h
word-spelled k.Variable first rest found word h = symbol-spelled first rest found word h
word-spelled k.Array first rest found word h = symbol-spelled first rest found word h
word-spelled k.Signal first rest found word h = symbol-spelled first rest found word h
word-spelled k.Event first rest found word h = symbol-spelled first rest found word h
word-spelled k.Scope first rest found word h = symbol-spelled first rest found word h
word-spelled _ first rest found word h = cc

digits-spelled : (kind : Kind) (first : Spanned) (rest : List Spanned) (found : Operand) (number : ℕ) → first.token ≡ token.Number number → number_as kind number ≡ Some found → IsOperand kind (first ∷ rest) rest found
digits-spelled k.Register first rest found number is h = number-spelled first rest found number is h
digits-spelled k.Flag first rest found number is h = number-spelled first rest found number is h
digits-spelled k.Width first rest found number is h = number-spelled first rest found number is h
digits-spelled k.Number first rest found number is h = number-spelled first rest found number is h
digits-spelled k.Half first rest found number is h = below-spelled (2 ^ 32) first rest found number is h
digits-spelled k.State first rest found number is h = below-spelled 4 first rest found number is h
digits-spelled _ first rest found number is h = cc

-- an operand that is read is spelled so
pub operand-sound : (kind : Kind) (first : Spanned) (rest : List Spanned) (found : Operand) → operand_as kind first ≡ Some found → IsOperand kind (first ∷ rest) rest found
operand-sound kind first rest found h = by first.token refl h
  where
    by : (t : Token) → first.token ≡ t → elim t [ token.Word ↦ symbol_as kind (span_of first) | token.Number number ↦ number_as kind number | _ ↦ None ] ≡ Some found → IsOperand kind (first ∷ rest) rest found
    by token.Word e h = word-spelled kind first rest found e h
    by (token.Number number) e h = digits-spelled kind first rest found number e h
    by _ e h = cc

symbol-read : (kind : Kind) (tokens rest : List Spanned) (found : Operand) → ((name : Name) → symbol_as kind name ≡ Some (operand.Symbol name)) → IsSymbol tokens rest found → HasOperand kind tokens rest found
symbol-read kind tokens rest found reads is =
    (is.1.0, is.1.1, rw is.1.2 (reads (span_of is.1.0) ∙ ap (λ name. Some (operand.Symbol name)) (sym is.1.3) ∙ ap Some (sym is.2)))

number-read : (kind : Kind) (tokens rest : List Spanned) (found : Operand) → ((number : ℕ) → number_as kind number ≡ Some (operand.Number number)) → IsNumber tokens rest found → HasOperand kind tokens rest found
number-read kind tokens rest found reads is = (is.1.0, is.1.1, rw is.1.2 (reads is.0 ∙ ap Some (sym is.2)))

below-read : (kind : Kind) (limit : ℕ) (tokens rest : List Spanned) (found : Operand) → ((number : ℕ) → number_as kind number ≡ (if nat_lt number limit then Some (operand.Half number) else None)) → IsBelow limit tokens rest found → HasOperand kind tokens rest found
below-read kind limit tokens rest found reads is =
    let below : nat_lt is.0 limit ≡ true = lt-ltb _ _ is.2 in
    let read : number_as kind is.0 ≡ Some (operand.Half is.0) = reads is.0 ∙ rw below refl in
    (is.1.0, is.1.1, rw is.1.2 (read ∙ ap Some (sym is.3)))

-- whether the kind is of no operand
abbrev pub is_absent : Kind → Bool
is_absent k.Absent = true
is_absent _ = false

-- an operand that is spelled so is read
operand-complete : (kind : Kind) (tokens rest : List Spanned) (found : Operand) → is_absent kind ≡ false → IsOperand kind tokens rest found → HasOperand kind tokens rest found
operand-complete k.Absent tokens rest found some is = cc
operand-complete k.Label tokens rest found some is = symbol-read k.Label tokens rest found (λ name. refl) is
operand-complete k.Variable tokens rest found some is = symbol-read k.Variable tokens rest found (λ name. refl) is
operand-complete k.Array tokens rest found some is = symbol-read k.Array tokens rest found (λ name. refl) is
operand-complete k.Signal tokens rest found some is = symbol-read k.Signal tokens rest found (λ name. refl) is
operand-complete k.Event tokens rest found some is = symbol-read k.Event tokens rest found (λ name. refl) is
operand-complete k.Scope tokens rest found some is = symbol-read k.Scope tokens rest found (λ name. refl) is
operand-complete k.Register tokens rest found some is = number-read k.Register tokens rest found (λ number. refl) is
operand-complete k.Flag tokens rest found some is = number-read k.Flag tokens rest found (λ number. refl) is
operand-complete k.Width tokens rest found some is = number-read k.Width tokens rest found (λ number. refl) is
operand-complete k.Number tokens rest found some is = number-read k.Number tokens rest found (λ number. refl) is
operand-complete k.Half tokens rest found some is = below-read k.Half (2 ^ 32) tokens rest found (λ number. refl) is
operand-complete k.State tokens rest found some is = below-read k.State 4 tokens rest found (λ number. refl) is

-- at a kind of no operand nothing is spelled
absent-is : (kind : Kind) → is_absent kind ≡ true → kind ≡ k.Absent
absent-is k.Absent none = refl
absent-is _ none = cc

-- at another a token is read
pub operand_at-some : (kind : Kind) (tokens : List Spanned) (place : ℕ) → is_absent kind ≡ false → operand_at kind tokens place ≡ option_and_then (operand_as kind) (slice_get tokens place)
unfolding operand_at
operand_at-some k.Absent tokens place some = cc
operand_at-some _ tokens place some = refl

-- a comma and an operand
next-some : (kind : Kind) (tokens rest : List Spanned) (found : Operand) → is_absent kind ≡ false → IsNext kind tokens rest found ≡ ((after : List Spanned) × Begins (token.Punct 44) tokens after × IsOperand kind after rest found)
next-some k.Absent tokens rest found some = cc
next-some _ tokens rest found some = refl

-- an operand at the front, or none
pub first-absent : (kind : Kind) (tokens rest : List Spanned) (found : Operand) → is_absent kind ≡ true → IsOperand kind tokens rest found → (tokens ≡ rest) × (found ≡ operand.Absent)
first-absent k.Absent tokens rest found none is = is
first-absent _ tokens rest found none is = cc

pub next-absent : (kind : Kind) (tokens rest : List Spanned) (found : Operand) → is_absent kind ≡ true → IsNext kind tokens rest found → (tokens ≡ rest) × (found ≡ operand.Absent)
next-absent k.Absent tokens rest found none is = is
next-absent _ tokens rest found none is = cc

pub first-none : (kind : Kind) (tokens : List Spanned) (found : Operand) → is_absent kind ≡ true → operand.Absent ≡ found → IsOperand kind tokens tokens found
first-none k.Absent tokens found none is = (refl, sym is)
first-none _ tokens found none is = cc

pub next-none : (kind : Kind) (tokens : List Spanned) (found : Operand) → is_absent kind ≡ true → operand.Absent ≡ found → IsNext kind tokens tokens found
next-none k.Absent tokens found none is = (refl, sym is)
next-none _ tokens found none is = cc

pub operand_at-absent : (kind : Kind) (tokens : List Spanned) (place : ℕ) → is_absent kind ≡ true → operand_at kind tokens place ≡ Some operand.Absent
unfolding operand_at
operand_at-absent k.Absent tokens place none = refl
operand_at-absent _ tokens place none = cc

pub next-sound : (kind : Kind) (comma first : Spanned) (rest : List Spanned) (found : Operand) → is_absent kind ≡ false → is_mark 44 comma.token ≡ true → operand_as kind first ≡ Some found → IsNext kind (comma ∷ first ∷ rest) rest found
next-sound kind comma first rest found some mark h =
    subst (λ (T : Type 0). T) (sym (next-some kind (comma ∷ first ∷ rest) rest found some)) (first ∷ rest, (comma, refl, is_mark-is 44 comma.token mark), operand-sound kind first rest found h)

pub next-complete : (kind : Kind) (tokens rest : List Spanned) (found : Operand) → is_absent kind ≡ false → IsNext kind tokens rest found → (comma : Spanned) × (first : Spanned) × (tokens ≡ comma ∷ first ∷ rest) × (is_mark 44 comma.token ≡ true) × (operand_as kind first ≡ Some found)
next-complete kind tokens rest found some is =
    let both = subst (λ (T : Type 0). T) (next-some kind tokens rest found some) is in
    let read = operand-complete kind both.0 rest found some both.2 in
    (both.1.0, read.0, both.1.1 ∙ ap (λ more. both.1.0 ∷ more) read.1, rw both.1.2 (is_mark-punct 44), read.2)

pub first-complete : (kind : Kind) (tokens rest : List Spanned) (found : Operand) → is_absent kind ≡ false → IsOperand kind tokens rest found → HasOperand kind tokens rest found
first-complete kind tokens rest found some is = operand-complete kind tokens rest found some is
