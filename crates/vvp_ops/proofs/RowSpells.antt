-- The operands of a row, end to end: what is read is spelled so, and what is spelled so is read.
use Rattle.std.proofs.Common.{◌≡◌, ℕ, zero, suc, ◌≤◌, List, [], ◌∷◌, length, Bool, true, false, not, ◌&&◌, ◌||◌, nat_eq, Option, None, Some, refl, sym, ap, ◌∙◌, subst, if◌then◌else◌, eqb-true, arith}
use Rattle.std.specs.Prelude.{option_and_then}
use Rattle.std.specs.List.{slice_get}
use Rattle.std.proofs.lemmas.Bool.{and_parts, false≢true, eq-eqb}
use Rattle.vvp_lex.specs.declared.types.Spanned.{Spanned}
use Rattle.vvp_ops.specs.declared.table.Kind.{Kind}
use Rattle.vvp_ops.specs.declared.table.Kind.TheVariants as k
use Rattle.vvp_ops.specs.declared.operand.Operand.{Operand}
use Rattle.vvp_ops.specs.declared.operand.Operand.TheVariants as operand
use Rattle.vvp_ops.specs.Operands.{operand_as, operand_at, comma_or_none, tokens_of, operands_at, operands_of}
use Rattle.vvp_ops.specs.Spelled.{AreOperands}
use Rattle.vvp_lex.proofs.FrontLemmas.{some_inj}
use Rattle.vvp_ops.proofs.OperandSpells.{is_absent, operand-sound, operand_at-some, operand_at-absent, first-absent, first-none, first-complete, next-absent, next-none, next-sound, next-complete}

abbrev Values : Type 0
Values = Operand × Operand × Operand

-- how many tokens the operands take, by which of them are absent
abbrev places_for : Bool → Bool → Bool → ℕ
places_for true second third = 0
places_for false true third = 1
places_for false false true = 3
places_for false false false = 5

tokens_of-is : (a b c : Kind) → tokens_of (a, b, c) ≡ places_for (is_absent a) (is_absent b) (is_absent c)
unfolding tokens_of
tokens_of-is k.Absent b c = refl
tokens_of-is _ k.Absent c = refl
tokens_of-is _ _ k.Absent = refl
tokens_of-is _ _ _ = refl

-- what the reader tests
record Read (a b c : Kind) (tokens : List Spanned) (values : Values) : Type 0 where
  count : length tokens ≡ tokens_of (a, b, c)
  comma : comma_or_none (slice_get tokens 1) ≡ true
  second_comma : comma_or_none (slice_get tokens 3) ≡ true
  first : operand_at a tokens 0 ≡ Some values.0
  second : operand_at b tokens 2 ≡ Some values.1
  third : operand_at c tokens 4 ≡ Some values.2

and_then-some : {A B : Type 0} (f : A → Option B) (r : Option A) (y : B) → option_and_then f r ≡ Some y → (x : A) × (r ≡ Some x) × (f x ≡ Some y)
and_then-some f (Some x) y h = (x, refl, h)
and_then-some f None y h = cc

tests-read : (a b c : Kind) (tokens : List Spanned) (values : Values) → operands_of (a, b, c) tokens ≡ Some values → Read a b c tokens values
unfolding operands_of
tests-read a b c tokens values h = by (nat_eq (length tokens) (tokens_of (a, b, c)) && (comma_or_none (slice_get tokens 1) && comma_or_none (slice_get tokens 3))) refl h
  where
    by : (test : Bool) → (nat_eq (length tokens) (tokens_of (a, b, c)) && (comma_or_none (slice_get tokens 1) && comma_or_none (slice_get tokens 3))) ≡ test → (if test then operands_at (a, b, c) tokens else None) ≡ Some values → Read a b c tokens values
    by true e h =
        let parts = and_parts _ _ e in
        let commas = and_parts _ _ parts.1 in
        let first = and_then-some _ (operand_at a tokens 0) values h in
        let second = and_then-some _ (operand_at b tokens 2) values first.2 in
        let third = and_then-some _ (operand_at c tokens 4) values second.2 in
        let same : (first.0, second.0, third.0) ≡ values = some_inj _ values third.2 in
        record {
          count = eqb-true _ _ parts.0;
          comma = commas.0;
          second_comma = commas.1;
          first = first.1 ∙ ap (λ (v : Values). Some v.0) same;
          second = second.1 ∙ ap (λ (v : Values). Some v.1) same;
          third = third.1 ∙ ap (λ (v : Values). Some v.2) same;
        }
    by false e h = cc

read-tests : (a b c : Kind) (tokens : List Spanned) (values : Values) → Read a b c tokens values → operands_of (a, b, c) tokens ≡ Some values
unfolding operands_of
read-tests a b c tokens values r =
    let count : nat_eq (length tokens) (tokens_of (a, b, c)) ≡ true = eq-eqb _ _ r.count in
    rw (count, r.comma, r.second_comma, r.first, r.second, r.third) refl

-- an operand stands at no place past the end
past-end : (kind : Kind) (tokens : List Spanned) (place : ℕ) (found : Operand) → is_absent kind ≡ false → slice_get tokens place ≡ None → operand_at kind tokens place ≡ Some found → ⊥
past-end kind tokens place found some none h =
    let nothing : None ≡ Some found = sym (operand_at-some kind tokens place some ∙ ap (option_and_then (operand_as kind)) none) ∙ h in cc

token-read : (kind : Kind) (tokens : List Spanned) (place : ℕ) (first : Spanned) (found : Operand) → is_absent kind ≡ false → slice_get tokens place ≡ Some first → operand_at kind tokens place ≡ Some found → operand_as kind first ≡ Some found
token-read kind tokens place first found some at h =
    sym (operand_at-some kind tokens place some ∙ ap (option_and_then (operand_as kind)) at) ∙ h

absent-read : (kind : Kind) (tokens : List Spanned) (place : ℕ) (found : Operand) → is_absent kind ≡ true → operand_at kind tokens place ≡ Some found → operand.Absent ≡ found
absent-read kind tokens place found none h =
    some_inj operand.Absent found (sym (operand_at-absent kind tokens place none) ∙ h)

-- the four shapes of a row
no_operand : (a b c : Kind) (tokens : List Spanned) (values : Values) → is_absent a ≡ true → is_absent b ≡ true → is_absent c ≡ true → length tokens ≡ 0 → Read a b c tokens values → AreOperands (a, b, c) tokens values
no_operand a b c [] values na nb nc count r =
    ([], [], first-none a [] values.0 na (absent-read a [] 0 values.0 na r.first), next-none b [] values.1 nb (absent-read b [] 2 values.1 nb r.second), next-none c [] values.2 nc (absent-read c [] 4 values.2 nc r.third))
no_operand a b c (t ∷ tokens) values na nb nc count r = absurd (omega (arith, count))

one_operand : (a b c : Kind) (tokens : List Spanned) (values : Values) → is_absent a ≡ false → is_absent b ≡ true → is_absent c ≡ true → length tokens ≡ 1 → Read a b c tokens values → AreOperands (a, b, c) tokens values
one_operand a b c [] values sa nb nc count r = absurd (omega (arith, count))
one_operand a b c (t ∷ []) values sa nb nc count r =
    ([], [], operand-sound a t [] values.0 (token-read a (t ∷ []) 0 t values.0 sa refl r.first), next-none b [] values.1 nb (absent-read b (t ∷ []) 2 values.1 nb r.second), next-none c [] values.2 nc (absent-read c (t ∷ []) 4 values.2 nc r.third))
one_operand a b c (t ∷ u ∷ tokens) values sa nb nc count r = absurd (omega (arith, count))

two_operands : (a b c : Kind) (tokens : List Spanned) (values : Values) → is_absent a ≡ false → is_absent b ≡ false → is_absent c ≡ true → length tokens ≡ 3 → Read a b c tokens values → AreOperands (a, b, c) tokens values
two_operands a b c [] values sa sb nc count r = absurd (omega (arith, count))
two_operands a b c (t ∷ []) values sa sb nc count r = absurd (omega (arith, count))
two_operands a b c (t ∷ m ∷ []) values sa sb nc count r = absurd (omega (arith, count))
two_operands a b c (t ∷ m ∷ u ∷ []) values sa sb nc count r =
    let all = t ∷ m ∷ u ∷ [] in
    (m ∷ u ∷ [], [], operand-sound a t (m ∷ u ∷ []) values.0 (token-read a all 0 t values.0 sa refl r.first), next-sound b m u [] values.1 sb r.comma (token-read b all 2 u values.1 sb refl r.second), next-none c [] values.2 nc (absent-read c all 4 values.2 nc r.third))
two_operands a b c (t ∷ m ∷ u ∷ n ∷ tokens) values sa sb nc count r = absurd (omega (arith, count))

three_operands : (a b c : Kind) (tokens : List Spanned) (values : Values) → is_absent a ≡ false → is_absent b ≡ false → is_absent c ≡ false → length tokens ≡ 5 → Read a b c tokens values → AreOperands (a, b, c) tokens values
three_operands a b c [] values sa sb sc count r = absurd (omega (arith, count))
three_operands a b c (t ∷ []) values sa sb sc count r = absurd (omega (arith, count))
three_operands a b c (t ∷ m ∷ []) values sa sb sc count r = absurd (omega (arith, count))
three_operands a b c (t ∷ m ∷ u ∷ []) values sa sb sc count r = absurd (omega (arith, count))
three_operands a b c (t ∷ m ∷ u ∷ n ∷ []) values sa sb sc count r = absurd (omega (arith, count))
three_operands a b c (t ∷ m ∷ u ∷ n ∷ v ∷ []) values sa sb sc count r =
    let all = t ∷ m ∷ u ∷ n ∷ v ∷ [] in
    (m ∷ u ∷ n ∷ v ∷ [], n ∷ v ∷ [], operand-sound a t (m ∷ u ∷ n ∷ v ∷ []) values.0 (token-read a all 0 t values.0 sa refl r.first), next-sound b m u (n ∷ v ∷ []) values.1 sb r.comma (token-read b all 2 u values.1 sb refl r.second), next-sound c n v [] values.2 sc r.second_comma (token-read c all 4 v values.2 sc refl r.third))
three_operands a b c (t ∷ m ∷ u ∷ n ∷ v ∷ w ∷ tokens) values sa sb sc count r = absurd (omega (arith, count))

count_for : (a b c : Kind) (tokens : List Spanned) (values : Values) (A B C : Bool) → is_absent a ≡ A → is_absent b ≡ B → is_absent c ≡ C → Read a b c tokens values → length tokens ≡ places_for A B C
count_for a b c tokens values A B C ea eb ec r = r.count ∙ tokens_of-is a b c ∙ rw (ea, eb, ec) refl

no_token : (tokens : List Spanned) (place : ℕ) → length tokens ≤ place → slice_get tokens place ≡ None
no_token [] place short = refl
no_token (t ∷ tokens) zero short = absurd (omega (arith, short))
no_token (t ∷ tokens) (suc place) short = no_token tokens place (omega (arith, short))

by_shape : (a b c : Kind) (tokens : List Spanned) (values : Values) (A B C : Bool) → is_absent a ≡ A → is_absent b ≡ B → is_absent c ≡ C → Read a b c tokens values → AreOperands (a, b, c) tokens values
by_shape a b c tokens values true true true ea eb ec r =
    no_operand a b c tokens values ea eb ec (count_for a b c tokens values true true true ea eb ec r) r
by_shape a b c tokens values true false C ea eb ec r =
    absurd (past-end b tokens 2 values.1 eb (no_token tokens 2 (omega (arith, count_for a b c tokens values true false C ea eb ec r))) r.second)
by_shape a b c tokens values true true false ea eb ec r =
    absurd (past-end c tokens 4 values.2 ec (no_token tokens 4 (omega (arith, count_for a b c tokens values true true false ea eb ec r))) r.third)
by_shape a b c tokens values false true true ea eb ec r =
    one_operand a b c tokens values ea eb ec (count_for a b c tokens values false true true ea eb ec r) r
by_shape a b c tokens values false true false ea eb ec r =
    absurd (past-end c tokens 4 values.2 ec (no_token tokens 4 (omega (arith, count_for a b c tokens values false true false ea eb ec r))) r.third)
by_shape a b c tokens values false false true ea eb ec r =
    two_operands a b c tokens values ea eb ec (count_for a b c tokens values false false true ea eb ec r) r
by_shape a b c tokens values false false false ea eb ec r =
    three_operands a b c tokens values ea eb ec (count_for a b c tokens values false false false ea eb ec r) r

-- the operands that are read are spelled so
pub operands-sound : (kinds : Kind × Kind × Kind) (tokens : List Spanned) (values : Values) → operands_of kinds tokens ≡ Some values → AreOperands kinds tokens values
operands-sound kinds tokens values h =
    by_shape kinds.0 kinds.1 kinds.2 tokens values _ _ _ refl refl refl (tests-read kinds.0 kinds.1 kinds.2 tokens values h)

count_is : (a b c : Kind) (A B C : Bool) → is_absent a ≡ A → is_absent b ≡ B → is_absent c ≡ C → places_for A B C ≡ tokens_of (a, b, c)
count_is a b c A B C ea eb ec = sym (tokens_of-is a b c ∙ rw (ea, eb, ec) refl)

read-absent : (kind : Kind) (tokens : List Spanned) (place : ℕ) (found : Operand) → is_absent kind ≡ true → found ≡ operand.Absent → operand_at kind tokens place ≡ Some found
read-absent kind tokens place found none is = operand_at-absent kind tokens place none ∙ ap Some (sym is)

read-token : (kind : Kind) (tokens : List Spanned) (place : ℕ) (first : Spanned) (found : Operand) → is_absent kind ≡ false → slice_get tokens place ≡ Some first → operand_as kind first ≡ Some found → operand_at kind tokens place ≡ Some found
read-token kind tokens place first found some at read =
    operand_at-some kind tokens place some ∙ ap (option_and_then (operand_as kind)) at ∙ read

-- an operand that is absent has none after it
abbrev pub is_formed : Bool → Bool → Bool → Bool
is_formed first second third = (not first || second) && (not second || third)

by_form : (a b c : Kind) (tokens : List Spanned) (values : Values) (A B C : Bool) → is_absent a ≡ A → is_absent b ≡ B → is_absent c ≡ C → is_formed A B C ≡ true → AreOperands (a, b, c) tokens values → Read a b c tokens values
by_form a b c tokens values true true true ea eb ec formed s =
    let first = first-absent a tokens s.0 values.0 ea s.2 in
    let second = next-absent b s.0 s.1 values.1 eb s.3 in
    let third = next-absent c s.1 [] values.2 ec s.4 in
    let none : tokens ≡ [] = first.0 ∙ second.0 ∙ third.0 in
    subst (λ (all : List Spanned). Read a b c all values) (sym none) (record { count = count_is a b c true true true ea eb ec; comma = refl; second_comma = refl; first = read-absent a [] 0 values.0 ea first.1; second = read-absent b [] 2 values.1 eb second.1; third = read-absent c [] 4 values.2 ec third.1 })
by_form a b c tokens values false true true ea eb ec formed s =
    let first = first-complete a tokens s.0 values.0 ea s.2 in
    let second = next-absent b s.0 s.1 values.1 eb s.3 in
    let third = next-absent c s.1 [] values.2 ec s.4 in
    let all : List Spanned = first.0 ∷ [] in
    let one : tokens ≡ all = first.1 ∙ ap (λ more. first.0 ∷ more) (second.0 ∙ third.0) in
    subst (λ (l : List Spanned). Read a b c l values) (sym one) (record { count = count_is a b c false true true ea eb ec; comma = refl; second_comma = refl; first = read-token a all 0 first.0 values.0 ea refl first.2; second = read-absent b all 2 values.1 eb second.1; third = read-absent c all 4 values.2 ec third.1 })
by_form a b c tokens values false false true ea eb ec formed s =
    let first = first-complete a tokens s.0 values.0 ea s.2 in
    let second = next-complete b s.0 s.1 values.1 eb s.3 in
    let third = next-absent c s.1 [] values.2 ec s.4 in
    let all : List Spanned = first.0 ∷ second.0 ∷ second.1 ∷ [] in
    let two : tokens ≡ all = first.1 ∙ ap (λ more. first.0 ∷ more) (second.2 ∙ ap (λ more. second.0 ∷ second.1 ∷ more) third.0) in
    subst (λ (l : List Spanned). Read a b c l values) (sym two) (record { count = count_is a b c false false true ea eb ec; comma = second.3; second_comma = refl; first = read-token a all 0 first.0 values.0 ea refl first.2; second = read-token b all 2 second.1 values.1 eb refl second.4; third = read-absent c all 4 values.2 ec third.1 })
by_form a b c tokens values false false false ea eb ec formed s =
    let first = first-complete a tokens s.0 values.0 ea s.2 in
    let second = next-complete b s.0 s.1 values.1 eb s.3 in
    let third = next-complete c s.1 [] values.2 ec s.4 in
    let all : List Spanned = first.0 ∷ second.0 ∷ second.1 ∷ third.0 ∷ third.1 ∷ [] in
    let three : tokens ≡ all = first.1 ∙ ap (λ more. first.0 ∷ more) (second.2 ∙ ap (λ more. second.0 ∷ second.1 ∷ more) third.2) in
    subst (λ (l : List Spanned). Read a b c l values) (sym three) (record { count = count_is a b c false false false ea eb ec; comma = second.3; second_comma = third.3; first = read-token a all 0 first.0 values.0 ea refl first.2; second = read-token b all 2 second.1 values.1 eb refl second.4; third = read-token c all 4 third.1 values.2 ec refl third.4 })
by_form a b c tokens values true false C ea eb ec formed s = absurd (false≢true formed)
by_form a b c tokens values true true false ea eb ec formed s = absurd (false≢true formed)
by_form a b c tokens values false true false ea eb ec formed s = absurd (false≢true formed)

-- the operands that are spelled so are read
pub operands-complete : (kinds : Kind × Kind × Kind) (tokens : List Spanned) (values : Values) → is_formed (is_absent kinds.0) (is_absent kinds.1) (is_absent kinds.2) ≡ true → AreOperands kinds tokens values → operands_of kinds tokens ≡ Some values
operands-complete kinds tokens values formed s =
    read-tests kinds.0 kinds.1 kinds.2 tokens values (by_form kinds.0 kinds.1 kinds.2 tokens values _ _ _ refl refl refl formed s)
