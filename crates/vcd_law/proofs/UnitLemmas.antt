-- The unit of time is one that the grammar knows.
use Rattle.std.proofs.Common.{◌≡◌, ℕ, zero, suc, ◌+◌, ◌<◌, ◌≤◌, Bool, true, false, ◌&&◌, not, List, ◌++◌, length, refl, sym, ap, ◌∙◌, arith, Option, Some, None, inl, inr}
use Rattle.std.specs.Prelude.{ℤ, pos, negsuc, ◌≤ℤ◌, ◌==◌}
use Rattle.std.specs.List.{list_all, range_with_len}
use Rattle.std.proofs.lemmas.Bool.{true≢false, not-true, cases_eq}
use Rattle.vcd_read.specs.Words.{is_printable, is_end}
use Rattle.vcd_read.specs.Parts.{number_power, unit_power}
use Rattle.vcd_write.specs.Header.{steps_up, amount, unit_name, time_unit}
use Rattle.vcd_law.proofs.WordLemmas.{and-left, and-right, some-length}

-- a number and a unit that the grammar knows
pub record IsUnit (word : List ℕ) : Type 0 where
  pub number : List ℕ
  pub of_unit : List ℕ
  pub power : ℕ
  pub unit : ℤ
  pub spelled : word ≡ number ++ of_unit
  pub number_is : number_power number ≡ Some power
  pub unit_is : unit_power of_unit ≡ Some unit
  pub some : 1 ≤ length word
  pub printed : list_all is_printable word ≡ true
  pub inner : is_end word ≡ false

abbrev is_some : {A : Type 0} → Option A → Bool
is_some None = false
is_some (Some x) = true

the-some : {A : Type 0} (o : Option A) → is_some o ≡ true → (x : A) × (o ≡ Some x)
the-some None e = absurd (true≢false (sym e))
the-some (Some x) e = (x, refl)

abbrev word_of : ℕ → List ℕ
word_of steps = amount steps ++ unit_name steps

abbrev is_known : ℕ → Bool
is_known steps =
    is_some (number_power (amount steps)) && (is_some (unit_power (unit_name steps))
    && (not (length (word_of steps) == 0) && (list_all is_printable (word_of steps) && not (is_end (word_of steps)))))

all-known : list_all is_known (range_with_len 0 18) ≡ true
all-known = refl

known-from : (from n steps : ℕ) → list_all is_known (range_with_len from n) ≡ true → from ≤ steps → steps < from + n → is_known steps ≡ true
known-from from zero steps h low high = absurd (omega (arith, low, high))
known-from from (suc n) steps h low high =
    elim (cases_eq steps from) [
      | inl e ↦ ap is_known e ∙ and-left (is_known from) (list_all is_known (range_with_len (from + 1) n)) h
      | inr ne ↦ known-from (from + 1) n steps (and-right (is_known from) (list_all is_known (range_with_len (from + 1) n)) h) (omega (arith, low, ne)) (omega (arith, high))
    ]

unit-from : (steps : ℕ) → is_known steps ≡ true → IsUnit (word_of steps)
unit-from steps h =
    let word : List ℕ = word_of steps in
    let a : Bool = is_some (number_power (amount steps)) in
    let b : Bool = is_some (unit_power (unit_name steps)) in
    let c : Bool = not (length word == 0) in
    let d : Bool = list_all is_printable word in
    let e : Bool = not (is_end word) in
    let h1 = and-right a (b && (c && (d && e))) h in
    let h2 = and-right b (c && (d && e)) h1 in
    let h3 = and-right c (d && e) h2 in
    let number : (x : ℕ) × (number_power (amount steps) ≡ Some x) = the-some (number_power (amount steps)) (and-left a (b && (c && (d && e))) h) in
    let unit : (x : ℤ) × (unit_power (unit_name steps) ≡ Some x) = the-some (unit_power (unit_name steps)) (and-left b (c && (d && e)) h1) in
    record {
      number = amount steps;
      of_unit = unit_name steps;
      power = number.0;
      unit = unit.0;
      spelled = refl;
      number_is = number.1;
      unit_is = unit.1;
      some = some-length (length word) (and-left c (d && e) h2);
      printed = and-left d e h3;
      inner = not-true (is_end word) (and-right d e h3);
    }

steps-few : (power : ℤ) → negsuc 14 ≤ℤ power → power ≤ℤ pos 2 → steps_up power < 18
steps-few (pos n) low high = grind (arith, low, high)
steps-few (negsuc n) low high = omega arith

pub unit-is : (power : ℤ) → negsuc 14 ≤ℤ power → power ≤ℤ pos 2 → IsUnit (time_unit power)
unfolding time_unit
unit-is power low high = unit-from (steps_up power) (known-from 0 18 (steps_up power) all-known (omega arith) (steps-few power low high))
