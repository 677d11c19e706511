-- A code is one or more bytes from `!` to `~`, no other item has it, and none is `$end`.
use Rattle.std.proofs.Common.{◌≡◌, ℕ, zero, suc, ◌+◌, ◌-◌, ◌/◌, ◌%◌, ◌<◌, ◌≤◌, Bool, true, false, ◌&&◌, List, [], ◌∷◌, length, map, reverse, refl, sym, ap, ◌∙◌, arith, inl, inr, codes}
use Rattle.std.specs.List.{list_all}
use Rattle.std.specs.Int.Digits.{number_from_digits}
use Rattle.std.proofs.lemmas.Bool.{cases_lt, false_from_ne_true}
use Rattle.std.proofs.lemmas.Bool.Decides.{nat_tests}
use Rattle.std.proofs.lemmas.Slice.Eq.{bytes_eq-Decides}
use Rattle.vcd_read.specs.Words.{is_printable, is_end}
use Rattle.vcd_write.specs.Code.{code, code_digits}
use Rattle.vcd_write.proofs.CodeLemmas.{code-small, code-more}
use Rattle.vcd_write.proofs.CodeLaw.{fewest}

pub and-both : (a b : Bool) → a ≡ true → b ≡ true → (a && b) ≡ true
and-both true b p q = q
and-both false b p q = p

pub printable : (b : ℕ) → 33 ≤ b → b ≤ 126 → is_printable b ≡ true
printable b low high = grind (arith, nat_tests)

-- ---- the number of a code
abbrev number_of : List ℕ → ℕ
number_of bytes = number_from_digits 94 (reverse (map (λ byte. byte - 33) bytes))

digits-back : (digits : List ℕ) → map (λ byte. byte - 33) (map (λ digit. 33 + digit) digits) ≡ digits
digits-back [] = refl
digits-back (d ∷ ds) =
    let one : 33 + d - 33 ≡ d = omega arith in
    ap (λ x. x ∷ map (λ byte. byte - 33) (map (λ digit. 33 + digit) ds)) one ∙ ap (λ xs. d ∷ xs) (digits-back ds)

number-back : (k : ℕ) → number_of (code k) ≡ k
unfolding code
number-back k = ap (λ ds. number_from_digits 94 (reverse ds)) (digits-back (code_digits k)) ∙ (fewest k).number

pub code-one : (j k : ℕ) → code j ≡ code k → j ≡ k
code-one j k e = sym (number-back j) ∙ ap number_of e ∙ number-back k

end-number : number_of (codes "$end") ≡ 56335895
end-number = refl

pub code-not_end : (k : ℕ) → k ≤ 1048576 → is_end (code k) ≡ false
code-not_end k few =
    false_from_ne_true (is_end (code k))
    (λ same.
    let e : code k ≡ codes "$end" = (bytes_eq-Decides (code k) (codes "$end")).0 same in
    let n : k ≡ 56335895 = sym (number-back k) ∙ ap number_of e ∙ end-number in
    omega (arith, n, few))

-- ---- its bytes
pub code-some : (k : ℕ) → 1 ≤ length (code k)
code-some k =
    elim (cases_lt k 94) [
      | inl less ↦ let long = ap length (code-small k less) in omega (arith, long)
      | inr more ↦ let long = ap length (code-more k more) in omega (arith, long)
    ]

printable-below : (n k : ℕ) → k < n → list_all is_printable (code k) ≡ true
printable-below zero k h = absurd (omega (arith, h))
printable-below (suc n) k h =
    elim (cases_lt k 94) [
      | inl less ↦ ap (list_all is_printable) (code-small k less) ∙ and-both (is_printable (33 + k)) true (printable (33 + k) (omega arith) (omega arith)) refl
      | inr more ↦
          let digit : k % 94 < 94 = omega arith in
          let less : k / 94 < n = omega arith in
          ap (list_all is_printable) (code-more k more) ∙ and-both (is_printable (33 + k % 94)) (list_all is_printable (code (k / 94))) (printable (33 + k % 94) (omega arith) (omega arith)) (printable-below n (k / 94) less)
    ]

pub code-printable : (k : ℕ) → list_all is_printable (code k) ≡ true
code-printable k = printable-below (suc k) k (omega arith)
