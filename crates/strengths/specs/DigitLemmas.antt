-- What a test of every choice of binary digits says of each choice.
use Rattle.std.proofs.Common.{◌≡◌, ℕ, zero, suc, ◌<◌, Bool, true, false, ◌&&◌, refl, arith}

and_left : (a b : Bool) → (a && b) ≡ true → a ≡ true
and_left true b e = refl
and_left false b e = e

and_right : (a b : Bool) → (a && b) ≡ true → b ≡ true
and_right true b e = e
and_right false b e = absurd (cc)

abbrev pub both : (ℕ → Bool) → Bool
both test = test 0 && test 1

at_both : (test : ℕ → Bool) → both test ≡ true → (n : ℕ) → n < 2 → test n ≡ true
at_both test e zero h = and_left (test 0) (test 1) e
at_both test e (suc zero) h = and_right (test 0) (test 1) e
at_both test e (suc (suc n)) h = absurd (omega arith)

abbrev pub all_four : (ℕ → ℕ → ℕ → ℕ → Bool) → Bool
all_four test = both (λ a. both (λ b. both (λ c. both (λ d. test a b c d))))

pub at_four : (test : ℕ → ℕ → ℕ → ℕ → Bool) → all_four test ≡ true → (a b c d : ℕ) → a < 2 → b < 2 → c < 2 → d < 2 → test a b c d ≡ true
at_four test e a b c d p q r s =
    at_both (λ d. test a b c d)
    (at_both (λ c. both (λ d. test a b c d))
    (at_both (λ b. both (λ c. both (λ d. test a b c d)))
    (at_both (λ a. both (λ b. both (λ c. both (λ d. test a b c d)))) e a p)
    b q)
    c r)
    d s

abbrev pub all_eight : (ℕ → ℕ → ℕ → ℕ → ℕ → ℕ → ℕ → ℕ → Bool) → Bool
all_eight test = all_four (λ a b c d. all_four (λ e f g h. test a b c d e f g h))

pub at_eight : (test : ℕ → ℕ → ℕ → ℕ → ℕ → ℕ → ℕ → ℕ → Bool) → all_eight test ≡ true → (a b c d e f g h : ℕ)
    → a < 2 → b < 2 → c < 2 → d < 2 → e < 2 → f < 2 → g < 2 → h < 2 → test a b c d e f g h ≡ true
at_eight test check a b c d e f g h p q r s t u v w =
    at_four (λ e f g h. test a b c d e f g h) (at_four (λ a b c d. all_four (λ e f g h. test a b c d e f g h)) check a b c d p q r s) e f g h t u v w
