-- The front of a list whose elements pass a test.
use Rattle.std.proofs.Common.{◌≡◌, ℕ, suc, ◌≤◌, List, [], ◌∷◌, ◌++◌, length, take, refl, subst, arith, Bool, true, false}
use Rattle.std.specs.List.{prefix_len, list_all}
use Rattle.std.proofs.lemmas.Bool.{and_parts}

-- what passes is in the front
pub passing-front : (p : ℕ → Bool) (xs ys : List ℕ) → list_all p xs ≡ true → length xs ≤ prefix_len p (xs ++ ys)
passing-front p [] ys all = omega arith
passing-front p (x ∷ xs) ys all =
    let parts = and_parts (p x) (list_all p xs) all in
    let later : length xs ≤ prefix_len p (xs ++ ys) = passing-front p xs ys parts.1 in
    rw parts.0 (omega arith)

-- and ends it where the next doesn't pass
pub passing-exact : (p : ℕ → Bool) (xs : List ℕ) (y : ℕ) (ys : List ℕ) → list_all p xs ≡ true → p y ≡ false → prefix_len p (xs ++ (y ∷ ys)) ≡ length xs
passing-exact p [] y ys all stops = rw stops refl
passing-exact p (x ∷ xs) y ys all stops =
    let parts = and_parts (p x) (list_all p xs) all in
    let later : prefix_len p (xs ++ (y ∷ ys)) ≡ length xs = passing-exact p xs y ys parts.1 stops in
    rw parts.0 (omega arith)

-- all of the front passes
pub passing-all : (p : ℕ → Bool) (xs : List ℕ) → list_all p (take (prefix_len p xs) xs) ≡ true
passing-all p [] = refl
passing-all p (x ∷ xs) = by (p x) refl (passing-all p xs)
  where
    by : (t : Bool) → p x ≡ t → list_all p (take (prefix_len p xs) xs) ≡ true → list_all p (take (prefix_len p (x ∷ xs)) (x ∷ xs)) ≡ true
    by true is later =
        let len : suc (prefix_len p xs) ≡ prefix_len p (x ∷ xs) = rw is (omega arith) in
        subst (λ n. list_all p (take n (x ∷ xs)) ≡ true) len (rw is later)
    by false is later = rw is refl
