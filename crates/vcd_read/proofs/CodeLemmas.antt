-- The first place of a code in a list of codes, as the list grows.
use Rattle.std.proofs.Common.{◌≡◌, ℕ, ◌+◌, ◌≤◌, List, [], ◌∷◌, ◌++◌, length, refl, sym, ap, ◌∙◌, subst, arith, Bool, true, false, cond, not, eqb, Option, None, Some}
use Rattle.std.specs.Prelude.{position}
use Rattle.std.specs.List.{position_or_len}
use Rattle.std.specs.Map.{update}
use Rattle.std.specs.Str.{bytes_eq}
use Rattle.std.proofs.lemmas.Bool.{true≢false, false_from_ne_true}
use Rattle.std.proofs.lemmas.Bool.Decides.{nat_tests}
use Rattle.std.proofs.lemmas.List.{length-append}
use Rattle.std.proofs.lemmas.List.Folds.{position_or_len_push}
use Rattle.std.proofs.lemmas.List.Sums.{prefix_len-le-length}
use Rattle.std.proofs.lemmas.Slice.Eq.{bytes_eq-Decides}

module _ {X : Type 0} (p : X → Bool) (xs : List X) (y : X) where
  more : length (xs ++ y ∷ []) ≡ length xs + 1
  more = length-append xs (y ∷ [])

  within : position_or_len p xs ≤ length xs
  within = prefix_len-le-length (λ x. not (p x)) xs

  pub position-same : p y ≡ false → position p (xs ++ y ∷ []) ≡ position p xs
  position-same other =
      let push : position_or_len p (xs ++ y ∷ []) ≡ cond (eqb (position_or_len p xs) (length xs)) (length xs + 1) (position_or_len p xs) = rw other at (position_or_len_push p xs y) in
      grind (arith, nat_tests, push, more, within)

  pub position-new : p y ≡ true → position p xs ≡ None → position p (xs ++ y ∷ []) ≡ Some (length xs)
  position-new here none =
      let push : position_or_len p (xs ++ y ∷ []) ≡ cond (eqb (position_or_len p xs) (length xs)) (length xs + 0) (position_or_len p xs) = rw here at (position_or_len_push p xs y) in
      grind (arith, nat_tests, push, more, none, within)

-- a map that has each code at its place has the new code at the next one
pub one-more : (find : List ℕ → Option ℕ) (codes : List (List ℕ)) (code : List ℕ) (net : ℕ) → ((other : List ℕ) → find other ≡ position (bytes_eq other) codes) → net ≡ length codes → position (bytes_eq code) codes ≡ None → (other : List ℕ) → update bytes_eq find code (Some net) other ≡ position (bytes_eq other) (codes ++ code ∷ [])
one-more find codes code net found next fresh other = by_same (bytes_eq code other) refl
  where
    by_same : (same : Bool) → bytes_eq code other ≡ same → cond same (Some net) (find other) ≡ position (bytes_eq other) (codes ++ code ∷ [])
    by_same true e =
        let is : code ≡ other = (bytes_eq-Decides code other).0 e in
        let itself : bytes_eq code code ≡ true = (bytes_eq-Decides code code).1 refl in
        subst (λ word. Some net ≡ position (bytes_eq word) (codes ++ code ∷ [])) is (ap Some next ∙ sym (position-new (bytes_eq code) codes code itself fresh))
    by_same false e =
        let apart : bytes_eq other code ≡ false = false_from_ne_true (bytes_eq other code) (λ same. true≢false (sym ((bytes_eq-Decides code other).1 (sym ((bytes_eq-Decides other code).0 same))) ∙ e)) in
        found other ∙ sym (position-same (bytes_eq other) codes code apart)
