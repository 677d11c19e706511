-- What a stable sort by key leaves is the list in order.
use Rattle.std.proofs.Common.{◌≡◌, ℕ, suc, ◌≤◌, Bool, true, false, not, ◌&&◌, cond, nat_eq, nat_lt, List, [], ◌∷◌, refl, sym, ap, ◌∙◌, arith}
use Rattle.std.specs.Ordering.{is_lt, nat_cmp}
use Rattle.std.specs.List.Sorted.{IsSortedByKey, IsStableByKey, IsNonDecreasingBy}
use Rattle.std.specs.declared.cmp.Ordering.TheVariants.{Less, Equal, Greater}
use Rattle.std.proofs.lemmas.Bool.Decides.{nat_tests}
use Rattle.std.proofs.lemmas.List.Elements.{recursion_from_All}
use Rattle.std.proofs.lemmas.List.Sorted.{IsNonDecreasingBy-from_sort}
use Rattle.event_pool.specs.Order.{sorted_by_key}
use Rattle.event_pool.proofs.OrderLemmas.{filter_same, at_key, at_key-sorted, Rises, Rises-sorted, same_when_rising}

is_lt-nat_cmp : (a b : ℕ) → is_lt (nat_cmp a b) ≡ nat_lt a b
is_lt-nat_cmp a b = elim (nat_lt a b) as (λ t. is_lt (cond t Less (cond (nat_eq a b) Equal Greater)) ≡ t) [
  | true ↦ refl
  | false ↦ elim (nat_eq a b) as (λ t. is_lt (cond t Equal Greater) ≡ false) [ true ↦ refl | false ↦ refl ]
]

-- two keys tie where they are one
tie_is_same : (a b : ℕ) → not (is_lt (nat_cmp a b)) && not (is_lt (nat_cmp b a)) ≡ nat_eq b a
tie_is_same a b = rw (is_lt-nat_cmp a b, is_lt-nat_cmp b a) (go (nat_lt a b) (nat_lt b a) refl refl) where
  go : (below above : Bool) → nat_lt a b ≡ below → nat_lt b a ≡ above → not below && not above ≡ nat_eq b a
  go true above is_below is_above = let no : nat_eq b a ≡ false = grind (arith, nat_tests) in sym no
  go false true is_below is_above = let no : nat_eq b a ≡ false = grind (arith, nat_tests) in sym no
  go false false is_below is_above = let yes : nat_eq b a ≡ true = grind (arith, nat_tests) in sym yes

module _ {X : Type 0} (key : X → ℕ) where
  key_of_first : (n : ℕ) (xs : List X) (y : X) (ys : List X) → at_key key n xs ≡ y ∷ ys → key y ≡ n
  key_of_first n [] y ys e = cc
  key_of_first n (x ∷ xs) y ys e = go (nat_eq (key x) n) refl e (key_of_first n xs y ys) where
    go : (b : Bool) → nat_eq (key x) n ≡ b → cond b (x ∷ at_key key n xs) (at_key key n xs) ≡ y ∷ ys → (at_key key n xs ≡ y ∷ ys → key y ≡ n) → key y ≡ n
    go true is e rest =
        let same : y ≡ x = cc in
        let number : key x ≡ n = grind (arith, nat_tests) in
        ap key same ∙ number
    go false is e rest = rest e

  at_key-stable : (xs ys : List X) → IsStableByKey key nat_cmp xs ys → (n : ℕ) → at_key key n ys ≡ at_key key n xs
  at_key-stable xs ys stable n = go (at_key key n ys) (at_key key n xs) refl refl where
    tied : (x : X) → key x ≡ n → at_key key n ys ≡ at_key key n xs
    tied x is =
        let by_tie = λ (y : X). ap (nat_eq (key y)) (sym is) ∙ sym (tie_is_same (key x) (key y)) in
        filter_same _ _ by_tie ys ∙ stable x ∙ sym (filter_same _ _ by_tie xs)

    go : (at_ys at_xs : List X) → at_key key n ys ≡ at_ys → at_key key n xs ≡ at_xs → at_key key n ys ≡ at_key key n xs
    go [] [] y_is x_is = y_is ∙ sym x_is
    go [] (x ∷ rest) y_is x_is = tied x (key_of_first n xs x rest x_is)
    go (y ∷ rest) at_xs y_is x_is = tied y (key_of_first n ys y rest y_is)

  Rises-from_sort : (xs : List X) → IsNonDecreasingBy key xs → Rises key xs
  Rises-from_sort [] up = tt
  Rises-from_sort (x ∷ xs) up = (
    recursion_from_All (λ y. key x ≤ key y) xs (λ k d below. up 0 (suc k) d (omega arith) (omega arith)),
    Rises-from_sort xs (λ i j d le below. up (suc i) (suc j) d (omega arith) (omega arith)),
  )

  pub sorted-from_sort : (xs ys : List X) → IsSortedByKey key nat_cmp ys → IsStableByKey key nat_cmp xs ys → ys ≡ sorted_by_key key xs
  sorted-from_sort xs ys sorted stable =
      same_when_rising key ys (sorted_by_key key xs) (Rises-from_sort ys (IsNonDecreasingBy-from_sort key ys sorted)) (Rises-sorted key xs)
      (λ n. at_key-stable xs ys stable n ∙ sym (at_key-sorted key n xs))
