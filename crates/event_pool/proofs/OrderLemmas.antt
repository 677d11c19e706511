-- A stable sort is determined by the elements of each key, in their order.
use Rattle.std.proofs.Common.{◌≡◌, ℕ, suc, ◌≤◌, Bool, true, false, cond, nat_eq, nat_lt, List, [], ◌∷◌, ◌++◌, filter, refl, sym, ap, ◌∙◌, arith, append_assoc}
use Rattle.std.specs.List.{AllByRecursion, fold}
use Rattle.std.proofs.lemmas.Bool.Decides.{nat_tests}
use Rattle.std.proofs.lemmas.List.{append-nil}
use Rattle.event_pool.specs.Order.{insert_by_key, sorted_by_key}

pub filter_same : {X : Type 0} (p q : X → Bool) → ((x : X) → p x ≡ q x) → (xs : List X) → filter p xs ≡ filter q xs
filter_same p q e [] = refl
filter_same p q e (x ∷ xs) = rw (e x, filter_same p q e xs) refl

module _ {X : Type 0} (key : X → ℕ) where
  -- the elements of a key
  abbrev pub at_key : ℕ → List X → List X
  at_key n xs = filter (λ x. nat_eq (key x) n) xs

  -- no key falls
  abbrev pub Rises : List X → Type 0
  Rises [] = Unit {0}
  Rises (x ∷ xs) = AllByRecursion (λ y. key x ≤ key y) xs × Rises xs

  pub All-insert : (P : X → Type 0) (x : X) (ys : List X) → P x → AllByRecursion P ys → AllByRecursion P (insert_by_key key x ys)
  All-insert P x [] p all = (p, tt)
  All-insert P x (y ∷ ys) p all =
      elim (nat_lt (key x) (key y)) as (λ b. AllByRecursion P (cond b (x ∷ y ∷ ys) (y ∷ insert_by_key key x ys))) [
        | true ↦ (p, (all.0, all.1))
        | false ↦ (all.0, All-insert P x ys p all.1)
      ]

  weaken : (low lower : ℕ) (xs : List X) → lower ≤ low → AllByRecursion (λ y. low ≤ key y) xs → AllByRecursion (λ y. lower ≤ key y) xs
  weaken low lower [] le all = tt
  weaken low lower (x ∷ xs) le all = (omega (arith, all.0), weaken low lower xs le all.1)

  pub Rises-insert : (x : X) (ys : List X) → Rises ys → Rises (insert_by_key key x ys)
  Rises-insert x [] rises = (tt, tt)
  Rises-insert x (y ∷ ys) rises = go (nat_lt (key x) (key y)) refl (Rises-insert x ys rises.1) where
    go : (b : Bool) → nat_lt (key x) (key y) ≡ b → Rises (insert_by_key key x ys) → Rises (cond b (x ∷ y ∷ ys) (y ∷ insert_by_key key x ys))
    go true is rest = let below : key x ≤ key y = grind (arith, nat_tests) in ((below, weaken (key y) (key x) ys below rises.0), rises)
    go false is rest = let above : key y ≤ key x = grind (arith, nat_tests) in (All-insert (λ z. key y ≤ key z) x ys above rises.0, rest)

  -- no element has a key below all keys
  none_below : (n : ℕ) (xs : List X) → AllByRecursion (λ y. suc n ≤ key y) xs → at_key n xs ≡ []
  none_below n [] all = refl
  none_below n (x ∷ xs) all =
      let first = all.0 in
      let no : nat_eq (key x) n ≡ false = grind (arith, nat_tests) in
      rw no (none_below n xs all.1)

  -- an inserted element is the last of its key
  pub at_key-insert : (n : ℕ) (x : X) (ys : List X) → Rises ys → at_key n (insert_by_key key x ys) ≡ at_key n ys ++ at_key n (x ∷ [])
  at_key-insert n x [] rises = refl
  at_key-insert n x (y ∷ ys) rises = go (nat_lt (key x) (key y)) refl (at_key-insert n x ys rises.1) where
    go : (b : Bool) → nat_lt (key x) (key y) ≡ b → at_key n (insert_by_key key x ys) ≡ at_key n ys ++ at_key n (x ∷ []) → at_key n (cond b (x ∷ y ∷ ys) (y ∷ insert_by_key key x ys)) ≡ at_key n (y ∷ ys) ++ at_key n (x ∷ [])
    go true is rest = here (nat_eq (key x) n) refl where
      here : (c : Bool) → nat_eq (key x) n ≡ c → cond c (x ∷ at_key n (y ∷ ys)) (at_key n (y ∷ ys)) ≡ at_key n (y ∷ ys) ++ cond c (x ∷ []) []
      here true same =
          let above : suc n ≤ key y = grind (arith, nat_tests) in
          let none : at_key n (y ∷ ys) ≡ [] = none_below n (y ∷ ys) (above, weaken (key y) (suc n) ys above rises.0) in
          rw none refl
      here false differ = sym (append-nil (at_key n (y ∷ ys)))
    go false is rest = elim (nat_eq (key y) n) as (λ c. cond c (y ∷ at_key n (insert_by_key key x ys)) (at_key n (insert_by_key key x ys)) ≡ cond c (y ∷ at_key n ys) (at_key n ys) ++ at_key n (x ∷ [])) [
      | true ↦ ap (λ zs. y ∷ zs) rest
      | false ↦ rest
    ]

  Rises-from : (sorted xs : List X) → Rises sorted → Rises (fold (λ s x. insert_by_key key x s) sorted xs)
  Rises-from sorted [] rises = rises
  Rises-from sorted (x ∷ xs) rises = Rises-from (insert_by_key key x sorted) xs (Rises-insert x sorted rises)

  pub Rises-sorted : (xs : List X) → Rises (sorted_by_key key xs)
  Rises-sorted xs = Rises-from [] xs tt

  at_key-from : (n : ℕ) (sorted xs : List X) → Rises sorted → at_key n (fold (λ s x. insert_by_key key x s) sorted xs) ≡ at_key n sorted ++ at_key n xs
  at_key-from n sorted [] rises = sym (append-nil (at_key n sorted))
  at_key-from n sorted (x ∷ xs) rises =
      at_key-from n (insert_by_key key x sorted) xs (Rises-insert x sorted rises)
      ∙ ap (λ ys. ys ++ at_key n xs) (at_key-insert n x sorted rises)
      ∙ append_assoc (at_key n sorted) (at_key n (x ∷ [])) (at_key n xs)
      ∙ ap (λ ys. at_key n sorted ++ ys) (elim (nat_eq (key x) n) as (λ c. cond c (x ∷ []) [] ++ at_key n xs ≡ cond c (x ∷ at_key n xs) (at_key n xs)) [ true ↦ refl | false ↦ refl ])

  -- sorting keeps the elements of each key, in their order
  pub at_key-sorted : (n : ℕ) (xs : List X) → at_key n (sorted_by_key key xs) ≡ at_key n xs
  at_key-sorted n xs = at_key-from n [] xs tt

  at_head : (x : X) (xs : List X) → at_key (key x) (x ∷ xs) ≡ x ∷ at_key (key x) xs
  at_head x xs = let same : nat_eq (key x) (key x) ≡ true = grind (arith, nat_tests) in rw same refl

  not_above : (x y : X) (xs ys : List X) → AllByRecursion (λ z. key y ≤ key z) ys → ((n : ℕ) → at_key n (x ∷ xs) ≡ at_key n (y ∷ ys)) → key y ≤ key x
  not_above x y xs ys low same = go (nat_lt (key x) (key y)) refl where
    go : (b : Bool) → nat_lt (key x) (key y) ≡ b → key y ≤ key x
    go true is =
        let above : suc (key x) ≤ key y = grind (arith, nat_tests) in
        let none : at_key (key x) (y ∷ ys) ≡ [] = none_below (key x) (y ∷ ys) (above, weaken (key y) (suc (key x)) ys above low) in
        let e : x ∷ at_key (key x) xs ≡ [] = sym (at_head x xs) ∙ same (key x) ∙ none in
        cc
    go false is = grind (arith, nat_tests)

  strip : (x y : X) (xs ys : List X) (n : ℕ) (b : Bool) → nat_eq (key x) n ≡ b → nat_eq (key y) n ≡ b → at_key n (x ∷ xs) ≡ at_key n (y ∷ ys) → at_key n xs ≡ at_key n ys
  strip x y xs ys n true ex ey same = let e : x ∷ at_key n xs ≡ y ∷ at_key n ys = rw (ex, ey) at same in cc
  strip x y xs ys n false ex ey same = rw (ex, ey) at same

  -- two lists whose keys do not fall, with the same elements of each key, are one
  pub same_when_rising : (xs ys : List X) → Rises xs → Rises ys → ((n : ℕ) → at_key n xs ≡ at_key n ys) → xs ≡ ys
  same_when_rising [] [] r s same = refl
  same_when_rising [] (y ∷ ys) r s same = let e = same (key y) ∙ at_head y ys in cc
  same_when_rising (x ∷ xs) [] r s same = let e = sym (same (key x)) ∙ at_head x xs in cc
  same_when_rising (x ∷ xs) (y ∷ ys) r s same =
      let one = not_above x y xs ys s.0 same in
      let other = not_above y x ys xs r.0 (λ n. sym (same n)) in
      let keys : key y ≡ key x = omega arith in
      let test : nat_eq (key y) (key x) ≡ true = grind (arith, nat_tests) in
      let heads : x ∷ at_key (key x) xs ≡ y ∷ at_key (key x) ys = sym (at_head x xs) ∙ same (key x) ∙ rw test refl in
      let rest = same_when_rising xs ys r.1 s.1 (λ n. strip x y xs ys n (nat_eq (key x) n) refl (ap (λ k. nat_eq k n) keys) (same n)) in
      let head : x ≡ y = cc in
      cc

  -- lists with the same elements of each key, in their order, are sorted to one list
  pub sorted_same : (xs ys : List X) → ((n : ℕ) → at_key n xs ≡ at_key n ys) → sorted_by_key key xs ≡ sorted_by_key key ys
  sorted_same xs ys same =
      same_when_rising _ _ (Rises-sorted xs) (Rises-sorted ys) (λ n. at_key-sorted n xs ∙ same n ∙ sym (at_key-sorted n ys))
