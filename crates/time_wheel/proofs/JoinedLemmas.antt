-- Lists of lists, one after another.
use Rattle.std.proofs.Common.{◌≡◌, ◌≢◌, ℕ, zero, suc, ◌+◌, ◌<◌, Bool, List, [], ◌∷◌, ◌++◌, length, get_or, set, replicate, filter, refl, ap, ◌∙◌, arith, slice_get, None}
use Rattle.std.specs.List.{AllByRecursion}
use Rattle.std.proofs.lemmas.List.{append-nil, length-append}
use Rattle.std.proofs.lemmas.List.Elements.{filter-append}
use Rattle.time_wheel.specs.TimeWheel.{joined}

module _ {X : Type 0} where
  -- where no list has an element that passes, none passes
  pub filter-none : (p : X → Bool) (xss : List (List X)) → ((k : ℕ) → k < length xss → filter p (get_or xss k []) ≡ []) → filter p (joined xss) ≡ []
  filter-none p [] none = refl
  filter-none p (xs ∷ xss) none =
      filter-append p xs (joined xss)
      ∙ ap (λ ys. ys ++ filter p (joined xss)) (none 0 (omega arith))
      ∙ filter-none p xss (λ k h. none (suc k) (omega arith))

  -- where one list alone has elements that pass, those pass
  pub filter-only : (p : X → Bool) (xss : List (List X)) (q : ℕ) → ((k : ℕ) → k < length xss → k ≢ q → filter p (get_or xss k []) ≡ []) → filter p (joined xss) ≡ filter p (get_or xss q [])
  filter-only p [] q none = refl
  filter-only p (xs ∷ xss) zero none =
      filter-append p xs (joined xss)
      ∙ ap (λ ys. filter p xs ++ ys) (filter-none p xss (λ k h. none (suc k) (omega arith) (omega arith)))
      ∙ append-nil (filter p xs)
  filter-only p (xs ∷ xss) (suc q) none =
      filter-append p xs (joined xss)
      ∙ ap (λ ys. ys ++ filter p (joined xss)) (none 0 (omega arith) (omega arith))
      ∙ filter-only p xss q (λ k h other. none (suc k) (omega arith) (omega arith))

  -- a write to one list changes the length by its own
  pub length-joined_set : (xss : List (List X)) (q : ℕ) (ys : List X) → q < length xss → length (joined (set xss q ys)) + length (get_or xss q []) ≡ length (joined xss) + length ys
  length-joined_set [] q ys within = absurd (omega arith)
  length-joined_set (xs ∷ xss) zero ys within = omega (arith, length-append ys (joined xss), length-append xs (joined xss))
  length-joined_set (xs ∷ xss) (suc q) ys within =
      omega (arith, length-append xs (joined (set xss q ys)), length-append xs (joined xss), length-joined_set xss q ys (omega arith))

  -- no list is longer than all together
  pub length-joined_at : (xss : List (List X)) (q : ℕ) → length (get_or xss q []) < suc (length (joined xss))
  length-joined_at [] q = omega arith
  length-joined_at (xs ∷ xss) zero = omega (arith, length-append xs (joined xss))
  length-joined_at (xs ∷ xss) (suc q) = omega (arith, length-append xs (joined xss), length-joined_at xss q)

  all_append : (P : X → Type 0) (xs ys : List X) → AllByRecursion P xs → AllByRecursion P ys → AllByRecursion P (xs ++ ys)
  all_append P [] ys a b = b
  all_append P (x ∷ xs) ys a b = (a.0, all_append P xs ys a.1 b)

  all_left : (P : X → Type 0) (xs ys : List X) → AllByRecursion P (xs ++ ys) → AllByRecursion P xs
  all_left P [] ys all = tt
  all_left P (x ∷ xs) ys all = (all.0, all_left P xs ys all.1)

  all_right : (P : X → Type 0) (xs ys : List X) → AllByRecursion P (xs ++ ys) → AllByRecursion P ys
  all_right P [] ys all = all
  all_right P (x ∷ xs) ys all = all_right P xs ys all.1

  -- what holds of each element of each list holds of each of all, and the other way round
  pub all_joined : (P : X → Type 0) (xss : List (List X)) → ((k : ℕ) → k < length xss → AllByRecursion P (get_or xss k [])) → AllByRecursion P (joined xss)
  all_joined P [] each = tt
  all_joined P (xs ∷ xss) each = all_append P xs (joined xss) (each 0 (omega arith)) (all_joined P xss (λ k h. each (suc k) (omega arith)))

  pub all_from_joined : (P : X → Type 0) (xss : List (List X)) → AllByRecursion P (joined xss) → (k : ℕ) → AllByRecursion P (get_or xss k [])
  all_from_joined P [] all k = tt
  all_from_joined P (xs ∷ xss) all zero = all_left P xs (joined xss) all
  all_from_joined P (xs ∷ xss) all (suc k) = all_from_joined P xss (all_right P xs (joined xss) all) k

  -- no lists have an element
  pub joined-replicate : (n : ℕ) → joined {X = X} (replicate n []) ≡ []
  joined-replicate zero = refl
  joined-replicate (suc n) = joined-replicate n

  -- empty lists have no element
  pub joined-none : (xss : List (List X)) → ((k : ℕ) → k < length xss → get_or xss k [] ≡ []) → joined xss ≡ []
  joined-none [] none = refl
  joined-none (xs ∷ xss) none = ap (λ ys. ys ++ joined xss) (none 0 (omega arith)) ∙ joined-none xss (λ k h. none (suc k) (omega arith))

  pub get_or-replicate_none : (n k : ℕ) → get_or {A = List X} (replicate n []) k [] ≡ []
  get_or-replicate_none zero k = refl
  get_or-replicate_none (suc n) zero = refl
  get_or-replicate_none (suc n) (suc k) = get_or-replicate_none n k

  pub all_both : (P Q : X → Type 0) (xs : List X) → AllByRecursion P xs → AllByRecursion Q xs → AllByRecursion (λ x. P x × Q x) xs
  all_both P Q [] a b = tt
  all_both P Q (x ∷ xs) a b = ((a.0, b.0), all_both P Q xs a.1 b.1)

  pub all_weaker : (P Q : X → Type 0) → ((x : X) → P x → Q x) → (xs : List X) → AllByRecursion P xs → AllByRecursion Q xs
  all_weaker P Q f [] all = tt
  all_weaker P Q f (x ∷ xs) all = (f x all.0, all_weaker P Q f xs all.1)

  -- a list whose elements can't be is empty
  pub nil_from_all : (P : X → Type 0) → ((x : X) → P x → ⊥) → (xs : List X) → AllByRecursion P xs → xs ≡ []
  nil_from_all P none [] all = refl
  nil_from_all P none (x ∷ xs) all = absurd (none x all.0)

  pub nil_from_first : (xs : List X) → slice_get xs 0 ≡ None → xs ≡ []
  nil_from_first [] none = refl
  nil_from_first (x ∷ xs) none = cc
