-- The marks are the least set: a node is marked exactly where it is reached.
use Rattle.std.proofs.Common.{◌≡◌, ℕ, zero, suc, ◌+◌, ◌<◌, ◌≤◌, Bool, true, false, ◌||◌, Option, Some, None, slice_get, List, [], ◌∷◌, length, get_or, refl, sym, ap, ◌∙◌, arith, inl, inr, ◌⊎◌}
use Rattle.std.proofs.lemmas.Bool.{cases_lt}
use Rattle.vvp_threads.specs.Marks.{is_marked, is_parent_marked, marks_of, IsReached, root, below}
use Rattle.vvp_threads.proofs.MarkLemmas.{marks-at, marks-past}
use Rattle.vvp_threads.proofs.QueueLemmas.{either, or_true}

module _ {X : Type 0} where
  pub slice_get-within : (nodes : List X) (k : ℕ) (node : X) → slice_get nodes k ≡ Some node → k < length nodes
  slice_get-within [] k node e = absurd (let never : None ≡ Some node = e in cc)
  slice_get-within (x ∷ nodes) zero node e = omega arith
  slice_get-within (x ∷ nodes) (suc k) node e = let h = slice_get-within nodes k node e in omega arith

  pub slice_get-is : (nodes : List X) (k : ℕ) (node d : X) → slice_get nodes k ≡ Some node → get_or nodes k d ≡ node
  slice_get-is [] k node d e = absurd (let never : None ≡ Some node = e in cc)
  slice_get-is (x ∷ nodes) zero node d e = let same : Some x ≡ Some node = e in cc
  slice_get-is (x ∷ nodes) (suc k) node d e = slice_get-is nodes k node d e

  slice_get-at : (nodes : List X) (k : ℕ) → k < length nodes → (node : X) × (slice_get nodes k ≡ Some node)
  slice_get-at [] k h = absurd (omega arith)
  slice_get-at (x ∷ nodes) zero h = (x, refl)
  slice_get-at (x ∷ nodes) (suc k) h = slice_get-at nodes k (omega arith)

module _ {X : Type 0} (is_root : ℕ → X → Bool) (parent_of : X → Option ℕ) (nodes : List X) (low : (k p : ℕ) (node : X) → slice_get nodes k ≡ Some node → parent_of node ≡ Some p → p < k) where
  abbrev marks : List Bool
  marks = marks_of is_root parent_of nodes

  mark_is : (k : ℕ) (node : X) → slice_get nodes k ≡ Some node → is_marked marks k ≡ is_root k node || is_parent_marked marks (parent_of node)
  mark_is k node e =
      let same = slice_get-is nodes k node node e in
      marks-at is_root parent_of nodes k node (slice_get-within nodes k node e) (λ p f. low k p node e (ap parent_of (sym same) ∙ f))
      ∙ ap (λ n. is_root k n || is_parent_marked marks (parent_of n)) same

  -- what is reached is marked
  pub marked-reached : (k : ℕ) → IsReached is_root parent_of nodes k → is_marked marks k ≡ true
  marked-reached k (root place node e is) = mark_is place node e ∙ ap (λ b. b || is_parent_marked marks (parent_of node)) is
  marked-reached k (below place parent node e has r) =
      mark_is place node e ∙ ap (λ p. is_root place node || is_parent_marked marks p) has ∙ ap (λ b. is_root place node || b) (marked-reached parent r) ∙ or_true (is_root place node)

  -- what is marked is reached
  reached_below : (n k : ℕ) → k < n → is_marked marks k ≡ true → IsReached is_root parent_of nodes k
  reached_below zero k h e = absurd (omega arith)
  reached_below (suc n) k h e = at (cases_lt k (length nodes)) (λ j less f. reached_below n j (omega (arith, h, less)) f) where
    parent : (node : X) → slice_get nodes k ≡ Some node → (p : Option ℕ) → parent_of node ≡ p → is_parent_marked marks p ≡ true → ((j : ℕ) → j < k → is_marked marks j ≡ true → IsReached is_root parent_of nodes j) → IsReached is_root parent_of nodes k
    parent node is None has f again = absurd (let never : false ≡ true = f in cc)
    parent node is (Some p) has f again = below k p node is has (again p (low k p node is has) f)

    cases : (node : X) → slice_get nodes k ≡ Some node → (is_root k node ≡ true) ⊎ (is_parent_marked marks (parent_of node) ≡ true) → ((j : ℕ) → j < k → is_marked marks j ≡ true → IsReached is_root parent_of nodes j) → IsReached is_root parent_of nodes k
    cases node is (inl f) again = root k node is f
    cases node is (inr f) again = parent node is (parent_of node) refl f again

    at : (k < length nodes) ⊎ (length nodes ≤ k) → ((j : ℕ) → j < k → is_marked marks j ≡ true → IsReached is_root parent_of nodes j) → IsReached is_root parent_of nodes k
    at (inr past) again = absurd (let never : false ≡ true = sym (marks-past is_root parent_of nodes k past) ∙ e in cc)
    at (inl within) again =
        let node = slice_get-at nodes k within in
        cases node.0 node.1 (either (is_root k node.0) (is_parent_marked marks (parent_of node.0)) (sym (mark_is k node.0 node.1) ∙ e)) again

  pub reached-marked : (k : ℕ) → is_marked marks k ≡ true → IsReached is_root parent_of nodes k
  reached-marked k e = reached_below (k + 1) k (omega arith) e
