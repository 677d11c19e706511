-- The marks of a forest, node by node.
use Rattle.std.proofs.Common.{◌≡◌, ◌≢◌, ℕ, zero, suc, ◌+◌, ◌<◌, ◌≤◌, nat_eq, Bool, true, false, ◌||◌, cond, Option, Some, None, List, [], ◌∷◌, ◌++◌, length, get_or, refl, sym, ap, ◌∙◌, arith}
use Rattle.std.proofs.lemmas.List.{length-append, get_or_append_left, get_or_push, get_or_past}
use Rattle.std.proofs.lemmas.Bool.Decides.{nat_tests}
use Rattle.vvp_threads.specs.declared.scopes.TheConstants.{NO_SCOPE}
use Rattle.vvp_threads.specs.Marks.{is_marked, is_parent_marked, marks_after, marks_of}
use Rattle.vvp_threads.specs.Disable.{parent_scope, scopes_within, AreScopes}

module _ {X : Type 0} (is_root : ℕ → X → Bool) (parent_of : X → Option ℕ) where
  abbrev after : List Bool → List X → List Bool
  after = marks_after is_root parent_of

  abbrev first_mark : List Bool → X → Bool
  first_mark marks node = is_root (length marks) node || is_parent_marked marks (parent_of node)

  -- what is marked stays
  after-old : (marks : List Bool) (nodes : List X) (k : ℕ) → k < length marks → is_marked (after marks nodes) k ≡ is_marked marks k
  after-old marks [] k h = refl
  after-old marks (node ∷ nodes) k h =
      let more = marks ++ first_mark marks node ∷ [] in
      after-old more nodes k (omega (arith, h, length-append marks (first_mark marks node ∷ []))) ∙ get_or_append_left marks (first_mark marks node ∷ []) false k h

  length-after : (marks : List Bool) (nodes : List X) → length (after marks nodes) ≡ length marks + length nodes
  length-after marks [] = omega arith
  length-after marks (node ∷ nodes) = omega (arith, length-after (marks ++ first_mark marks node ∷ []) nodes, length-append marks (first_mark marks node ∷ []))

  parent_same : (marks : List Bool) (nodes : List X) (parent : Option ℕ) → ((p : ℕ) → parent ≡ Some p → p < length marks) → is_parent_marked marks parent ≡ is_parent_marked (after marks nodes) parent
  parent_same marks nodes None low = refl
  parent_same marks nodes (Some p) low = sym (after-old marks nodes p (low p refl))

  after-at : (marks : List Bool) (nodes : List X) (k at : ℕ) (d : X) → k < length nodes → length marks + k ≡ at → ((p : ℕ) → parent_of (get_or nodes k d) ≡ Some p → p < at)
      → is_marked (after marks nodes) at ≡ is_root at (get_or nodes k d) || is_parent_marked (after marks nodes) (parent_of (get_or nodes k d))
  after-at marks [] k at d h e low = absurd (omega arith)
  after-at marks (node ∷ nodes) zero at d h e low =
      let is : length marks ≡ at = omega (arith, e) in
      let more = marks ++ first_mark marks node ∷ [] in
      let inside : at < length more = omega (arith, is, length-append marks (first_mark marks node ∷ [])) in
      after-old more nodes at inside ∙ get_or_push marks (first_mark marks node) false at is
      ∙ ap (λ n. is_root n node || is_parent_marked marks (parent_of node)) is
      ∙ ap (λ b. is_root at node || b) (parent_same marks (node ∷ nodes) (parent_of node) (λ p f. omega (arith, low p f, is)))
  after-at marks (node ∷ nodes) (suc k) at d h e low =
      after-at (marks ++ first_mark marks node ∷ []) nodes k at d (omega arith) (omega (arith, e, length-append marks (first_mark marks node ∷ []))) low

  -- a node's mark: it is a root, or its parent is marked
  pub marks-at : (nodes : List X) (k : ℕ) (d : X) → k < length nodes → ((p : ℕ) → parent_of (get_or nodes k d) ≡ Some p → p < k)
      → is_marked (marks_of is_root parent_of nodes) k ≡ is_root k (get_or nodes k d) || is_parent_marked (marks_of is_root parent_of nodes) (parent_of (get_or nodes k d))
  unfolding marks_of
  marks-at nodes k d h low = after-at [] nodes k k d h (omega arith) low

  pub marks-past : (nodes : List X) (k : ℕ) → length nodes ≤ k → is_marked (marks_of is_root parent_of nodes) k ≡ false
  unfolding marks_of
  marks-past nodes k h = get_or_past (after [] nodes) k false (omega (arith, h, length-after [] nodes))

module _ (scope_parents : List ℕ) (tree : AreScopes scope_parents) (outer : ℕ) where
  abbrev within : ℕ → Bool
  within = is_marked (scopes_within scope_parents outer)

  pub scope_low : (scope p : ℕ) → scope < length scope_parents → parent_scope (get_or scope_parents scope 0) ≡ Some p → p < scope
  scope_low scope p h e = go (nat_eq (get_or scope_parents scope 0) NO_SCOPE) refl e where
    go : (b : Bool) → nat_eq (get_or scope_parents scope 0) NO_SCOPE ≡ b → cond b None (Some (get_or scope_parents scope 0)) ≡ Some p → p < scope
    go true is f = absurd (let never : None ≡ Some p = f in cc)
    go false is f =
        let same : get_or scope_parents scope 0 ≡ p = (let s : Some (get_or scope_parents scope 0) ≡ Some p = f in cc) in
        let low = tree scope h (λ e. (let yes : nat_eq (get_or scope_parents scope 0) NO_SCOPE ≡ true = ap (λ n. nat_eq n NO_SCOPE) e ∙ refl in (let never : true ≡ false = sym yes ∙ is in cc))) in
        omega arith

  pub within-here : (scope : ℕ) → scope < length scope_parents → scope ≡ outer → within scope ≡ true
  within-here scope h is =
      let yes : nat_eq scope outer ≡ true = grind (arith, nat_tests) in
      marks-at (λ place _. nat_eq place outer) parent_scope scope_parents scope 0 h (λ p e. scope_low scope p h e)
      ∙ ap (λ b. b || is_parent_marked (scopes_within scope_parents outer) (parent_scope (get_or scope_parents scope 0))) yes

  within_parent : (scope : ℕ) → scope < length scope_parents → scope ≢ outer → within scope ≡ is_parent_marked (scopes_within scope_parents outer) (parent_scope (get_or scope_parents scope 0))
  within_parent scope h differ =
      let no_root : nat_eq scope outer ≡ false = grind (arith, nat_tests) in
      marks-at (λ place _. nat_eq place outer) parent_scope scope_parents scope 0 h (λ p e. scope_low scope p h e)
      ∙ ap (λ b. b || is_parent_marked (scopes_within scope_parents outer) (parent_scope (get_or scope_parents scope 0))) no_root

  pub within-top : (scope : ℕ) → scope < length scope_parents → scope ≢ outer → get_or scope_parents scope 0 ≡ NO_SCOPE → within scope ≡ false
  within-top scope h differ top = within_parent scope h differ ∙ ap (λ p. is_parent_marked (scopes_within scope_parents outer) (parent_scope p)) top

  pub within-up : (scope : ℕ) → scope < length scope_parents → scope ≢ outer → get_or scope_parents scope 0 ≢ NO_SCOPE → within scope ≡ within (get_or scope_parents scope 0)
  within-up scope h differ more =
      let not_top : nat_eq (get_or scope_parents scope 0) NO_SCOPE ≡ false = grind (arith, nat_tests) in
      within_parent scope h differ ∙ ap (λ b. is_parent_marked (scopes_within scope_parents outer) (cond b None (Some (get_or scope_parents scope 0)))) not_top

  pub up-lower : (scope : ℕ) → scope < length scope_parents → get_or scope_parents scope 0 ≢ NO_SCOPE → get_or scope_parents scope 0 < scope
  up-lower scope h more = tree scope h more
