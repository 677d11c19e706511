-- The blocks of the scopes declare every item.
use Rattle.std.proofs.Common.{◌≡◌, ◌≢◌, ℕ, zero, suc, ◌+◌, ◌<◌, ◌≤◌, Bool, true, false, cond, eqb, List, [], ◌∷◌, ◌++◌, length, refl, sym, subst, arith, inl, inr, ◌⊎◌, Some, slice_get, add-zero}
use Rattle.std.specs.Prelude.{All}
use Rattle.std.proofs.lemmas.Bool.{cases_eq, eq-eqb}
use Rattle.std.proofs.lemmas.List.Elements.{All-head, All-tail}
use Rattle.vcd_write.specs.declared.types.TheConstants.{NO_SCOPE}
use Rattle.vcd_write.specs.declared.types.DumpScope.{DumpScope}
use Rattle.vcd_write.specs.declared.types.DumpItem.{DumpItem}
use Rattle.vcd_write.specs.Header.{Piece, held_by, holder_of, size, var_line, var_pieces, scope_block, scope_pieces, AreNested}
use Rattle.vcd_write.proofs.ChainLemmas.{apart}
use Rattle.vcd_law.proofs.BlockLemmas.{IsBlock, IsName, Has, has-left, has-right, block-none, block-append, scope-is}
use Rattle.vcd_law.proofs.VarLemmas.{var-is}

-- ---- the items of the pieces that something holds
-- each piece with its items
abbrev pub held_items : ℕ → List Piece → List (List ℕ) → List ℕ
held_items holder [] marks = []
held_items holder (piece ∷ pieces) [] = []
held_items holder (piece ∷ pieces) (m ∷ marks) = cond (eqb piece.holder holder) m [] ++ held_items holder pieces marks

abbrev pub AreBlocks : List ℕ → List Piece → List (List ℕ) → Type 0
AreBlocks sizes [] marks = Unit {0}
AreBlocks sizes (piece ∷ pieces) [] = ⊥
AreBlocks sizes (piece ∷ pieces) (m ∷ marks) = IsBlock sizes piece.text m × AreBlocks sizes pieces marks

pub held-is : (sizes : List ℕ) (holder : ℕ) (pieces : List Piece) (marks : List (List ℕ)) → AreBlocks sizes pieces marks → IsBlock sizes (held_by holder pieces) (held_items holder pieces marks)
unfolding held_by
held-is sizes holder [] marks h = block-none sizes
held-is sizes holder (piece ∷ pieces) [] h = absurd h
held-is sizes holder (piece ∷ pieces) (m ∷ marks) h =
    block-append sizes (cond (eqb piece.holder holder) piece.text []) (held_by holder pieces) (cond (eqb piece.holder holder) m []) (held_items holder pieces marks)
    (by_holder (eqb piece.holder holder)) (held-is sizes holder pieces marks h.1)
  where
    by_holder : (own : Bool) → IsBlock sizes (cond own piece.text []) (cond own m [])
    by_holder true = h.0
    by_holder false = block-none sizes

-- what a piece's holder has of it
own-items : (piece : Piece) (pieces : List Piece) (m : List ℕ) (marks : List (List ℕ)) (x : ℕ) → Has m x → Has (held_items piece.holder (piece ∷ pieces) (m ∷ marks)) x
own-items piece pieces m marks x h =
    let same : eqb piece.holder piece.holder ≡ true = eq-eqb piece.holder piece.holder refl in
    has-left (cond (eqb piece.holder piece.holder) m []) (held_items piece.holder pieces marks) x (subst (λ b. Has (cond b m []) x) (sym same) h)

-- and of the pieces after it
later-items : (holder : ℕ) (piece : Piece) (pieces : List Piece) (m : List ℕ) (marks : List (List ℕ)) (x : ℕ) → Has (held_items holder pieces marks) x → Has (held_items holder (piece ∷ pieces) (m ∷ marks)) x
later-items holder piece pieces m marks x h = has-right (cond (eqb piece.holder holder) m []) (held_items holder pieces marks) x h

-- ---- items
abbrev pub item_marks : ℕ → List DumpItem → List (List ℕ)
item_marks k [] = []
item_marks k (item ∷ items) = (k ∷ []) ∷ item_marks (suc k) items

-- items from a number on, with these sizes among all
pub record AreItems (sizes : List ℕ) (k : ℕ) (items : List DumpItem) : Type 0 where
  pub here : (i : ℕ) (item : DumpItem) → slice_get items i ≡ Some item → slice_get sizes (k + i) ≡ Some (size item)
  pub few : k + length items ≤ 1048576
  pub most : All (λ item. size item ≤ 128) items
  pub names : All (λ item. IsName item.name) items

next-items : (sizes : List ℕ) (k : ℕ) (item : DumpItem) (items : List DumpItem) → AreItems sizes k (item ∷ items) → AreItems sizes (suc k) items
next-items sizes k item items h = record {
  here = λ i other e.
      let there : slice_get sizes (k + suc i) ≡ Some (size other) = h.here (suc i) other e in
      let next : k + suc i ≡ suc k + i = omega arith in
      subst (λ n. slice_get sizes n ≡ Some (size other)) next there;
  few = (let few = h.few in omega (arith, few));
  most = All-tail (λ x. size x ≤ 128) item items h.most;
  names = All-tail (λ x. IsName x.name) item items h.names;
}

pub items-are : (sizes : List ℕ) (k : ℕ) (items : List DumpItem) → AreItems sizes k items → AreBlocks sizes (var_pieces k items) (item_marks k items)
unfolding var_pieces
items-are sizes k [] h = tt
items-are sizes k (item ∷ items) h =
    let few = h.few in
    let first : slice_get sizes (k + 0) ≡ Some (size item) = h.here 0 item refl in (
      var-is k item (omega (arith, few)) (All-head (λ x. size x ≤ 128) item items h.most) (All-head (λ x. IsName x.name) item items h.names) sizes (subst (λ n. slice_get sizes n ≡ Some (size item)) (add-zero k) first),
      items-are sizes (suc k) items (next-items sizes k item items h),
    )

-- an item stands in a scope
pub record IsUnder (pieces : List Piece) (marks : List (List ℕ)) (scopes x : ℕ) : Type 0 where
  pub scope : ℕ
  pub inside : scope < scopes
  pub has : Has (held_items (suc scope) pieces marks) x

pub item-under : (k i : ℕ) (items : List DumpItem) (scopes : ℕ) → i < length items → All (λ item. item.scope < scopes) items → IsUnder (var_pieces k items) (item_marks k items) scopes (k + i)
unfolding var_pieces
item-under k i [] scopes h all = absurd (omega (arith, h))
item-under k zero (item ∷ items) scopes h all = record {
  scope = item.scope;
  inside = All-head (λ x. x.scope < scopes) item items all;
  has = own-items (record { holder = suc item.scope; text = var_line k item }) (var_pieces (suc k) items) (k ∷ []) (item_marks (suc k) items) (k + 0) (inl (add-zero k));
}
item-under k (suc i) (item ∷ items) scopes h all =
    let rest : IsUnder (var_pieces (suc k) items) (item_marks (suc k) items) scopes (suc k + i) = item-under (suc k) i items scopes (omega (arith, h)) (All-tail (λ x. x.scope < scopes) item items all) in
    let next : suc k + i ≡ k + suc i = omega arith in
    record {
      scope = rest.scope;
      inside = rest.inside;
      has = later-items (suc rest.scope) (record { holder = suc item.scope; text = var_line k item }) (var_pieces (suc k) items) (k ∷ []) (item_marks (suc k) items) (k + suc i) (subst (Has (held_items (suc rest.scope) (var_pieces (suc k) items) (item_marks (suc k) items))) next rest.has);
    }

-- ---- scopes
module _ (vars : List Piece) (var_marks : List (List ℕ)) where
  abbrev pub scope_marks : ℕ → List DumpScope → List (List ℕ)
  scope_marks k [] = []
  scope_marks k (scope ∷ scopes) = (held_items (suc k) vars var_marks ++ held_items (suc k) (scope_pieces vars (suc k) scopes) (scope_marks (suc k) scopes)) ∷ scope_marks (suc k) scopes

  pub scopes-are : (sizes : List ℕ) → AreBlocks sizes vars var_marks → (k : ℕ) (scopes : List DumpScope) → All (λ scope. IsName scope.name) scopes → AreBlocks sizes (scope_pieces vars k scopes) (scope_marks k scopes)
  unfolding scope_pieces
  scopes-are sizes are k [] names = tt
  scopes-are sizes are k (scope ∷ scopes) names =
      let later = scopes-are sizes are (suc k) scopes (All-tail (λ s. IsName s.name) scope scopes names) in
      let own : List ℕ = held_by (suc k) vars in
      let below : List ℕ = held_by (suc k) (scope_pieces vars (suc k) scopes) in
      let own_items : List ℕ = held_items (suc k) vars var_marks in
      let below_items : List ℕ = held_items (suc k) (scope_pieces vars (suc k) scopes) (scope_marks (suc k) scopes) in (
        scope-is sizes scope (own ++ below) (own_items ++ below_items) (All-head (λ s. IsName s.name) scope scopes names)
            (block-append sizes own below own_items below_items (held-is sizes (suc k) vars var_marks are) (held-is sizes (suc k) (scope_pieces vars (suc k) scopes) (scope_marks (suc k) scopes) later)),
        later,
      )

  -- a holder of a low number has an item
  record IsHeld (k x : ℕ) (scopes : List DumpScope) : Type 0 where
    holder : ℕ
    low : holder ≤ k
    has : Has (held_items holder (scope_pieces vars k scopes) (scope_marks k scopes)) x

  holder-low : (parent k : ℕ) → (parent ≡ NO_SCOPE) ⊎ (parent < k) → holder_of parent ≤ k
  holder-low parent k h =
      elim (cases_eq parent NO_SCOPE) [
        | inl none ↦ subst (λ b. cond b 0 (suc parent) ≤ k) (sym (eq-eqb parent NO_SCOPE none)) (omega arith)
        | inr some ↦ subst (λ b. cond b 0 (suc parent) ≤ k) (sym (apart parent NO_SCOPE some)) (below some h)
      ]
    where
      below : parent ≢ NO_SCOPE → (parent ≡ NO_SCOPE) ⊎ (parent < k) → suc parent ≤ k
      below some (inl none) = absurd (some none)
      below some (inr less) = omega (arith, less)

  -- what the scope number k holds, itself or by a scope after it
  held-here : (k x : ℕ) (scope : DumpScope) (scopes : List DumpScope) → (scope.parent ≡ NO_SCOPE) ⊎ (scope.parent < k) → Has (held_items (suc k) vars var_marks ++ held_items (suc k) (scope_pieces vars (suc k) scopes) (scope_marks (suc k) scopes)) x → IsHeld k x (scope ∷ scopes)
  unfolding scope_pieces
  held-here k x scope scopes parent h = record {
    holder = holder_of scope.parent;
    low = holder-low scope.parent k parent;
    has = own-items (record { holder = holder_of scope.parent; text = scope_block scope (held_by (suc k) vars ++ held_by (suc k) (scope_pieces vars (suc k) scopes)) }) (scope_pieces vars (suc k) scopes)
        (held_items (suc k) vars var_marks ++ held_items (suc k) (scope_pieces vars (suc k) scopes) (scope_marks (suc k) scopes)) (scope_marks (suc k) scopes) x h;
  }

  held-later : (k x : ℕ) (scope : DumpScope) (scopes : List DumpScope) (holder : ℕ) → holder ≤ k → Has (held_items holder (scope_pieces vars (suc k) scopes) (scope_marks (suc k) scopes)) x → IsHeld k x (scope ∷ scopes)
  unfolding scope_pieces
  held-later k x scope scopes holder low h = record {
    holder = holder;
    low = low;
    has = later-items holder (record { holder = holder_of scope.parent; text = scope_block scope (held_by (suc k) vars ++ held_by (suc k) (scope_pieces vars (suc k) scopes)) }) (scope_pieces vars (suc k) scopes)
        (held_items (suc k) vars var_marks ++ held_items (suc k) (scope_pieces vars (suc k) scopes) (scope_marks (suc k) scopes)) (scope_marks (suc k) scopes) x h;
  }

  -- from the scope of an item out to a holder below the number k
  held-low : (x s : ℕ) → Has (held_items (suc s) vars var_marks) x → (k : ℕ) (scopes : List DumpScope) → AreNested k scopes → k ≤ s → s < k + length scopes → IsHeld k x scopes
  held-low x s h k [] nested from within = absurd (omega (arith, from, within))
  held-low x s h k (scope ∷ scopes) nested from within =
      elim (cases_eq s k) [
        | inl e ↦
            let own : Has (held_items (suc k) vars var_marks) x = subst (λ n. Has (held_items (suc n) vars var_marks) x) e h in
            held-here k x scope scopes nested.0 (has-left (held_items (suc k) vars var_marks) (held_items (suc k) (scope_pieces vars (suc k) scopes) (scope_marks (suc k) scopes)) x own)
        | inr ne ↦
            let rest : IsHeld (suc k) x scopes = held-low x s h (suc k) scopes nested.1 (omega (arith, from, ne)) (omega (arith, within)) in
            further rest
      ]
    where
      further : IsHeld (suc k) x scopes → IsHeld k x (scope ∷ scopes)
      further rest =
          elim (cases_eq rest.holder (suc k)) [
            | inl e ↦
                let below : Has (held_items (suc k) (scope_pieces vars (suc k) scopes) (scope_marks (suc k) scopes)) x = subst (λ n. Has (held_items n (scope_pieces vars (suc k) scopes) (scope_marks (suc k) scopes)) x) e rest.has in
                held-here k x scope scopes nested.0 (has-right (held_items (suc k) vars var_marks) (held_items (suc k) (scope_pieces vars (suc k) scopes) (scope_marks (suc k) scopes)) x below)
            | inr ne ↦
                let low = rest.low in
                held-later k x scope scopes rest.holder (omega (arith, low, ne)) rest.has
          ]

  -- the dump itself holds each item that stands in a scope
  pub held-all : (x : ℕ) (scopes : List DumpScope) → AreNested 0 scopes → IsUnder vars var_marks (length scopes) x → Has (held_items 0 (scope_pieces vars 0 scopes) (scope_marks 0 scopes)) x
  held-all x scopes nested under =
      let inside = under.inside in
      let found : IsHeld 0 x scopes = held-low x under.scope under.has 0 scopes nested (omega arith) (omega (arith, inside)) in
      let low = found.low in
      let none : found.holder ≡ 0 = omega (arith, low) in
      subst (λ n. Has (held_items n (scope_pieces vars 0 scopes) (scope_marks 0 scopes)) x) none found.has
