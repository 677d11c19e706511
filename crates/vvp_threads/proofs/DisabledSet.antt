-- The threads that a disable ends are the least set, and so are the scopes that it names.
use Rattle.std.proofs.Common.{◌≡◌, ℕ, zero, suc, ◌+◌, ◌<◌, nat_eq, Bool, true, false, ◌||◌, Option, Some, None, slice_get, List, [], ◌∷◌, filter, refl, sym, ap, ◌∙◌, arith}
use Rattle.vvp_threads.specs.declared.thread.Thread.{Thread}
use Rattle.vvp_threads.specs.Marks.{is_marked, root, below}
use Rattle.vvp_threads.specs.Table.{Table, slot_at, has, live_serials}
use Rattle.vvp_threads.specs.Disable.{parent_scope, scopes_within, is_in_scopes, parent_serial, disabled_marks, disabled_serials, IsWithin, IsDisabled, AreScopes}
use Rattle.vvp_threads.specs.Kept.{ParentsBelow}
use Rattle.vvp_threads.proofs.SlotLemmas.{no_some}
use Rattle.vvp_threads.proofs.QueueLemmas.{or_true, has-filter, nat_eq-same}
use Rattle.vvp_threads.proofs.MarkLemmas.{scope_low}
use Rattle.vvp_threads.proofs.LeastLemmas.{slice_get-within, slice_get-is, marked-reached, reached-marked}
use Rattle.vvp_threads.proofs.DisableLemmas.{has-running_first, filter_keeps}
use Rattle.vvp_threads.proofs.RestLemmas.{AreNumberedFrom, serials_of}

-- ---- scopes

module _ (scope_parents : List ℕ) (tree : AreScopes scope_parents) (scope : ℕ) where
  low_scope : (k p node : ℕ) → slice_get scope_parents k ≡ Some node → parent_scope node ≡ Some p → p < k
  low_scope k p node e f =
      scope_low scope_parents tree scope k p (slice_get-within scope_parents k node e) (ap parent_scope (slice_get-is scope_parents k node 0 e) ∙ f)

  pub within-reached : (inner : ℕ) → is_marked (scopes_within scope_parents scope) inner ≡ true → IsWithin scope_parents scope inner
  within-reached inner e = reached-marked (λ place _. nat_eq place scope) parent_scope scope_parents low_scope inner e

  pub reached-within : (inner : ℕ) → IsWithin scope_parents scope inner → is_marked (scopes_within scope_parents scope) inner ≡ true
  reached-within inner r = marked-reached (λ place _. nat_eq place scope) parent_scope scope_parents low_scope inner r

-- ---- threads

has-live : (first : ℕ) (threads : List (Option Thread)) (k : ℕ) (thread : Thread) → AreNumberedFrom first threads → slot_at threads k ≡ Some thread → has (serials_of threads) (first + k) ≡ true
has-live first [] zero thread at e = absurd (no_some thread e)
has-live first [] (suc k) thread at e = absurd (no_some thread e)
has-live first (None ∷ threads) zero thread at e = absurd (no_some thread e)
has-live first (None ∷ threads) (suc k) thread at e =
    let next : first + suc k ≡ first + 1 + k = omega arith in
    ap (has (serials_of threads)) next ∙ has-live (first + 1) threads k thread (λ j t f. omega (arith, at (suc j) t f)) e
has-live first (Some other ∷ threads) zero thread at e =
    ap (λ s. nat_eq s (first + 0) || has (serials_of threads) (first + 0)) (at 0 other refl) ∙ ap (λ b. b || has (serials_of threads) (first + 0)) (nat_eq-same (first + 0))
has-live first (Some other ∷ threads) (suc k) thread at e =
    let next : first + suc k ≡ first + 1 + k = omega arith in
    ap (λ b. nat_eq other.serial (first + suc k) || b) (ap (has (serials_of threads)) next ∙ has-live (first + 1) threads k thread (λ j t f. omega (arith, at (suc j) t f)) e)
    ∙ or_true (nat_eq other.serial (first + suc k))

module _ (table : Table) (running : ℕ) (scope_parents : List ℕ) (scope : ℕ) (at : AreNumberedFrom 0 table.threads) (down : ParentsBelow table.threads) where
  abbrev is_root : ℕ → Option Thread → Bool
  is_root = is_in_scopes (scopes_within scope_parents scope)

  abbrev chosen : ℕ → Bool
  chosen = is_marked (disabled_marks table.threads scope_parents scope)

  low_serial : (k p : ℕ) (node : Option Thread) → slice_get table.threads k ≡ Some node → parent_serial node ≡ Some p → p < k
  low_serial k p None e f = absurd (no_some p f)
  low_serial k p (Some thread) e f = down k p thread (slice_get-is table.threads k (Some thread) None e) f

  live_node : (k : ℕ) (node : Option Thread) (p : ℕ) → slice_get table.threads k ≡ Some node → parent_serial node ≡ Some p → (thread : Thread) × (slot_at table.threads k ≡ Some thread)
  live_node k None p e f = absurd (no_some p f)
  live_node k (Some thread) p e f = (thread, slice_get-is table.threads k (Some thread) None e)

  live_root : (k : ℕ) (node : Option Thread) → slice_get table.threads k ≡ Some node → is_root k node ≡ true → (thread : Thread) × (slot_at table.threads k ≡ Some thread)
  live_root k None e f = absurd (let never : false ≡ true = f in cc)
  live_root k (Some thread) e f = (thread, slice_get-is table.threads k (Some thread) None e)

  live : (k : ℕ) → IsDisabled table.threads scope_parents scope k → (thread : Thread) × (slot_at table.threads k ≡ Some thread)
  live k (root place node e is) = live_root place node e is
  live k (below place parent node e f r) = live_node place node parent e f

  pub least-ends : (k : ℕ) → has (disabled_serials table running scope_parents scope) k ≡ true → IsDisabled table.threads scope_parents scope k
  least-ends k there =
      let in_some = has-filter chosen (live_serials table) k (sym (has-running_first running (filter chosen (live_serials table)) k) ∙ there) in
      reached-marked is_root parent_serial table.threads low_serial k in_some.1

  pub ends-least : (k : ℕ) → IsDisabled table.threads scope_parents scope k → has (disabled_serials table running scope_parents scope) k ≡ true
  ends-least k r =
      let t = live k r in
      let zeroth : k ≡ 0 + k = omega arith in
      has-running_first running (filter chosen (live_serials table)) k
      ∙ filter_keeps chosen (live_serials table) k (marked-reached is_root parent_serial table.threads low_serial k r)
      ∙ ap (has (serials_of table.threads)) zeroth ∙ has-live 0 table.threads k t.0 at t.1
