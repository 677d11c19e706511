-- Settling, reaching the next time and taking a due keep what is pending on time, and time never falls.
use Rattle.std.proofs.Common.{◌≡◌, ℕ, zero, suc, ◌<◌, ◌≤◌, ◌^◌, Bool, true, false, cond, Some, List, [], ◌∷◌, slice_get, sym, subst, arith}
use Rattle.std.specs.Prelude.{All, filter, min}
use Rattle.std.specs.List.{list_any}
use Rattle.std.proofs.lemmas.List.Elements.{All-nil, All-cons, All-head, All-tail, All-map, All-weaker}
use Rattle.std.proofs.lemmas.Option.{get_or_from_slice_get, slice_get_within}
use Rattle.event_pool.specs.declared.agenda.Due.{Due}
use Rattle.event_pool.specs.declared.agenda.Region.{Region}
use Rattle.event_pool.specs.declared.agenda.Region.TheVariants.{Active, Inactive, Nonblocking}
use Rattle.event_pool.specs.Pending.{Pending}
use Rattle.event_pool.specs.Schedule.{active_dues, earliest, is_active_at, is_due_in, least_time, promote, promoted_due, settled_dues, without_nth}
use Rattle.event_pool.proofs.ScheduleLemmas.{least_time-le}
use Rattle.sym_link.specs.Roots.{Node}
use Rattle.dump_law.specs.Steady.{ArePending, IsOnTime}

-- ---- parts of a list

filter-all : (P : Due → Type 0) (test : Due → Bool) (dues : List Due) → All P dues → All P (filter test dues)
filter-all P test [] all = All-nil P
filter-all P test (due ∷ dues) all = by (filter-all P test dues (All-tail P due dues all)) (test due)
  where
    by : All P (filter test dues) → (passes : Bool) → All P (cond passes (due ∷ filter test dues) (filter test dues))
    by rest true = All-cons P due (filter test dues) (All-head P due dues all) rest
    by rest false = rest

without-all : (P : Due → Type 0) (test : Due → Bool) (k : ℕ) (dues : List Due) → All P dues → All P (without_nth test k dues)
without-all P test k [] all = All-nil P
without-all P test zero (due ∷ dues) all = by (without-all P test zero dues (All-tail P due dues all)) (test due)
  where
    by : All P (without_nth test zero dues) → (passes : Bool) → All P (cond passes dues (due ∷ without_nth test zero dues))
    by rest true = All-tail P due dues all
    by rest false = All-cons P due (without_nth test zero dues) (All-head P due dues all) rest
without-all P test (suc k) (due ∷ dues) all = All-cons P due (without_nth test (cond (test due) k (suc k)) dues) (All-head P due dues all) (without-all P test (cond (test due) k (suc k)) dues (All-tail P due dues all))

element : (P : Due → Type 0) (dues : List Due) (k : ℕ) (due : Due) → All P dues → slice_get dues k ≡ Some due → P due
element P dues k due all at = subst P (get_or_from_slice_get dues k due due at) (all k due (slice_get_within dues k due at))

-- ---- the least time

earliest-most : (time : ℕ) (dues : List Due) → earliest time dues ≤ time
earliest-most time [] = omega arith
earliest-most time (due ∷ dues) = (let rest = earliest-most (min time due.time) dues in omega (arith, rest))

earliest-least : (low time : ℕ) (dues : List Due) → low ≤ time → All (λ (due : Due). low ≤ due.time) dues → low ≤ earliest time dues
earliest-least low time [] le all = le
earliest-least low time (due ∷ dues) le all =
    let here = All-head (λ (d : Due). low ≤ d.time) due dues all in
    earliest-least low (min time due.time) dues (omega (arith, le, here)) (All-tail (λ (d : Due). low ≤ d.time) due dues all)

module _ (nodes : List Node) (now : ℕ) where
  -- a later time to which no due is before
  pub later-on-time : (later : ℕ) (due : Due) → later ≤ due.time → IsOnTime nodes now due → IsOnTime nodes later due
  later-on-time later due le h = record { onward = le; in_time = h.in_time; names = h.names }

  -- ---- settling

  promoted-on-time : (region : Region) (due : Due) → IsOnTime nodes now due → IsOnTime nodes now (promoted_due region now due)
  promoted-on-time region due h = by (is_due_in region now due)
    where
      by : (b : Bool) → IsOnTime nodes now (cond b (record due { region = Active }) due)
      by true = record { onward = h.onward; in_time = h.in_time; names = h.names }
      by false = h

  promote-on-time : (region : Region) (dues : List Due) → All (IsOnTime nodes now) dues → All (IsOnTime nodes now) (promote region now dues)
  promote-on-time region dues all =
      All-map (IsOnTime nodes now) (promoted_due region now) dues (All-weaker (IsOnTime nodes now) (λ due. IsOnTime nodes now (promoted_due region now due)) (promoted-on-time region) dues all)

  settled-on-time : (dues : List Due) → All (IsOnTime nodes now) dues → All (IsOnTime nodes now) (settled_dues now dues)
  settled-on-time dues all = by (list_any (is_active_at now) dues) (list_any (is_due_in Inactive now) dues)
    where
      by : (a b : Bool) → All (IsOnTime nodes now) (cond a dues (cond b (promote Inactive now dues) (promote Nonblocking now dues)))
      by true b = all
      by false true = promote-on-time Inactive dues all
      by false false = promote-on-time Nonblocking dues all

  pub settle-pending : (pending : Pending) → ArePending nodes now pending → ArePending nodes now (record pending { dues = settled_dues pending.now pending.dues })
  settle-pending pending h = record {
    at = h.at;
    dues = subst (λ (n : ℕ). All (IsOnTime nodes now) (settled_dues n pending.dues)) (sym h.at) (settled-on-time pending.dues h.dues);
  }

  -- ---- the next time

  -- the least time isn't before now, and the dues are on time then
  pub record Advances (dues : List Due) : Type 0 where
    pub onward : now ≤ least_time dues
    pub in_time : least_time dues < 2 ^ 64
    pub on_time : All (IsOnTime nodes (least_time dues)) dues

  pub advance-on-time : (due : Due) (dues : List Due) → All (IsOnTime nodes now) (due ∷ dues) → Advances (due ∷ dues)
  advance-on-time due dues all =
      let first = All-head (IsOnTime nodes now) due dues all in
      let rest = All-weaker (IsOnTime nodes now) (λ (d : Due). now ≤ d.time) (λ d h. h.onward) dues (All-tail (IsOnTime nodes now) due dues all) in
      let least : ℕ = least_time (due ∷ dues) in
      let most = earliest-most due.time dues in
      let fits = first.in_time in
      record {
        onward = earliest-least now due.time dues first.onward rest;
        in_time = omega (arith, most, fits);
        on_time = λ k d inside. later-on-time least _ (least_time-le (due ∷ dues) k d inside) (all k d inside);
      }

  -- ---- a due that is taken

  pub taken-pending : (place : ℕ) (pending : Pending) → ArePending nodes now pending → ArePending nodes now (record pending { dues = without_nth (is_active_at pending.now) place pending.dues })
  taken-pending place pending h = record { at = h.at; dues = without-all (IsOnTime nodes now) (is_active_at pending.now) place pending.dues h.dues }

  pub active-on-time : (pending : Pending) (place : ℕ) (due : Due) → ArePending nodes now pending → slice_get (active_dues pending.now pending.dues) place ≡ Some due → IsOnTime nodes now due
  active-on-time pending place due h at = element (IsOnTime nodes now) (active_dues pending.now pending.dues) place due (filter-all (IsOnTime nodes now) (is_active_at pending.now) pending.dues h.dues) at
