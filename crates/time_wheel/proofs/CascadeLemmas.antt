-- Entering a block: each overflow due goes once from the front to its queue.
use Rattle.std.proofs.Common.{◌≡◌, ◌≢◌, ℕ, ◌+◌, ◌<◌, ◌≤◌, ◌⊎◌, inl, inr, List, [], ◌∷◌, ◌++◌, length, get_or, set, take, drop, refl, sym, ap, subst, ◌∙◌, arith, Option, None}
use Rattle.std.specs.List.{AllByRecursion, All}
use Rattle.std.proofs.lemmas.List.{get_or-set_same, get_or-set_other, length-set, set-set, set_comm, set-get_or, append-nil, append_assoc, drop_more, take_more, take_all, drop_all}
use Rattle.std.proofs.lemmas.Bool.{cases_eq}
use Rattle.event_pool.specs.declared.agenda.Due.{Due}
use Rattle.event_pool.specs.Order.{in_order}
use Rattle.event_pool.specs.Schedule.{IsTimelyAt}
use Rattle.event_pool.proofs.PendingLemmas.{push-same}
use Rattle.time_wheel.specs.TimeWheel.{queue_for, IsPlaced, IsWheel, joined, least_of}
use Rattle.time_wheel.specs.Queues.{pushed, cascaded, overflow_time_cascaded, AreEmpty}
use Rattle.time_wheel.specs.declared.queues.TheConstants.{OVERFLOW, QUEUES}
use Rattle.time_wheel.proofs.JoinedLemmas.{joined-none}
use Rattle.time_wheel.proofs.PlaceLemmas.{put_order, wheel-pushed, queue_for-lt}
use Rattle.time_wheel.proofs.PutLemmas.{overflow_time-pushed}

-- the queues with these dues before those of overflow
abbrev pub with_front : List (List Due) → List Due → List (List Due)
with_front queues dues = set queues OVERFLOW (dues ++ get_or queues OVERFLOW [])

-- the first i of the overflow dues went to their queues, and the others stand before those that came back
pub record IsCascaded (now : ℕ) (dues : List Due) (i : ℕ) (queues : List (List Due)) (later : Option ℕ) : Type 0 where
  pub into : List (List Due)
  pub wheel : IsWheel now into
  pub left : queues ≡ with_front into (drop i dues)
  pub order : in_order (joined into) ≡ in_order (take i dues)
  pub least : later ≡ least_of (get_or into OVERFLOW [])

pub cascaded-start : (now : ℕ) (queues : List (List Due)) → length queues ≡ QUEUES → AreEmpty queues 0 OVERFLOW → IsCascaded now (get_or queues OVERFLOW []) 0 queues None
cascaded-start now queues counted empty = record {
  into = set queues OVERFLOW [];
  wheel = record { counted = length-set queues OVERFLOW [] ∙ counted; placed = λ q within. subst (AllByRecursion (IsPlaced now q)) (sym (none q within (cases_eq q OVERFLOW))) tt };
  left = sym (set-set queues OVERFLOW [] (get_or queues OVERFLOW [] ++ get_or (set queues OVERFLOW []) OVERFLOW [])
      ∙ ap (set queues OVERFLOW) (ap (λ xs. get_or queues OVERFLOW [] ++ xs) (get_or-set_same queues OVERFLOW [] [] (omega arith)) ∙ append-nil (get_or queues OVERFLOW []))
      ∙ set-get_or queues OVERFLOW []);
  order = ap in_order (joined-none (set queues OVERFLOW []) (λ k within. none k (omega (arith, length-set queues OVERFLOW [])) (cases_eq k OVERFLOW)));
  least = sym (ap least_of (get_or-set_same queues OVERFLOW [] [] (omega arith)));
} where
  none : (q : ℕ) → q < QUEUES → (q ≡ OVERFLOW) ⊎ (q ≢ OVERFLOW) → get_or (set queues OVERFLOW []) q [] ≡ []
  none q within (inl same) = ap (λ j. get_or (set queues OVERFLOW []) j []) same ∙ get_or-set_same queues OVERFLOW [] [] (omega arith)
  none q within (inr other) = get_or-set_other queues OVERFLOW q [] [] other ∙ empty q (omega arith) (omega arith)

-- a due that goes to its queue behind the front of overflow
push_behind : (queues : List (List Due)) (dues : List Due) (q : ℕ) (due : Due) → OVERFLOW < length queues → (q ≡ OVERFLOW) ⊎ (q ≢ OVERFLOW) → pushed (with_front queues dues) q due ≡ with_front (pushed queues q due) dues
push_behind queues dues q due long (inl same) =
    let old = get_or queues OVERFLOW [] in
    ap (λ j. pushed (with_front queues dues) j due) same
    ∙ set-set queues OVERFLOW (dues ++ old) (get_or (with_front queues dues) OVERFLOW [] ++ due ∷ [])
    ∙ ap (λ xs. set queues OVERFLOW (xs ++ due ∷ [])) (get_or-set_same queues OVERFLOW (dues ++ old) [] long)
    ∙ ap (set queues OVERFLOW) (append_assoc dues old (due ∷ []))
    ∙ ap (λ xs. set queues OVERFLOW (dues ++ xs)) (sym (get_or-set_same queues OVERFLOW (old ++ due ∷ []) [] long))
    ∙ sym (set-set queues OVERFLOW (old ++ due ∷ []) (dues ++ get_or (pushed queues OVERFLOW due) OVERFLOW []))
    ∙ ap (λ j. with_front (pushed queues j due) dues) (sym same)
push_behind queues dues q due long (inr other) =
    let apart : OVERFLOW ≢ q = (λ e. other (sym e)) in
    let items = get_or queues q [] ++ due ∷ [] in
    ap (λ xs. set (with_front queues dues) q (xs ++ due ∷ [])) (get_or-set_other queues OVERFLOW q (dues ++ get_or queues OVERFLOW []) [] other)
    ∙ set_comm queues OVERFLOW q (dues ++ get_or queues OVERFLOW []) items apart
    ∙ ap (λ xs. set (set queues q items) OVERFLOW (dues ++ xs)) (sym (get_or-set_other queues q OVERFLOW items [] apart))

pub cascaded-more : (now : ℕ) (dues : List Due) (i : ℕ) (queues : List (List Due)) (later : Option ℕ) (d : Due) → i < length dues → IsTimelyAt now (get_or dues i d) → IsCascaded now dues i queues later →
    IsCascaded now dues (i + 1) (cascaded now queues (get_or queues OVERFLOW [])) (overflow_time_cascaded now later (get_or queues OVERFLOW []))
cascaded-more now dues i queues later d within timely p =
    let due = get_or dues i d in
    let rest = drop (i + 1) dues in
    let q = queue_for due.region now due.time in
    let placed : IsPlaced now q due = (timely, refl) in
    let bound = queue_for-lt due.region now due.time in
    let long : OVERFLOW < length p.into = omega (arith, p.wheel.counted) in
    let front : get_or queues OVERFLOW [] ≡ due ∷ (rest ++ get_or p.into OVERFLOW []) =
    ap (λ qs. get_or qs OVERFLOW []) p.left ∙ get_or-set_same p.into OVERFLOW (drop i dues ++ get_or p.into OVERFLOW []) [] long
    ∙ ap (λ xs. xs ++ get_or p.into OVERFLOW []) (drop_more dues i d within) in
    let popped : set queues OVERFLOW (rest ++ get_or p.into OVERFLOW []) ≡ with_front p.into rest =
    ap (λ qs. set qs OVERFLOW (rest ++ get_or p.into OVERFLOW [])) p.left ∙ set-set p.into OVERFLOW (drop i dues ++ get_or p.into OVERFLOW []) (rest ++ get_or p.into OVERFLOW []) in
    record {
      into = pushed p.into q due;
      wheel = wheel-pushed now q p.into due p.wheel placed bound;
      left = ap (cascaded now queues) front ∙ ap (λ qs. pushed qs q due) popped ∙ push_behind p.into rest q due long (cases_eq q OVERFLOW);
      order = put_order now q p.into due p.wheel placed bound ∙ push-same (joined p.into) (take i dues) due p.order ∙ ap in_order (sym (take_more dues i d within));
      least = ap (overflow_time_cascaded now later) front ∙ overflow_time-pushed later p.into q due long p.least;
    }

pub length-cascaded : (now : ℕ) (dues : List Due) (i : ℕ) (queues : List (List Due)) (later : Option ℕ) → IsCascaded now dues i queues later → length queues ≡ QUEUES
length-cascaded now dues i queues later p = ap length p.left ∙ length-set p.into OVERFLOW (drop i dues ++ get_or p.into OVERFLOW []) ∙ p.wheel.counted

-- one iteration
pub cascaded-next : (now : ℕ) (dues : List Due) (i : ℕ) (queues queues' : List (List Due)) (later later' : Option ℕ) → i < length dues → All (IsTimelyAt now) dues → IsCascaded now dues i queues later →
    queues' ≡ cascaded now queues (get_or queues OVERFLOW []) → later' ≡ overflow_time_cascaded now later (get_or queues OVERFLOW []) → IsCascaded now dues (i + 1) queues' later'
cascaded-next now [] i queues queues' later later' within timely p made after = absurd (omega arith)
cascaded-next now (due ∷ dues) i queues queues' later later' within timely p made after =
    subst (λ (qs : List (List Due)). IsCascaded now (due ∷ dues) (i + 1) qs later') (sym made)
    (subst (λ (l : Option ℕ). IsCascaded now (due ∷ dues) (i + 1) (cascaded now queues (get_or queues OVERFLOW [])) l) (sym after)
    (cascaded-more now (due ∷ dues) i queues later due within (timely i due within) p))

-- at the end all are cascaded
pub record AllCascaded (now : ℕ) (dues : List Due) (queues : List (List Due)) (later : Option ℕ) : Type 0 where
  pub wheel : IsWheel now queues
  pub order : in_order (joined queues) ≡ in_order dues
  pub least : later ≡ least_of (get_or queues OVERFLOW [])

pub cascaded-all : (now : ℕ) (dues : List Due) (i : ℕ) (queues : List (List Due)) (later : Option ℕ) → length dues ≤ i → IsCascaded now dues i queues later → AllCascaded now dues queues later
cascaded-all now dues i queues later past p =
    let same : queues ≡ p.into = p.left ∙ ap (with_front p.into) (drop_all i dues past) ∙ set-get_or p.into OVERFLOW [] in
    record {
      wheel = subst (IsWheel now) (sym same) p.wheel;
      order = ap (λ qs. in_order (joined qs)) same ∙ p.order ∙ ap in_order (take_all i dues past);
      least = p.least ∙ ap (λ qs. least_of (get_or qs OVERFLOW [])) (sym same);
    }
