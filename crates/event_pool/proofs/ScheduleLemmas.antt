-- What settling and going on make of a plain list of dues.
use Rattle.std.proofs.Common.{◌≡◌, ℕ, ◌<◌, ◌≤◌, min, Bool, true, false, List, [], ◌∷◌, cond, refl, sym, ◌∙◌, arith, ◌&&◌, ◌||◌, nat_eq}
use Rattle.std.proofs.lemmas.List.Elements.{All-map, All-weaker, All-from_recursion, recursion_from_All}
use Rattle.std.proofs.lemmas.Bool.Decides.{nat_tests}
use Rattle.std.specs.List.{All, list_any, AllByRecursion}
use Rattle.event_pool.specs.Schedule.{earliest, least_time, promote, is_due_in, is_active_at, promoted_due, settled_dues, IsTimelyAt, region_eq}
use Rattle.event_pool.specs.declared.agenda.Region.{Region}
use Rattle.event_pool.specs.declared.agenda.Region.TheVariants.{Active, Inactive, Nonblocking}
use Rattle.event_pool.specs.declared.agenda.Due.{Due}

or_false : (a b : Bool) → a || b ≡ false → (a ≡ false) × (b ≡ false)
or_false true b e = cc
or_false false b e = (refl, e)

and_true_left : (a b : Bool) → a && b ≡ true → a ≡ true
and_true_left true b e = refl
and_true_left false b e = e

and_true : (a : Bool) → a && true ≡ a
and_true true = refl
and_true false = refl

or_true : (a : Bool) → a || true ≡ true
or_true true = refl
or_true false = refl

or-nil : (a : Bool) → a || false ≡ a
or-nil true = refl
or-nil false = refl

or_regroup : (a b c d : Bool) → (a || b) || (c || d) ≡ (a || c) || (b || d)
or_regroup true b c d = refl
or_regroup false true c d = sym (or_true c)
or_regroup false false c d = refl

-- a due of the region at now is Active at now once promoted, and an Active one stays
promoted-active : (region : Region) (now : ℕ) (due : Due) → is_active_at now (promoted_due region now due) ≡ is_active_at now due || is_due_in region now due
promoted-active region now due = go (is_due_in region now due) refl where
  go : (b : Bool) → is_due_in region now due ≡ b → is_active_at now (cond b (record due { region = Active }) due) ≡ is_active_at now due || b
  go true e = and_true _ ∙ and_true_left _ _ e ∙ sym (or_true _)
  go false e = sym (or-nil _)

any_active-promote : (region : Region) (now : ℕ) (dues : List Due) → list_any (is_active_at now) (promote region now dues) ≡ list_any (is_active_at now) dues || list_any (is_due_in region now) dues
any_active-promote region now [] = refl
any_active-promote region now (due ∷ dues) =
    rw (promoted-active region now due, any_active-promote region now dues) (or_regroup (is_active_at now due) (is_due_in region now due) (list_any (is_active_at now) dues) (list_any (is_due_in region now) dues))

-- a timely due that is in no region at now is later
later_due : (now : ℕ) (due : Due) → IsTimelyAt now due → is_active_at now due ≡ false → is_due_in Inactive now due ≡ false → is_due_in Nonblocking now due ≡ false → now < due.time
later_due now due p a i n = let differs = go due.region (nat_eq due.time now) a i n in grind (arith, nat_tests, differs, p.0) where
  go : (is : Region) (at : Bool) → at && region_eq is Active ≡ false → at && region_eq is Inactive ≡ false → at && region_eq is Nonblocking ≡ false → at ≡ false
  go Active at a i n = sym (and_true at) ∙ a
  go Inactive at a i n = sym (and_true at) ∙ i
  go Nonblocking at a i n = sym (and_true at) ∙ n

none_now_later : (now : ℕ) (dues : List Due) → AllByRecursion (IsTimelyAt now) dues → list_any (is_active_at now) dues ≡ false → list_any (is_due_in Inactive now) dues ≡ false → list_any (is_due_in Nonblocking now) dues ≡ false → AllByRecursion (λ due. now < due.time) dues
none_now_later now [] p a i n = tt
none_now_later now (due ∷ dues) p a i n =
    let a' = or_false _ _ a in let i' = or_false _ _ i in let n' = or_false _ _ n in
    (later_due now due p.0 a'.0 i'.0 n'.0, none_now_later now dues p.1 a'.1 i'.1 n'.1)

promoted-later : (region : Region) (now : ℕ) (due : Due) → now < due.time → now < (promoted_due region now due).time
promoted-later region now due p = elim (is_due_in region now due) as (λ b. now < (cond b (record due { region = Active }) due).time) [ true ↦ p | false ↦ p ]

-- where none is Active at now after settling, all timely dues are later
pub settled-later : (now : ℕ) (dues : List Due) → All (IsTimelyAt now) dues → list_any (is_active_at now) (settled_dues now dues) ≡ false → All (λ due. now < due.time) (settled_dues now dues)
settled-later now dues p h = go _ _ refl refl h where
  go : (b c : Bool) → list_any (is_active_at now) dues ≡ b → list_any (is_due_in Inactive now) dues ≡ c → list_any (is_active_at now) (cond b dues (cond c (promote Inactive now dues) (promote Nonblocking now dues))) ≡ false → All (λ due. now < due.time) (cond b dues (cond c (promote Inactive now dues) (promote Nonblocking now dues)))
  go true c a i none = cc
  go false true a i none = let made = any_active-promote Inactive now dues in cc
  go false false a i none =
      let made = any_active-promote Nonblocking now dues in
      let both = or_false _ _ (sym made ∙ none) in
      let later = none_now_later now dues (recursion_from_All _ dues p) a i both.1 in
      All-map (λ due. now < due.time) (promoted_due Nonblocking now) dues (All-weaker (λ due. now < due.time) (λ due. now < (promoted_due Nonblocking now due).time) (promoted-later Nonblocking now) dues (All-from_recursion (λ due. now < due.time) dues later))

earliest-le : (time : ℕ) (dues : List Due) → earliest time dues ≤ time
earliest-le time [] = omega arith
earliest-le time (due ∷ dues) = omega (arith, earliest-le (min time due.time) dues)

at_least_earliest : (least time : ℕ) (dues : List Due) → least ≤ earliest time dues → AllByRecursion (λ due. least ≤ due.time) dues
at_least_earliest least time [] below = tt
at_least_earliest least time (due ∷ dues) below =
    (omega (arith, earliest-le (min time due.time) dues), at_least_earliest least (min time due.time) dues below)

-- no due is before the least time
pub least_time-le : (dues : List Due) → All (λ due. least_time dues ≤ due.time) dues
least_time-le [] = λ k d below. absurd (omega arith)
least_time-le (due ∷ dues) =
    All-from_recursion (λ d. earliest due.time dues ≤ d.time) (due ∷ dues) (earliest-le due.time dues, at_least_earliest (earliest due.time dues) due.time dues (omega arith))
