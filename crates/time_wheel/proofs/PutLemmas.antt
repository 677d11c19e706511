-- What putting a due does to the queues.
use Rattle.std.proofs.Common.{◌≡◌, ◌≢◌, ℕ, ◌+◌, ◌<◌, ◌⊎◌, inl, inr, true, false, cond, min, nat_eq, List, [], ◌∷◌, ◌++◌, length, get_or, set, map, refl, sym, ap, ◌∙◌, arith, Option, Some}
use Rattle.std.proofs.lemmas.List.{get_or-set_same, get_or-set_other, length-append, map-append}
use Rattle.std.proofs.lemmas.Bool.{cases_eq}
use Rattle.std.proofs.lemmas.Bool.Decides.{nat_tests}
use Rattle.event_pool.specs.declared.agenda.Region.TheVariants.{Active}
use Rattle.event_pool.specs.declared.agenda.Due.{Due}
use Rattle.event_pool.specs.Schedule.{earliest}
use Rattle.time_wheel.specs.TimeWheel.{IsPlaced, joined, activated, shown, least_of}
use Rattle.time_wheel.specs.Queues.{pushed, sooner_of, overflow_time_after}
use Rattle.time_wheel.specs.declared.queues.TheConstants.{ACTIVE, OVERFLOW}
use Rattle.time_wheel.proofs.JoinedLemmas.{length-joined_set}
use Rattle.time_wheel.proofs.StandLemmas.{Stand, stand, ready, idle, far, soon, last}
use Rattle.time_wheel.proofs.ShownLemmas.{shown_active, shown_other, shown-set_active, shown-set_other}

earliest-push : (time : ℕ) (dues : List Due) (due : Due) → earliest time (dues ++ due ∷ []) ≡ min (earliest time dues) due.time
earliest-push time [] due = refl
earliest-push time (x ∷ dues) due = earliest-push (min time x.time) dues due

least_of-push : (dues : List Due) (due : Due) → least_of (dues ++ due ∷ []) ≡ Some (sooner_of (least_of dues) due.time)
least_of-push [] due = refl
least_of-push (x ∷ dues) due = ap Some (earliest-push x.time dues due)

-- the least time of overflow is kept
pub overflow_time-pushed : (later : Option ℕ) (queues : List (List Due)) (q : ℕ) (due : Due) → OVERFLOW < length queues → later ≡ least_of (get_or queues OVERFLOW []) →
    overflow_time_after later q due.time ≡ least_of (get_or (pushed queues q due) OVERFLOW [])
overflow_time-pushed later queues q due long is = go (cases_eq q OVERFLOW) where
  go : (q ≡ OVERFLOW) ⊎ (q ≢ OVERFLOW) → overflow_time_after later q due.time ≡ least_of (get_or (pushed queues q due) OVERFLOW [])
  go (inl same) =
      let there : get_or (pushed queues q due) OVERFLOW [] ≡ get_or queues OVERFLOW [] ++ due ∷ [] =
      ap (λ j. get_or (set queues j (get_or queues j [] ++ due ∷ [])) OVERFLOW []) same ∙ get_or-set_same queues OVERFLOW (get_or queues OVERFLOW [] ++ due ∷ []) [] long in
      let test : nat_eq q OVERFLOW ≡ true = grind (arith, nat_tests) in
      ap (λ b. cond b (Some (sooner_of later due.time)) later) test ∙ ap (λ l. Some (sooner_of l due.time)) is
      ∙ sym (ap least_of there ∙ least_of-push (get_or queues OVERFLOW []) due)
  go (inr other) =
      let test : nat_eq q OVERFLOW ≡ false = grind (arith, nat_tests) in
      let apart : OVERFLOW ≢ q = (λ e. other (sym e)) in
      ap (λ b. cond b (Some (sooner_of later due.time)) later) test ∙ is
      ∙ sym (ap least_of (get_or-set_other queues q OVERFLOW (get_or queues q [] ++ due ∷ []) [] apart))

-- a due in the active queue is Active
pub active_there : (now : ℕ) (due : Due) → IsPlaced now ACTIVE due → due.region ≡ Active
active_there now due p = go (stand now ACTIVE due p) where
  go : Stand now due.time ACTIVE due.region → due.region ≡ Active
  go (ready r t is) = r
  go (idle r t is) = absurd (omega arith)
  go (far r b is) = absurd (omega arith)
  go (soon r l b is) = r
  go (last r l b is) = absurd (omega arith)

pub activated_same : (due : Due) → due.region ≡ Active → activated due ≡ due
activated_same due is = ap (λ r. record due { region = r }) (sym is)

-- the queues as they are shown, after a due was put
pub shown-pushed : (now q : ℕ) (queues : List (List Due)) (due : Due) → ACTIVE < length queues → IsPlaced now q due → shown (pushed queues q due) ≡ pushed (shown queues) q due
shown-pushed now q queues due long placed = go (cases_eq q ACTIVE) where
  go : (q ≡ ACTIVE) ⊎ (q ≢ ACTIVE) → shown (pushed queues q due) ≡ pushed (shown queues) q due
  go (inl same) =
      let region = active_there now due (rw same at placed) in
      ap (λ j. shown (pushed queues j due)) same
      ∙ shown-set_active queues (get_or queues ACTIVE [] ++ due ∷ []) long
      ∙ ap (set (shown queues) ACTIVE) (map-append activated (get_or queues ACTIVE []) (due ∷ []) ∙ ap (λ d. map activated (get_or queues ACTIVE []) ++ d ∷ []) (activated_same due region))
      ∙ ap (λ xs. set (shown queues) ACTIVE (xs ++ due ∷ [])) (sym (shown_active queues long))
      ∙ ap (λ j. pushed (shown queues) j due) (sym same)
  go (inr other) =
      shown-set_other queues q (get_or queues q [] ++ due ∷ []) other
      ∙ ap (λ xs. set (shown queues) q (xs ++ due ∷ [])) (sym (shown_other queues q other))

pub length-pushed : (queues : List (List Due)) (q : ℕ) (due : Due) → q < length queues → length (joined (pushed queues q due)) ≡ length (joined queues) + 1
length-pushed queues q due within =
    omega (arith, length-joined_set queues q (get_or queues q [] ++ due ∷ []) within, length-append (get_or queues q []) (due ∷ []))
