-- Runs of several steps.
use Rattle.std.proofs.Common.{◌≡◌, ◌≤◌, ◌+◌, ◌-◌, ℕ, zero, suc, Bool, true, false, cond, Option, Some, None, List, [], ◌∷◌, ◌++◌, length, refl, sym, ◌∙◌, ap, subst, arith}
use Rattle.event_pool.specs.declared.agenda.Due.{Due}
use Rattle.event_pool.proofs.FollowLemmas.{length-shown}
use Rattle.sys_tasks.specs.Conditions.{IsBetween}
use Rattle.sym_link.specs.declared.program.Program.{Program}
use Rattle.sim_core.specs.declared.ending.Ending.{Ending}
use Rattle.sim_core.specs.Machine.{Machine, dues_of, phase}
use Rattle.sim_core.specs.Step.{after, budgeted, choice_of, idle, is_idle, is_idle_at, ready, run_from, step, take_at}
use Rattle.sim_core.specs.Engine.{EngineFails, EngineFollows, Shown, in_turn_of_machine, with_sent}
use Rattle.sim_core.proofs.StepLemmas.{after-more, after-none, after-stays, step-takes}
use Rattle.sim_core.proofs.SentLemmas.{budgeted-after, step-after}
use Rattle.sim_core.proofs.FailLemmas.{After, added, between-before, between-more, emptied}

-- ---- what was handed over

pub after-sent : (program : Program) (order count : ℕ) → After (after program order count)
after-sent program order zero sent machine = refl
after-sent program order (suc count) sent machine = ap (step program order) (after-sent program order count sent machine) ∙ step-after program order sent (after program order count machine)

pub after-sum : (program : Program) (order more count : ℕ) (machine : Machine) → after program order (more + count) machine ≡ after program order more (after program order count machine)
after-sum program order zero count machine = let none : 0 + count ≡ count = omega arith in ap (λ (n : ℕ). after program order n machine) none
after-sum program order (suc more) count machine =
    let one : suc more + count ≡ suc (more + count) = omega arith in
    ap (λ (n : ℕ). after program order n machine) one ∙ ap (step program order) (after-sum program order more count machine)

-- ---- following

pub engine-none : (program : Program) (order : ℕ) (old : Shown) → EngineFollows (after program order 0) old old
engine-none program order old = record { machine = λ sent. after-none program order (with_sent sent old.machine); program = refl; order = refl; failed = refl }

pub engine-more : (program : Program) (order count : ℕ) (old mid new : Shown) → EngineFollows (after program order count) old mid → EngineFollows (step program order) mid new
    → EngineFollows (after program order (count + 1)) old new
engine-more program order count old mid new h k =
    let one : suc count ≡ count + 1 = omega arith in
    subst (λ (n : ℕ). EngineFollows (after program order n) old new) one (record {
      machine = λ sent. after-more program order count (with_sent sent old.machine) (with_sent sent mid.machine) (with_sent sent new.machine) (h.machine sent) (k.machine sent);
      program = k.program ∙ h.program;
      order = k.order ∙ h.order;
      failed = k.failed ∙ h.failed;
    })

-- ---- being idle

ended-not_idle : (running : Option ℕ) (dues : List Due) (ending : Ending) → is_idle_at running dues (Some ending) ≡ false
ended-not_idle None [] ending = refl
ended-not_idle None (due ∷ dues) ending = refl
ended-not_idle (Some serial) dues ending = refl

idle-same : (running : Option ℕ) (xs ys : List Due) (ending : Option Ending) → length xs ≡ length ys → is_idle_at running xs ending ≡ is_idle_at running ys ending
idle-same None [] [] ending e = refl
idle-same None (x ∷ xs) (y ∷ ys) ending e = refl
idle-same None [] (y ∷ ys) ending e = absurd (let none : ⊥ = omega (arith, e) in none)
idle-same None (x ∷ xs) [] ending e = absurd (let none : ⊥ = omega (arith, e) in none)
idle-same (Some serial) xs ys ending e = refl

idle-shown : (machine shown : Machine) → in_turn_of_machine machine ≡ shown → is_idle machine ≡ is_idle shown
idle-shown machine shown e =
    ap (λ (m : Machine). is_idle_at m.running (dues_of machine) m.ending) e
    ∙ idle-same shown.running (dues_of machine) (dues_of shown) shown.ending (length-shown machine.state.pending shown.state.pending (ap (λ (m : Machine). m.state.pending) e))

budgeted-stays : (program : Program) (machine : Machine) → is_idle machine ≡ false → budgeted program machine ≡ machine
budgeted-stays program machine none = ap (λ (b : Bool). cond b (idle (phase program machine)) machine) none

idle-parts : (running : Option ℕ) (dues : List Due) (ending : Option Ending) → is_idle_at running dues ending ≡ true → (running ≡ None) × (dues ≡ []) × (ending ≡ None)
idle-parts None [] None h = (refl, refl, refl)
idle-parts None [] (Some ending) h = absurd (let none : ⊥ = cc in none)
idle-parts None (due ∷ dues) ending h = absurd (let none : ⊥ = cc in none)
idle-parts (Some serial) dues ending h = absurd (let none : ⊥ = cc in none)

with_dues : List Due → Machine → Machine
with_dues dues machine = record machine { state = record machine.state { pending = record machine.state.pending { dues = dues } } }

found-none : (program : Program) (order : ℕ) (machine : Machine) → take_at program (choice_of order (ready program (with_dues [] machine))) (ready program (with_dues [] machine)) ≡ idle (phase program (with_dues [] machine))
unfolding with_dues
found-none program order machine = refl

-- the step of a machine with nothing left to do is that of a budget's end
idle-step : (program : Program) (order : ℕ) (machine : Machine) → is_idle machine ≡ true → step program order machine ≡ budgeted program machine
unfolding with_dues
idle-step program order machine is =
    let parts = idle-parts machine.running (dues_of machine) machine.ending is in
    let empty : with_dues [] machine ≡ machine = ap (λ (dues : List Due). with_dues dues machine) (sym parts.1) in
    let found : take_at program (choice_of order (ready program machine)) (ready program machine) ≡ idle (phase program machine) =
    subst (λ (m : Machine). take_at program (choice_of order (ready program m)) (ready program m) ≡ idle (phase program m)) empty (found-none program order machine) in
    let over : budgeted program machine ≡ idle (phase program machine) = ap (λ (b : Bool). cond b (idle (phase program machine)) machine) is in
    step-takes program order machine parts.2 parts.0 ∙ found ∙ sym over

-- ---- runs of a budget

-- the run that ended early
pub run-ended : (program : Program) (order count budget : ℕ) (ending : Ending) (old new : Shown) → count ≤ budget → EngineFollows (after program order count) old new
    → new.machine.ending ≡ Some ending → EngineFollows (run_from program order budget) old new
run-ended program order count budget ending old new within h ended = record {
  machine = λ sent. record {
    shown = λ machine e.
        let end : Machine = after program order count machine in
        let agree : in_turn_of_machine end ≡ with_sent sent new.machine = (h.machine sent).shown machine e in
        let there : end.ending ≡ Some ending = ap (λ (m : Machine). m.ending) agree ∙ ended in
        let all : budget ≡ (budget - count) + count = omega arith in
        let same : after program order budget machine ≡ end = ap (λ (n : ℕ). after program order n machine) all ∙ after-stays program order count (budget - count) ending machine there in
        let busy : is_idle end ≡ false = ap (λ (o : Option Ending). is_idle_at end.running (dues_of end) o) there ∙ ended-not_idle end.running (dues_of end) ending in
        ap in_turn_of_machine (ap (budgeted program) same ∙ budgeted-stays program end busy) ∙ agree;
  };
  program = h.program;
  order = h.order;
  failed = h.failed;
}

-- the run whose budget is spent
pub run-spent : (program : Program) (order budget : ℕ) (old new : Shown) → EngineFollows (after program order budget) old new → is_idle new.machine ≡ false
    → EngineFollows (run_from program order budget) old new
run-spent program order budget old new h busy = record {
  machine = λ sent. record {
    shown = λ machine e.
        let end : Machine = after program order budget machine in
        let agree : in_turn_of_machine end ≡ with_sent sent new.machine = (h.machine sent).shown machine e in
        let still : is_idle end ≡ false = idle-shown end (with_sent sent new.machine) agree ∙ busy in
        ap in_turn_of_machine (budgeted-stays program end still) ∙ agree;
  };
  program = h.program;
  order = h.order;
  failed = h.failed;
}

-- the run that is idle when its budget is spent
pub run-idle : (program : Program) (order budget : ℕ) (old mid new : Shown) → EngineFollows (after program order budget) old mid → is_idle mid.machine ≡ true
    → EngineFollows (step program order) mid new → EngineFollows (run_from program order budget) old new
run-idle program order budget old mid new h is k = record {
  machine = λ sent. record {
    shown = λ machine e.
        let end : Machine = after program order budget machine in
        let agree : in_turn_of_machine end ≡ with_sent sent mid.machine = (h.machine sent).shown machine e in
        let last : step program order end ≡ budgeted program end = idle-step program order end (idle-shown end (with_sent sent mid.machine) agree ∙ is) in
        ap in_turn_of_machine (sym last) ∙ (k.machine sent).shown end agree;
  };
  program = k.program ∙ h.program;
  order = k.order ∙ h.order;
  failed = k.failed ∙ h.failed;
}

-- ---- want of memory

-- between texts that go on before and behind
wider : (first earlier last later text part more : List ℕ) → first ≡ earlier ++ part → later ≡ last ++ more → IsBetween first last text → IsBetween earlier later text
wider first earlier last later text part more e k b = between-before earlier first later text part e (between-more first last later text more b k)

-- memory was wanting in a step of the budget
pub run-fails : (program : Program) (order count budget : ℕ) (old mid new : Shown) → count + 1 ≤ budget → EngineFollows (after program order count) old mid
    → EngineFails (step program order) mid new → EngineFails (run_from program order budget) old new
run-fails program order count budget old mid new within h k = record {
  out = λ sent machine e.
      let end : Machine = after program order count machine in
      let agree : in_turn_of_machine end ≡ with_sent sent mid.machine = (h.machine sent).shown machine e in
      wider (sent.out ++ mid.machine.tasks.out) (sent.out ++ old.machine.tasks.out) (step program order end).tasks.out (run_from program order budget machine).tasks.out (sent.out ++ new.machine.tasks.out)
      (after program order count (emptied machine)).tasks.out (rest machine (emptied (step program order end))).tasks.out
      (ap (λ (m : Machine). m.tasks.out) (sym agree) ∙ ap (λ (m : Machine). m.tasks.out) (first machine) ∙ ap (λ (m : Machine). m.tasks.out ++ (after program order count (emptied machine)).tasks.out) e)
      (ap (λ (m : Machine). m.tasks.out) (last machine))
      (k.out sent end agree);
  dump = λ sent machine e.
      let end : Machine = after program order count machine in
      let agree : in_turn_of_machine end ≡ with_sent sent mid.machine = (h.machine sent).shown machine e in
      wider (sent.dump ++ mid.machine.tasks.dump) (sent.dump ++ old.machine.tasks.dump) (step program order end).tasks.dump (run_from program order budget machine).tasks.dump (sent.dump ++ new.machine.tasks.dump)
      (after program order count (emptied machine)).tasks.dump (rest machine (emptied (step program order end))).tasks.dump
      (ap (λ (m : Machine). m.tasks.dump) (sym agree) ∙ ap (λ (m : Machine). m.tasks.dump) (first machine) ∙ ap (λ (m : Machine). m.tasks.dump ++ (after program order count (emptied machine)).tasks.dump) e)
      (ap (λ (m : Machine). m.tasks.dump) (last machine))
      (k.dump sent end agree);
  program = k.program ∙ h.program;
  order = k.order ∙ h.order;
}
  where
    -- what is done after the step
    rest : Machine → Machine → Machine
    rest machine next = budgeted program (after program order (budget - (count + 1)) next)

    rest-sent : (machine : Machine) → After (rest machine)
    rest-sent machine sent next = ap (budgeted program) (after-sent program order (budget - (count + 1)) sent next) ∙ budgeted-after program sent (after program order (budget - (count + 1)) next)

    first : (machine : Machine) → after program order count machine ≡ with_sent (record { out = machine.tasks.out; dump = machine.tasks.dump }) (after program order count (emptied machine))
    first machine = added (after program order count) (after-sent program order count) machine

    last : (machine : Machine) → run_from program order budget machine
        ≡ with_sent (record { out = (step program order (after program order count machine)).tasks.out; dump = (step program order (after program order count machine)).tasks.dump }) (rest machine (emptied (step program order (after program order count machine))))
    last machine =
        let all : budget ≡ (budget - (count + 1)) + suc count = omega arith in
        ap (λ (n : ℕ). run_from program order n machine) all
        ∙ ap (budgeted program) (after-sum program order (budget - (count + 1)) (suc count) machine)
        ∙ added (rest machine) (rest-sent machine) (step program order (after program order count machine))

-- memory was wanting where the run was idle
pub run-idle-fails : (program : Program) (order budget : ℕ) (old mid new : Shown) → EngineFollows (after program order budget) old mid → is_idle mid.machine ≡ true
    → EngineFails (step program order) mid new → EngineFails (run_from program order budget) old new
run-idle-fails program order budget old mid new h is k = record {
  out = λ sent machine e.
      let end : Machine = after program order budget machine in
      let agree : in_turn_of_machine end ≡ with_sent sent mid.machine = (h.machine sent).shown machine e in
      let last : step program order end ≡ budgeted program end = idle-step program order end (idle-shown end (with_sent sent mid.machine) agree ∙ is) in
      subst (λ (m : Machine). IsBetween (sent.out ++ old.machine.tasks.out) m.tasks.out (sent.out ++ new.machine.tasks.out)) last
      (between-before (sent.out ++ old.machine.tasks.out) (sent.out ++ mid.machine.tasks.out) (step program order end).tasks.out (sent.out ++ new.machine.tasks.out) (after program order budget (emptied machine)).tasks.out
      (ap (λ (m : Machine). m.tasks.out) (sym agree) ∙ ap (λ (m : Machine). m.tasks.out) (first machine) ∙ ap (λ (m : Machine). m.tasks.out ++ (after program order budget (emptied machine)).tasks.out) e)
      (k.out sent end agree));
  dump = λ sent machine e.
      let end : Machine = after program order budget machine in
      let agree : in_turn_of_machine end ≡ with_sent sent mid.machine = (h.machine sent).shown machine e in
      let last : step program order end ≡ budgeted program end = idle-step program order end (idle-shown end (with_sent sent mid.machine) agree ∙ is) in
      subst (λ (m : Machine). IsBetween (sent.dump ++ old.machine.tasks.dump) m.tasks.dump (sent.dump ++ new.machine.tasks.dump)) last
      (between-before (sent.dump ++ old.machine.tasks.dump) (sent.dump ++ mid.machine.tasks.dump) (step program order end).tasks.dump (sent.dump ++ new.machine.tasks.dump) (after program order budget (emptied machine)).tasks.dump
      (ap (λ (m : Machine). m.tasks.dump) (sym agree) ∙ ap (λ (m : Machine). m.tasks.dump) (first machine) ∙ ap (λ (m : Machine). m.tasks.dump ++ (after program order budget (emptied machine)).tasks.dump) e)
      (k.dump sent end agree));
  program = k.program ∙ h.program;
  order = k.order ∙ h.order;
}
  where
    first : (machine : Machine) → after program order budget machine ≡ with_sent (record { out = machine.tasks.out; dump = machine.tasks.dump }) (after program order budget (emptied machine))
    first machine = added (after program order budget) (after-sent program order budget) machine
