-- The step of an engine from what its parts do.
use Rattle.std.proofs.Common.{◌≡◌, ◌<◌, ℕ, zero, suc, Bool, true, false, Option, Some, None, List, [], ◌∷◌, ◌++◌, length, refl, sym, ◌∙◌, ap, subst, arith}
use Rattle.std.specs.List.{list_any, filter, slice_get}
use Rattle.std.proofs.lemmas.List.{append-nil}
use Rattle.event_pool.specs.declared.agenda.Due.{Due}
use Rattle.event_pool.specs.Schedule.{active_dues, is_active_at}
use Rattle.event_pool.proofs.FollowLemmas.{any-in_order}
use Rattle.sys_tasks.specs.Tasks.{TasksNow}
use Rattle.sym_link.specs.declared.program.Program.{Program}
use Rattle.sim_core.specs.declared.ending.Ending.{Ending}
use Rattle.sim_core.specs.Machine.{Machine, dues_of, now_of}
use Rattle.sim_core.specs.Step.{choice_of, choices, is_ready, proceed, ready, step, take, take_at}
use Rattle.sim_core.specs.Engine.{EngineFails, EngineFollows, Shown, in_turn_of_machine}
use Rattle.sim_core.specs.Parts.{Cut, ShownFails, ShownFollows, ShownSteps, Unprinted, applied, peaked, stepped, take_by_order}
use Rattle.sim_core.proofs.StepLemmas.{MachineFollows, ended-follows, follows-by, step-runs, step-takes}
use Rattle.sim_core.proofs.SentLemmas.{ready-after, step-after}
use Rattle.sim_core.proofs.CountLemmas.{take-counted, take-tasks}
use Rattle.sim_core.proofs.FailLemmas.{added, emptied, engine-fails, engine-follows, unprinted-fails}
use Rattle.sim_core.proofs.OrderLemmas.{pick-within}

-- ---- the running thread's step

pub running-steps : (program : Program) (order serial : ℕ) (old new : Shown) → old.machine.ending ≡ None → old.machine.running ≡ Some serial
    → ShownSteps (proceed program serial) old new → ShownSteps (step program order) old new
running-steps program order serial old new going runs k = record {
  machine = follows-by (step program order) (proceed program serial) old.machine new.machine
      (λ machine e. step-runs program order serial machine (ap (λ (m : Machine). m.ending) e ∙ going) (ap (λ (m : Machine). m.running) e ∙ runs)) k.machine;
  program = k.program;
  order = k.order;
  failed = k.failed;
  steps = k.steps;
}

pub running-fails : (program : Program) (order serial : ℕ) (old new : Shown) → old.machine.ending ≡ None → old.machine.running ≡ Some serial
    → ShownFails (proceed program serial) old new → ShownFails (step program order) old new
running-fails program order serial old new going runs k = record {
  cut = λ machine e.
      subst (λ (m : Machine). Cut old.machine.tasks m.tasks new.machine.tasks)
      (sym (step-runs program order serial machine (ap (λ (m : Machine). m.ending) e ∙ going) (ap (λ (m : Machine). m.running) e ∙ runs))) (k.cut machine e);
  program = k.program;
  order = k.order;
}

-- ---- whether there is a due to take

ready-shown : (machine shown : Machine) → in_turn_of_machine machine ≡ shown → is_ready machine ≡ is_ready shown
ready-shown machine shown e =
    sym (any-in_order (is_active_at (now_of machine)) (dues_of machine)) ∙ ap is_ready e

some-passes : (p : Due → Bool) (dues : List Due) → list_any p dues ≡ true → 0 < length (filter p dues)
some-passes p [] h = absurd (let none : ⊥ = cc in none)
some-passes p (due ∷ dues) h = go (p due) refl (λ k. some-passes p dues k) where
  go : (b : Bool) → p due ≡ b → (list_any p dues ≡ true → 0 < length (filter p dues)) → 0 < length (filter p (due ∷ dues))
  go true e rest = rw e (let some : 0 < suc (length (filter p dues)) = omega arith in some)
  go false e rest = rw e (rest (rw e at h))

none-passes : (p : Due → Bool) (dues : List Due) (k : ℕ) → list_any p dues ≡ false → slice_get (filter p dues) k ≡ None
none-passes p [] k h = refl
none-passes p (due ∷ dues) k h = go (p due) refl (λ rest. none-passes p dues k rest) where
  go : (b : Bool) → p due ≡ b → (list_any p dues ≡ false → slice_get (filter p dues) k ≡ None) → slice_get (filter p (due ∷ dues)) k ≡ None
  go true e rest = absurd (let none : ⊥ = (let h' = rw e at h in cc) in none)
  go false e rest = rw e (rest (rw e at h))

get-within : (dues : List Due) (k : ℕ) → k < length dues → (due : Due) × (slice_get dues k ≡ Some due)
get-within [] k within = absurd (omega arith)
get-within (due ∷ dues) zero within = (due, refl)
get-within (due ∷ dues) (suc k) within = get-within dues k (omega arith)

-- ---- a due's step

take-step : (program : Program) (order : ℕ) (found : Machine) → is_ready found ≡ true
    → take_at program (choice_of order found) found ≡ peaked (take_by_order program order (stepped found))
take-step program order found now =
    let some : 0 < choices found = some-passes (is_active_at (now_of found)) (dues_of found) now in
    let due = get-within (active_dues (now_of found) (dues_of found)) (choice_of order found) (pick-within order found.taken (choices found) some) in
    ap (λ (d : Option Due). take program (choice_of order found) d found) due.1
    ∙ take-counted program (choice_of order found) due.0 found
    ∙ ap (λ (d : Option Due). peaked (applied program (choice_of order found) d (stepped found))) (sym due.1)

-- the due that was found is taken
pub taken-steps : (program : Program) (order : ℕ) (old mid new : Shown) → old.machine.ending ≡ None → old.machine.running ≡ None
    → ShownFollows (ready program) old mid → is_ready mid.machine ≡ true
    → MachineFollows (λ machine. take_by_order program order (stepped machine)) mid.machine new.machine
    → MachineFollows peaked new.machine (peaked new.machine)
    → MachineFollows (step program order) old.machine (peaked new.machine)
taken-steps program order old mid new going rests finds now takes peaks = record {
  shown = λ machine e.
      let found = (finds.machine).shown machine e in
      ap in_turn_of_machine (step-takes program order machine (ap (λ (m : Machine). m.ending) e ∙ going) (ap (λ (m : Machine). m.running) e ∙ rests)
      ∙ take-step program order (ready program machine) (ready-shown (ready program machine) mid.machine found ∙ now))
      ∙ peaks.shown (take_by_order program order (stepped (ready program machine))) (takes.shown (ready program machine) found);
}

-- no due was found: the run is idle
pub idle-steps : (program : Program) (order : ℕ) (old new : Shown) → old.machine.ending ≡ None → old.machine.running ≡ None
    → ShownFollows (ready program) old new → is_ready new.machine ≡ false → ShownSteps (step program order) old new
idle-steps program order old new going rests finds never = record {
  machine = record {
    shown = λ machine e.
        let found = (finds.machine).shown machine e in
        ap in_turn_of_machine (step-takes program order machine (ap (λ (m : Machine). m.ending) e ∙ going) (ap (λ (m : Machine). m.running) e ∙ rests)
        ∙ ap (λ (d : Option Due). take program (choice_of order (ready program machine)) d (ready program machine))
        (none-passes (is_active_at (now_of (ready program machine))) (dues_of (ready program machine)) (choice_of order (ready program machine)) (ready-shown (ready program machine) new.machine found ∙ never)))
        ∙ found;
  };
  program = finds.program;
  order = finds.order;
  failed = finds.failed;
  steps = omega (arith, finds.steps);
}

-- memory was wanting in the phase before a due is found
pub ready-fails : (program : Program) (order : ℕ) (old new : Shown) → old.machine.ending ≡ None → old.machine.running ≡ None
    → ShownFails (ready program) old new → ShownFails (step program order) old new
ready-fails program order old new going rests k = record {
  cut = λ machine e.
      subst (λ (t : TasksNow). Cut old.machine.tasks t new.machine.tasks)
      (sym (ap (λ (m : Machine). m.tasks) (step-takes program order machine (ap (λ (m : Machine). m.ending) e ∙ going) (ap (λ (m : Machine). m.running) e ∙ rests))
      ∙ take-tasks program (choice_of order (ready program machine)) (slice_get (active_dues (now_of (ready program machine)) (dues_of (ready program machine))) (choice_of order (ready program machine))) (ready program machine)))
      (k.cut machine e);
  program = k.program;
  order = k.order;
}

-- memory was wanting when the due was taken
pub take-fails : (program : Program) (order : ℕ) (old mid new : Shown) → old.machine.ending ≡ None → old.machine.running ≡ None
    → ShownFollows (ready program) old mid → Unprinted mid new → ShownFails (step program order) old new
take-fails program order old mid new going rests finds still = record {
  cut = λ machine e.
      let found = (finds.machine).shown machine e in
      let tasks : (step program order machine).tasks ≡ (ready program machine).tasks =
      ap (λ (m : Machine). m.tasks) (step-takes program order machine (ap (λ (m : Machine). m.ending) e ∙ going) (ap (λ (m : Machine). m.running) e ∙ rests))
      ∙ take-tasks program (choice_of order (ready program machine)) (slice_get (active_dues (now_of (ready program machine)) (dues_of (ready program machine))) (choice_of order (ready program machine))) (ready program machine) in
      let more = added (ready program) (ready-after program) machine in
      record {
        out = record {
          part = (ready program (emptied machine)).tasks.out;
          rest = [];
          after_first = still.out ∙ ap (λ (m : Machine). m.tasks.out) (sym found) ∙ ap (λ (m : Machine). m.tasks.out) more ∙ ap (λ (m : Machine). m.tasks.out ++ (ready program (emptied machine)).tasks.out) e;
          before_last = ap (λ (t : TasksNow). t.out) tasks ∙ ap (λ (m : Machine). m.tasks.out) found ∙ sym still.out ∙ sym (append-nil new.machine.tasks.out);
        };
        dump = record {
          part = (ready program (emptied machine)).tasks.dump;
          rest = [];
          after_first = still.dump ∙ ap (λ (m : Machine). m.tasks.dump) (sym found) ∙ ap (λ (m : Machine). m.tasks.dump) more ∙ ap (λ (m : Machine). m.tasks.dump ++ (ready program (emptied machine)).tasks.dump) e;
          before_last = ap (λ (t : TasksNow). t.dump) tasks ∙ ap (λ (m : Machine). m.tasks.dump) found ∙ sym still.dump ∙ sym (append-nil new.machine.tasks.dump);
        };
      };
  program = still.program ∙ finds.program;
  order = still.order ∙ finds.order;
}

-- ---- engines that do nothing more

-- an engine that wanted memory
pub step-refused : (program : Program) (order : ℕ) (old : Shown) → EngineFails (step program order) old old
step-refused program order old =
    engine-fails (step program order) old old (step-after program order)
    (unprinted-fails (step program order) old old (step-after program order) (record { out = refl; dump = refl; program = refl; order = refl }))

-- a run that has ended
pub step-ended : (program : Program) (order : ℕ) (ending : Ending) (old : Shown) → old.machine.ending ≡ Some ending → EngineFollows (step program order) old old
step-ended program order ending old ended =
    engine-follows (step program order) old old (step-after program order)
    (record { machine = ended-follows program order ending old.machine ended; program = refl; order = refl; failed = refl; steps = omega arith })
