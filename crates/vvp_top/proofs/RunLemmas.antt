-- A run turn by turn.
use Rattle.std.proofs.Common.{◌≡◌, ℕ, zero, suc, ◌≤◌, ◌+◌, ◌-◌, Bool, false, cond, List, [], ◌∷◌, Option, Some, None, refl, sym, ap, subst, ◌∙◌, arith}
use Rattle.sym_link.specs.declared.program.Program.{Program}
use Rattle.event_pool.specs.declared.agenda.Due.{Due}
use Rattle.sim_core.specs.declared.ending.Ending.{Ending}
use Rattle.sim_core.specs.Machine.{Machine, dues_of, phase}
use Rattle.sim_core.specs.Engine.{in_turn_of_machine}
use Rattle.sim_core.specs.Step.{after, budgeted, idle, is_idle, is_idle_at, run_from, step}
use Rattle.sim_core.proofs.RunsLemmas.{after-sum}
use Rattle.sim_core.proofs.StepLemmas.{after-stays}
use Rattle.vvp_edge.specs.Causes.{Rose}
use Rattle.vvp_top.specs.declared.fault.Fault.{Fault}
use Rattle.vvp_top.specs.declared.fault.Fault.TheVariants as fault
use Rattle.sys_tasks.specs.Phase.{dump_name}
use Rattle.vvp_top.specs.Delivery.{Before, CutAt, DoneAt, DumpStands, IsCut, IsDone, Moment, Stands, StopsBy}
use Rattle.vvp_top.proofs.GrowLemmas.{Grows, budgeted-grows, grows-none, grows-then, step-grows}
use Rattle.vvp_top.proofs.DeliveryLemmas.{append_known-nil, cut-grows}

-- ---- runs of the machine

-- so many steps and then more
after-both : (program : Program) (order count more : ℕ) (machine : Machine) → after program order more (after program order count machine) ≡ after program order (count + more) machine
after-both program order count more machine =
    let turned : more + count ≡ count + more = omega arith in
    sym (after-sum program order more count machine) ∙ ap (λ (n : ℕ). after program order n machine) turned

pub after-grows : (program : Program) (order count : ℕ) (machine : Machine) → Grows machine.tasks (after program order count machine).tasks
after-grows program order zero machine = grows-none machine.tasks
after-grows program order (suc count) machine =
    let there : Machine = after program order count machine in
    grows-then machine.tasks there.tasks (step program order there).tasks (after-grows program order count machine) (step-grows program order there)

-- a run of a budget goes on from each of its steps
pub run-grows : (program : Program) (order count budget : ℕ) (machine : Machine) → count ≤ budget → Grows (after program order count machine).tasks (run_from program order budget machine).tasks
run-grows program order count budget machine within =
    let there : Machine = after program order count machine in
    let end : Machine = after program order (budget - count) there in
    let all : budget ≡ (budget - count) + count = omega arith in
    let is : run_from program order budget machine ≡ budgeted program end = ap (λ (n : ℕ). run_from program order n machine) all ∙ ap (budgeted program) (after-sum program order (budget - count) count machine) in
    subst (λ (m : Machine). Grows there.tasks m.tasks) (sym is) (grows-then there.tasks end.tasks (budgeted program end).tasks (after-grows program order (budget - count) there) (budgeted-grows program end))

ended-not_idle : (running : Option ℕ) (dues : List Due) (ending : Ending) → is_idle_at running dues (Some ending) ≡ false
ended-not_idle None [] ending = refl
ended-not_idle None (due ∷ dues) ending = refl
ended-not_idle (Some serial) dues ending = refl

-- a run that has ended is the run of each greater budget
pub run-ends : (program : Program) (order count budget : ℕ) (ending : Ending) (machine : Machine) → count ≤ budget → (after program order count machine).ending ≡ Some ending
    → run_from program order budget machine ≡ after program order count machine
run-ends program order count budget ending machine within ended =
    let end : Machine = after program order count machine in
    let all : budget ≡ (budget - count) + count = omega arith in
    let busy : is_idle end ≡ false = ap (λ (o : Option Ending). is_idle_at end.running (dues_of end) o) ended ∙ ended-not_idle end.running (dues_of end) ending in
    ap (λ (n : ℕ). run_from program order n machine) all
    ∙ ap (budgeted program) (after-stays program order count (budget - count) ending machine ended)
    ∙ ap (λ (b : Bool). cond b (idle (phase program end)) end) busy

-- ---- turns

pub is-cut : (machine : Machine) (before : Before) (m : Moment) → CutAt machine before m → IsCut machine before.held before.files m.held m.files
is-cut machine before m cut = record { output = cut.output; dump = cut.dump }

pub is-done : (machine : Machine) (before : Before) (m : Moment) → Stands machine before m → DoneAt machine before m → IsDone machine before.held before.files m.shown m.held m.files
is-done machine before m stands done = record {
  output = done.output;
  dump = done.dump;
  time = ap (λ (x : Machine). x.state.pending.now) stands.shows;
  steps = ap (λ (x : Machine). x.steps) stands.shows;
  peak = ap (λ (x : Machine). x.peak) stands.shows;
  ending = ap (λ (x : Machine). x.ending) stands.shows;
}

-- before the first turn nothing was handed over
pub stands-start : (machine : Machine) (m : Moment) → m.made ≡ false → in_turn_of_machine machine ≡ m.shown.machine → Stands machine (record { held = m.held; files = m.files }) m
stands-start machine m made is = record {
  sent = record { out = []; dump = [] };
  shows = is;
  given = sym (append_known-nil m.held);
  dump = subst (λ (b : Bool). DumpStands b (dump_name m.shown.machine.tasks.state) [] m.files m.files m.target) (sym made) (refl, refl);
}

-- one turn more
pub stands-next : (program now_program : Program) (order now_order count more answered : ℕ) (machine : Machine) (before : Before) (old new : Moment) → now_program ≡ program → now_order ≡ order → answered ≡ more
    → Stands (after program order count machine) before old → ((m : Machine) (b : Before) → Stands m b old → Stands (after now_program now_order more m) b new)
    → Stands (after program order (count + answered) machine) before new
stands-next program now_program order now_order count more answered machine before old new programs orders told stands moved =
    let there : Machine = after program order count machine in
    subst (λ (m : Machine). Stands m before new) (after-both program order count more machine ∙ ap (λ (n : ℕ). after program order (count + n) machine) (sym told))
    (subst (λ (p : Program). Stands (after p order more there) before new) programs
    (subst (λ (o : ℕ). Stands (after now_program o more there) before new) orders (moved there before stands)))

-- the same, where a turn is cut short
pub cut-next : (program now_program : Program) (order now_order count more budget : ℕ) (machine : Machine) (before : Before) (old new : Moment) → now_program ≡ program → now_order ≡ order → count + more ≤ budget
    → Stands (after program order count machine) before old → ((m : Machine) (b : Before) → Stands m b old → CutAt (after now_program now_order more m) b new)
    → IsCut (run_from program order budget machine) before.held before.files new.held new.files
cut-next program now_program order now_order count more budget machine before old new programs orders within stands cut =
    let there : Machine = after program order count machine in
    let here : CutAt (after program order (count + more) machine) before new =
    subst (λ (m : Machine). CutAt m before new) (after-both program order count more machine)
    (subst (λ (p : Program). CutAt (after p order more there) before new) programs
    (subst (λ (o : ℕ). CutAt (after now_program o more there) before new) orders (cut there before stands))) in
    is-cut (run_from program order budget machine) before new
    (cut-grows (after program order (count + more) machine) (run_from program order budget machine) before new (run-grows program order (count + more) budget machine within) here)

-- the run has ended before its budget, and all is handed over
pub done-early : (program : Program) (order count budget : ℕ) (ending : Ending) (machine : Machine) (before : Before) (m new : Moment) → count ≤ budget
    → m.shown.machine.ending ≡ Some ending → Stands (after program order count machine) before m → Stands (after program order count machine) before new → DoneAt (after program order count machine) before new
    → IsDone (run_from program order budget machine) before.held before.files new.shown new.held new.files
done-early program order count budget ending machine before m new within ended stands after_it done =
    let there : (after program order count machine).ending ≡ Some ending = ap (λ (x : Machine). x.ending) stands.shows ∙ ended in
    subst (λ (x : Machine). IsDone x before.held before.files new.shown new.held new.files) (sym (run-ends program order count budget ending machine within there))
    (is-done (after program order count machine) before new after_it done)

-- the same, where handing over is cut short
pub cut-early : (program : Program) (order count budget : ℕ) (machine : Machine) (before : Before) (new : Moment) → count ≤ budget → CutAt (after program order count machine) before new
    → IsCut (run_from program order budget machine) before.held before.files new.held new.files
cut-early program order count budget machine before new within cut =
    is-cut (run_from program order budget machine) before new
    (cut-grows (after program order count machine) (run_from program order budget machine) before new (run-grows program order count budget machine within) cut)

-- the budget has ended, and all is handed over
pub done-last : (program now_program : Program) (order count budget : ℕ) (machine : Machine) (before : Before) (old new : Moment) → now_program ≡ program → count ≡ budget
    → Stands (after program order count machine) before old → ((m : Machine) (b : Before) → Stands m b old → Stands (budgeted now_program m) b new)
    → ((m : Machine) (b : Before) → Stands m b old → DoneAt (budgeted now_program m) b new) → IsDone (run_from program order budget machine) before.held before.files new.shown new.held new.files
done-last program now_program order count budget machine before old new programs all stands moved done =
    let there : Machine = after program order count machine in
    subst (λ (n : ℕ). IsDone (run_from program order n machine) before.held before.files new.shown new.held new.files) all
    (subst (λ (p : Program). IsDone (budgeted p there) before.held before.files new.shown new.held new.files) programs
    (is-done (budgeted now_program there) before new (moved there before stands) (done there before stands)))

-- the same, where handing over is cut short
pub cut-last : (program now_program : Program) (order count budget : ℕ) (machine : Machine) (before : Before) (old new : Moment) → now_program ≡ program → count ≡ budget
    → Stands (after program order count machine) before old → ((m : Machine) (b : Before) → Stands m b old → CutAt (budgeted now_program m) b new)
    → IsCut (run_from program order budget machine) before.held before.files new.held new.files
cut-last program now_program order count budget machine before old new programs all stands cut =
    let there : Machine = after program order count machine in
    subst (λ (n : ℕ). IsCut (run_from program order n machine) before.held before.files new.held new.files) all
    (subst (λ (p : Program). IsCut (budgeted p there) before.held before.files new.held new.files) programs
    (is-cut (budgeted now_program there) before new (cut there before stands)))

-- what has failed in a turn has failed in the run
pub stop-store : (why : Fault) (old new : Moment) (first : ℕ) → first ≤ old.store_faults → StopsBy why old new → why ≡ fault.Store → Rose first new.store_faults
stop-store fault.Store old new first later stop is = omega (arith, later, stop)
stop-store fault.Output old new first later stop is = absurd (let none : ⊥ = cc in none)
stop-store fault.Memory old new first later stop is = absurd (let none : ⊥ = cc in none)

pub stop-output : (why : Fault) (old new : Moment) (first : ℕ) → first ≤ old.out_faults → StopsBy why old new → why ≡ fault.Output → Rose first new.out_faults
stop-output fault.Store old new first later stop is = absurd (let none : ⊥ = cc in none)
stop-output fault.Output old new first later stop is = omega (arith, later, stop)
stop-output fault.Memory old new first later stop is = absurd (let none : ⊥ = cc in none)
