-- The step of an engine from the contracts of its calls.
use Rattle.std.proofs.Common.{◌≡◌, ℕ, max, true, false, Option, Some, None, is_some, option_map, refl, sym, ◌∙◌, ap, subst, arith}
use Rattle.std.specs.Option.{ForSome}
use Rattle.event_pool.specs.Pending.{in_turn}
use Rattle.event_pool.specs.Schedule.{Schedule}
use Rattle.event_pool.proofs.FollowLemmas.{follows-exactly, length-shown}
use Rattle.vvp_threads.specs.declared.thread.Thread.{Thread}
use Rattle.vvp_threads.specs.declared.thread.ThreadState.{ThreadState}
use Rattle.vvp_threads.specs.Keyed.{KeyedTable}
use Rattle.vvp_threads.specs.Table.{IsInState, Table, thread_of}
use Rattle.sym_link.specs.declared.program.Program.{Program}
use Rattle.sim_core.specs.declared.engine.Running.{Running}
use Rattle.sim_core.specs.Machine.{Machine}
use Rattle.sim_core.specs.Step.{is_ready, ready, step}
use Rattle.sim_core.specs.Engine.{Shown, in_turn_of_machine}
use Rattle.sim_core.specs.Kept.{IsRunning}
use Rattle.sim_core.specs.Parts.{Runs, ShownFollows, ShownSteps, peaked, stepped, take_by_order}
use Rattle.sim_core.proofs.StepLemmas.{MachineFollows}
use Rattle.sim_core.proofs.TurnLemmas.{taken-steps}

-- ---- the thread that runs

state-there : (table : Table) (serial : ℕ) (state : ThreadState) → IsInState table serial state → (thread : Thread) × (thread_of table serial ≡ Some thread)
state-there table serial state is = go (thread_of table serial) refl is where
  go : (slot : Option Thread) → thread_of table serial ≡ slot → option_map (λ (t : Thread). t.state) slot ≡ Some state → (thread : Thread) × (thread_of table serial ≡ Some thread)
  go None at h = absurd (let none : ⊥ = cc in none)
  go (Some thread) at h = (thread, at)

pub running-there : (shown : Shown) (threads : KeyedTable) (schedule : Schedule) (running : Option Running) → shown.failed ≡ false → shown.machine.running ≡ option_map (λ (r : Running). r.serial) running
    → shown.machine.state.threads ≡ threads.table → is_some running ≡ true → ForSome running (IsRunning threads schedule) → (serial : ℕ) × (thread : Thread) × Runs shown serial thread
running-there shown threads schedule None fine runs table some kept = absurd (let none : ⊥ = cc in none)
running-there shown threads schedule (Some r) fine runs table some kept =
    let o = kept r refl in
    let there = state-there threads.table r.serial _ o.ready in
    (r.serial, there.0, record { fine = fine; running = runs; live = ap (λ (t : Table). thread_of t r.serial) table ∙ there.1 })

pub running-none : (running : Option Running) → is_some running ≡ false → option_map (λ (r : Running). r.serial) running ≡ None
running-none None none = refl
running-none (Some r) none = absurd (let false_ : ⊥ = cc in false_)

-- ---- a due that was taken

pub peaked-follows : (old : Machine) → MachineFollows peaked old (peaked old)
peaked-follows old = follows-exactly in_turn_of_machine peaked old (λ m.
    ap (λ (n : ℕ). record (in_turn_of_machine m) { peak = max m.peak n }) (length-shown m.state.pending (in_turn m.state.pending) refl))

pub taken-shown : (program : Program) (order : ℕ) (old mid new last : Shown) → old.machine.ending ≡ None → old.machine.running ≡ None → ShownFollows (ready program) old mid → is_ready mid.machine ≡ true
    → old.program ≡ program → old.order ≡ order → ShownSteps (λ machine. take_by_order mid.program mid.order (stepped machine)) mid new → last ≡ record new { machine = peaked new.machine }
    → ShownSteps (step program order) old last
taken-shown program order old mid new last going rests finds now p o takes e =
    subst (λ (s : Shown). ShownSteps (step program order) old s) (sym e) (record {
      machine = taken-steps program order old mid new going rests finds now
          (subst (λ (q : Program). MachineFollows (λ machine. take_by_order q order (stepped machine)) mid.machine new.machine) (finds.program ∙ p)
          (subst (λ (n : ℕ). MachineFollows (λ machine. take_by_order mid.program n (stepped machine)) mid.machine new.machine) (finds.order ∙ o) takes.machine))
          (peaked-follows new.machine);
      program = takes.program ∙ finds.program;
      order = takes.order ∙ finds.order;
      failed = takes.failed ∙ finds.failed;
      steps = omega (arith, takes.steps, finds.steps);
    })
