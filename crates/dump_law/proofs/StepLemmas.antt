-- Each step keeps what stands between steps.
use Rattle.std.proofs.Common.{◌≡◌, ℕ, ◌<◌, ◌≤◌, ◌^◌, Bool, true, false, cond, Option, Some, None, List, [], ◌∷◌, slice_get, refl, sym, subst}
use Rattle.std.specs.Prelude.{All}
use Rattle.event_pool.specs.declared.agenda.Due.{Due}
use Rattle.event_pool.specs.declared.agenda.Act.{Act}
use Rattle.event_pool.specs.declared.agenda.Act.TheVariants.{Eval, Run, Update, Mature}
use Rattle.event_pool.specs.Schedule.{active_dues, least_time}
use Rattle.vvp_threads.specs.declared.thread.Thread.{Thread}
use Rattle.vvp_threads.specs.Table.{thread_of}
use Rattle.sym_link.specs.declared.program.Program.{Program}
use Rattle.sym_link.specs.Roots.{nodes_of}
use Rattle.sym_link.specs.Sound.{IsProgram}
use Rattle.sys_tasks.specs.Tasks.{TasksNow}
use Rattle.sim_core.specs.declared.ending.Ending.{Ending}
use Rattle.sim_core.specs.Machine.{Machine, counted, dues_of, is_live, now_of, phase, with_running}
use Rattle.sim_core.specs.Effects.{done}
use Rattle.sim_core.specs.Step.{advance, apply, budgeted, choice_of, goes_on, idle, is_idle, is_ready, proceeds, ready, settle, step, step_from, take, time_ends, with_taken, without_due}
use Rattle.dump_law.specs.Dumping.{IsDumpKept}
use Rattle.dump_law.specs.Kept.{IsKept, IsKeptAt}
use Rattle.dump_law.specs.Plain.{plain_names}
use Rattle.dump_law.specs.Steady.{IsOnTime, NamesKind}
use Rattle.vcd_law.proofs.GrowLemmas.{later-grown}
use Rattle.dump_law.proofs.ChangeLemmas.{write-steady}
use Rattle.dump_law.proofs.EffectLemmas.{done-kept, phase-keeps}
use Rattle.dump_law.proofs.EvalLemmas.{eval-steady, mature-steady}
use Rattle.dump_law.proofs.TimeLemmas.{Advances, active-on-time, advance-on-time, settle-pending, taken-pending}

-- the same dump at a later time
later-kept : (program : Program) (now later : ℕ) (tasks : TasksNow) → now ≤ later → IsDumpKept program now tasks → IsDumpKept program later tasks
later-kept program now later tasks le h = record {
  designed = h.designed;
  chosen = h.chosen;
  stage = h.stage;
  before = h.before;
  begun = λ two. record { text = later-grown _ _ _ now later tasks.dump le (h.begun two).text; last = (h.begun two).last };
}

module _ (program : Program) (linked : IsProgram program) (plain : plain_names program ≡ true) where
  abbrev Keeps : Machine → Type 0
  Keeps machine = IsKept program machine

  either-kept : (choice : Bool) (a b : Machine) → Keeps a → Keeps b → Keeps (cond choice a b)
  either-kept true a b first second = first
  either-kept false a b first second = second

  -- a machine at the same time
  at-time : (machine new : Machine) → Keeps machine → IsKeptAt program (now_of machine) new → Keeps new
  at-time machine new h at = record {
    few = subst (λ (n : ℕ). n < 2 ^ 64) (sym at.steady.pending.at) h.few;
    at = subst (λ (n : ℕ). IsKeptAt program n new) (sym at.steady.pending.at) at;
  }

  -- ---- a thread's step

  counted-kept : (now : ℕ) (machine : Machine) → IsKeptAt program now machine → IsKeptAt program now (counted machine)
  counted-kept now machine h = record { steady = h.steady; dump = h.dump }

  proceeds-kept : (serial : ℕ) (thread : Option Thread) (machine : Machine) → Keeps machine → Keeps (proceeds program serial thread machine)
  proceeds-kept serial None machine h = h
  proceeds-kept serial (Some thread) machine h =
      let place : ℕ = thread.frame.pc in
      at-time machine (proceeds program serial (Some thread) machine) h
      (counted-kept (now_of machine) (done program (slice_get program.code place) serial thread.frame machine)
      (done-kept program linked plain (now_of machine) h.few (slice_get program.code place) serial thread.frame machine refl h.at))

  -- ---- a time step

  settle-kept : (machine : Machine) → Keeps machine → Keeps (settle machine)
  settle-kept machine h =
      at-time machine (settle machine) h (record {
        steady = record { pending = settle-pending (nodes_of program) (now_of machine) machine.state.pending h.at.steady.pending; wide = h.at.steady.wide };
        dump = h.at.dump;
      })

  phased-kept : (machine : Machine) → Keeps machine → Keeps (phase program machine)
  phased-kept machine h = at-time machine (phase program machine) h (phase-keeps program linked plain (now_of machine) h.few machine h.at)

  -- the least time of what is pending is reached
  advance-kept : (due : Due) (dues : List Due) (machine : Machine) → dues_of machine ≡ due ∷ dues → Keeps machine → Keeps (advance machine)
  advance-kept due dues machine are h =
      let now : ℕ = now_of machine in
      let least : ℕ = least_time (dues_of machine) in
      let goes : Advances (nodes_of program) now (dues_of machine) = subst (Advances (nodes_of program) now) (sym are) (advance-on-time (nodes_of program) now due dues (subst (All (IsOnTime (nodes_of program) now)) are h.at.steady.pending.dues)) in
      record {
        few = goes.in_time;
        at = record {
          steady = record { pending = record { at = refl; dues = goes.on_time }; wide = h.at.steady.wide };
          dump = later-kept program now least machine.tasks goes.onward h.at.dump;
        };
      }

  idle-kept : (machine : Machine) → Keeps machine → Keeps (idle machine)
  idle-kept machine h = record { few = h.few; at = record { steady = h.at.steady; dump = h.at.dump } }

  time_ends-kept : (dues : List Due) (machine : Machine) → dues_of machine ≡ dues → Keeps machine → Keeps (time_ends program dues machine)
  time_ends-kept [] machine are h = idle-kept (phase program machine) (phased-kept machine h)
  time_ends-kept (due ∷ dues) machine are h = settle-kept (advance (phase program machine)) (advance-kept due dues (phase program machine) are (phased-kept machine h))

  ready-kept : (machine : Machine) → Keeps machine → Keeps (ready program machine)
  ready-kept machine h =
      let settled : Machine = settle machine in
      let kept : Keeps settled = settle-kept machine h in
      either-kept (is_ready settled) settled (time_ends program (dues_of settled) settled) kept (time_ends-kept (dues_of settled) settled refl kept)

  -- ---- taking a due

  apply-kept : (now : ℕ) (few : now < 2 ^ 64) (act : Act) (machine : Machine) → NamesKind (nodes_of program) act → IsKeptAt program now machine → IsKeptAt program now (apply program act machine)
  apply-kept now few (Eval item) machine names h = record { steady = eval-steady program linked now few item machine.state h.steady names; dump = h.dump }
  apply-kept now few (Run serial key) machine names h = by (is_live serial machine)
    where
      by : (b : Bool) → IsKeptAt program now (cond b (with_running (Some serial) machine) machine)
      by true = record { steady = h.steady; dump = h.dump }
      by false = h
  apply-kept now few (Update item word offset value) machine names h = record { steady = write-steady (nodes_of program) now few item word offset value machine.state h.steady; dump = h.dump }
  apply-kept now few (Mature item number) machine names h = record { steady = mature-steady program linked now few item number machine.state h.steady names; dump = h.dump }

  take-kept : (place : ℕ) (due : Option Due) (machine : Machine) → slice_get (active_dues (now_of machine) (dues_of machine)) place ≡ due → Keeps machine → Keeps (take program place due machine)
  take-kept place None machine at h = h
  take-kept place (Some due) machine at h =
      let now : ℕ = now_of machine in
      let taken : Machine = with_taken (without_due place machine) in
      let kept : IsKeptAt program now taken = record {
        steady = record { pending = taken-pending (nodes_of program) now place machine.state.pending h.at.steady.pending; wide = h.at.steady.wide };
        dump = h.at.dump;
      } in
      let named = (active-on-time (nodes_of program) now machine.state.pending place due h.at.steady.pending at).names in
      at-time machine (take program place (Some due) machine) h (counted-kept now (apply program due.act taken) (apply-kept now h.few due.act taken named kept))

  -- ---- steps

  goes_on-kept : (choose : Machine → ℕ) (running : Option ℕ) (machine : Machine) → Keeps machine → Keeps (goes_on program choose running machine)
  goes_on-kept choose (Some serial) machine h = proceeds-kept serial (thread_of machine.state.threads serial) machine h
  goes_on-kept choose None machine h =
      let settled : Machine = ready program machine in
      take-kept (choose settled) (slice_get (active_dues (now_of settled) (dues_of settled)) (choose settled)) settled refl (ready-kept machine h)

  step_from-kept : (choose : Machine → ℕ) (ending : Option Ending) (machine : Machine) → Keeps machine → Keeps (step_from program choose ending machine)
  step_from-kept choose (Some ending) machine h = h
  step_from-kept choose None machine h = goes_on-kept choose machine.running machine h

  pub step-kept : (order : ℕ) (machine : Machine) → Keeps machine → Keeps (step program order machine)
  step-kept order machine h = step_from-kept (choice_of order) machine.ending machine h

  pub budgeted-kept : (machine : Machine) → Keeps machine → Keeps (budgeted program machine)
  budgeted-kept machine h = either-kept (is_idle machine) (idle (phase program machine)) machine (idle-kept (phase program machine) (phased-kept machine h)) h
