-- Settling, the phase and advancing, as an engine does them one by one.
use Rattle.std.proofs.Common.{◌≡◌, ℕ, zero, suc, ◌<◌, ◌≤◌, Bool, true, false, cond, List, [], ◌∷◌, length, map, get_or, refl, sym, ap, subst, ◌∙◌, arith}
use Rattle.std.specs.List.{All, list_any}
use Rattle.std.proofs.lemmas.List.Elements.{All-map}
use Rattle.event_pool.specs.declared.agenda.Due.{Due}
use Rattle.event_pool.specs.declared.agenda.Region.TheVariants.{Active}
use Rattle.event_pool.specs.declared.agenda.Settled.TheVariants.{Ready, TimeEnds, Empty}
use Rattle.event_pool.specs.Pending.{Pending, pending_of, unkeyed}
use Rattle.event_pool.specs.Schedule.{Schedule, advanced, is_active_at, settled, settled_dues, settled_of}
use Rattle.event_pool.proofs.FollowLemmas.{any-in_order, length-shown}
use Rattle.event_pool.proofs.Keys.{any-unkeyed}
use Rattle.sys_tasks.specs.Tasks.{TasksNow}
use Rattle.sym_link.specs.declared.program.Program.{Program}
use Rattle.sim_core.specs.Machine.{Machine, dues_of, now_of, phase}
use Rattle.sim_core.specs.Step.{advance, idle, is_ready, ready, settle, time_ends}
use Rattle.sim_core.specs.Engine.{Shown, in_turn_of_machine}
use Rattle.sim_core.specs.Kept.{Held, IsSound}
use Rattle.sim_core.specs.Parts.{Cut, PhaseCut, ShownFails, ShownFollows, is_ready_state, with_pending}
use Rattle.sim_core.proofs.ActLemmas.{acts-none, acts-settled}
use Rattle.sim_core.proofs.SoundLemmas.{ordered-turn, sound-schedule}
use Rattle.sim_core.proofs.StepLemmas.{MachineFollows, advances, phase-follows, settles, with_agenda}

-- ---- what settling answers

-- whether it found a due to take
pub state-ready : (now : ℕ) (dues : List Due) → is_ready_state (settled_of now dues) ≡ list_any (is_active_at now) (map unkeyed dues)
state-ready now [] = refl
state-ready now (due ∷ dues) = go (list_any (is_active_at now) (due ∷ dues)) ∙ sym (any-unkeyed Active now (due ∷ dues)) where
  go : (b : Bool) → is_ready_state (cond b Ready TimeEnds) ≡ b
  go true = refl
  go false = refl

pub state-some : (now : ℕ) (dues : List Due) → settled_of now dues ≡ TimeEnds → 0 < length (map unkeyed dues)
state-some now [] e = absurd (let none : ⊥ = cc in none)
state-some now (due ∷ dues) e = omega arith

pub state-none : (now : ℕ) (dues : List Due) → settled_of now dues ≡ Empty → length (map unkeyed dues) ≡ 0
state-none now [] e = refl
state-none now (due ∷ dues) e = absurd (go (list_any (is_active_at now) (due ∷ dues)) e) where
  go : (b : Bool) → cond b Ready TimeEnds ≡ Empty → ⊥
  go true k = cc
  go false k = cc

-- a due without its key has its time
pub later-unkeyed : (now : ℕ) (dues : List Due) → All (λ (due : Due). now < due.time) dues → All (λ (due : Due). now < due.time) (map unkeyed dues)
later-unkeyed now dues all = (let P : Due → Type 0 = λ due. now < due.time in All-map P unkeyed dues all)

later-from : (now : ℕ) (dues : List Due) → All (λ (due : Due). now < due.time) (map unkeyed dues) → (k : ℕ) (d : Due) → k < length dues → now < (get_or dues k d).time
later-from now [] all k d within = absurd (omega arith)
later-from now (due ∷ dues) all zero d within = all zero d (omega arith)
later-from now (due ∷ dues) all (suc k) d within = later-from now dues (λ j e below. all (suc j) e (omega (arith, below))) k d (omega arith)

pub later-keyed : (now : ℕ) (dues : List Due) → All (λ (due : Due). now < due.time) (map unkeyed dues) → All (λ (due : Due). now < due.time) dues
later-keyed now dues all = λ k d within. later-from now dues all k d within

-- ---- an engine's agenda

-- what is kept by settling
pub sound-settled : (h : Held) (s : Schedule) → s ≡ settled h.schedule → IsSound h → IsSound (record h { schedule = s })
sound-settled h s e sound =
    subst (λ (t : Schedule). IsSound (record h { schedule = t })) (sym e)
    (sound-schedule h (settled h.schedule) (acts-settled h.schedule) (let same : h.schedule.spare ≤ h.schedule.spare = omega arith in same) (ordered-turn (settled_dues h.schedule.now h.schedule.dues)) sound)

-- and by advancing
pub sound-advanced : (h : Held) (s : Schedule) → s ≡ advanced h.schedule → IsSound h → IsSound (record h { schedule = s })
sound-advanced h s e sound =
    subst (λ (t : Schedule). IsSound (record h { schedule = t })) (sym e)
    (sound-schedule h (advanced h.schedule) (acts-none h.schedule.dues) (let same : h.schedule.spare ≤ h.schedule.spare = omega arith in same) sound.in_turn sound)

-- the dues of now are settled
pub settle-shown : (old : Shown) (s t : Schedule) → t ≡ settled s → old.machine.state.pending ≡ pending_of s
    → ShownFollows settle old (record old { machine = with_pending (pending_of t) old.machine })
settle-shown old s t e at = record {
  machine = subst (λ (p : Pending). MachineFollows settle (with_pending p old.machine) (with_pending (pending_of t) old.machine)) (sym at)
      (subst (λ (u : Schedule). MachineFollows settle (with_agenda s old.machine) (with_agenda u old.machine)) (sym e) (settles s old.machine));
  program = refl;
  order = refl;
  failed = refl;
  steps = refl;
}

pub advance-shown : (old : Shown) (s t : Schedule) → t ≡ advanced s → old.machine.state.pending ≡ pending_of s
    → ShownFollows advance old (record old { machine = with_pending (pending_of t) old.machine })
advance-shown old s t e at = record {
  machine = subst (λ (p : Pending). MachineFollows advance (with_pending p old.machine) (with_pending (pending_of t) old.machine)) (sym at)
      (subst (λ (u : Schedule). MachineFollows advance (with_agenda s old.machine) (with_agenda u old.machine)) (sym e) (advances s old.machine));
  program = refl;
  order = refl;
  failed = refl;
  steps = refl;
}

-- ---- a due is found, or the run ends

shown-ready : (machine shown : Machine) → in_turn_of_machine machine ≡ shown → is_ready machine ≡ is_ready shown
shown-ready machine shown e = sym (any-in_order (is_active_at (now_of machine)) (dues_of machine)) ∙ ap is_ready e

shown-count : (machine shown : Machine) → in_turn_of_machine machine ≡ shown → length (dues_of machine) ≡ length (dues_of shown)
shown-count machine shown e = length-shown machine.state.pending shown.state.pending (ap (λ (m : Machine). m.state.pending) e)

ends-some : (program : Program) (dues : List Due) (machine : Machine) → 0 < length dues → time_ends program dues machine ≡ settle (advance (phase program machine))
ends-some program [] machine some = absurd (omega arith)
ends-some program (due ∷ dues) machine some = refl

ends-none : (program : Program) (dues : List Due) (machine : Machine) → length dues ≡ 0 → time_ends program dues machine ≡ idle (phase program machine)
ends-none program [] machine none = refl
ends-none program (due ∷ dues) machine none = absurd (omega arith)

never-ready : (dues : List Due) (now : ℕ) → length dues ≡ 0 → list_any (is_active_at now) dues ≡ false
never-ready [] now none = refl
never-ready (due ∷ dues) now none = absurd (omega arith)

-- a due is ready once the machine has settled
pub found-now : (program : Program) (old new : Shown) → ShownFollows settle old new → is_ready new.machine ≡ true → ShownFollows (ready program) old new
found-now program old new k is = record {
  machine = record {
    shown = λ machine e.
        let after = (k.machine).shown machine e in
        ap (λ (b : Bool). in_turn_of_machine (cond b (settle machine) (time_ends program (dues_of (settle machine)) (settle machine)))) (shown-ready (settle machine) new.machine after ∙ is) ∙ after;
  };
  program = k.program;
  order = k.order;
  failed = k.failed;
  steps = k.steps;
}

-- every due is later
pub found-later : (program : Program) (old mid third fourth new : Shown) → ShownFollows settle old mid → is_ready mid.machine ≡ false → 0 < length (dues_of mid.machine)
    → third ≡ record mid { machine = phase program mid.machine } → ShownFollows advance third fourth → ShownFollows settle fourth new → ShownFollows (ready program) old new
found-later program old mid third fourth new k is some same a s = record {
  machine = record {
    shown = λ machine e.
        let after = (k.machine).shown machine e in
        let left : 0 < length (dues_of (settle machine)) = omega (arith, shown-count (settle machine) mid.machine after, some) in
        ap (λ (b : Bool). in_turn_of_machine (cond b (settle machine) (time_ends program (dues_of (settle machine)) (settle machine)))) (shown-ready (settle machine) mid.machine after ∙ is)
        ∙ ap in_turn_of_machine (ends-some program (dues_of (settle machine)) (settle machine) left)
        ∙ (s.machine).shown (advance (phase program (settle machine)))
        ((a.machine).shown (phase program (settle machine)) ((phase-follows program mid.machine).shown (settle machine) after ∙ ap (λ (t : Shown). t.machine) (sym same)));
  };
  program = s.program ∙ a.program ∙ ap (λ (t : Shown). t.program) same ∙ k.program;
  order = s.order ∙ a.order ∙ ap (λ (t : Shown). t.order) same ∙ k.order;
  failed = s.failed ∙ a.failed ∙ ap (λ (t : Shown). t.failed) same ∙ k.failed;
  steps = s.steps ∙ a.steps ∙ ap (λ (t : Shown). t.machine.steps) same ∙ k.steps;
}

-- nothing is pending
pub found-never : (program : Program) (old mid new : Shown) → ShownFollows settle old mid → length (dues_of mid.machine) ≡ 0
    → new ≡ record mid { machine = idle (phase program mid.machine) } → ShownFollows (ready program) old new
found-never program old mid new k none same = record {
  machine = record {
    shown = λ machine e.
        let after = (k.machine).shown machine e in
        let count : length (dues_of (settle machine)) ≡ 0 = shown-count (settle machine) mid.machine after ∙ none in
        ap (λ (b : Bool). in_turn_of_machine (cond b (settle machine) (time_ends program (dues_of (settle machine)) (settle machine)))) (never-ready (dues_of (settle machine)) (now_of (settle machine)) count)
        ∙ ap in_turn_of_machine (ends-none program (dues_of (settle machine)) (settle machine) count)
        ∙ ap idle ((phase-follows program mid.machine).shown (settle machine) after) ∙ ap (λ (t : Shown). t.machine) (sym same);
  };
  program = ap (λ (t : Shown). t.program) same ∙ k.program;
  order = ap (λ (t : Shown). t.order) same ∙ k.order;
  failed = ap (λ (t : Shown). t.failed) same ∙ k.failed;
  steps = ap (λ (t : Shown). t.machine.steps) same ∙ k.steps;
}

-- the machine that has ended finds no due
pub never-found : (program : Program) (mid new : Shown) → length (dues_of mid.machine) ≡ 0 → new ≡ record mid { machine = idle (phase program mid.machine) } → is_ready new.machine ≡ false
never-found program mid new none same = ap (λ (t : Shown). is_ready t.machine) same ∙ never-ready (dues_of mid.machine) (now_of mid.machine) none

-- ---- want of memory in the phase

either-tasks : (b : Bool) (x y : Machine) (t : TasksNow) → b ≡ false → y.tasks ≡ t → (cond b x y).tasks ≡ t
either-tasks true x y t never e = absurd (let none : ⊥ = cc in none)
either-tasks false x y t never e = e

time-tasks : (program : Program) (dues : List Due) (machine : Machine) → (time_ends program dues machine).tasks ≡ (phase program machine).tasks
time-tasks program [] machine = refl
time-tasks program (due ∷ dues) machine = refl

pub phase-fails : (program : Program) (old mid new : Shown) → ShownFollows settle old mid → mid ≡ record old { machine = with_pending mid.machine.state.pending old.machine } → is_ready mid.machine ≡ false
    → old.program ≡ program → PhaseCut mid new → ShownFails (ready program) old new
phase-fails program old mid new k rest is at c = record {
  cut = λ machine e.
      let after = (k.machine).shown machine e in
      let due : (ready program machine).tasks ≡ (phase program mid.machine).tasks =
      either-tasks (is_ready (settle machine)) (settle machine) (time_ends program (dues_of (settle machine)) (settle machine)) (phase program mid.machine).tasks (shown-ready (settle machine) mid.machine after ∙ is)
      (time-tasks program (dues_of (settle machine)) (settle machine) ∙ ap (λ (m : Machine). m.tasks) ((phase-follows program mid.machine).shown (settle machine) after)) in
      let first : mid.machine.tasks ≡ old.machine.tasks = ap (λ (t : Shown). t.machine.tasks) rest in
      let same : mid.program ≡ program = k.program ∙ at in
      subst (λ (t : TasksNow). Cut old.machine.tasks t new.machine.tasks) (sym due)
      (subst (λ (t : TasksNow). Cut t (phase program mid.machine).tasks new.machine.tasks) first
      (subst (λ (p : Program). Cut mid.machine.tasks (phase p mid.machine).tasks new.machine.tasks) same c.cut));
  program = c.program ∙ k.program;
  order = c.order ∙ k.order;
}
