-- Calls of tasks and functions, and the read-only phase: what an engine keeps, and what it shows.
use Rattle.std.proofs.Common.{◌≡◌, ℕ, ◌+◌, true, Some, List, refl, sym, ap, subst, ◌∙◌}
use Rattle.four_state.specs.declared.bits.Bit.{Bit}
use Rattle.vvp_threads.specs.declared.thread.Frame.{Frame}
use Rattle.vvp_threads.specs.declared.thread.Thread.{Thread}
use Rattle.vvp_threads.specs.Table.{thread_of}
use Rattle.vvp_threads.specs.Keyed.{KeyedTable}
use Rattle.vvp_ops.specs.declared.op.Op.{Op}
use Rattle.sym_link.specs.declared.program.Program.{Program}
use Rattle.sym_link.specs.Roots.{Node, nodes_of}
use Rattle.net_engine.specs.Net.{words_of}
use Rattle.sys_tasks.specs.declared.names.Said.{Said}
use Rattle.sys_tasks.specs.declared.names.Said.TheVariants as said
use Rattle.sys_tasks.specs.Design.{Design}
use Rattle.sys_tasks.specs.Conditions.{IsBetween}
use Rattle.sys_tasks.specs.Phase.{IsPartOf, read_only}
use Rattle.sys_tasks.specs.Tasks.{TasksNow, answered, called, said_of}
use Rattle.sys_tasks.specs.KeepLemmas.{called-design, read_only-design}
use Rattle.sim_core.specs.Machine.{Machine, at_next, framed, now_of, phase, words_now}
use Rattle.sim_core.specs.Effects.{function_called, items_of, scope_at, task_called, told, with_item, without_items}
use Rattle.sim_core.specs.Engine.{Shown, with_sent}
use Rattle.sim_core.specs.Kept.{Held, IsSound}
use Rattle.sim_core.specs.Parts.{PhaseCut, ShownFails, ShownFollows, task_done}
use Rattle.sim_core.proofs.FailLemmas.{After, added, between-before, emptied, sent_of, unprinted-fails}
use Rattle.sim_core.proofs.SentLemmas.{called-after, task-after}
use Rattle.sim_core.proofs.SoundLemmas.{sound-framed}
use Rattle.sim_core.proofs.StepLemmas.{MachineFollows, task-follows}
use Rattle.sim_core.proofs.WholeLemmas.{Whole, shown_of}

-- ---- the design stays

sound-designed : (h : Held) (design : Design) → design ≡ h.design → IsSound h → IsSound (record h { design = design })
sound-designed h design same s = subst (λ (d : Design). IsSound (record h { design = d })) (sym same) s

-- ---- the read-only phase

pub phase-sound : (h : Held) (tasks new : TasksNow) (now : ℕ) (words : ℕ → List (List Bit)) → h.design ≡ tasks.design → new ≡ read_only now words tasks → IsSound h → IsSound (record h { design = new.design })
phase-sound h tasks new now words same is s = sound-designed h new.design (ap (λ (t : TasksNow). t.design) is ∙ read_only-design now words tasks ∙ sym same) s

pub phase-shown : (w : Whole) (old : Shown) (tasks : TasksNow) → shown_of w ≡ old → w.held.net.nodes ≡ nodes_of w.held.program → tasks ≡ read_only w.held.schedule.now (words_of w.held.net.nodes w.held.net.values) w.tasks
    → shown_of (record w { tasks = tasks }) ≡ record old { machine = phase old.program old.machine }
phase-shown w old tasks view nodes is =
    ap (λ (t : TasksNow). shown_of (record w { tasks = t })) (is ∙ ap (λ (ns : List Node). read_only w.held.schedule.now (words_of ns w.held.net.values) w.tasks) nodes)
    ∙ ap (λ (s : Shown). record s { machine = phase s.program s.machine }) view

pub phase-cut : (w : Whole) (old : Shown) (tasks : TasksNow) → shown_of w ≡ old → w.held.net.nodes ≡ nodes_of w.held.program → IsPartOf w.tasks (read_only w.held.schedule.now (words_of w.held.net.nodes w.held.net.values) w.tasks) tasks
    → PhaseCut old (shown_of (record w { tasks = tasks; failed = true }))
phase-cut w old tasks view nodes part =
    let moved : IsPartOf w.tasks (phase w.held.program (shown_of w).machine).tasks tasks = subst (λ (ns : List Node). IsPartOf w.tasks (read_only w.held.schedule.now (words_of ns w.held.net.values) w.tasks) tasks) nodes part in
    subst (λ (s : Shown). PhaseCut s (shown_of (record w { tasks = tasks; failed = true }))) view (record {
      cut = record { out = moved.out; dump = moved.dump };
      kept = record { values = refl; pending = refl; running = refl; taken = refl; ending = refl };
      program = refl;
      order = refl;
    })

-- ---- a task

-- the frame that a call leaves
abbrev pub popped_frame : Op ℕ → Frame → Frame
popped_frame op frame = record (without_items op frame) { pc = frame.pc + 1 }

pub task-sound : (w : Whole) (op : Op ℕ) (scope now : ℕ) (words : ℕ → List (List Bit)) (kept : List (List Bit)) (serial : ℕ) (thread : Thread) (tasks : TasksNow) (threads : KeyedTable) → IsSound w.held → w.held.design ≡ w.tasks.design
    → thread_of w.held.threads.table serial ≡ Some thread → tasks ≡ called op scope kept now words w.tasks → threads ≡ record w.held.threads { table = framed serial (popped_frame op thread.frame) w.held.threads.table }
    → IsSound (record w.held { threads = threads; design = tasks.design })
task-sound w op scope now words kept serial thread tasks threads s same live is goes =
    subst (λ (t : KeyedTable). IsSound (record w.held { threads = t; design = tasks.design })) (sym goes)
    (sound-designed (record w.held { threads = record w.held.threads { table = framed serial (popped_frame op thread.frame) w.held.threads.table } }) tasks.design
    (ap (λ (t : TasksNow). t.design) is ∙ called-design op scope kept now words w.tasks ∙ sym same)
    (sound-framed w.held serial (popped_frame op thread.frame) thread live (λ place child e. (place, e)) s))

pub task-shown : (w : Whole) (old : Shown) (op : Op ℕ) (scope now : ℕ) (serial : ℕ) (thread : Thread) (tasks : TasksNow) (threads : KeyedTable) → shown_of w ≡ old → w.held.net.nodes ≡ nodes_of w.held.program
    → scope ≡ scope_at w.held.program thread.frame.pc → now ≡ w.held.schedule.now
    → tasks ≡ called op scope (items_of op thread.frame) now (words_of w.held.net.nodes w.held.net.values) w.tasks → threads ≡ record w.held.threads { table = framed serial (popped_frame op thread.frame) w.held.threads.table }
    → shown_of (record w { tasks = tasks; held = record w.held { threads = threads; design = tasks.design } }) ≡ record old { machine = task_done old.program op serial thread.frame old.machine }
task-shown w old op scope now serial thread tasks threads view nodes at time is goes =
    ap (λ (t : TasksNow). shown_of (record w { tasks = t; held = record w.held { threads = threads } }))
    (is ∙ ap (λ (ns : List Node). called op scope (items_of op thread.frame) now (words_of ns w.held.net.values) w.tasks) nodes
    ∙ ap (λ (k : ℕ). called op k (items_of op thread.frame) now (words_of (nodes_of w.held.program) w.held.net.values) w.tasks) at
    ∙ ap (λ (k : ℕ). called op (scope_at w.held.program thread.frame.pc) (items_of op thread.frame) k (words_of (nodes_of w.held.program) w.held.net.values) w.tasks) time)
    ∙ ap (λ (t : KeyedTable). shown_of (record w {
      tasks = called op (scope_at w.held.program thread.frame.pc) (items_of op thread.frame) w.held.schedule.now (words_of (nodes_of w.held.program) w.held.net.values) w.tasks;
      held = record w.held { threads = t };
    })) goes
    ∙ ap (λ (s : Shown). record s { machine = task_done s.program op serial thread.frame s.machine }) view

told-steps : (program : Program) (s : Said) (machine : Machine) → (told program s machine).steps ≡ machine.steps
told-steps program said.Going machine = refl
told-steps program said.Finish machine = refl
told-steps program said.Stop machine = refl

-- a task that was called, and what it says
pub call-follows : (old mid new : Shown) (op : Op ℕ) (told_by : Said) (serial : ℕ) (frame : Frame) → mid ≡ record old { machine = task_done old.program op serial frame old.machine } → told_by ≡ said_of op
    → new ≡ record mid { machine = told mid.program told_by mid.machine } → ShownFollows (task_called old.program op serial frame) old new
call-follows old mid new op told_by serial frame done says goes =
    let whole : new ≡ record old { machine = task_called old.program op serial frame old.machine } =
    goes ∙ ap (λ (s : Said). record mid { machine = told mid.program s mid.machine }) says ∙ ap (λ (m : Shown). record m { machine = told m.program (said_of op) m.machine }) done in
    record {
      machine = subst (λ (m : Machine). MachineFollows (task_called old.program op serial frame) old.machine m) (sym (ap (λ (s : Shown). s.machine) whole)) (task-follows old.program op serial frame old.machine);
      program = ap (λ (s : Shown). s.program) whole;
      order = ap (λ (s : Shown). s.order) whole;
      failed = ap (λ (s : Shown). s.failed) whole;
      steps = ap (λ (s : Shown). s.machine.steps) whole ∙ told-steps old.program (said_of op) (task_done old.program op serial frame old.machine);
    }

-- memory was wanting for the call
pub call-fails : (old new : Shown) (op : Op ℕ) (serial : ℕ) (frame : Frame) → new ≡ old → ShownFails (task_called old.program op serial frame) old new
call-fails old new op serial frame still =
    unprinted-fails (task_called old.program op serial frame) old new (task-after old.program op serial frame)
    (record { out = ap (λ (s : Shown). s.machine.tasks.out) still; dump = ap (λ (s : Shown). s.machine.tasks.dump) still; program = ap (λ (s : Shown). s.program) still; order = ap (λ (s : Shown). s.order) still })

-- what a task prints is added
done-after : (program : Program) (op : Op ℕ) (serial : ℕ) (frame : Frame) → After (task_done program op serial frame)
done-after program op serial frame sent machine =
    ap (λ (t : TasksNow). at_next serial (without_items op frame) (record machine { tasks = t })) (called-after op (scope_at program frame.pc) (items_of op frame) (now_of machine) (words_now program machine) sent machine.tasks)

-- what a phase that ends the run has printed
told-tasks : (program : Program) (s : Said) (machine : Machine) → (s ≡ said.Going → ⊥) → (told program s machine).tasks ≡ (phase program machine).tasks
told-tasks program said.Going machine other = absurd (other refl)
told-tasks program said.Finish machine other = refl
told-tasks program said.Stop machine other = refl

-- memory was wanting in the phase after the call
pub told-fails : (old mid new : Shown) (op : Op ℕ) (told_by : Said) (serial : ℕ) (frame : Frame) → mid ≡ record old { machine = task_done old.program op serial frame old.machine } → told_by ≡ said_of op → (told_by ≡ said.Going → ⊥)
    → PhaseCut mid new → ShownFails (task_called old.program op serial frame) old new
told-fails old mid new op told_by serial frame done says ends cut = record {
  cut = λ machine e.
      let tasks : (task_called old.program op serial frame machine).tasks ≡ (phase old.program (task_done old.program op serial frame old.machine)).tasks =
      told-tasks old.program (said_of op) (task_done old.program op serial frame machine) (λ g. ends (says ∙ g))
      ∙ ap (λ (m : Machine). (phase old.program (task_done old.program op serial frame m)).tasks) e in
      let due : (phase mid.program mid.machine).tasks ≡ (task_called old.program op serial frame machine).tasks = ap (λ (s : Shown). (phase s.program s.machine).tasks) done ∙ sym tasks in
      let before : mid.machine ≡ with_sent (sent_of old.machine) (task_done old.program op serial frame (emptied old.machine)) =
      ap (λ (s : Shown). s.machine) done ∙ added (task_done old.program op serial frame) (done-after old.program op serial frame) old.machine in
      record {
        out = between-before old.machine.tasks.out mid.machine.tasks.out (task_called old.program op serial frame machine).tasks.out new.machine.tasks.out (task_done old.program op serial frame (emptied old.machine)).tasks.out
            (ap (λ (m : Machine). m.tasks.out) before)
            (subst (λ (t : TasksNow). IsBetween mid.machine.tasks.out t.out new.machine.tasks.out) due cut.cut.out);
        dump = between-before old.machine.tasks.dump mid.machine.tasks.dump (task_called old.program op serial frame machine).tasks.dump new.machine.tasks.dump (task_done old.program op serial frame (emptied old.machine)).tasks.dump
            (ap (λ (m : Machine). m.tasks.dump) before)
            (subst (λ (t : TasksNow). IsBetween mid.machine.tasks.dump t.dump new.machine.tasks.dump) due cut.cut.dump);
      };
  program = cut.program ∙ ap (λ (s : Shown). s.program) done;
  order = cut.order ∙ ap (λ (s : Shown). s.order) done;
}

-- ---- a function

abbrev pub answered_frame : Op ℕ → List Bit → Frame → Frame
answered_frame op value frame = record (with_item value (without_items op frame)) { pc = frame.pc + 1 }

pub function-sound : (w : Whole) (op : Op ℕ) (value : List Bit) (serial : ℕ) (thread : Thread) (threads : KeyedTable) → IsSound w.held → thread_of w.held.threads.table serial ≡ Some thread
    → threads ≡ record w.held.threads { table = framed serial (answered_frame op value thread.frame) w.held.threads.table } → IsSound (record w.held { threads = threads })
function-sound w op value serial thread threads s live goes =
    subst (λ (t : KeyedTable). IsSound (record w.held { threads = t })) (sym goes) (sound-framed w.held serial (answered_frame op value thread.frame) thread live (λ place child e. (place, e)) s)

pub function-shown : (w : Whole) (old : Shown) (op : Op ℕ) (scope now : ℕ) (serial : ℕ) (thread : Thread) (threads : KeyedTable) → shown_of w ≡ old → w.held.net.nodes ≡ nodes_of w.held.program
    → scope ≡ scope_at w.held.program thread.frame.pc → now ≡ w.held.schedule.now
    → threads ≡ record w.held.threads { table = framed serial (answered_frame op (answered op scope (items_of op thread.frame) now (words_of w.held.net.nodes w.held.net.values) w.tasks.design) thread.frame) w.held.threads.table }
    → shown_of (record w { held = record w.held { threads = threads } }) ≡ record old { machine = function_called old.program op serial thread.frame old.machine }
function-shown w old op scope now serial thread threads view nodes at time goes =
    ap (λ (t : KeyedTable). shown_of (record w { held = record w.held { threads = t } }))
    (goes
    ∙ ap (λ (v : List Bit). record w.held.threads { table = framed serial (answered_frame op v thread.frame) w.held.threads.table })
    (ap (λ (ns : List Node). answered op scope (items_of op thread.frame) now (words_of ns w.held.net.values) w.tasks.design) nodes
    ∙ ap (λ (k : ℕ). answered op k (items_of op thread.frame) now (words_of (nodes_of w.held.program) w.held.net.values) w.tasks.design) at
    ∙ ap (λ (k : ℕ). answered op (scope_at w.held.program thread.frame.pc) (items_of op thread.frame) k (words_of (nodes_of w.held.program) w.held.net.values) w.tasks.design) time))
    ∙ ap (λ (s : Shown). record s { machine = function_called s.program op serial thread.frame s.machine }) view
