-- Opcodes in a row that ask nothing of the run but to go on are as many steps of the machine.
use Rattle.std.proofs.Common.{◌≡◌, ℕ, zero, suc, ◌+◌, ◌<◌, max, Bool, true, false, not, ◌&&◌, is_none, is_some, Option, Some, None, List, length, refl, sym, ap, subst, ◌∙◌, arith}
use Rattle.std.specs.List.{slice_get}
use Rattle.std.proofs.Math.Nat.{le-max_left, le-max_right, le_refl, max-le}
use Rattle.std.proofs.lemmas.Option.{slice_get_within}
use Rattle.four_state.specs.declared.bits.Bit.{Bit}
use Rattle.event_pool.specs.Pending.{in_turn}
use Rattle.event_pool.proofs.FollowLemmas.{follows-exactly, length-shown}
use Rattle.vvp_threads.specs.declared.thread.Frame.{Frame}
use Rattle.vvp_threads.specs.declared.thread.Thread.{Thread}
use Rattle.vvp_threads.specs.Table.{Table, thread_of, with_frame}
use Rattle.vvp_threads.specs.Keyed.{KeyedTable}
use Rattle.vvp_ops.specs.declared.op.Op.{Op}
use Rattle.op_exec.specs.declared.effect.TrapKind.{TrapKind}
use Rattle.op_exec.specs.declared.effect.Effect.{Effect}
use Rattle.op_exec.specs.declared.effect.Effect.TheVariants.{Next, Goto, Trap}
use Rattle.op_exec.specs.Does.{does}
use Rattle.net_engine.specs.Net.{NetValues, words_of}
use Rattle.net_engine.specs.State.{with_threads}
use Rattle.sim_core.specs.declared.ending.Ending.{Ending}
use Rattle.sym_link.specs.declared.program.Program.{Program}
use Rattle.sym_link.specs.Roots.{Node, nodes_of}
use Rattle.sim_core.specs.Machine.{Machine, counted, dues_of, framed, on_threads, words_now}
use Rattle.sim_core.specs.Effects.{affect, done as opcode_done}
use Rattle.sim_core.specs.Step.{after, proceeds, step}
use Rattle.sim_core.specs.Engine.{EngineFollows, Shown, in_turn_of_machine}
use Rattle.sim_core.specs.Kept.{Held, IsSound}
use Rattle.sim_core.specs.Parts.{Done, Runs, peaked}
use Rattle.sim_core.specs.Stretch.{FrameRan, RanOn, frame_after, frame_by, gone_on, is_going, next_frame, with_steps}
use Rattle.sim_core.proofs.DescendLemmas.{AreAmong}
use Rattle.sim_core.proofs.FrameLemmas.{framed-live, framed-same, framed-twice}
use Rattle.sim_core.proofs.RowLemmas.{does-leaves, does-traps}
use Rattle.sim_core.proofs.RunsLemmas.{after-sent}
use Rattle.sim_core.proofs.SentLemmas.{sent-follows}
use Rattle.sim_core.proofs.SoundLemmas.{sound-framed}
use Rattle.sim_core.proofs.StepLemmas.{MachineFollows, follows-by, step-runs}
use Rattle.sim_core.proofs.WholeLemmas.{Whole, shown_of}

-- ---- one opcode

some_frame : (x y : Frame) → Some x ≡ Some y → x ≡ y
some_frame x y e = cc

effect-goes : (program : Program) (op : Op ℕ) (effect : Effect) (serial : ℕ) (left new : Frame) (machine : Machine) → gone_on left effect ≡ Some new
    → affect program op effect serial left machine ≡ on_threads (framed serial new) machine
effect-goes program op Next serial left new machine goes = ap (λ (f : Frame). on_threads (framed serial f) machine) (some_frame (record left { pc = left.pc + 1 }) new goes)
effect-goes program op (Goto place) serial left new machine goes = ap (λ (f : Frame). on_threads (framed serial f) machine) (some_frame (record left { pc = place }) new goes)
effect-goes program op other serial left new machine goes = absurd (let none : ⊥ = cc in none)

done-goes : (program : Program) (op : Option (Op ℕ)) (serial : ℕ) (old new : Frame) (machine : Machine) → frame_by (words_now program machine) old op ≡ Some new
    → opcode_done program op serial old machine ≡ on_threads (framed serial new) machine
done-goes program None serial old new machine goes = absurd (let none : ⊥ = cc in none)
done-goes program (Some op) serial old new machine goes =
    effect-goes program op (does op old (words_now program machine)).1 serial (does op old (words_now program machine)).0 new machine goes

step-goes : (program : Program) (order serial : ℕ) (thread : Thread) (frame : Frame) (machine : Machine) → machine.ending ≡ None → machine.running ≡ Some serial → thread_of machine.state.threads serial ≡ Some thread
    → frame_by (words_now program machine) thread.frame (slice_get program.code thread.frame.pc) ≡ Some frame → step program order machine ≡ counted (on_threads (framed serial frame) machine)
step-goes program order serial thread frame machine going runs live goes =
    step-runs program order serial machine going runs
    ∙ ap (λ (t : Option Thread). proceeds program serial t machine) live
    ∙ ap counted (done-goes program (slice_get program.code thread.frame.pc) serial thread.frame frame machine goes)

-- ---- many

-- the machine after so many, of which there was one at least
abbrev pub ran : ℕ → ℕ → Frame → Machine → Machine
ran count serial frame machine = peaked (with_steps count (on_threads (framed serial frame) machine))

-- the frame before the last one
last-goes : (code : List (Op ℕ)) (words : ℕ → List (List Bit)) (before : Option Frame) (frame : Frame) → next_frame code words before ≡ Some frame
    → (mid : Frame) × (before ≡ Some mid) × (frame_by words mid (slice_get code mid.pc) ≡ Some frame)
last-goes code words None frame goes = absurd (let none : ⊥ = cc in none)
last-goes code words (Some mid) frame goes = (mid, refl, goes)

max-again : (peak many : ℕ) → max (max peak many) many ≡ max peak many
max-again peak many = let most = max-le (le_refl (max peak many)) (le-max_right peak many) in omega (arith, most, le-max_left (max peak many) many)

-- a machine with other threads and counts
abbrev with_counts : Machine → Table → ℕ → ℕ → Machine
with_counts machine table steps peak = record machine { state = record machine.state { threads = table }; steps = steps; peak = peak }

ran-more : (count serial : ℕ) (thread : Thread) (mid frame : Frame) (machine : Machine) → thread_of machine.state.threads serial ≡ Some thread
    → counted (on_threads (framed serial frame) (ran count serial mid machine)) ≡ ran (suc count) serial frame machine
ran-more count serial thread mid frame machine live =
    let more : machine.steps + count + 1 ≡ machine.steps + suc count = omega arith in
    ap (λ (t : Table). with_counts machine t (machine.steps + count + 1) (max (max machine.peak (length (dues_of machine))) (length (dues_of machine)))) (framed-twice serial frame mid machine.state.threads thread live)
    ∙ ap (λ (n : ℕ). with_counts machine (framed serial frame machine.state.threads) n (max (max machine.peak (length (dues_of machine))) (length (dues_of machine)))) more
    ∙ ap (λ (n : ℕ). with_counts machine (framed serial frame machine.state.threads) (machine.steps + suc count) n) (max-again machine.peak (length (dues_of machine)))

after-ran : (program : Program) (order count serial : ℕ) (thread : Thread) (frame : Frame) (machine : Machine) → machine.ending ≡ None → machine.running ≡ Some serial → thread_of machine.state.threads serial ≡ Some thread
    → frame_after program.code (words_now program machine) (suc count) thread.frame ≡ Some frame → after program order (suc count) machine ≡ ran (suc count) serial frame machine
after-ran program order zero serial thread frame machine going runs live goes = step-goes program order serial thread frame machine going runs live goes
after-ran program order (suc count) serial thread frame machine going runs live goes =
    let last = last-goes program.code (words_now program machine) (frame_after program.code (words_now program machine) (suc count) thread.frame) frame goes in
    ap (step program order) (after-ran program order count serial thread last.0 machine going runs live last.1)
    ∙ step-goes program order serial (with_frame last.0 thread) frame (ran (suc count) serial last.0 machine) going runs (framed-live serial last.0 machine.state.threads thread live) last.2
    ∙ ran-more (suc count) serial thread last.0 frame machine live

-- ---- what is shown

ran-follows : (count serial : ℕ) (frame : Frame) (old : Machine) → MachineFollows (ran count serial frame) old (ran count serial frame old)
ran-follows count serial frame old = follows-exactly in_turn_of_machine (ran count serial frame) old (λ m.
    ap (λ (n : ℕ). record (with_steps count (on_threads (framed serial frame) (in_turn_of_machine m))) { peak = max m.peak n }) (length-shown m.state.pending (in_turn m.state.pending) refl))

stretch-follows : (program : Program) (order count serial : ℕ) (thread : Thread) (frame : Frame) (old : Machine) → 0 < count → old.ending ≡ None → old.running ≡ Some serial → thread_of old.state.threads serial ≡ Some thread
    → frame_after program.code (words_now program old) count thread.frame ≡ Some frame → MachineFollows (after program order count) old (ran count serial frame old)
stretch-follows program order zero serial thread frame old some going runs live goes = absurd (omega (arith, some))
stretch-follows program order (suc count) serial thread frame old some going runs live goes =
    follows-by (after program order (suc count)) (ran (suc count) serial frame) old (ran (suc count) serial frame old)
    (λ machine e.
    after-ran program order count serial thread frame machine (ap (λ (m : Machine). m.ending) e ∙ going) (ap (λ (m : Machine). m.running) e ∙ runs)
    (ap (λ (m : Machine). thread_of m.state.threads serial) e ∙ live)
    (ap (λ (v : NetValues). frame_after program.code (words_of (nodes_of program) v) (suc count) thread.frame) (ap (λ (m : Machine). m.state.values) e) ∙ goes))
    (ran-follows (suc count) serial frame old)

-- an engine that ran on
pub ran-shown : (old left counts new : Shown) (count serial : ℕ) (thread : Thread) (r : RanOn count old left serial thread) → counts ≡ record left { machine = with_steps count left.machine }
    → new ≡ record counts { machine = peaked counts.machine } → new ≡ record old { machine = ran count serial r.frame old.machine }
ran-shown old left counts new count serial thread r adds ends =
    ends ∙ ap (λ (s : Shown). record s { machine = peaked s.machine }) (adds ∙ ap (λ (s : Shown). record s { machine = with_steps count s.machine }) r.shown)

pub stretch-engine : (old left new : Shown) (count serial : ℕ) (thread : Thread) → 0 < count → Runs old serial thread → old.machine.ending ≡ None → (r : RanOn count old left serial thread)
    → new ≡ record old { machine = ran count serial r.frame old.machine } → EngineFollows (after old.program old.order count) old new
stretch-engine old left new count serial thread some runs going r e =
    subst (λ (s : Shown). EngineFollows (after old.program old.order count) old s) (sym e) (record {
      machine = λ sent. sent-follows (after old.program old.order count) old.machine (ran count serial r.frame old.machine) (after-sent old.program old.order count)
          (stretch-follows old.program old.order count serial thread r.frame old.machine some going runs.running runs.live r.after) sent;
      program = refl;
      order = refl;
      failed = refl;
    })

-- an engine in which no opcode was done
pub stretch-none : (old left : Shown) (serial : ℕ) (thread : Thread) → Runs old serial thread → RanOn 0 old left serial thread → left ≡ old
stretch-none old left serial thread runs r =
    r.shown
    ∙ ap (λ (f : Frame). record old { machine = on_threads (framed serial f) old.machine }) (sym (some_frame thread.frame r.frame r.after))
    ∙ ap (λ (t : Table). record old { machine = on_threads (λ table. t) old.machine }) (framed-same serial old.machine.state.threads thread runs.live)

-- ---- frames

-- an opcode more
pub after-once : (code : List (Op ℕ)) (words : ℕ → List (List Bit)) (count : ℕ) (first mid last : Frame) → frame_after code words count first ≡ Some mid → frame_by words mid (slice_get code mid.pc) ≡ Some last
    → frame_after code words (count + 1) first ≡ Some last
after-once code words count first mid last before goes =
    let one : count + 1 ≡ suc count = omega arith in
    ap (λ (n : ℕ). frame_after code words n first) one ∙ ap (next_frame code words) before ∙ goes

-- no child comes more
children-by : (words : ℕ → List (List Bit)) (old new : Frame) (op : Option (Op ℕ)) → frame_by words old op ≡ Some new → AreAmong new.children old.children
children-by words old new None goes = absurd (let none : ⊥ = cc in none)
children-by words old new (Some op) goes = go (does op old words).0 (does op old words).1 goes (does-leaves op old words).children
  where
    go : (left : Frame) (effect : Effect) → gone_on left effect ≡ Some new → AreAmong left.children old.children → AreAmong new.children old.children
    go left Next e among = subst (λ (f : Frame). AreAmong f.children old.children) (some_frame (record left { pc = left.pc + 1 }) new e) among
    go left (Goto place) e among = subst (λ (f : Frame). AreAmong f.children old.children) (some_frame (record left { pc = place }) new e) among
    go left other e among = absurd (let none : ⊥ = cc in none)

among-then : (few some many : List ℕ) → AreAmong few some → AreAmong some many → AreAmong few many
among-then few some many first next place child e =
    let near = first place child e in
    next near.0 child near.1

pub children-after : (code : List (Op ℕ)) (words : ℕ → List (List Bit)) (count : ℕ) (old new : Frame) → frame_after code words count old ≡ Some new → AreAmong new.children old.children
children-after code words zero old new goes = subst (λ (f : Frame). AreAmong f.children old.children) (some_frame old new goes) (λ place child e. (place, e))
children-after code words (suc count) old new goes =
    let last = last-goes code words (frame_after code words count old) new goes in
    among-then new.children last.0.children old.children (children-by words last.0 new (slice_get code last.0.pc) last.2) (children-after code words count old last.0 last.1)

-- what a trap stops at stays
pub trap-stays : (code : List (Op ℕ)) (old new : Frame) (kind : TrapKind) (words : ℕ → List (List Bit)) → Done code old new words (Some (Trap kind)) → new ≡ old
trap-stays code old new kind words done = does-traps done.0 old new kind words done.2

-- an opcode leaves the place at which it stands, within the code
pub place-within : (code : List (Op ℕ)) (old new : Frame) (effect : Effect) (words : ℕ → List (List Bit)) → Done code old new words (Some effect) → new.pc < length code
place-within code old new effect words done =
    let pc : new.pc ≡ old.pc = ap (λ (p : Frame × Effect). p.0.pc) (sym done.2) ∙ (does-leaves done.0 old words).pc in
    let there = slice_get_within code old.pc done.0 done.1 in
    omega (arith, pc, there)

-- the threads of an engine stay sound
pub ran-sound : (h : Held) (code : List (Op ℕ)) (words : ℕ → List (List Bit)) (count serial : ℕ) (thread : Thread) (threads : KeyedTable) → thread_of h.threads.table serial ≡ Some thread
    → FrameRan count code words h.threads threads serial thread → IsSound h → IsSound (record h { threads = threads })
ran-sound h code words count serial thread threads live r s =
    subst (λ (t : KeyedTable). IsSound (record h { threads = t })) (sym r.threads)
    (sound-framed h serial r.frame thread live (children-after code words count thread.frame r.frame r.after) s)

-- what is shown of it
pub ran-leaves : (w : Whole) (old : Shown) (code : List (Op ℕ)) (count serial : ℕ) (thread : Thread) (threads : KeyedTable) → shown_of w ≡ old → IsSound w.held → code ≡ w.held.program.code
    → FrameRan count code (words_of w.held.net.nodes w.held.net.values) w.held.threads threads serial thread → RanOn count old (shown_of (record w { held = record w.held { threads = threads } })) serial thread
ran-leaves w old code count serial thread threads view s coded r = record {
  frame = r.frame;
  after = ap (λ (x : Shown). frame_after x.program.code (words_now x.program x.machine) count thread.frame) (sym view)
      ∙ ap (λ (nodes : List Node). frame_after w.held.program.code (words_of nodes w.held.net.values) count thread.frame) (sym s.nodes)
      ∙ ap (λ (ops : List (Op ℕ)). frame_after ops (words_of w.held.net.nodes w.held.net.values) count thread.frame) (sym coded)
      ∙ r.after;
  shown = ap (λ (t : KeyedTable). shown_of (record w { held = record w.held { threads = t } })) r.threads
      ∙ ap (λ (x : Shown). record x { machine = on_threads (framed serial r.frame) x.machine }) view;
}

-- steps more may have drawn and taken more
pub sound-counted : (h : Held) (count : ℕ) → IsSound h → IsSound (record h { steps = h.steps + count })
sound-counted h count s = record {
  linked = s.linked;
  nodes = s.nodes;
  parents = s.parents;
  outputs_are = s.outputs_are;
  designed = s.designed;
  fits = s.fits;
  in_turn = s.in_turn;
  runs = s.runs;
  scopes = s.scopes;
  children = s.children;
  few_taken = omega (arith, s.few_taken);
  few_serials = omega (arith, s.few_serials);
  few_requests = λ item. (let few = s.few_requests item in omega (arith, few));
}

-- ---- an engine that goes on

going-parts : (failed : Bool) (ending : Option Ending) (running : Option ℕ) → not failed && is_none ending && is_some running ≡ true → ending ≡ None
going-parts false None (Some serial) going = refl
going-parts false None None going = refl
going-parts false (Some ending) running going = absurd (let none : ⊥ = cc in none)
going-parts true ending running going = absurd (let none : ⊥ = cc in none)

-- its run has not ended
pub going-none : (shown : Shown) → is_going shown ≡ true → shown.machine.ending ≡ None
going-none shown going = going-parts shown.failed shown.machine.ending shown.machine.running going

pub ran-only : (old new : Shown) (count serial : ℕ) (frame : Frame) → new ≡ record old { machine = ran count serial frame old.machine }
    → new.machine ≡ record old.machine { state = with_threads new.machine.state.threads old.machine.state; steps = old.machine.steps + count; peak = new.machine.peak }
ran-only old new count serial frame e =
    ap (λ (s : Shown). s.machine) e
    ∙ ap (λ (s : Shown). record old.machine { state = with_threads s.machine.state.threads old.machine.state; steps = old.machine.steps + count; peak = s.machine.peak }) (sym e)

-- where nothing was done, that is nothing more
pub none-only : (old new : Shown) → new ≡ old → new.machine ≡ record old.machine { state = with_threads new.machine.state.threads old.machine.state; steps = old.machine.steps + 0; peak = new.machine.peak }
none-only old new e =
    let none : old.machine.steps ≡ old.machine.steps + 0 = omega arith in
    subst (λ (s : Shown). s.machine ≡ record old.machine { state = with_threads s.machine.state.threads old.machine.state; steps = old.machine.steps + 0; peak = s.machine.peak }) (sym e)
    (ap (λ (n : ℕ). record old.machine { steps = n }) none)

pub some-steps : (count : ℕ) → (count ≡ 0 → ⊥) → 0 < count
some-steps zero none = absurd (none refl)
some-steps (suc count) none = omega arith
