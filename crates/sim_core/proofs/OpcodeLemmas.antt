-- The next opcode of the thread that runs: what it leaves, and that it is the machine's step.
use Rattle.std.proofs.Common.{◌≡◌, ℕ, zero, suc, ◌+◌, ◌<◌, max, false, Option, Some, None, option_map, IfSome, List, [], ◌∷◌, length, set, refl, sym, ap, subst, ◌∙◌, arith}
use Rattle.std.specs.Prelude.{◌*◌, ◌^◌}
use Rattle.std.specs.List.{slice_get}
use Rattle.std.specs.Option.{ForSome}
use Rattle.std.proofs.lemmas.List.{length-set}
use Rattle.std.proofs.lemmas.Option.{slice_get_within}
use Rattle.four_state.specs.declared.bits.Bit.{Bit}
use Rattle.event_pool.specs.Pending.{in_turn}
use Rattle.event_pool.proofs.FollowLemmas.{length-shown}
use Rattle.vvp_threads.specs.declared.thread.Frame.{Frame}
use Rattle.vvp_threads.specs.declared.thread.Thread.{Thread}
use Rattle.vvp_threads.specs.Table.{Table, slot_at, thread_of, with_frame}
use Rattle.vvp_threads.specs.Keyed.{KeyedTable}
use Rattle.vvp_ops.specs.declared.op.Op.{Op}
use Rattle.op_exec.specs.declared.effect.TrapKind.TheVariants.{OffEnd}
use Rattle.op_exec.specs.declared.effect.Effect.{Effect}
use Rattle.op_exec.specs.declared.effect.Effect.TheVariants.{End}
use Rattle.op_exec.specs.Does.{does}
use Rattle.sym_link.specs.declared.program.Program.{Program}
use Rattle.sym_link.specs.Roots.{Node, nodes_of}
use Rattle.net_engine.specs.Net.{NetValues, words_of}
use Rattle.net_engine.specs.Parts.{AreWide}
use Rattle.sys_tasks.specs.Tasks.{TasksNow}
use Rattle.sim_core.specs.declared.engine.Running.{Running}
use Rattle.sim_core.specs.Machine.{Machine, counted, framed, on_threads, trapped, words_now}
use Rattle.sim_core.specs.Effects.{affect, done as opcode_done}
use Rattle.sim_core.specs.Step.{proceed, proceeds}
use Rattle.sim_core.specs.Engine.{Sent, Shown, in_turn_of_machine, with_sent}
use Rattle.sim_core.specs.Kept.{IsSound}
use Rattle.sim_core.specs.Parts.{Begun, Cut, Done, EffectFits, FrameDone, Heeds, HeedsFail, LeavesBy, MayAffect, Runs, ShownFails, ShownSteps, peaked, stepped}
use Rattle.sim_core.proofs.CountLemmas.{affect-stepped}
use Rattle.sim_core.proofs.DescendLemmas.{AreAmong}
use Rattle.sim_core.proofs.EffectFitLemmas.{does-fits}
use Rattle.sim_core.proofs.FailLemmas.{unprinted-fails}
use Rattle.sim_core.proofs.FrameLemmas.{affect-framed, framed-is, framed-live, framed-same}
use Rattle.sim_core.proofs.RowLemmas.{does-ends, does-leaves}
use Rattle.sim_core.proofs.SentLemmas.{proceeds-after}
use Rattle.sim_core.proofs.SoundLemmas.{sound-framed}
use Rattle.sim_core.proofs.WholeLemmas.{At, Whole, runs-at, shown_of}

-- ---- what an opcode leaves

-- a thread with another frame has the parent that it had
framed-parent : (serial child : ℕ) (frame : Frame) (table : Table) (thread : Thread) → thread_of table serial ≡ Some thread → ForSome (thread_of table child) (λ (t : Thread). t.parent ≡ Some serial)
    → IfSome (thread_of (framed serial frame table) child) (λ (t : Thread). t.parent ≡ Some serial)
framed-parent serial child frame table thread live has =
    subst (λ (t : Table). IfSome (thread_of t child) (λ (u : Thread). u.parent ≡ Some serial)) (sym (framed-is serial frame table thread live)) (go table.threads serial child live has)
  where
    from : (slot : Option Thread) → ForSome slot (λ (t : Thread). t.parent ≡ Some serial) → IfSome slot (λ (t : Thread). t.parent ≡ Some serial)
    from None h = tt
    from (Some t) h = h t refl

    go : (threads : List (Option Thread)) (k j : ℕ) → slot_at threads k ≡ Some thread → ForSome (slot_at threads j) (λ (t : Thread). t.parent ≡ Some serial)
        → IfSome (slot_at (set threads k (Some (with_frame frame thread))) j) (λ (t : Thread). t.parent ≡ Some serial)
    go [] k j e h = tt
    go (slot ∷ threads) zero zero e h = h thread e
    go (slot ∷ threads) zero (suc j) e h = from (slot_at threads j) h
    go (slot ∷ threads) (suc k) zero e h = from slot h
    go (slot ∷ threads) (suc k) (suc j) e h = go threads k j e h

-- the children that are left were there
left-among : (effect : Option Effect) (code : List (Op ℕ)) (words : ℕ → List (List Bit)) (old new : KeyedTable) (serial : ℕ) (thread : Thread) (d : FrameDone effect code words old new serial thread) → AreAmong d.frame.children thread.frame.children
left-among None code words old new serial thread d = λ place child e. (place, ap (λ (f : Frame). slice_get f.children place) (sym d.done.1) ∙ e)
left-among (Some effect) code words old new serial thread d =
    subst (λ (f : Frame). AreAmong f.children thread.frame.children) (ap (λ (p : Frame × Effect). p.0) d.done.2) (does-leaves d.done.0 thread.frame words).children

pub opcode-sound : (w : Whole) (effect : Option Effect) (code : List (Op ℕ)) (words : ℕ → List (List Bit)) (serial : ℕ) (thread : Thread) (r : Running) (threads : KeyedTable) → At w serial thread r → FrameDone effect code words w.held.threads threads serial thread
    → IsSound (record w.held { threads = threads })
opcode-sound w effect code words serial thread r threads a d =
    subst (λ (t : KeyedTable). IsSound (record w.held { threads = t })) (sym d.threads)
    (sound-framed w.held serial d.frame thread a.live (left-among effect code words w.held.threads threads serial thread d) a.sound)

-- the effect of an opcode fits
leaves-fits : (w : Whole) (new : Shown) (effect : Option Effect) (serial : ℕ) (thread : Thread) (r : Running) (threads : KeyedTable) → At w serial thread r → w.failed ≡ false → w.held.running ≡ Some r → w.held.design ≡ w.tasks.design
    → AreWide w.held.net.nodes w.held.net.values → new ≡ shown_of (record w { held = record w.held { threads = threads } }) → (d : FrameDone effect w.held.program.code (words_now w.held.program (shown_of w).machine) w.held.threads threads serial thread)
    → Runs new serial (with_frame d.frame thread) → MayAffect new serial (with_frame d.frame thread) effect
leaves-fits w new None serial thread r threads a fine is same wide goes d runs = tt
leaves-fits w new (Some effect) serial thread r threads a fine is same wide goes d runs =
    let op = d.done.0 in
    let leaves = does-leaves op thread.frame (words_now w.held.program (shown_of w).machine) in
    let pc : d.frame.pc ≡ thread.frame.pc = ap (λ (p : Frame × Effect). p.0.pc) (sym d.done.2) ∙ leaves.pc in
    let there = slice_get_within w.held.program.code thread.frame.pc op d.done.1 in
    let place : d.frame.pc < length new.program.code = subst (λ (s : Shown). d.frame.pc < length s.program.code) (sym goes) (omega (arith, pc, there)) in
    let held : Shown = shown_of (record w { held = record w.held { threads = threads } }) in
    let wide_held : AreWide (nodes_of w.held.program) w.held.net.values = subst (λ (nodes : List Node). AreWide nodes w.held.net.values) a.sound.nodes wide in
    let fits = does-fits (shown_of (record w { held = record w.held { threads = threads } })) serial thread.frame a.sound.linked wide_held (sym same ∙ a.sound.designed)
    (λ p child at. subst (λ (t : KeyedTable). IfSome (thread_of t.table child) (λ (u : Thread). u.parent ≡ Some serial)) (sym d.threads)
    (framed-parent serial child d.frame w.held.threads.table thread a.live (a.sound.children serial p child thread a.live at).1)) op d.done.1 in (
      record { runs = runs; place = place },
      subst (λ (s : Shown). EffectFits s serial d.frame effect) (sym goes)
          (subst (λ (q : Frame × Effect). EffectFits (shown_of (record w { held = record w.held { threads = threads } })) serial q.0 q.1) d.done.2 fits),
    )

pub opcode-leaves : (w : Whole) (old : Shown) (effect : Option Effect) (code : List (Op ℕ)) (serial : ℕ) (thread : Thread) (r : Running) (threads : KeyedTable) → shown_of w ≡ old → (w.failed ≡ false → IsSound w.held) → Runs old serial thread → w.held.running ≡ Some r
    → w.held.design ≡ w.tasks.design → AreWide w.held.net.nodes w.held.net.values → code ≡ w.held.program.code → FrameDone effect code (words_of w.held.net.nodes w.held.net.values) w.held.threads threads serial thread
    → LeavesBy effect old (shown_of (record w { held = record w.held { threads = threads } })) serial thread
opcode-leaves w old effect code serial thread r threads view inv runs is same wide coded d0 =
    let a = runs-at w old serial thread r view inv runs is in
    let d : FrameDone effect w.held.program.code (words_now w.held.program (shown_of w).machine) w.held.threads threads serial thread =
    subst (λ (nodes : List Node). FrameDone effect w.held.program.code (words_of nodes w.held.net.values) w.held.threads threads serial thread) a.sound.nodes
    (subst (λ (ops : List (Op ℕ)). FrameDone effect ops (words_of w.held.net.nodes w.held.net.values) w.held.threads threads serial thread) coded d0) in
    let after : Shown = shown_of (record w { held = record w.held { threads = threads } }) in
    let now : Runs (shown_of (record w { held = record w.held { threads = threads } })) serial (with_frame d.frame thread) = record {
      fine = ap (λ (s : Shown). s.failed) view ∙ runs.fine;
      running = ap (λ (s : Shown). s.machine.running) view ∙ runs.running;
      live = ap (λ (t : KeyedTable). thread_of t.table serial) d.threads ∙ framed-live serial d.frame w.held.threads.table thread a.live;
    } in
    record {
      frame = d.frame;
      shown = ap (λ (t : KeyedTable). shown_of (record w { held = record w.held { threads = t } })) d.threads ∙ ap (λ (s : Shown). record s { machine = on_threads (framed serial d.frame) s.machine }) view;
      done = subst (λ (s : Shown). Done s.program.code thread.frame d.frame (words_now s.program s.machine) effect) view d.done;
      runs = now;
      fits = leaves-fits w (shown_of (record w { held = record w.held { threads = threads } })) effect serial thread r threads a (ap (λ (s : Shown). s.failed) view ∙ runs.fine) is same wide refl d now;
    }

-- ---- the machine's step

-- the peak is seen in order
peaked-shown : (machine : Machine) → in_turn_of_machine (peaked machine) ≡ peaked (in_turn_of_machine machine)
peaked-shown machine = ap (λ (n : ℕ). record (in_turn_of_machine machine) { peak = max machine.peak n }) (length-shown machine.state.pending (in_turn machine.state.pending) refl)

-- the opcode of a machine that shows old does what it does to old's values
abbrev left_by : Program → Op ℕ → Frame → NetValues → Frame × Effect
left_by program op frame values = does op frame (words_of (nodes_of program) values)

proceeds-by : (program : Program) (serial : ℕ) (thread : Thread) (machine old : Machine) → in_turn_of_machine machine ≡ old → thread_of old.state.threads serial ≡ Some thread
    → proceed program serial machine ≡ counted (opcode_done program (slice_get program.code thread.frame.pc) serial thread.frame machine)
proceeds-by program serial thread machine old e live =
    ap (λ (t : Option Thread). proceeds program serial t machine) (ap (λ (m : Machine). thread_of m.state.threads serial) e ∙ live)

pub opcode-steps : (old begun left heeded new : Shown) (effect : Option Effect) (serial : ℕ) (thread : Thread) → Runs old serial thread → begun ≡ record old { machine = stepped old.machine } → (l : LeavesBy effect begun left serial thread)
    → Heeds effect left heeded serial (with_frame l.frame thread) → new ≡ record heeded { machine = peaked heeded.machine } → ShownSteps (proceed old.program serial) old new
opcode-steps old begun left heeded new None serial thread runs begins l heeds ends =
    let goes : left ≡ record old { machine = on_threads (framed serial l.frame) (stepped old.machine) } = l.shown ∙ ap (λ (s : Shown). record s { machine = on_threads (framed serial l.frame) s.machine }) begins in
    let at : slice_get old.program.code thread.frame.pc ≡ None = ap (λ (s : Shown). slice_get s.program.code thread.frame.pc) (sym begins) ∙ l.done.0 in
    record {
      machine = record {
        shown = λ machine e.
            let threads : machine.state.threads ≡ old.machine.state.threads = ap (λ (m : Machine). m.state.threads) e in
            let live : thread_of machine.state.threads serial ≡ Some thread = ap (λ (t : Table). thread_of t serial) threads ∙ runs.live in
            let stays : framed serial l.frame machine.state.threads ≡ machine.state.threads = ap (λ (f : Frame). framed serial f machine.state.threads) l.done.1 ∙ framed-same serial machine.state.threads thread live in
            ap in_turn_of_machine (proceeds-by old.program serial thread machine old.machine e runs.live
            ∙ ap (λ (o : Option (Op ℕ)). counted (opcode_done old.program o serial thread.frame machine)) at
            ∙ ap (λ (f : Frame). peaked (trapped OffEnd serial f (stepped machine))) (sym l.done.1)
            ∙ ap (λ (t : Table). peaked (trapped OffEnd serial l.frame (record (stepped machine) { state = record machine.state { threads = t } }))) (sym stays))
            ∙ peaked-shown (trapped OffEnd serial l.frame (on_threads (framed serial l.frame) (stepped machine)))
            ∙ ap peaked (heeds.machine.shown (on_threads (framed serial l.frame) (stepped machine)) (ap (λ (m : Machine). on_threads (framed serial l.frame) (stepped m)) e ∙ ap (λ (s : Shown). s.machine) (sym goes)))
            ∙ ap (λ (s : Shown). s.machine) (sym ends);
      };
      program = ap (λ (s : Shown). s.program) ends ∙ heeds.program ∙ ap (λ (s : Shown). s.program) goes;
      order = ap (λ (s : Shown). s.order) ends ∙ heeds.order ∙ ap (λ (s : Shown). s.order) goes;
      failed = ap (λ (s : Shown). s.failed) ends ∙ heeds.failed ∙ ap (λ (s : Shown). s.failed) goes;
      steps = (let one : new.machine.steps ≡ old.machine.steps + 1 = ap (λ (s : Shown). s.machine.steps) ends ∙ heeds.steps ∙ ap (λ (s : Shown). s.machine.steps) goes in omega (arith, one));
    }
opcode-steps old begun left heeded new (Some effect) serial thread runs begins l heeds ends =
    let goes : left ≡ record old { machine = on_threads (framed serial l.frame) (stepped old.machine) } = l.shown ∙ ap (λ (s : Shown). record s { machine = on_threads (framed serial l.frame) s.machine }) begins in
    let op = l.done.0 in
    let at : slice_get old.program.code thread.frame.pc ≡ Some op = ap (λ (s : Shown). slice_get s.program.code thread.frame.pc) (sym begins) ∙ l.done.1 in
    let did : left_by old.program op thread.frame old.machine.state.values ≡ (l.frame, effect) = ap (λ (s : Shown). left_by s.program op thread.frame s.machine.state.values) (sym begins) ∙ l.done.2 in
    let pc : l.frame.pc ≡ thread.frame.pc =
    ap (λ (p : Frame × Effect). p.0.pc) (sym did) ∙ (does-leaves op thread.frame (words_of (nodes_of old.program) old.machine.state.values)).pc in
    let k = heeds op (ap (λ (s : Shown). slice_get s.program.code l.frame.pc) goes ∙ ap (λ (n : ℕ). slice_get old.program.code n) pc ∙ at) in
    let program : left.program ≡ old.program = ap (λ (s : Shown). s.program) goes in
    record {
      machine = record {
        shown = λ machine e.
            let threads : machine.state.threads ≡ old.machine.state.threads = ap (λ (m : Machine). m.state.threads) e in
            let live : thread_of machine.state.threads serial ≡ Some thread = ap (λ (t : Table). thread_of t serial) threads ∙ runs.live in
            ap in_turn_of_machine (proceeds-by old.program serial thread machine old.machine e runs.live
            ∙ ap (λ (o : Option (Op ℕ)). counted (opcode_done old.program o serial thread.frame machine)) at
            ∙ ap (λ (q : Frame × Effect). counted (affect old.program op q.1 serial q.0 machine)) (ap (λ (m : Machine). left_by old.program op thread.frame m.state.values) e ∙ did)
            ∙ ap peaked (sym (affect-stepped old.program op effect serial l.frame machine)
            ∙ sym (affect-framed old.program op effect serial l.frame (stepped machine) thread live (λ end. ap (λ (f : Frame). framed serial f machine.state.threads) (ends-same end) ∙ framed-same serial machine.state.threads thread live)))
            ∙ ap (λ (p : Program). peaked (affect p op effect serial l.frame (on_threads (framed serial l.frame) (stepped machine)))) (sym program))
            ∙ peaked-shown (affect left.program op effect serial l.frame (on_threads (framed serial l.frame) (stepped machine)))
            ∙ ap peaked (k.machine.shown (on_threads (framed serial l.frame) (stepped machine)) (ap (λ (m : Machine). on_threads (framed serial l.frame) (stepped m)) e ∙ ap (λ (s : Shown). s.machine) (sym goes)))
            ∙ ap (λ (s : Shown). s.machine) (sym ends);
      };
      program = ap (λ (s : Shown). s.program) ends ∙ k.program ∙ ap (λ (s : Shown). s.program) goes;
      order = ap (λ (s : Shown). s.order) ends ∙ k.order ∙ ap (λ (s : Shown). s.order) goes;
      failed = ap (λ (s : Shown). s.failed) ends ∙ k.failed ∙ ap (λ (s : Shown). s.failed) goes;
      steps = (let one : new.machine.steps ≡ old.machine.steps + 1 = ap (λ (s : Shown). s.machine.steps) ends ∙ k.steps ∙ ap (λ (s : Shown). s.machine.steps) goes in omega (arith, one));
    }
  where
    ends-same : effect ≡ End → l.frame ≡ thread.frame
    ends-same end =
        let done = l.done.2 in
        ap (λ (p : Frame × Effect). p.0) (sym done)
        ∙ does-ends l.done.0 thread.frame (words_now begun.program begun.machine) (ap (λ (p : Frame × Effect). p.1) done ∙ end)

-- ---- want of memory

proceed-after : (program : Program) (serial : ℕ) (sent : Sent) (machine : Machine) → proceed program serial (with_sent sent machine) ≡ with_sent sent (proceed program serial machine)
proceed-after program serial sent machine = proceeds-after program serial (thread_of machine.state.threads serial) sent machine

-- memory was wanting on the thread's own frame
pub opcode-unprinted : (old begun new : Shown) (serial : ℕ) → begun ≡ record old { machine = stepped old.machine } → new ≡ begun → ShownFails (proceed old.program serial) old new
opcode-unprinted old begun new serial begins still =
    let same : new ≡ record old { machine = stepped old.machine } = still ∙ begins in
    unprinted-fails (proceed old.program serial) old new (proceed-after old.program serial)
    (record { out = ap (λ (s : Shown). s.machine.tasks.out) same; dump = ap (λ (s : Shown). s.machine.tasks.dump) same; program = ap (λ (s : Shown). s.program) same; order = ap (λ (s : Shown). s.order) same })

-- memory was wanting in the effect
pub opcode-fails : (old begun left new : Shown) (effect : Option Effect) (serial : ℕ) (thread : Thread) → Runs old serial thread → begun ≡ record old { machine = stepped old.machine } → (l : LeavesBy effect begun left serial thread)
    → HeedsFail effect left new serial (with_frame l.frame thread) → ShownFails (proceed old.program serial) old new
opcode-fails old begun left new None serial thread runs begins l fails =
    let goes : left ≡ record old { machine = on_threads (framed serial l.frame) (stepped old.machine) } = l.shown ∙ ap (λ (s : Shown). record s { machine = on_threads (framed serial l.frame) s.machine }) begins in
    let at : slice_get old.program.code thread.frame.pc ≡ None = ap (λ (s : Shown). slice_get s.program.code thread.frame.pc) (sym begins) ∙ l.done.0 in
    record {
      cut = λ machine e.
          let tasks : (proceed old.program serial machine).tasks ≡ machine.tasks =
          ap (λ (m : Machine). m.tasks) (proceeds-by old.program serial thread machine old.machine e runs.live ∙ ap (λ (o : Option (Op ℕ)). counted (opcode_done old.program o serial thread.frame machine)) at) in
          let k = fails.cut (on_threads (framed serial l.frame) (stepped machine)) (ap (λ (m : Machine). on_threads (framed serial l.frame) (stepped m)) e ∙ ap (λ (s : Shown). s.machine) (sym goes)) in
          subst (λ (t : TasksNow). Cut old.machine.tasks t new.machine.tasks) (sym tasks)
          (subst (λ (t : TasksNow). Cut t machine.tasks new.machine.tasks) (ap (λ (s : Shown). s.machine.tasks) goes) k);
      program = fails.program ∙ ap (λ (s : Shown). s.program) goes;
      order = fails.order ∙ ap (λ (s : Shown). s.order) goes;
    }
opcode-fails old begun left new (Some effect) serial thread runs begins l fails =
    let goes : left ≡ record old { machine = on_threads (framed serial l.frame) (stepped old.machine) } = l.shown ∙ ap (λ (s : Shown). record s { machine = on_threads (framed serial l.frame) s.machine }) begins in
    let op = l.done.0 in
    let at : slice_get old.program.code thread.frame.pc ≡ Some op = ap (λ (s : Shown). slice_get s.program.code thread.frame.pc) (sym begins) ∙ l.done.1 in
    let did : left_by old.program op thread.frame old.machine.state.values ≡ (l.frame, effect) = ap (λ (s : Shown). left_by s.program op thread.frame s.machine.state.values) (sym begins) ∙ l.done.2 in
    let pc : l.frame.pc ≡ thread.frame.pc =
    ap (λ (p : Frame × Effect). p.0.pc) (sym did) ∙ (does-leaves op thread.frame (words_of (nodes_of old.program) old.machine.state.values)).pc in
    let k = fails op (ap (λ (s : Shown). slice_get s.program.code l.frame.pc) goes ∙ ap (λ (n : ℕ). slice_get old.program.code n) pc ∙ at) in
    let program : left.program ≡ old.program = ap (λ (s : Shown). s.program) goes in
    record {
      cut = λ machine e.
          let threads : machine.state.threads ≡ old.machine.state.threads = ap (λ (m : Machine). m.state.threads) e in
          let live : thread_of machine.state.threads serial ≡ Some thread = ap (λ (t : Table). thread_of t serial) threads ∙ runs.live in
          let tasks : (proceed old.program serial machine).tasks ≡ (affect left.program op effect serial l.frame (on_threads (framed serial l.frame) (stepped machine))).tasks =
          ap (λ (m : Machine). m.tasks) (proceeds-by old.program serial thread machine old.machine e runs.live
          ∙ ap (λ (o : Option (Op ℕ)). counted (opcode_done old.program o serial thread.frame machine)) at
          ∙ ap (λ (q : Frame × Effect). counted (affect old.program op q.1 serial q.0 machine)) (ap (λ (m : Machine). left_by old.program op thread.frame m.state.values) e ∙ did)
          ∙ ap peaked (sym (affect-stepped old.program op effect serial l.frame machine)
          ∙ sym (affect-framed old.program op effect serial l.frame (stepped machine) thread live (λ end. ap (λ (f : Frame). framed serial f machine.state.threads) (ends-same end) ∙ framed-same serial machine.state.threads thread live)))
          ∙ ap (λ (p : Program). peaked (affect p op effect serial l.frame (on_threads (framed serial l.frame) (stepped machine)))) (sym program)) in
          let c = k.cut (on_threads (framed serial l.frame) (stepped machine)) (ap (λ (m : Machine). on_threads (framed serial l.frame) (stepped m)) e ∙ ap (λ (s : Shown). s.machine) (sym goes)) in
          subst (λ (t : TasksNow). Cut old.machine.tasks t new.machine.tasks) (sym tasks)
          (subst (λ (t : TasksNow). Cut t (affect left.program op effect serial l.frame (on_threads (framed serial l.frame) (stepped machine))).tasks new.machine.tasks) (ap (λ (s : Shown). s.machine.tasks) goes) c);
      program = k.program ∙ ap (λ (s : Shown). s.program) goes;
      order = k.order ∙ ap (λ (s : Shown). s.order) goes;
    }
  where
    ends-same : effect ≡ End → l.frame ≡ thread.frame
    ends-same end =
        let done = l.done.2 in
        ap (λ (p : Frame × Effect). p.0) (sym done)
        ∙ does-ends l.done.0 thread.frame (words_now begun.program begun.machine) (ap (λ (p : Frame × Effect). p.1) done ∙ end)

-- ---- a step that begins

-- the thread runs in the step that begins
pub begun-runs : (old begun : Shown) (serial : ℕ) (thread : Thread) → begun ≡ record old { machine = stepped old.machine } → Runs old serial thread → Runs begun serial thread
begun-runs old begun serial thread begins runs = record {
  fine = ap (λ (s : Shown). s.failed) begins ∙ runs.fine;
  running = ap (λ (s : Shown). s.machine.running) begins ∙ runs.running;
  live = ap (λ (s : Shown). thread_of s.machine.state.threads serial) begins ∙ runs.live;
}

-- a step has begun
pub has-begun : (old begun : Shown) (serial : ℕ) (thread : Thread) → Runs old serial thread → begun ≡ record old { machine = stepped old.machine }
    → (old.failed ≡ false → length old.machine.state.threads.threads < old.machine.steps + 1 + length old.program.threads) → old.machine.steps < 3 * 2 ^ 62 → Begun old begun serial thread
has-begun old begun serial thread runs begins drawn few = record { runs = runs; begins = begins; drawn = drawn runs.fine; few = few }

-- a thread more may be drawn in it
pub left-drawn : (old begun left : Shown) (effect : Option Effect) (serial : ℕ) (thread : Thread) → begun ≡ record old { machine = stepped old.machine } → LeavesBy effect begun left serial thread
    → length old.machine.state.threads.threads < old.machine.steps + 1 + length old.program.threads → length left.machine.state.threads.threads < left.machine.steps + length left.program.threads
left-drawn old begun left effect serial thread begins l few =
    subst (λ (s : Shown). length s.machine.state.threads.threads < s.machine.steps + length s.program.threads)
    (sym (l.shown ∙ ap (λ (s : Shown). record s { machine = on_threads (framed serial l.frame) s.machine }) begins))
    (omega (arith, few, length-set old.machine.state.threads.threads serial (option_map (with_frame l.frame) (slot_at old.machine.state.threads.threads serial))))

pub left-steps : (old begun left : Shown) (effect : Option Effect) (serial : ℕ) (thread : Thread) → begun ≡ record old { machine = stepped old.machine } → LeavesBy effect begun left serial thread → left.machine.steps ≡ old.machine.steps + 1
left-steps old begun left effect serial thread begins l = ap (λ (s : Shown). s.machine.steps) l.shown ∙ ap (λ (s : Shown). s.machine.steps) begins
