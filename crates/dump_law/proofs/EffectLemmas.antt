-- What an opcode does keeps what stands between steps.
use Rattle.std.proofs.Common.{◌≡◌, ℕ, ◌+◌, ◌<◌, ◌≤◌, ◌^◌, ℤ, Bool, true, false, cond, Option, Some, None, List, [], ◌∷◌, length, slice_get, refl, sym, subst, ◌∙◌, arith}
use Rattle.std.specs.Prelude.{nat_lt}
use Rattle.std.proofs.lemmas.Bool.{ltb-true}
use Rattle.four_state.specs.declared.bits.Bit.{Bit}
use Rattle.event_pool.specs.declared.agenda.Due.{Due}
use Rattle.event_pool.specs.declared.agenda.Act.{Act}
use Rattle.event_pool.specs.declared.agenda.Act.TheVariants.{Run, Update}
use Rattle.event_pool.specs.declared.agenda.Region.{Region}
use Rattle.event_pool.specs.declared.agenda.Region.TheVariants.{Active, Nonblocking}
use Rattle.event_pool.specs.Pending.{run_of}
use Rattle.vvp_ops.specs.declared.op.Op.{Op}
use Rattle.vvp_threads.specs.declared.thread.Frame.{Frame}
use Rattle.vvp_threads.specs.Table.{Table, joiners_of, joins_on, live_count, spawned, without}
use Rattle.vvp_threads.specs.Disable.{disabled_serials}
use Rattle.op_exec.specs.declared.effect.TrapKind.{TrapKind}
use Rattle.op_exec.specs.declared.effect.TrapKind.TheVariants.{OffEnd, ThreadsOver, TimeOver}
use Rattle.op_exec.specs.declared.effect.Effect.{Effect}
use Rattle.op_exec.specs.declared.effect.Effect.TheVariants.{Next, Goto, Set, Assign, Delay, Wait, Fork, Join, Disable, Trigger, Task, Func, Force, Release, End, Trap}
use Rattle.op_exec.specs.Does.{does}
use Rattle.sym_link.specs.declared.program.Program.{Program}
use Rattle.sym_link.specs.Roots.{nodes_of, root_of}
use Rattle.sym_link.specs.Sound.{IsProgram}
use Rattle.net_engine.specs.Net.{driven_of}
use Rattle.net_engine.specs.State.{State, with_threads}
use Rattle.net_engine.specs.Delivery.{force, release, trigger, write}
use Rattle.net_engine.specs.Parts.{IsLinked}
use Rattle.net_engine.proofs.SoundLemmas.{word-width}
use Rattle.sys_tasks.specs.declared.names.Said.{Said}
use Rattle.sys_tasks.specs.declared.names.Said.TheVariants as said
use Rattle.sys_tasks.specs.Tasks.{said_of}
use Rattle.sim_core.specs.Machine.{Machine, at_next, is_live, now_of, on_state, on_threads, phase, placed, put_due, trapped, with_running, words_now}
use Rattle.sim_core.specs.Effects.{affect, assigned_later, child_started, delay_region, delayed, disabled, done, ended, forked, function_called, is_in_time, items_of, joined, next_serial, parents_of, scope_at, told, threads_ended, waiting, with_call, without_items}
use Rattle.sim_core.specs.Engine.{Shown}
use Rattle.sim_core.specs.Parts.{EffectFits}
use Rattle.sim_core.proofs.EffectFitLemmas.{does-fits}
use Rattle.dump_law.specs.Dumping.{IsDumpKept}
use Rattle.dump_law.specs.Kept.{IsKeptAt}
use Rattle.dump_law.specs.Plain.{plain_names}
use Rattle.dump_law.specs.Steady.{IsOnTime, IsSteady}
use Rattle.dump_law.proofs.CallLemmas.{called-kept}
use Rattle.dump_law.proofs.ChangeLemmas.{force-steady, moved, release-steady, write-steady}
use Rattle.dump_law.proofs.DeliverLemmas.{put-pending, runs-pending, trigger-moves}
use Rattle.dump_law.proofs.PhaseLemmas.{phase-kept}

module _ (program : Program) (linked : IsProgram program) (plain : plain_names program ≡ true) (now : ℕ) (few : now < 2 ^ 64) where
  abbrev Keeps : Machine → Type 0
  Keeps machine = IsKeptAt program now machine

  either-kept : (choice : Bool) (a b : Machine) → Keeps a → Keeps b → Keeps (cond choice a b)
  either-kept true a b first second = first
  either-kept false a b first second = second

  -- other threads, another one that runs, another ending and other counts
  pub rest-kept : (threads : Table) (old new : Machine) → Keeps old → new.state ≡ with_threads threads old.state → new.tasks ≡ old.tasks → Keeps new
  rest-kept threads old new h state tasks = record {
    steady = subst (IsSteady (nodes_of program) now) (sym state) (record { pending = h.steady.pending; wide = h.steady.wide });
    dump = subst (IsDumpKept program now) (sym tasks) h.dump;
  }

  placed-kept : (serial : ℕ) (frame : Frame) (place : ℕ) (machine : Machine) → Keeps machine → Keeps (placed serial frame place machine)
  placed-kept serial frame place machine h = rest-kept _ machine (placed serial frame place machine) h refl refl

  trapped-kept : (kind : TrapKind) (serial : ℕ) (frame : Frame) (machine : Machine) → Keeps machine → Keeps (trapped kind serial frame machine)
  trapped-kept kind serial frame machine h = rest-kept _ machine (trapped kind serial frame machine) h refl refl

  -- a state that is steady
  state-kept : (change : State → State) (machine : Machine) → Keeps machine → IsSteady (nodes_of program) now (change machine.state) → Keeps (on_state change machine)
  state-kept change machine h steady = record { steady = steady; dump = h.dump }

  put-kept : (due : Due) (machine : Machine) → Keeps machine → IsOnTime (nodes_of program) now due → Keeps (put_due due machine)
  put-kept due machine h on = record {
    steady = record { pending = put-pending (nodes_of program) now few due machine.state on h.steady.pending; wide = h.steady.wide };
    dump = h.dump;
  }

  -- ---- the read-only phase

  pub phase-keeps : (machine : Machine) → Keeps machine → Keeps (phase program machine)
  phase-keeps machine h = record {
    steady = h.steady;
    dump =
        subst (λ (n : ℕ). IsDumpKept program now (phase program (record machine { state = record machine.state { pending = record machine.state.pending { now = n } } })).tasks) (sym h.steady.pending.at)
        (phase-kept program linked plain now few machine.state.values h.steady.wide machine.tasks h.dump);
  }

  told-kept : (s : Said) (machine : Machine) → Keeps machine → Keeps (told program s machine)
  told-kept said.Going machine h = h
  told-kept said.Finish machine h = rest-kept machine.state.threads (phase program machine) (told program said.Finish machine) (phase-keeps machine h) refl refl
  told-kept said.Stop machine h = rest-kept machine.state.threads (phase program machine) (told program said.Stop machine) (phase-keeps machine h) refl refl

  -- ---- effects

  -- a due some ticks later, which is a time
  ticks-on-time : (ticks : ℕ) (region : Region) (act : Act) (machine : Machine) → Keeps machine → is_in_time ticks machine ≡ true → ((time : ℕ) → now ≤ time → time < 2 ^ 64 → IsOnTime (nodes_of program) now (record { time = time; region = region; act = act }))
      → IsOnTime (nodes_of program) now (record { time = now_of machine + ticks; region = region; act = act })
  ticks-on-time ticks region act machine h in_time on =
      let at = h.steady.pending.at in
      on (now_of machine + ticks) (omega (arith, at)) (ltb-true (now_of machine + ticks) (2 ^ 64) in_time)

  delayed-kept : (ticks serial : ℕ) (frame : Frame) (machine : Machine) → Keeps machine → Keeps (delayed ticks serial frame machine)
  delayed-kept ticks serial frame machine h = by (is_in_time ticks machine) refl
    where
      by : (b : Bool) → is_in_time ticks machine ≡ b → Keeps (cond b (put_due (run_of (now_of machine + ticks) (delay_region ticks) serial) (with_running None (at_next serial frame machine))) (trapped TimeOver serial frame machine))
      by true is =
          put-kept (run_of (now_of machine + ticks) (delay_region ticks) serial) (with_running None (at_next serial frame machine)) (rest-kept _ machine (with_running None (at_next serial frame machine)) h refl refl)
          (ticks-on-time ticks (delay_region ticks) (Run serial 0) machine h is (λ time onward in_time. record { onward = onward; in_time = in_time; names = tt }))
      by false is = trapped-kept TimeOver serial frame machine h

  assigned-kept : (item word : ℕ) (offset : ℤ) (value : List Bit) (ticks serial : ℕ) (frame : Frame) (machine : Machine) → Keeps machine → Keeps (assigned_later item word offset value ticks serial frame machine)
  assigned-kept item word offset value ticks serial frame machine h = by (is_in_time ticks machine) refl
    where
      by : (b : Bool) → is_in_time ticks machine ≡ b
          → Keeps (cond b (put_due (record { time = now_of machine + ticks; region = Nonblocking; act = Update item word offset value }) (at_next serial frame machine)) (trapped TimeOver serial frame machine))
      by true is =
          put-kept (record { time = now_of machine + ticks; region = Nonblocking; act = Update item word offset value }) (at_next serial frame machine) (placed-kept serial frame (frame.pc + 1) machine h)
          (ticks-on-time ticks Nonblocking (Update item word offset value) machine h is (λ time onward in_time. record { onward = onward; in_time = in_time; names = tt }))
      by false is = trapped-kept TimeOver serial frame machine h

  forked-kept : (code scope serial : ℕ) (frame : Frame) (machine : Machine) → Keeps machine → Keeps (forked code scope serial frame machine)
  forked-kept code scope serial frame machine h =
      let at = h.steady.pending.at in
      let begun : Machine = on_threads (λ table. spawned table (Some serial) scope code) (at_next serial frame machine) in
      either-kept (nat_lt (live_count machine.state.threads) 65536) (child_started code scope serial frame machine) (trapped ThreadsOver serial frame machine)
      (put-kept (run_of (now_of machine) Active (next_serial machine)) begun (rest-kept _ machine begun h refl refl) (record { onward = omega (arith, at); in_time = omega (arith, at, few); names = tt }))
      (trapped-kept ThreadsOver serial frame machine h)

  joined-kept : (child serial : ℕ) (frame : Frame) (machine : Machine) → Keeps machine → Keeps (joined child serial frame machine)
  joined-kept child serial frame machine h =
      let waits : Machine = with_running None (on_threads (λ table. joins_on table serial child) (at_next serial frame machine)) in
      either-kept (is_live child machine) waits (at_next serial frame machine) (rest-kept _ machine waits h refl refl) (placed-kept serial frame (frame.pc + 1) machine h)

  ended-steady : (serials : List ℕ) (state : State) → IsSteady (nodes_of program) now state → IsSteady (nodes_of program) now (threads_ended serials state)
  ended-steady serials state h = record {
    pending = runs-pending (nodes_of program) now few (joiners_of state.threads.threads serials) (with_threads (without state.threads serials) state) h.pending;
    wide = h.wide;
  }

  ended-kept : (serial : ℕ) (machine : Machine) → Keeps machine → Keeps (ended serial machine)
  ended-kept serial machine h = record { steady = ended-steady (serial ∷ []) machine.state h.steady; dump = h.dump }

  disabled-kept : (scope serial : ℕ) (frame : Frame) (machine : Machine) → Keeps machine → Keeps (disabled program scope serial frame machine)
  disabled-kept scope serial frame machine h =
      let next : Machine = at_next serial frame machine in
      let steady : IsSteady (nodes_of program) now next.state = (placed-kept serial frame (frame.pc + 1) machine h).steady in
      record { steady = ended-steady (disabled_serials next.state.threads serial (parents_of program) scope) next.state steady; dump = h.dump }

  triggered-kept : (event : ℕ) (machine : Machine) → Keeps machine → Keeps (on_state (trigger (nodes_of program) event) machine)
  triggered-kept event machine h =
      state-kept (trigger (nodes_of program) event) machine h
      (moved (nodes_of program) now few machine.state.values machine.state (trigger (nodes_of program) event machine.state) (trigger-moves (nodes_of program) now few event machine.state) h.steady.wide h.steady.pending)

  -- a value that is forced is as wide as the item
  abbrev pub ForcesWide : Machine → Effect → Type 0
  ForcesWide machine (Force item value) = length value ≡ length (driven_of machine.state.values (root_of (nodes_of program) item))
  ForcesWide machine other = Unit {0}

  affect-kept : (op : Op ℕ) (effect : Effect) (serial : ℕ) (frame : Frame) (machine : Machine) → ForcesWide machine effect → Keeps machine → Keeps (affect program op effect serial frame machine)
  affect-kept op Next serial frame machine fits h = placed-kept serial frame (frame.pc + 1) machine h
  affect-kept op (Goto place) serial frame machine fits h = placed-kept serial frame place machine h
  affect-kept op (Set item word offset value) serial frame machine fits h =
      let next : Machine = at_next serial frame machine in
      let kept : Keeps next = placed-kept serial frame (frame.pc + 1) machine h in
      state-kept (write (nodes_of program) item word offset value) next kept (write-steady (nodes_of program) now few item word offset value next.state kept.steady)
  affect-kept op (Assign item word offset value ticks) serial frame machine fits h = assigned-kept item word offset value ticks serial frame machine h
  affect-kept op (Delay ticks) serial frame machine fits h = delayed-kept ticks serial frame machine h
  affect-kept op (Wait event) serial frame machine fits h = rest-kept _ machine (waiting event serial frame machine) h refl refl
  affect-kept op (Fork code scope) serial frame machine fits h = forked-kept code scope serial frame machine h
  affect-kept op (Join child) serial frame machine fits h = joined-kept child serial frame machine h
  affect-kept op (Disable scope) serial frame machine fits h = disabled-kept scope serial frame machine h
  affect-kept op (Trigger event) serial frame machine fits h = triggered-kept event (at_next serial frame machine) (placed-kept serial frame (frame.pc + 1) machine h)
  affect-kept op Task serial frame machine fits h =
      let call : Machine = with_call program op frame machine in
      let called_ : Keeps call = record { steady = h.steady; dump = called-kept program now op (scope_at program frame.pc) (items_of op frame) (now_of machine) (words_now program machine) machine.tasks h.dump } in
      told-kept (said_of op) (at_next serial (without_items op frame) call) (placed-kept serial (without_items op frame) (frame.pc + 1) call called_)
  affect-kept op Func serial frame machine fits h = rest-kept _ machine (function_called program op serial frame machine) h refl refl
  affect-kept op (Force item value) serial frame machine fits h =
      let next : Machine = at_next serial frame machine in
      let kept : Keeps next = placed-kept serial frame (frame.pc + 1) machine h in
      state-kept (force (nodes_of program) item value) next kept (force-steady (nodes_of program) now few item value next.state kept.steady fits)
  affect-kept op (Release item base width keep) serial frame machine fits h =
      let next : Machine = at_next serial frame machine in
      let kept : Keeps next = placed-kept serial frame (frame.pc + 1) machine h in
      state-kept (release (nodes_of program) item base width keep) next kept (release-steady (nodes_of program) now few item base width keep next.state kept.steady)
  affect-kept op End serial frame machine fits h = ended-kept serial machine h
  affect-kept op (Trap kind) serial frame machine fits h = trapped-kept kind serial frame machine h

  -- ---- opcodes

  linked-nodes : IsLinked (nodes_of program)
  linked-nodes = record { program = program; linked = linked; same = refl }

  -- the machine without its threads, which no width depends on
  abbrev bare : Machine → Shown
  bare machine = record { program = program; order = 0; machine = record machine { state = with_threads (record { threads = []; waiting = [] }) machine.state }; failed = false }

  -- what an opcode forces is as wide as the item
  forces-wide : (effect : Effect) (serial : ℕ) (frame : Frame) (machine : Machine) → Keeps machine → EffectFits (bare machine) serial frame effect → ForcesWide machine effect
  forces-wide (Force item value) serial frame machine h fits = fits.1 ∙ word-width (nodes_of program) machine.state.values item linked-nodes h.steady.wide fits.0
  forces-wide other serial frame machine h fits = tt

  pub done-kept : (op : Option (Op ℕ)) (serial : ℕ) (frame : Frame) (machine : Machine) → slice_get program.code frame.pc ≡ op → Keeps machine → Keeps (done program op serial frame machine)
  done-kept None serial frame machine at h = trapped-kept OffEnd serial frame machine h
  done-kept (Some op) serial frame machine at h =
      let left = does op frame (words_now program machine) in
      let fits = does-fits (bare machine) serial frame linked h.steady.wide h.dump.designed (λ place child is. tt) op at in
      affect-kept op left.1 serial left.0 machine (forces-wide left.1 serial left.0 machine h fits) h
