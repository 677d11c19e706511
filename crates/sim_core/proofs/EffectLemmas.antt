-- The effects of opcodes, part by part: what an engine keeps, and what it shows.
use Rattle.std.proofs.Common.{◌≡◌, ◌⊎◌, inl, inr, ℕ, zero, suc, set, ◌+◌, ◌<◌, ◌≤◌, ◌^◌, ℤ, min, nat_lt, Bool, true, false, cond, Option, Some, None, is_some, option_map, IfSome, List, [], ◌∷◌, ◌++◌, length, refl, sym, ap, subst, ◌∙◌, arith}
use Rattle.std.proofs.lemmas.Bool.{cases_lt}
use Rattle.std.proofs.lemmas.Bool.Decides.{nat_tests}
use Rattle.std.proofs.lemmas.List.{append-nil, length-map, length-set}
use Rattle.four_state.specs.declared.bits.Bit.{Bit}
use Rattle.event_pool.specs.declared.agenda.Due.{Due}
use Rattle.event_pool.specs.declared.agenda.Region.{Region}
use Rattle.event_pool.specs.declared.agenda.Region.TheVariants.{Active, Inactive, Nonblocking}
use Rattle.event_pool.specs.declared.agenda.Act.TheVariants.{Update}
use Rattle.event_pool.specs.Pending.{Pending, pending_of, run_of}
use Rattle.event_pool.specs.Schedule.{Schedule, put_due}
use Rattle.vvp_threads.specs.declared.thread.Frame.{Frame}
use Rattle.vvp_threads.specs.declared.thread.Thread.{Thread}
use Rattle.vvp_threads.specs.declared.thread.ThreadState.TheVariants.{Joining}
use Rattle.vvp_threads.specs.Table.{Table, changed_at, emptied, in_state, joiners_of, joins_on, live_count, slot_at, spawned, thread_of, waits_on, with_frame, without}
use Rattle.vvp_threads.specs.Keyed.{IsKeyOf, KeyedTable, run_under, with_runs}
use Rattle.vvp_threads.specs.Disable.{disabled_serials}
use Rattle.vvp_threads.specs.Runs.{HasRuns, runs_of}
use Rattle.op_exec.specs.declared.effect.TrapKind.TheVariants.{ThreadsOver, TimeOver}
use Rattle.vvp_ops.specs.declared.op.Op.{Op}
use Rattle.op_exec.specs.declared.effect.TrapKind.{TrapKind}
use Rattle.sym_link.specs.declared.program.Program.{Program}
use Rattle.sym_link.specs.Roots.{Node, kind_of, nodes_of}
use Rattle.net_engine.specs.Kept.{IsWritable, evals_lacking, in_turn_of, state_of}
use Rattle.net_engine.specs.State.{State}
use Rattle.sim_core.specs.declared.ending.Ending.TheVariants as ends
use Rattle.sim_core.specs.declared.engine.Running.{Running}
use Rattle.sim_core.specs.Machine.{Machine, at_next, is_live, now_of, on_state, on_threads, placed, put_due as put_due_in, trapped, with_running}
use Rattle.sim_core.specs.Effects.{assigned_later, child_started, delay_region, delayed, disabled, ended, forked, function_called, is_in_time, joined, next_serial, parents_of, runs_on, threads_ended, waiting}
use Rattle.sim_core.specs.Engine.{Shown, in_turn_of_machine}
use Rattle.sim_core.specs.Kept.{IsSound}
use Rattle.sim_core.specs.Parts.{CanGoOn, Runs, ShownFails, ShownFollows, child_put, delayed_run}
use Rattle.sim_core.proofs.ChildLemmas.{sound-child}
use Rattle.sim_core.proofs.EndLemmas.{sound-disabled, sound-ended, sound-joins, sound-waits}
use Rattle.sim_core.proofs.FrameLemmas.{framed-is, framed-lives, framed-same}
use Rattle.sim_core.proofs.RoomLemmas.{more-made, sound-made}
use Rattle.sim_core.proofs.PutLemmas.{run_at, sound-delayed, sound-update}
use Rattle.sim_core.proofs.StepLemmas.{MachineFollows, end-follows, put-in-machine, state-follows}
use Rattle.sim_core.proofs.WholeLemmas.{At, Whole, runs-at, shown_of}

lt-true : (a b : ℕ) → a < b → nat_lt a b ≡ true
lt-true a b h = grind (arith, nat_tests)

lt-false : (a b : ℕ) → b ≤ a → nat_lt a b ≡ false
lt-false a b h = grind (arith, nat_tests)

pub not-below : (a b : ℕ) → (a < b → ⊥) → b ≤ a
not-below a b h = go (cases_lt a b) where
  go : (a < b) ⊎ (b ≤ a) → b ≤ a
  go (inl below) = absurd (h below)
  go (inr above) = above

-- what is shown follows a choice, by which way it goes
pub shown-by : (f g : Machine → Machine) (old new : Shown) → ((machine : Machine) → in_turn_of_machine machine ≡ old.machine → f machine ≡ g machine) → ShownFollows g old new → ShownFollows f old new
shown-by f g old new same k = record {
  machine = record { shown = λ machine e. ap in_turn_of_machine (same machine e) ∙ k.machine.shown machine e };
  program = k.program;
  order = k.order;
  failed = k.failed;
  steps = k.steps;
}

-- what is shown exactly
pub shown-exactly : (f : Machine → Machine) (old new : Shown) → ((machine : Machine) → in_turn_of_machine (f machine) ≡ f (in_turn_of_machine machine)) → new ≡ record old { machine = f old.machine } → (f old.machine).steps ≡ old.machine.steps
    → ShownFollows f old new
shown-exactly f old new apart goes steps = record {
  machine = record { shown = λ machine e. apart machine ∙ ap f e ∙ ap (λ (s : Shown). s.machine) (sym goes) };
  program = ap (λ (s : Shown). s.program) goes;
  order = ap (λ (s : Shown). s.order) goes;
  failed = ap (λ (s : Shown). s.failed) goes;
  steps = ap (λ (s : Shown). s.machine.steps) goes ∙ steps;
}

-- first the thread goes on, and then what is shown follows
pub shown-next : (f : Machine → Machine) (old mid new : Shown) (serial : ℕ) (frame : Frame) → mid ≡ record old { machine = at_next serial frame old.machine } → ShownFollows f mid new → ShownFollows (λ machine. f (at_next serial frame machine)) old new
shown-next f old mid new serial frame goes k = record {
  machine = record { shown = λ machine e. k.machine.shown (at_next serial frame machine) (ap (at_next serial frame) e ∙ ap (λ (s : Shown). s.machine) (sym goes)) };
  program = k.program ∙ ap (λ (s : Shown). s.program) goes;
  order = k.order ∙ ap (λ (s : Shown). s.order) goes;
  failed = k.failed ∙ ap (λ (s : Shown). s.failed) goes;
  steps = k.steps ∙ ap (λ (s : Shown). s.machine.steps) goes;
}

-- nothing is printed by what leaves the tasks
pub shown-same : (f : Machine → Machine) (old new : Shown) → ((machine : Machine) → (f machine).tasks ≡ machine.tasks) → new.machine.tasks ≡ old.machine.tasks → new.program ≡ old.program → new.order ≡ old.order → ShownFails f old new
shown-same f old new still tasks program order = record {
  cut = λ machine e.
      let same = still machine ∙ ap (λ (m : Machine). m.tasks) e in
      record {
        out = record { part = []; rest = []; after_first = ap (λ t. t.out) tasks ∙ sym (append-nil old.machine.tasks.out); before_last = ap (λ t. t.out) (same ∙ sym tasks) ∙ sym (append-nil new.machine.tasks.out) };
        dump = record { part = []; rest = []; after_first = ap (λ t. t.dump) tasks ∙ sym (append-nil old.machine.tasks.dump); before_last = ap (λ t. t.dump) (same ∙ sym tasks) ∙ sym (append-nil new.machine.tasks.dump) };
      };
  program = program;
  order = order;
}

-- ---- traps

trap-apart : (kind : TrapKind) (serial : ℕ) (frame : Frame) (machine : Machine) → in_turn_of_machine (trapped kind serial frame machine) ≡ trapped kind serial frame (in_turn_of_machine machine)
trap-apart kind serial frame machine = refl

pub trap-shown : (kind : TrapKind) (serial : ℕ) (frame : Frame) (old new : Shown) → new ≡ record old { machine = trapped kind serial frame old.machine } → ShownFollows (trapped kind serial frame) old new
trap-shown kind serial frame old new goes = shown-exactly (trapped kind serial frame) old new (trap-apart kind serial frame) goes refl

-- the run ends by a trap: the thread keeps its frame
pub trapped-is : (w : Whole) (old : Shown) (kind : TrapKind) (serial : ℕ) (thread : Thread) (address : ℕ) → shown_of w ≡ old → Runs old serial thread → address ≡ thread.frame.pc
    → shown_of (record w { ending = Some (ends.Trap kind address) }) ≡ record old { machine = trapped kind serial thread.frame old.machine }
trapped-is w old kind serial thread address view runs at =
    ap (λ (k : ℕ). shown_of (record w { ending = Some (ends.Trap kind k) })) at
    ∙ ap (λ (s : Shown). record s { machine = record s.machine { ending = Some (ends.Trap kind thread.frame.pc) } }) view
    ∙ ap (λ (table : Table). record old { machine = record old.machine { state = record old.machine.state { threads = table }; ending = Some (ends.Trap kind thread.frame.pc) } }) (sym (framed-same serial old.machine.state.threads thread runs.live))

-- ---- delays

pub delayed-past : (ticks serial : ℕ) (frame : Frame) (old new : Shown) → 2 ^ 64 ≤ old.machine.state.pending.now + ticks → new ≡ record old { machine = trapped TimeOver serial frame old.machine } → ShownFollows (delayed ticks serial frame) old new
delayed-past ticks serial frame old new past goes =
    shown-by (delayed ticks serial frame) (trapped TimeOver serial frame) old new
    (λ machine e. ap (λ (b : Bool). cond b (put_due_in (run_of (now_of machine + ticks) (delay_region ticks) serial) (with_running None (at_next serial frame machine))) (trapped TimeOver serial frame machine))
    (ap (λ (now : ℕ). nat_lt (now + ticks) (2 ^ 64)) (ap (λ (m : Machine). m.state.pending.now) e) ∙ lt-false (old.machine.state.pending.now + ticks) (2 ^ 64) past))
    (trap-shown TimeOver serial frame old new goes)

pub delayed-then : (ticks serial : ℕ) (frame : Frame) (old mid new : Shown) → old.machine.state.pending.now + ticks < 2 ^ 64 → mid ≡ record old { machine = at_next serial frame old.machine } → ShownFollows (delayed_run ticks serial) mid new
    → ShownFollows (delayed ticks serial frame) old new
delayed-then ticks serial frame old mid new in_time goes k =
    shown-by (delayed ticks serial frame) (λ machine. delayed_run ticks serial (at_next serial frame machine)) old new
    (λ machine e. ap (λ (b : Bool). cond b (put_due_in (run_of (now_of machine + ticks) (delay_region ticks) serial) (with_running None (at_next serial frame machine))) (trapped TimeOver serial frame machine))
    (ap (λ (now : ℕ). nat_lt (now + ticks) (2 ^ 64)) (ap (λ (m : Machine). m.state.pending.now) e) ∙ lt-true (old.machine.state.pending.now + ticks) (2 ^ 64) in_time))
    (shown-next (delayed_run ticks serial) old mid new serial frame goes k)

-- an Inactive Run is at now
pub region-now : (ticks now time : ℕ) → time ≡ now + ticks → delay_region ticks ≡ Inactive → time ≡ now
region-now ticks now time at is = go (nat_lt 0 ticks) refl is
  where
    go : (b : Bool) → nat_lt 0 ticks ≡ b → cond b Active Inactive ≡ Inactive → time ≡ now
    go true lt e = absurd (let none : ⊥ = cc in none)
    go false lt e = (let zero : ticks ≡ 0 = grind (arith, nat_tests) in omega (arith, at, zero))

pub put-run-sound : (w : Whole) (old : Shown) (serial : ℕ) (thread : Thread) (r : Running) (time : ℕ) (region : Region) → shown_of w ≡ old → (w.failed ≡ false → IsSound w.held) → Runs old serial thread → w.held.running ≡ Some r
    → (0 < w.held.schedule.spare) × IsSound (record w.held { schedule = put_due w.held.schedule (run_at time region r.serial r.key); running = None })
put-run-sound w old serial thread r time region view inv runs is =
    let a = runs-at w old serial thread r view inv runs is in
    let put = sound-delayed w.held time region serial r.key a.key a.ready a.no_run a.sound in
    subst (λ (k : ℕ). (0 < w.held.schedule.spare) × IsSound (record w.held { schedule = put_due w.held.schedule (run_at time region k r.key); running = None })) (sym a.same) put

pub put-run-shown : (w : Whole) (old : Shown) (serial : ℕ) (thread : Thread) (r : Running) (time ticks : ℕ) (region : Region) (schedule : Schedule) → shown_of w ≡ old → (w.failed ≡ false → IsSound w.held) → Runs old serial thread → w.held.running ≡ Some r
    → time ≡ old.machine.state.pending.now + ticks → region ≡ delay_region ticks → schedule ≡ put_due w.held.schedule (run_at time region r.serial r.key)
    → ShownFollows (delayed_run ticks serial) old (shown_of (record w { held = record w.held { schedule = schedule; running = None } }))
put-run-shown w old serial thread r time ticks region schedule view inv runs is at in_region put =
    let a = runs-at w old serial thread r view inv runs is in
    let now : time ≡ w.held.schedule.now + ticks = at ∙ ap (λ (s : Shown). s.machine.state.pending.now + ticks) (sym view) in
    subst (λ (s : Shown). ShownFollows (delayed_run ticks serial) s (shown_of (record w { held = record w.held { schedule = schedule; running = None } }))) view
    (subst (λ (s : Schedule). ShownFollows (delayed_run ticks serial) (shown_of w) (shown_of (record w { held = record w.held { schedule = s; running = None } })))
    (sym (put ∙ ap (λ (k : ℕ). put_due w.held.schedule (run_at time region k r.key)) a.same ∙ ap (λ (g : Region). put_due w.held.schedule (run_at time g serial r.key)) in_region
    ∙ ap (λ (t : ℕ). put_due w.held.schedule (run_at t (delay_region ticks) serial r.key)) now))
    (record { machine = run-follows; program = refl; order = refl; failed = refl; steps = refl }))
  where
    due : Due
    due = run_at (w.held.schedule.now + ticks) (delay_region ticks) serial r.key

    run-follows : MachineFollows (delayed_run ticks serial) (shown_of w).machine
        (shown_of (record w { held = record w.held { schedule = put_due w.held.schedule (run_at (w.held.schedule.now + ticks) (delay_region ticks) serial r.key); running = None } })).machine
    run-follows = record {
      shown = λ machine e.
          ap (λ (now : ℕ). in_turn_of_machine (put_due_in (run_of (now + ticks) (delay_region ticks) serial) (with_running None machine))) (ap (λ (m : Machine). m.state.pending.now) e)
          ∙ (put-in-machine (run_at (w.held.schedule.now + ticks) (delay_region ticks) serial r.key) w.held.schedule (with_running None (shown_of w).machine)).shown (with_running None machine) (ap (with_running None) e);
    }

-- ---- nonblocking assignments

-- the due of a nonblocking assignment
abbrev pub update_at : ℕ → ℕ → ℕ → ℤ → List Bit → Due
update_at time item word offset value = record { time = time; region = Nonblocking; act = Update item word offset value }

pub assign-sound : (w : Whole) (old : Shown) (serial : ℕ) (thread : Thread) (time item word : ℕ) (offset : ℤ) (value : List Bit) (made new : Schedule) → shown_of w ≡ old → (w.failed ≡ false → IsSound w.held) → Runs old serial thread
    → IsWritable old.machine.state.values item word (kind_of (nodes_of old.program) item) → made.dues ≡ w.held.schedule.dues → min w.held.schedule.spare (live_count w.held.threads.table + w.held.outputs) + 1 ≤ made.spare
    → new ≡ put_due made (update_at time item word offset value) → IsSound (record w.held { schedule = new })
assign-sound w old serial thread time item word offset value made new view inv runs writes dues room put =
    let s = inv (ap (λ (x : Shown). x.failed) view ∙ runs.fine) in
    let named : IsWritable w.held.net.values item word (kind_of w.held.net.nodes item) =
    subst (λ (nodes : List Node). IsWritable w.held.net.values item word (kind_of nodes item)) (sym s.nodes)
    (subst (λ (x : Shown). IsWritable x.machine.state.values item word (kind_of (nodes_of x.program) item)) (sym view) writes) in
    subst (λ (x : Schedule). IsSound (record w.held { schedule = x })) (sym put)
    (sound-update (record w.held { schedule = made }) (update_at time item word offset value) (λ k. refl) (λ k. refl) tt named (more-made w.held made s dues room) (sound-made w.held made s dues room))

pending_same : (made s : Schedule) → made.now ≡ s.now → made.dues ≡ s.dues → pending_of made ≡ pending_of s
pending_same made s now dues = ap (λ (n : ℕ). pending_of (record made { now = n })) now ∙ ap (λ (ds : List Due). pending_of (record s { dues = ds })) dues

-- an agenda with the same time and dues shows the same
pub shown-made : (w : Whole) (made : Schedule) → made.now ≡ w.held.schedule.now → made.dues ≡ w.held.schedule.dues → shown_of (record w { held = record w.held { schedule = made } }) ≡ shown_of w
shown-made w made now dues =
    ap (λ (p : Pending). record (shown_of w) { machine = record (shown_of w).machine { state = record (shown_of w).machine.state { pending = p } } }) (pending_same made w.held.schedule now dues)

pub assign-shown : (w : Whole) (old mid last : Shown) (serial : ℕ) (frame : Frame) (time item word ticks : ℕ) (offset : ℤ) (value : List Bit) (made new : Schedule) → shown_of w ≡ old → made.now ≡ w.held.schedule.now → made.dues ≡ w.held.schedule.dues
    → time ≡ old.machine.state.pending.now + ticks → old.machine.state.pending.now + ticks < 2 ^ 64 → new ≡ put_due made (update_at time item word offset value)
    → shown_of (record w { held = record w.held { schedule = new } }) ≡ mid → last ≡ record mid { machine = at_next serial frame mid.machine }
    → ShownFollows (assigned_later item word offset value ticks serial frame) old last
assign-shown w old mid last serial frame time item word ticks offset value made new view now dues at in_time put closed goes = record {
  machine = record {
    shown = λ machine e.
        ap (λ (n : ℕ). in_turn_of_machine (cond (nat_lt (n + ticks) (2 ^ 64)) (put_due_in (update_at (n + ticks) item word offset value) (at_next serial frame machine)) (trapped TimeOver serial frame machine)))
        (ap (λ (m : Machine). m.state.pending.now) e)
        ∙ ap (λ (b : Bool). in_turn_of_machine (cond b (put_due_in (update_at (old.machine.state.pending.now + ticks) item word offset value) (at_next serial frame machine)) (trapped TimeOver serial frame machine)))
        (lt-true (old.machine.state.pending.now + ticks) (2 ^ 64) in_time)
        ∙ ap (λ (t : ℕ). at_next serial frame (in_turn_of_machine (put_due_in (update_at t item word offset value) machine))) (sym at)
        ∙ ap (at_next serial frame) (puts.shown machine (e ∙ ap (λ (s : Shown). s.machine) (sym (shown-made w made now dues ∙ view)))
        ∙ ap (λ (s : Schedule). (shown_of (record w { held = record w.held { schedule = s } })).machine) (sym put) ∙ ap (λ (s : Shown). s.machine) closed)
        ∙ ap (λ (s : Shown). s.machine) (sym goes);
  };
  program = ap (λ (s : Shown). s.program) (goes ∙ ap (λ (s : Shown). record s { machine = at_next serial frame s.machine }) (sym closed)) ∙ ap (λ (s : Shown). s.program) view;
  order = ap (λ (s : Shown). s.order) (goes ∙ ap (λ (s : Shown). record s { machine = at_next serial frame s.machine }) (sym closed)) ∙ ap (λ (s : Shown). s.order) view;
  failed = ap (λ (s : Shown). s.failed) (goes ∙ ap (λ (s : Shown). record s { machine = at_next serial frame s.machine }) (sym closed)) ∙ ap (λ (s : Shown). s.failed) view;
  steps = ap (λ (s : Shown). s.machine.steps) (goes ∙ ap (λ (s : Shown). record s { machine = at_next serial frame s.machine }) (sym closed)) ∙ ap (λ (s : Shown). s.machine.steps) view;
}
  where
    puts : MachineFollows (put_due_in (update_at time item word offset value)) (shown_of (record w { held = record w.held { schedule = made } })).machine (shown_of (record w { held = record w.held { schedule = put_due made (update_at time item word offset value) } })).machine
    puts = put-in-machine (update_at time item word offset value) made (shown_of w).machine

-- the thread that runs is as before
pub assign-runs : (w : Whole) (old mid : Shown) (serial : ℕ) (thread : Thread) (new : Schedule) → shown_of w ≡ old → shown_of (record w { held = record w.held { schedule = new } }) ≡ mid → CanGoOn old serial thread → CanGoOn mid serial thread
assign-runs w old mid serial thread new view closed can =
    subst (λ (s : Shown). CanGoOn s serial thread) closed (record {
      runs = record {
        fine = ap (λ (s : Shown). s.failed) view ∙ can.runs.fine;
        running = ap (λ (s : Shown). s.machine.running) view ∙ can.runs.running;
        live = ap (λ (s : Shown). thread_of s.machine.state.threads serial) view ∙ can.runs.live;
      };
      place = subst (λ (s : Shown). thread.frame.pc < length s.program.code) (sym view) can.place;
    })

pub assigned-past : (item word ticks serial : ℕ) (offset : ℤ) (value : List Bit) (frame : Frame) (old new : Shown) → 2 ^ 64 ≤ old.machine.state.pending.now + ticks → new ≡ record old { machine = trapped TimeOver serial frame old.machine }
    → ShownFollows (assigned_later item word offset value ticks serial frame) old new
assigned-past item word ticks serial offset value frame old new past goes =
    shown-by (assigned_later item word offset value ticks serial frame) (trapped TimeOver serial frame) old new
    (λ machine e. ap (λ (b : Bool). cond b (put_due_in (update_at (now_of machine + ticks) item word offset value) (at_next serial frame machine)) (trapped TimeOver serial frame machine))
    (ap (λ (now : ℕ). nat_lt (now + ticks) (2 ^ 64)) (ap (λ (m : Machine). m.state.pending.now) e) ∙ lt-false (old.machine.state.pending.now + ticks) (2 ^ 64) past))
    (trap-shown TimeOver serial frame old new goes)

cond-tasks : (b : Bool) (x y machine : Machine) → x.tasks ≡ machine.tasks → y.tasks ≡ machine.tasks → (cond b x y).tasks ≡ machine.tasks
cond-tasks true x y machine f g = f
cond-tasks false x y machine f g = g

pub assigned-tasks : (item word ticks serial : ℕ) (offset : ℤ) (value : List Bit) (frame : Frame) (machine : Machine) → (assigned_later item word offset value ticks serial frame machine).tasks ≡ machine.tasks
assigned-tasks item word ticks serial offset value frame machine =
    cond-tasks (is_in_time ticks machine) (put_due_in (update_at (now_of machine + ticks) item word offset value) (at_next serial frame machine)) (trapped TimeOver serial frame machine) machine refl refl

-- ---- waiting and joining

pub wait-sound : (w : Whole) (serial event : ℕ) (thread : Thread) (r : Running) (threads : KeyedTable) → At w serial thread r → ((s : ℕ) → IsKeyOf w.held.threads s r.key → threads ≡ record w.held.threads { table = waits_on w.held.threads.table s event })
    → ((s besides : ℕ) (schedule : Schedule) → IsKeyOf w.held.threads s r.key → runs_of s schedule.dues ≡ 0 → HasRuns w.held.threads besides schedule → HasRuns threads besides schedule)
    → IsSound (record w.held { threads = threads; running = None })
wait-sound w serial event thread r threads a goes runs =
    let is = goes serial a.key in
    let on = runs serial (evals_lacking w.held.net.nodes w.held.schedule.dues) w.held.schedule a.key a.no_run a.sound.fits.runs in
    subst (λ (t : KeyedTable). IsSound (record w.held { threads = t; running = None })) (sym is)
    (sound-waits w.held serial event (subst (λ (t : KeyedTable). HasRuns t (evals_lacking w.held.net.nodes w.held.schedule.dues) w.held.schedule) is on) a.sound)

pub wait-shown : (w : Whole) (old mid : Shown) (serial event : ℕ) (frame : Frame) (threads : KeyedTable) → shown_of w ≡ mid → mid ≡ record old { machine = at_next serial frame old.machine } → threads ≡ record w.held.threads { table = waits_on w.held.threads.table serial event }
    → shown_of (record w { held = record w.held { threads = threads; running = None } }) ≡ record old { machine = waiting event serial frame old.machine }
wait-shown w old mid serial event frame threads view goes is =
    ap (λ (t : KeyedTable). shown_of (record w { held = record w.held { threads = t; running = None } })) is
    ∙ ap (λ (s : Shown). record s { machine = with_running None (on_threads (λ table. waits_on table serial event) s.machine) }) (view ∙ goes)

abbrev joined_by : Table → ℕ → ℕ → Table
joined_by table serial child = record table { threads = changed_at table.threads serial (in_state (Joining child)) }

-- the table where nobody is joined
joins-nobody : (threads : KeyedTable) (serial child : ℕ) → is_some (thread_of threads.table child) ≡ false → record threads { table = joins_on threads.table serial child } ≡ threads
joins-nobody threads serial child none = ap (λ (b : Bool). record threads { table = cond b (joined_by threads.table serial child) threads.table }) none

pub join-sound : (w : Whole) (serial child : ℕ) (thread : Thread) (r : Running) (rests : Bool) (threads : KeyedTable) (now : Option Running) → At w serial thread r → w.held.running ≡ Some r → rests ≡ is_some (thread_of w.held.threads.table child)
    → ((s : ℕ) → IsKeyOf w.held.threads s r.key → threads ≡ record w.held.threads { table = joins_on w.held.threads.table s child })
    → ((s besides : ℕ) (schedule : Schedule) → IsKeyOf w.held.threads s r.key → runs_of s schedule.dues ≡ 0 → HasRuns w.held.threads besides schedule → HasRuns threads besides schedule)
    → now ≡ cond rests None (Some r) → IsSound (record w.held { threads = threads; running = now })
join-sound w serial child thread r rests threads now a is live goes runs then = go rests refl
  where
    table : threads ≡ record w.held.threads { table = joins_on w.held.threads.table serial child }
    table = goes serial a.key

    go : (b : Bool) → rests ≡ b → IsSound (record w.held { threads = threads; running = now })
    go true at =
        let on = runs serial (evals_lacking w.held.net.nodes w.held.schedule.dues) w.held.schedule a.key a.no_run a.sound.fits.runs in
        let none : now ≡ None = then ∙ ap (λ (b : Bool). cond b None (Some r)) at in
        subst (λ (q : Option Running). IsSound (record w.held { threads = threads; running = q })) (sym none)
        (subst (λ (t : KeyedTable). IsSound (record w.held { threads = t; running = None })) (sym table)
        (sound-joins w.held serial child (subst (λ (t : KeyedTable). HasRuns t (evals_lacking w.held.net.nodes w.held.schedule.dues) w.held.schedule) table on) a.sound))
    go false at =
        let some : now ≡ w.held.running = then ∙ ap (λ (b : Bool). cond b None (Some r)) at ∙ sym is in
        let same : threads ≡ w.held.threads = table ∙ joins-nobody w.held.threads serial child (sym live ∙ at) in
        subst (λ (q : Option Running). IsSound (record w.held { threads = threads; running = q })) (sym some)
        (subst (λ (t : KeyedTable). IsSound (record w.held { threads = t })) (sym same) a.sound)

pub join-shown : (w : Whole) (old mid : Shown) (serial child : ℕ) (thread : Thread) (r : Running) (rests : Bool) (threads : KeyedTable) (now : Option Running) → shown_of w ≡ mid → CanGoOn old serial thread → mid ≡ record old { machine = at_next serial thread.frame old.machine }
    → w.held.running ≡ Some r → rests ≡ is_some (thread_of w.held.threads.table child) → threads ≡ record w.held.threads { table = joins_on w.held.threads.table serial child } → now ≡ cond rests None (Some r)
    → shown_of (record w { held = record w.held { threads = threads; running = now } }) ≡ record old { machine = joined child serial thread.frame old.machine }
join-shown w old mid serial child thread r rests threads now view can goes is live table then = go rests refl
  where
    lives : rests ≡ is_live child old.machine
    lives =
        live ∙ ap (λ (s : Shown). is_some (thread_of s.machine.state.threads child)) (view ∙ goes)
        ∙ framed-lives serial child (record thread.frame { pc = thread.frame.pc + 1 }) old.machine.state.threads thread can.runs.live

    rested : Machine
    rested = with_running None (on_threads (λ table. joins_on table serial child) (at_next serial thread.frame old.machine))

    go : (b : Bool) → rests ≡ b → shown_of (record w { held = record w.held { threads = threads; running = now } }) ≡ record old { machine = joined child serial thread.frame old.machine }
    go true at =
        let none : now ≡ None = then ∙ ap (λ (b : Bool). cond b None (Some r)) at in
        ap (λ (q : Option Running). shown_of (record w { held = record w.held { threads = threads; running = q } })) none
        ∙ ap (λ (t : KeyedTable). shown_of (record w { held = record w.held { threads = t; running = None } })) table
        ∙ ap (λ (s : Shown). record s { machine = with_running None (on_threads (λ table. joins_on table serial child) s.machine) }) (view ∙ goes)
        ∙ ap (λ (b : Bool). record old { machine = cond b (with_running None (on_threads (λ table. joins_on table serial child) (at_next serial thread.frame old.machine))) (at_next serial thread.frame old.machine) }) (sym at ∙ lives)
    go false at =
        let some : now ≡ w.held.running = then ∙ ap (λ (b : Bool). cond b None (Some r)) at ∙ sym is in
        let same : threads ≡ w.held.threads = table ∙ joins-nobody w.held.threads serial child (sym live ∙ at) in
        ap (λ (q : Option Running). shown_of (record w { held = record w.held { threads = threads; running = q } })) some
        ∙ ap (λ (t : KeyedTable). shown_of (record w { held = record w.held { threads = t } })) same
        ∙ view ∙ goes
        ∙ ap (λ (b : Bool). record old { machine = cond b (with_running None (on_threads (λ table. joins_on table serial child) (at_next serial thread.frame old.machine))) (at_next serial thread.frame old.machine) }) (sym at ∙ lives)

-- ---- ending and disabling

pub end-sound : (w : Whole) (serial : ℕ) (thread : Thread) (r : Running) (threads : KeyedTable) (schedule : Schedule) → At w serial thread r
    → ((s : ℕ) → IsKeyOf w.held.threads s r.key → threads ≡ record { table = without w.held.threads.table (s ∷ []); keys = emptied (s ∷ []) w.held.threads.keys })
    → ((s : ℕ) → IsKeyOf w.held.threads s r.key → schedule ≡ with_runs w.held.schedule w.held.threads.keys (joiners_of w.held.threads.table.threads (s ∷ [])))
    → ((besides : ℕ) → HasRuns w.held.threads besides w.held.schedule → HasRuns threads besides schedule)
    → IsSound (record w.held { threads = threads; schedule = schedule; running = None })
end-sound w serial thread r threads schedule a goes puts runs =
    let t = goes serial a.key in
    let s = puts serial a.key in
    let on = runs (evals_lacking w.held.net.nodes w.held.schedule.dues) a.sound.fits.runs in
    let moved : HasRuns (record { table = without w.held.threads.table (serial ∷ []); keys = emptied (serial ∷ []) w.held.threads.keys }) (evals_lacking w.held.net.nodes w.held.schedule.dues)
    (with_runs w.held.schedule w.held.threads.keys (joiners_of w.held.threads.table.threads (serial ∷ []))) =
    subst (λ (x : KeyedTable). HasRuns x (evals_lacking w.held.net.nodes w.held.schedule.dues) (with_runs w.held.schedule w.held.threads.keys (joiners_of w.held.threads.table.threads (serial ∷ [])))) t
    (subst (λ (x : Schedule). HasRuns threads (evals_lacking w.held.net.nodes w.held.schedule.dues) x) s on) in
    subst (λ (x : KeyedTable). IsSound (record w.held { threads = x; schedule = schedule; running = None })) (sym t)
    (subst (λ (x : Schedule). IsSound (record w.held { threads = record { table = without w.held.threads.table (serial ∷ []); keys = emptied (serial ∷ []) w.held.threads.keys }; schedule = x; running = None })) (sym s)
    (sound-ended w.held (serial ∷ []) moved a.sound))

pub end-shown : (w : Whole) (old : Shown) (serial : ℕ) (threads : KeyedTable) (schedule : Schedule) → shown_of w ≡ old
    → threads ≡ record { table = without w.held.threads.table (serial ∷ []); keys = emptied (serial ∷ []) w.held.threads.keys }
    → schedule ≡ with_runs w.held.schedule w.held.threads.keys (joiners_of w.held.threads.table.threads (serial ∷ []))
    → ShownFollows (ended serial) old (shown_of (record w { held = record w.held { threads = threads; schedule = schedule; running = None } }))
end-shown w old serial threads schedule view table puts =
    subst (λ (s : Shown). ShownFollows (ended serial) s (shown_of (record w { held = record w.held { threads = threads; schedule = schedule; running = None } }))) view
    (subst (λ (t : KeyedTable). ShownFollows (ended serial) (shown_of w) (shown_of (record w { held = record w.held { threads = t; schedule = schedule; running = None } }))) (sym table)
    (subst (λ (s : Schedule). ShownFollows (ended serial) (shown_of w) (shown_of (record w { held = record w.held { threads = record { table = without w.held.threads.table (serial ∷ []); keys = emptied (serial ∷ []) w.held.threads.keys }; schedule = s; running = None } }))) (sym puts)
    (record { machine = record { shown = λ machine e. ap (with_running None) (ends-all.shown machine e) }; program = refl; order = refl; failed = refl; steps = refl })))
  where
    ends-all : MachineFollows (on_state (threads_ended (serial ∷ []))) (shown_of w).machine
        (shown_of (record w { held = record w.held { threads = record { table = without w.held.threads.table (serial ∷ []); keys = emptied (serial ∷ []) w.held.threads.keys }; schedule = with_runs w.held.schedule w.held.threads.keys (joiners_of w.held.threads.table.threads (serial ∷ [])) } })).machine
    ends-all = state-follows (threads_ended (serial ∷ [])) (shown_of w).machine _ (end-follows (serial ∷ []) w.held.threads.keys w.held.net.values w.held.threads.table w.held.schedule)

-- the serials that a disable ends
abbrev members_of : Whole → ℕ → ℕ → List ℕ
members_of w serial scope = disabled_serials w.held.threads.table serial w.held.scope_parents scope

-- the threads and the agenda after a disable
abbrev left_of : Whole → List ℕ → KeyedTable
left_of w members = record { table = without w.held.threads.table members; keys = emptied members w.held.threads.keys }

abbrev runs_after : Whole → List ℕ → Schedule
runs_after w members = with_runs w.held.schedule w.held.threads.keys (joiners_of w.held.threads.table.threads members)

pub disable-sound : (w : Whole) (serial scope : ℕ) (thread : Thread) (r : Running) (threads : KeyedTable) (schedule : Schedule) (now : Option Running) → At w serial thread r → w.held.running ≡ Some r
    → ((s : ℕ) → IsKeyOf w.held.threads s r.key → threads ≡ left_of w (members_of w s scope))
    → ((s : ℕ) → IsKeyOf w.held.threads s r.key → schedule ≡ runs_after w (members_of w s scope))
    → ((besides : ℕ) → HasRuns w.held.threads besides w.held.schedule → HasRuns threads besides schedule)
    → IfSome now (λ (q : Running). q ≡ r) → IfSome now (λ (q : Running). is_some (slot_at threads.keys r.serial) ≡ true)
    → IsSound (record w.held { threads = threads; schedule = schedule; running = now })
disable-sound w serial scope thread r threads schedule now a is goes puts runs same kept =
    let t = goes serial a.key in
    let s = puts serial a.key in
    let on = runs (evals_lacking w.held.net.nodes w.held.schedule.dues) a.sound.fits.runs in
    let moved : HasRuns (left_of w (members_of w serial scope)) (evals_lacking w.held.net.nodes w.held.schedule.dues) (runs_after w (members_of w serial scope)) =
    subst (λ (x : KeyedTable). HasRuns x (evals_lacking w.held.net.nodes w.held.schedule.dues) (runs_after w (members_of w serial scope))) t
    (subst (λ (x : Schedule). HasRuns threads (evals_lacking w.held.net.nodes w.held.schedule.dues) x) s on) in
    subst (λ (x : KeyedTable). IsSound (record w.held { threads = x; schedule = schedule; running = now })) (sym t)
    (subst (λ (x : Schedule). IsSound (record w.held { threads = left_of w (members_of w serial scope); schedule = x; running = now })) (sym s)
    (sound-disabled w.held (members_of w serial scope) r now is (λ q at. (if_same now q same at, ap (λ (x : KeyedTable). is_some (slot_at x.keys r.serial)) (sym t) ∙ if_kept now q kept at)) moved a.sound))
  where
    if_same : (o : Option Running) (q : Running) → IfSome o (λ (x : Running). x ≡ r) → o ≡ Some q → q ≡ r
    if_same None q h at = absurd (let none : ⊥ = cc in none)
    if_same (Some x) q h at = (let e : x ≡ q = cc in sym e ∙ h)

    if_kept : (o : Option Running) (q : Running) → IfSome o (λ (x : Running). is_some (slot_at threads.keys r.serial) ≡ true) → o ≡ Some q → is_some (slot_at threads.keys r.serial) ≡ true
    if_kept None q h at = absurd (let none : ⊥ = cc in none)
    if_kept (Some x) q h at = h

-- who runs then
still-shown : (now : Option Running) (r : Running) (serial : ℕ) (b : Bool) → r.serial ≡ serial → IfSome now (λ (q : Running). q ≡ r) → is_some now ≡ b → option_map (λ (q : Running). q.serial) now ≡ cond b (Some serial) None
still-shown None r serial true at same is = absurd (let none : ⊥ = cc in none)
still-shown None r serial false at same is = refl
still-shown (Some q) r serial true at same is = ap (λ (x : Running). Some x.serial) same ∙ ap (λ (k : ℕ). Some k) at
still-shown (Some q) r serial false at same is = absurd (let none : ⊥ = cc in none)

pub disable-shown : (w : Whole) (old mid : Shown) (serial scope : ℕ) (frame : Frame) (thread : Thread) (r : Running) (threads : KeyedTable) (schedule : Schedule) (now : Option Running) → shown_of w ≡ mid → mid ≡ record old { machine = at_next serial frame old.machine }
    → At w serial thread r → threads ≡ left_of w (members_of w serial scope) → schedule ≡ runs_after w (members_of w serial scope) → IfSome now (λ (q : Running). q ≡ r) → is_some now ≡ is_some (thread_of threads.table r.serial)
    → ShownFollows (disabled old.program scope serial frame) old (shown_of (record w { held = record w.held { threads = threads; schedule = schedule; running = now } }))
disable-shown w old mid serial scope frame thread r threads schedule now view goes a table puts same live =
    shown-next (λ machine. runs_on serial (on_state (λ state. threads_ended (disabled_serials state.threads serial (parents_of old.program) scope) state) machine)) old (shown_of w) new serial frame (view ∙ goes) (record {
      machine = record {
        shown = λ machine e.
            let after = ends-all.shown machine e in
            ap (λ (table : Table). with_running (cond (is_some (thread_of table serial)) (Some serial) None) (in_turn_of_machine (on_state (λ state. threads_ended (disabled_serials state.threads serial (parents_of old.program) scope) state) machine)))
            (ap (λ (m : Machine). m.state.threads) after)
            ∙ ap (λ (q : Option ℕ). with_running q (in_turn_of_machine (on_state (λ state. threads_ended (disabled_serials state.threads serial (parents_of old.program) scope) state) machine))) (sym runner)
            ∙ ap (with_running (option_map (λ (q : Running). q.serial) now)) after;
      };
      program = refl;
      order = refl;
      failed = refl;
      steps = refl;
    })
  where
    new : Shown
    new = shown_of (record w { held = record w.held { threads = threads; schedule = schedule; running = now } })

    parents : w.held.scope_parents ≡ parents_of old.program
    parents = a.sound.parents ∙ ap (λ (s : Shown). parents_of s.program) (view ∙ goes)

    runner : option_map (λ (q : Running). q.serial) now ≡ cond (is_some (thread_of threads.table serial)) (Some serial) None
    runner = still-shown now r serial (is_some (thread_of threads.table serial)) a.same same (live ∙ ap (λ (k : ℕ). is_some (thread_of threads.table k)) a.same)

    ends-all : MachineFollows (on_state (λ state. threads_ended (disabled_serials state.threads serial (parents_of old.program) scope) state)) (shown_of w).machine
        (shown_of (record w { held = record w.held { threads = threads; schedule = schedule } })).machine
    ends-all = state-follows (λ state. threads_ended (disabled_serials state.threads serial (parents_of old.program) scope) state) (shown_of w).machine _ (record {
      shown = λ state e.
          ap (λ (t : Table). in_turn_of (threads_ended (disabled_serials t serial (parents_of old.program) scope) state)) (ap (λ (st : State). st.threads) e)
          ∙ ap (λ (ps : List ℕ). in_turn_of (threads_ended (disabled_serials w.held.threads.table serial ps scope) state)) (sym parents)
          ∙ (end-follows (members_of w serial scope) w.held.threads.keys w.held.net.values w.held.threads.table w.held.schedule).shown state e
          ∙ ap (λ (t : KeyedTable). state_of w.held.net t (runs_after w (members_of w serial scope))) (sym table)
          ∙ ap (λ (s : Schedule). state_of w.held.net threads s) (sym puts);
    })

-- ---- forks

pub child-sound : (w : Whole) (old : Shown) (serial scope code key child time : ℕ) (thread : Thread) (r : Running) (made new : Schedule) (threads : KeyedTable) → shown_of w ≡ old → At w serial thread r
    → scope < length old.program.scopes → length w.held.threads.keys ≡ length w.held.threads.table.threads → length old.machine.state.threads.threads < old.machine.steps + length old.program.threads
    → made.dues ≡ w.held.schedule.dues → min w.held.schedule.spare (live_count w.held.threads.table + w.held.outputs) + 1 ≤ made.spare
    → threads ≡ record { table = spawned w.held.threads.table (Some serial) scope code; keys = w.held.threads.keys ++ Some key ∷ [] }
    → ((besides : ℕ) (schedule : Schedule) → HasRuns w.held.threads (besides + 1) schedule → HasRuns threads besides (put_due schedule (run_under schedule.now (length w.held.threads.table.threads) key)))
    → time ≡ made.now → child ≡ length w.held.threads.table.threads → new ≡ put_due made (run_at time Active child key)
    → IsSound (record w.held { threads = threads; schedule = new })
child-sound w old serial scope code key child time thread r made new threads view a within lengths few dues room table runs at is put =
    let whole : IsSound (record w.held { schedule = made }) = sound-made w.held made a.sound dues room in
    let on = runs (evals_lacking w.held.net.nodes made.dues) made (more-made w.held made a.sound dues room) in
    let moved : HasRuns (record { table = spawned w.held.threads.table (Some serial) scope code; keys = w.held.threads.keys ++ Some key ∷ [] }) (evals_lacking w.held.net.nodes made.dues)
    (put_due made (run_under made.now (length w.held.threads.table.threads) key)) =
    subst (λ (t : KeyedTable). HasRuns t (evals_lacking w.held.net.nodes made.dues) (put_due made (run_under made.now (length w.held.threads.table.threads) key))) table on in
    let scopes : scope < length w.held.scope_parents =
    subst (λ (n : ℕ). scope < n) (sym (ap length a.sound.parents ∙ length-map w.held.program.scopes _ ∙ ap (λ (s : Shown). length s.program.scopes) view)) within in
    let few_held : length w.held.threads.table.threads < w.held.steps + length w.held.program.threads = subst (λ (s : Shown). length s.machine.state.threads.threads < s.machine.steps + length s.program.threads) (sym view) few in
    subst (λ (t : KeyedTable). IsSound (record w.held { threads = t; schedule = new })) (sym table)
    (subst (λ (s : Schedule). IsSound (record w.held { threads = record { table = spawned w.held.threads.table (Some serial) scope code; keys = w.held.threads.keys ++ Some key ∷ [] }; schedule = s }))
    (sym (put ∙ ap (λ (t : ℕ). put_due made (run_at t Active child key)) at ∙ ap (λ (k : ℕ). put_due made (run_at made.now Active k key)) is))
    (sound-child (record w.held { schedule = made }) serial scope code key scopes lengths few_held moved whole))

pub child-shown : (w : Whole) (old : Shown) (serial scope code key child time : ℕ) (made new : Schedule) (threads : KeyedTable) → shown_of w ≡ old → made.now ≡ w.held.schedule.now → made.dues ≡ w.held.schedule.dues
    → threads ≡ record { table = spawned w.held.threads.table (Some serial) scope code; keys = w.held.threads.keys ++ Some key ∷ [] } → time ≡ made.now → child ≡ length w.held.threads.table.threads
    → new ≡ put_due made (run_at time Active child key)
    → ShownFollows (child_put code scope serial) old (shown_of (record w { held = record w.held { threads = threads; schedule = new } }))
child-shown w old serial scope code key child time made new threads view now dues table at is put =
    subst (λ (s : Shown). ShownFollows (child_put code scope serial) s (shown_of (record w { held = record w.held { threads = threads; schedule = new } }))) view
    (subst (λ (t : KeyedTable). ShownFollows (child_put code scope serial) (shown_of w) (shown_of (record w { held = record w.held { threads = t; schedule = new } }))) (sym table)
    (subst (λ (s : Schedule). ShownFollows (child_put code scope serial) (shown_of w) (shown_of (record w { held = record w.held { threads = record { table = spawned w.held.threads.table (Some serial) scope code; keys = w.held.threads.keys ++ Some key ∷ [] }; schedule = s } })))
    (sym (put ∙ ap (λ (t : ℕ). put_due made (run_at t Active child key)) at ∙ ap (λ (k : ℕ). put_due made (run_at made.now Active k key)) is))
    (record { machine = child-follows; program = refl; order = refl; failed = refl; steps = refl })))
  where
    base : Machine
    base = on_threads (λ table. spawned table (Some serial) scope code) (shown_of (record w { held = record w.held { schedule = made } })).machine

    child-follows : MachineFollows (child_put code scope serial) (shown_of w).machine
        (shown_of (record w {
          held = record w.held {
            threads = record { table = spawned w.held.threads.table (Some serial) scope code; keys = w.held.threads.keys ++ Some key ∷ [] };
            schedule = put_due made (run_at made.now Active (length w.held.threads.table.threads) key);
          };
        })).machine
    child-follows = record {
      shown = λ machine e.
          let same = e ∙ ap (λ (s : Shown). s.machine) (sym (shown-made w made now dues)) in
          ap (λ (m : Machine). in_turn_of_machine (put_due_in (run_of (now_of m) Active (next_serial m)) (on_threads (λ table. spawned table (Some serial) scope code) machine))) same
          ∙ (put-in-machine (run_at made.now Active (length w.held.threads.table.threads) key) made (on_threads (λ table. spawned table (Some serial) scope code) (shown_of w).machine)).shown
          (on_threads (λ table. spawned table (Some serial) scope code) machine) (ap (on_threads (λ table. spawned table (Some serial) scope code)) same);
    }

pub forked-then : (code scope serial : ℕ) (frame : Frame) (old mid new : Shown) → live_count old.machine.state.threads < 65536 → mid ≡ record old { machine = at_next serial frame old.machine } → ShownFollows (child_put code scope serial) mid new
    → ShownFollows (forked code scope serial frame) old new
forked-then code scope serial frame old mid new few goes k =
    shown-by (forked code scope serial frame) (λ machine. child_put code scope serial (at_next serial frame machine)) old new
    (λ machine e. ap (λ (b : Bool). cond b (child_started code scope serial frame machine) (trapped ThreadsOver serial frame machine))
    (ap (λ (m : Machine). nat_lt (live_count m.state.threads) 65536) e ∙ lt-true (live_count old.machine.state.threads) 65536 few)
    ∙ ap (λ (n : ℕ). put_due_in (run_of (now_of machine) Active n) (on_threads (λ table. spawned table (Some serial) scope code) (at_next serial frame machine)))
    (sym (length-set machine.state.threads.threads serial (option_map (with_frame (record frame { pc = frame.pc + 1 })) (slot_at machine.state.threads.threads serial)))))
    (shown-next (child_put code scope serial) old mid new serial frame goes k)

pub forked-past : (code scope serial : ℕ) (frame : Frame) (old new : Shown) → 65536 ≤ live_count old.machine.state.threads → new ≡ record old { machine = trapped ThreadsOver serial frame old.machine } → ShownFollows (forked code scope serial frame) old new
forked-past code scope serial frame old new past goes =
    shown-by (forked code scope serial frame) (trapped ThreadsOver serial frame) old new
    (λ machine e. ap (λ (b : Bool). cond b (child_started code scope serial frame machine) (trapped ThreadsOver serial frame machine))
    (ap (λ (m : Machine). nat_lt (live_count m.state.threads) 65536) e ∙ lt-false (live_count old.machine.state.threads) 65536 past))
    (trap-shown ThreadsOver serial frame old new goes)

pub forked-tasks : (code scope serial : ℕ) (frame : Frame) (machine : Machine) → (forked code scope serial frame machine).tasks ≡ machine.tasks
forked-tasks code scope serial frame machine =
    cond-tasks (nat_lt (live_count machine.state.threads) 65536) (child_started code scope serial frame machine) (trapped ThreadsOver serial frame machine) machine refl refl

-- a child that is joined is the thread's own, also after it has gone on
pub joined-parent : (w : Whole) (old mid : Shown) (serial child : ℕ) (thread : Thread) → shown_of w ≡ mid → CanGoOn old serial thread → mid ≡ record old { machine = at_next serial thread.frame old.machine }
    → IfSome (thread_of old.machine.state.threads child) (λ (t : Thread). t.parent ≡ Some serial) → IfSome (thread_of w.held.threads.table child) (λ (t : Thread). t.parent ≡ Some serial)
joined-parent w old mid serial child thread view can goes has =
    subst (λ (s : Shown). IfSome (thread_of s.machine.state.threads child) (λ (t : Thread). t.parent ≡ Some serial)) (sym (view ∙ goes))
    (subst (λ (t : Table). IfSome (thread_of t child) (λ (u : Thread). u.parent ≡ Some serial)) (sym (framed-is serial (record thread.frame { pc = thread.frame.pc + 1 }) old.machine.state.threads thread can.runs.live))
    (go old.machine.state.threads.threads serial child can.runs.live has))
  where
    go : (threads : List (Option Thread)) (k j : ℕ) → slot_at threads k ≡ Some thread → IfSome (slot_at threads j) (λ (t : Thread). t.parent ≡ Some serial)
        → IfSome (slot_at (set threads k (Some (with_frame (record thread.frame { pc = thread.frame.pc + 1 }) thread))) j) (λ (t : Thread). t.parent ≡ Some serial)
    go [] k j e h = tt
    go (slot ∷ threads) zero zero e h = subst (λ (s : Option Thread). IfSome s (λ (t : Thread). t.parent ≡ Some serial)) e h
    go (slot ∷ threads) zero (suc j) e h = h
    go (slot ∷ threads) (suc k) zero e h = h
    go (slot ∷ threads) (suc k) (suc j) e h = go threads k j e h

-- what leaves the dues is shown exactly
pub join-exact : (child serial : ℕ) (frame : Frame) (old new : Shown) → new ≡ record old { machine = joined child serial frame old.machine } → ShownFollows (joined child serial frame) old new
join-exact child serial frame old new goes = shown-exactly (joined child serial frame) old new (λ machine. apart machine (is_live child machine)) goes (steps (is_live child old.machine))
  where
    apart : (m : Machine) (b : Bool)
        → in_turn_of_machine (cond b (with_running None (on_threads (λ table. joins_on table serial child) (at_next serial frame m))) (at_next serial frame m))
        ≡ cond b (with_running None (on_threads (λ table. joins_on table serial child) (at_next serial frame (in_turn_of_machine m)))) (at_next serial frame (in_turn_of_machine m))
    apart m true = refl
    apart m false = refl

    steps : (b : Bool) → (cond b (with_running None (on_threads (λ table. joins_on table serial child) (at_next serial frame old.machine))) (at_next serial frame old.machine)).steps ≡ old.machine.steps
    steps true = refl
    steps false = refl

pub next-exact : (serial : ℕ) (frame : Frame) (old new : Shown) → new ≡ record old { machine = at_next serial frame old.machine } → ShownFollows (at_next serial frame) old new
next-exact serial frame old new goes = shown-exactly (at_next serial frame) old new (λ m. refl) goes refl

pub place-exact : (serial place : ℕ) (frame : Frame) (old new : Shown) → new ≡ record old { machine = placed serial frame place old.machine } → ShownFollows (placed serial frame place) old new
place-exact serial place frame old new goes = shown-exactly (placed serial frame place) old new (λ m. refl) goes refl

pub wait-exact : (event serial : ℕ) (frame : Frame) (old new : Shown) → new ≡ record old { machine = waiting event serial frame old.machine } → ShownFollows (waiting event serial frame) old new
wait-exact event serial frame old new goes = shown-exactly (waiting event serial frame) old new (λ m. refl) goes refl

pub func-exact : (program : Program) (op : Op ℕ) (serial : ℕ) (frame : Frame) (old new : Shown) → new ≡ record old { machine = function_called program op serial frame old.machine } → ShownFollows (function_called program op serial frame) old new
func-exact program op serial frame old new goes = shown-exactly (function_called program op serial frame) old new (λ m. refl) goes refl
