-- What an engine is made of, and what it shows.
use Rattle.std.proofs.Common.{◌≡◌, ℕ, ◌+◌, ◌<◌, ◌≤◌, Bool, false, Option, Some, None, option_map, List, length, refl, sym, ap, subst, ◌∙◌, arith}
use Rattle.std.specs.Prelude.{IsSome, slice_index_or}
use Rattle.event_pool.specs.Schedule.{Schedule}
use Rattle.vvp_threads.specs.declared.thread.Frame.{Frame}
use Rattle.vvp_threads.specs.declared.thread.Thread.{Thread}
use Rattle.vvp_threads.specs.declared.thread.ThreadState.TheVariants.{Ready}
use Rattle.vvp_threads.specs.Table.{IsInState, thread_of, with_frame}
use Rattle.vvp_threads.specs.Keyed.{IsKeyOf, KeyedTable}
use Rattle.vvp_threads.specs.Runs.{runs_of}
use Rattle.sym_link.specs.declared.program.Program.{Program}
use Rattle.std.proofs.lemmas.List.{length-map}
use Rattle.sym_link.specs.Roots.{Node, node_of, nodes_of}
use Rattle.net_engine.specs.Net.{NetValues, Request}
use Rattle.net_engine.specs.State.{State}
use Rattle.net_engine.specs.Kept.{Delivers, NetNow, StateFollows, state_of}
use Rattle.sys_tasks.specs.Tasks.{TasksNow}
use Rattle.event_pool.proofs.FollowLemmas.{follows-then}
use Rattle.sim_core.specs.declared.ending.Ending.{Ending}
use Rattle.sim_core.specs.declared.engine.Running.{Running}
use Rattle.sim_core.specs.Machine.{Machine, at_next, framed, on_state, placed}
use Rattle.sim_core.specs.Engine.{Shown, in_turn_of_machine}
use Rattle.sim_core.specs.Kept.{AsksFew, Held, IsSound}
use Rattle.sim_core.specs.Parts.{CanGoOn, Runs, ShownFollows}
use Rattle.sim_core.proofs.StepLemmas.{MachineFollows, at_next-follows, state-follows}
use Rattle.sim_core.proofs.FrameLemmas.{framed-live}
use Rattle.sim_core.proofs.SoundLemmas.{sound-delivers, sound-framed}
use Rattle.sim_core.proofs.WakeLemmas.{Wakes}

-- the parts of an engine
pub record Whole : Type 0 where
  pub held : Held
  pub order : ℕ
  pub tasks : TasksNow
  pub peak : ℕ
  pub ending : Option Ending
  pub failed : Bool

-- what they show
abbrev pub shown_of : Whole → Shown
shown_of w = record {
  program = w.held.program;
  order = w.order;
  machine = record {
    state = state_of w.held.net w.held.threads w.held.schedule;
    running = option_map (λ (running : Running). running.serial) w.held.running;
    tasks = w.tasks;
    steps = w.held.steps;
    peak = w.peak;
    taken = w.held.taken;
    ending = w.ending;
  };
  failed = w.failed;
}

-- these parts
abbrev pub whole : Program → List ℕ → ℕ → ℕ → NetNow → KeyedTable → Schedule → TasksNow → Option Running → ℕ → ℕ → ℕ → Option Ending → Bool → Whole
whole program scope_parents outputs order net threads schedule tasks running steps peak taken ending failed = record {
  held = record {
    program = program;
    scope_parents = scope_parents;
    outputs = outputs;
    net = net;
    threads = threads;
    design = tasks.design;
    schedule = schedule;
    running = running;
    steps = steps;
    taken = taken;
  };
  order = order;
  tasks = tasks;
  peak = peak;
  ending = ending;
  failed = failed;
}

-- ---- the thread that runs

some_number : (x y : ℕ) → Some x ≡ Some y → x ≡ y
some_number x y e = cc

pub some-running : (running : Option Running) (serial : ℕ) → option_map (λ (r : Running). r.serial) running ≡ Some serial → IsSome running
some-running None serial e = absurd (let none : ⊥ = cc in none)
some-running (Some r) serial e = refl

-- there is one
pub runs-some : (w : Whole) (old : Shown) (serial : ℕ) (thread : Thread) → shown_of w ≡ old → Runs old serial thread → IsSome w.held.running
runs-some w old serial thread view runs = some-running w.held.running serial (ap (λ (s : Shown). s.machine.running) view ∙ runs.running)

-- this thread runs, and is kept under its key
pub record At (w : Whole) (serial : ℕ) (thread : Thread) (r : Running) : Type 0 where
  pub sound : IsSound w.held
  pub same : r.serial ≡ serial
  pub key : IsKeyOf w.held.threads serial r.key
  pub live : thread_of w.held.threads.table serial ≡ Some thread
  pub ready : IsInState w.held.threads.table serial Ready
  pub no_run : runs_of serial w.held.schedule.dues ≡ 0

pub runs-at : (w : Whole) (old : Shown) (serial : ℕ) (thread : Thread) (r : Running) → shown_of w ≡ old → (w.failed ≡ false → IsSound w.held) → Runs old serial thread → w.held.running ≡ Some r → At w serial thread r
runs-at w old serial thread r view inv runs is =
    let s = inv (ap (λ (x : Shown). x.failed) view ∙ runs.fine) in
    let o = s.runs r is in
    let same : r.serial ≡ serial = some_number r.serial serial (ap (option_map (λ (q : Running). q.serial)) (sym is) ∙ ap (λ (x : Shown). x.machine.running) view ∙ runs.running) in
    record {
      sound = s;
      same = same;
      key = subst (λ (k : ℕ). IsKeyOf w.held.threads k r.key) same o.key;
      live = ap (λ (x : Shown). thread_of x.machine.state.threads serial) view ∙ runs.live;
      ready = subst (λ (k : ℕ). IsInState w.held.threads.table k Ready) same o.ready;
      no_run = subst (λ (k : ℕ). runs_of k w.held.schedule.dues ≡ 0) same o.no_run;
    }

-- ---- a thread goes on at another place

abbrev at_place : ℕ → Thread → Frame
at_place place thread = record thread.frame { pc = place }

pub placed-sound : (w : Whole) (old : Shown) (serial : ℕ) (thread : Thread) (r : Running) (place : ℕ) (threads : KeyedTable) → shown_of w ≡ old → (w.failed ≡ false → IsSound w.held) → Runs old serial thread → w.held.running ≡ Some r
    → (IsKeyOf w.held.threads serial r.key → thread_of w.held.threads.table serial ≡ Some thread → threads ≡ record w.held.threads { table = framed serial (record thread.frame { pc = place }) w.held.threads.table })
    → w.failed ≡ false → IsSound (record w.held { threads = threads })
placed-sound w old serial thread r place threads view inv runs is goes fine =
    let a = runs-at w old serial thread r view inv runs is in
    subst (λ (t : KeyedTable). IsSound (record w.held { threads = t })) (sym (goes a.key a.live))
    (sound-framed w.held serial (at_place place thread) thread a.live (λ place child e. (place, e)) a.sound)

-- what runs then
pub next-runs : (old mid : Shown) (serial : ℕ) (thread : Thread) → CanGoOn old serial thread → mid ≡ record old { machine = at_next serial thread.frame old.machine }
    → Runs mid serial (with_frame (record thread.frame { pc = thread.frame.pc + 1 }) thread)
next-runs old mid serial thread can goes = record {
  fine = ap (λ (s : Shown). s.failed) goes ∙ can.runs.fine;
  running = ap (λ (s : Shown). s.machine.running) goes ∙ can.runs.running;
  live = ap (λ (s : Shown). thread_of s.machine.state.threads serial) goes ∙ framed-live serial (record thread.frame { pc = thread.frame.pc + 1 }) old.machine.state.threads thread can.runs.live;
}

-- ---- a call of the net

few-same : (values new : NetValues) (steps : ℕ) → new.requests ≡ values.requests → AsksFew values steps → AsksFew new steps
few-same values new steps same few item = subst (λ (rs : List Request). (slice_index_or rs item (record { serial = 0; kept = None })).serial ≤ steps) (sym same) (few item)

pub net-sound : (F : List Node → State → State) (w : Whole) (net : NetNow) (threads : KeyedTable) (schedule : Schedule) → (w.failed ≡ false → IsSound w.held)
    → Delivers (F w.held.net.nodes) w.held.net net w.held.threads threads w.held.schedule schedule → ((state : State) → Wakes state (F w.held.net.nodes state)) → net.values.requests ≡ w.held.net.values.requests
    → w.failed ≡ false → IsSound (record w.held { net = net; threads = threads; schedule = schedule })
net-sound F w net threads schedule inv d wakes same fine =
    let s = inv fine in
    sound-delivers (F w.held.net.nodes) w.held net threads schedule d wakes (few-same w.held.net.values net.values w.held.steps same s.few_requests) s

pub net-shown : (F : List Node → State → State) (w : Whole) (old mid : Shown) (net : NetNow) (threads : KeyedTable) (schedule : Schedule) (serial : ℕ) (thread : Thread) → shown_of w ≡ mid → (w.failed ≡ false → IsSound w.held)
    → CanGoOn old serial thread → mid ≡ record old { machine = at_next serial thread.frame old.machine }
    → StateFollows (F w.held.net.nodes) (state_of w.held.net w.held.threads w.held.schedule) (state_of net threads schedule)
    → ShownFollows (λ machine. on_state (F (nodes_of old.program)) (at_next serial thread.frame machine)) old (shown_of (record w { held = record w.held { net = net; threads = threads; schedule = schedule } }))
net-shown F w old mid net threads schedule serial thread view inv can goes done = record {
  machine = follows-then in_turn_of_machine (at_next serial thread.frame) (on_state (F (nodes_of old.program))) old.machine (shown_of w).machine _
      (subst (λ (m : Machine). MachineFollows (at_next serial thread.frame) old.machine m) (sym (ap (λ (s : Shown). s.machine) e)) (at_next-follows serial thread.frame old.machine))
      (state-follows (F (nodes_of old.program)) (shown_of w).machine (state_of net threads schedule)
      (subst (λ (nodes : List Node). StateFollows (F nodes) (state_of w.held.net w.held.threads w.held.schedule) (state_of net threads schedule)) nodes done));
  program = ap (λ (s : Shown). s.program) e;
  order = ap (λ (s : Shown). s.order) e;
  failed = ap (λ (s : Shown). s.failed) e;
  steps = ap (λ (s : Shown). s.machine.steps) e;
}
  where
    e : shown_of w ≡ record old { machine = at_next serial thread.frame old.machine }
    e = view ∙ goes

    nodes : w.held.net.nodes ≡ nodes_of old.program
    nodes = (inv (ap (λ (s : Shown). s.failed) (view ∙ goes) ∙ can.runs.fine)).nodes ∙ ap (λ (s : Shown). nodes_of s.program) (view ∙ goes)

-- ---- what is known after the thread has gone on

pub next-fine : (w : Whole) (old mid : Shown) (serial : ℕ) (thread : Thread) → shown_of w ≡ mid → CanGoOn old serial thread → mid ≡ record old { machine = at_next serial thread.frame old.machine } → w.failed ≡ false
next-fine w old mid serial thread view can goes = ap (λ (s : Shown). s.failed) (view ∙ goes) ∙ can.runs.fine

-- what is said of the items and the values
pub next-holds : (P : List Node → NetValues → Type 0) (w : Whole) (old mid : Shown) (serial : ℕ) (thread : Thread) → shown_of w ≡ mid → (w.failed ≡ false → IsSound w.held) → CanGoOn old serial thread
    → mid ≡ record old { machine = at_next serial thread.frame old.machine } → P (nodes_of old.program) old.machine.state.values → P w.held.net.nodes w.held.net.values
next-holds P w old mid serial thread view inv can goes holds =
    let s = inv (next-fine w old mid serial thread view can goes) in
    subst (λ (nodes : List Node). P nodes w.held.net.values) (sym s.nodes)
    (subst (λ (x : Shown). P (nodes_of x.program) x.machine.state.values) (sym (view ∙ goes)) holds)

-- the thread that runs, after it has gone on
pub next-at : (w : Whole) (old mid : Shown) (serial : ℕ) (thread : Thread) (r : Running) → shown_of w ≡ mid → (w.failed ≡ false → IsSound w.held) → CanGoOn old serial thread → mid ≡ record old { machine = at_next serial thread.frame old.machine } → w.held.running ≡ Some r
    → At w serial (with_frame (record thread.frame { pc = thread.frame.pc + 1 }) thread) r
next-at w old mid serial thread r view inv can goes is = runs-at w mid serial (with_frame (record thread.frame { pc = thread.frame.pc + 1 }) thread) r view inv (next-runs old mid serial thread can goes) is

-- an event's number is that of an item
pub event-there : (w : Whole) (old mid : Shown) (serial : ℕ) (thread : Thread) (event : ℕ) → shown_of w ≡ mid → (w.failed ≡ false → IsSound w.held) → CanGoOn old serial thread → mid ≡ record old { machine = at_next serial thread.frame old.machine }
    → event < length old.program.items → event < length w.held.net.nodes
event-there w old mid serial thread event view inv can goes within =
    next-holds (λ nodes values. event < length nodes) w old mid serial thread view inv can goes (omega (arith, within, length-map old.program.items node_of))
