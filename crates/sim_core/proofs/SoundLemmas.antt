-- What an engine keeps is kept by what its parts do.
use Rattle.std.proofs.Common.{◌≡◌, ℕ, zero, suc, ◌+◌, ◌≤◌, Bool, true, false, Option, Some, None, option_map, List, [], ◌∷◌, map, set, refl, sym, ap, subst, ◌∙◌, arith}
use Rattle.event_pool.specs.declared.agenda.Due.{Due}
use Rattle.event_pool.specs.declared.agenda.Act.{Act}
use Rattle.event_pool.specs.declared.agenda.Act.TheVariants.{Eval, Mature, Run, Update}
use Rattle.event_pool.specs.Order.{in_order}
use Rattle.event_pool.specs.Pending.{unkeyed, unkeyed_act}
use Rattle.event_pool.specs.Schedule.{Schedule}
use Rattle.event_pool.proofs.CountLemmas.{count-cons, count-in_order, one_if}
use Rattle.event_pool.proofs.Keys.{in_order-unkeyed}
use Rattle.event_pool.proofs.PendingLemmas.{in_order-again}
use Rattle.vvp_threads.specs.declared.thread.Frame.{Frame}
use Rattle.vvp_threads.specs.declared.thread.Thread.{Thread}
use Rattle.vvp_threads.specs.Table.{Table, has, slot_at, thread_of, waiters_of, with_frame}
use Rattle.vvp_threads.specs.Keyed.{KeyedTable}
use Rattle.vvp_threads.specs.Runs.{is_run_of, runs_of}
use Rattle.vvp_threads.proofs.StartLemmas.{frame-runs}
use Rattle.net_engine.specs.State.{State}
use Rattle.net_engine.specs.Kept.{Delivers, Fits, NetNow, in_turn_of, state_of}
use Rattle.sim_core.specs.Machine.{framed}
use Rattle.sim_core.specs.Kept.{AsksFew, Held, IsSound, Lasts, Stands}
use Rattle.sim_core.proofs.DescendLemmas.{AreAmong, Descend, descend-children, descend-framed, descend-scopes}
use Rattle.sim_core.proofs.ActLemmas.{SameActs, fits-acts}
use Rattle.sim_core.proofs.FrameLemmas.{framed-is}
use Rattle.sim_core.proofs.WakeLemmas.{Wakes}

-- ---- what stands in any case

stands-sound : (h : Held) → IsSound h → Stands h.program h.net h.threads h.schedule
stands-sound h s = record { linked = s.linked; nodes = s.nodes; events = s.fits.events; in_turn = s.in_turn }

-- an engine that hasn't failed keeps all of it
pub lasts : (failed : Bool) (h : Held) → failed ≡ false → (failed ≡ false → IsSound h) → Lasts failed h
lasts failed h fine sound = record { sound = sound; stands = stands-sound h (sound fine) }

-- one that has failed keeps what stands
pub lasts-failed : (h : Held) → Stands h.program h.net h.threads h.schedule → Lasts true h
lasts-failed h stands = record { sound = λ fine. absurd (let none : ⊥ = cc in none); stands = stands }

-- ---- another frame

some_same : (x y : Thread) → Some x ≡ Some y → x ≡ y
some_same x y e = cc

-- threads have the states that they had
framed-state : (serial other : ℕ) (frame : Frame) (table : Table) (thread : Thread) → thread_of table serial ≡ Some thread
    → option_map (λ (t : Thread). t.state) (thread_of (framed serial frame table) other) ≡ option_map (λ (t : Thread). t.state) (thread_of table other)
framed-state serial other frame table thread live =
    ap (λ (t : Table). option_map (λ (u : Thread). u.state) (thread_of t other)) (framed-is serial frame table thread live) ∙ go table.threads serial other live
  where
    go : (threads : List (Option Thread)) (k j : ℕ) → slot_at threads k ≡ Some thread
        → option_map (λ (t : Thread). t.state) (slot_at (set threads k (Some (with_frame frame thread))) j) ≡ option_map (λ (t : Thread). t.state) (slot_at threads j)
    go [] k j e = refl
    go (slot ∷ threads) zero zero e = ap (option_map (λ (t : Thread). t.state)) (sym e)
    go (slot ∷ threads) zero (suc j) e = refl
    go (slot ∷ threads) (suc k) zero e = refl
    go (slot ∷ threads) (suc k) (suc j) e = go threads k j e

fits-framed : (net : NetNow) (threads : KeyedTable) (s : Schedule) (serial : ℕ) (frame : Frame) → Fits net threads s → Fits net (record threads { table = framed serial frame threads.table }) s
fits-framed net threads s serial frame fits = record {
  marks = fits.marks;
  runs = frame-runs _ serial (with_frame frame) threads.keys threads.table.waiting threads.table.threads s (λ t. refl) fits.runs;
  names = fits.names;
  marked = fits.marked;
  events = fits.events;
}

-- a thread with another frame, whose children it had
pub sound-framed : (h : Held) (serial : ℕ) (frame : Frame) (thread : Thread) → thread_of h.threads.table serial ≡ Some thread → AreAmong frame.children thread.frame.children
    → IsSound h → IsSound (record h { threads = record h.threads { table = framed serial frame h.threads.table } })
sound-framed h serial frame thread live among s = record {
  linked = s.linked;
  nodes = s.nodes;
  parents = s.parents;
  outputs_are = s.outputs_are;
  designed = s.designed;
  fits = fits-framed h.net h.threads h.schedule serial frame s.fits;
  in_turn = s.in_turn;
  runs = λ r is.
      let o = s.runs r is in
      record { key = o.key; ready = framed-state serial r.serial frame h.threads.table thread live ∙ o.ready; no_event = o.no_event; no_run = o.no_run };
  scopes = descend-scopes h.scope_parents h.threads.table.threads (framed serial frame h.threads.table).threads down s.scopes;
  children = descend-children h.threads.table.threads (framed serial frame h.threads.table).threads down s.children;
  few_taken = s.few_taken;
  few_serials = omega (arith, s.few_serials, down.length);
  few_requests = s.few_requests;
}
  where
    down : Descend h.threads.table.threads (framed serial frame h.threads.table).threads
    down = descend-framed h.threads.table.threads serial frame (λ t at. subst (λ (u : Thread). AreAmong frame.children u.frame.children) (some_same thread t (sym live ∙ at)) among)

-- ---- a call of the net

run-unkeyed : (serial : ℕ) (act : Act) → is_run_of serial (unkeyed_act act) ≡ is_run_of serial act
run-unkeyed serial (Run other key) = refl
run-unkeyed serial (Eval item) = refl
run-unkeyed serial (Update item word offset value) = refl
run-unkeyed serial (Mature item number) = refl

-- a due without its key is a Run of the same thread
runs-unkeyed : (serial : ℕ) (dues : List Due) → runs_of serial (map unkeyed dues) ≡ runs_of serial dues
runs-unkeyed serial [] = refl
runs-unkeyed serial (due ∷ dues) =
    let p : Due → Bool = λ d. is_run_of serial d.act in
    omega (arith, count-cons p (unkeyed due) (map unkeyed dues), count-cons p due dues, runs-unkeyed serial dues, ap one_if (run-unkeyed serial due.act))

-- a net, threads and an agenda that were changed as f does, which lets threads go on and no more
pub sound-delivers : (f : State → State) (h : Held) (net : NetNow) (threads : KeyedTable) (schedule : Schedule) → Delivers f h.net net h.threads threads h.schedule schedule
    → ((state : State) → Wakes state (f state)) → AsksFew net.values h.steps → IsSound h → IsSound (record h { net = net; threads = threads; schedule = schedule })
sound-delivers f h net threads schedule d wakes few s = record {
  linked = s.linked;
  nodes = d.keeps.nodes ∙ s.nodes;
  parents = s.parents;
  outputs_are = s.outputs_are;
  designed = s.designed;
  fits = d.fits;
  in_turn = ap in_order (sym dues) ∙ in_order-again after.pending.dues ∙ dues;
  runs = λ r is.
      let o = s.runs r is in
      let stays = wk.still r.serial o.no_event in
      record {
        key = ap (λ (keys : List (Option ℕ)). slot_at keys r.serial) d.keeps.keys ∙ o.key;
        ready = ap (λ (t : Table). option_map (λ (u : Thread). u.state) (thread_of t r.serial)) (sym table) ∙ ap (option_map (λ (u : Thread). u.state)) stays.slot ∙ o.ready;
        no_event = λ event. ap (λ (t : Table). has (waiters_of t event) r.serial) (sym table) ∙ stays.no_event event;
        no_run =
            sym (runs-unkeyed r.serial schedule.dues) ∙ ap (runs_of r.serial) (sym dues) ∙ count-in_order (λ (due : Due). is_run_of r.serial due.act) after.pending.dues
            ∙ stays.runs ∙ runs-unkeyed r.serial h.schedule.dues ∙ o.no_run;
      };
  scopes = descend-scopes h.scope_parents h.threads.table.threads threads.table.threads down s.scopes;
  children = descend-children h.threads.table.threads threads.table.threads down s.children;
  few_taken = s.few_taken;
  few_serials = omega (arith, s.few_serials, down.length);
  few_requests = few;
}
  where
    before : State
    before = state_of h.net h.threads h.schedule

    after : State
    after = f before

    wk : Wakes before after
    wk = wakes before

    exact : in_turn_of after ≡ state_of net threads schedule
    exact = d.state.shown before (ap (λ (ds : List Due). record before { pending = record before.pending { dues = ds } }) s.in_turn)

    table : after.threads ≡ threads.table
    table = ap (λ (st : State). st.threads) exact

    dues : in_order after.pending.dues ≡ map unkeyed schedule.dues
    dues = ap (λ (st : State). st.pending.dues) exact

    down : Descend h.threads.table.threads threads.table.threads
    down = subst (λ (t : Table). Descend h.threads.table.threads t.threads) table wk.down

-- ---- what is pending

-- dues that were put in order are so without their keys
pub ordered-turn : (dues : List Due) → in_order (map unkeyed (in_order dues)) ≡ map unkeyed (in_order dues)
ordered-turn dues = ap in_order (in_order-unkeyed dues) ∙ in_order-again (map unkeyed dues) ∙ sym (in_order-unkeyed dues)

-- an agenda with the same acts, and no less room
pub sound-schedule : (h : Held) (schedule : Schedule) → SameActs h.schedule.dues schedule.dues → h.schedule.spare ≤ schedule.spare → in_order (map unkeyed schedule.dues) ≡ map unkeyed schedule.dues
    → IsSound h → IsSound (record h { schedule = schedule })
sound-schedule h schedule same room turn s = record {
  linked = s.linked;
  nodes = s.nodes;
  parents = s.parents;
  outputs_are = s.outputs_are;
  designed = s.designed;
  fits = fits-acts h.net h.threads h.schedule schedule same room s.fits;
  in_turn = turn;
  runs = λ r is.
      let o = s.runs r is in
      record { key = o.key; ready = o.ready; no_event = o.no_event; no_run = same.counts (is_run_of r.serial) ∙ o.no_run };
  scopes = s.scopes;
  children = s.children;
  few_taken = s.few_taken;
  few_serials = s.few_serials;
  few_requests = s.few_requests;
}

-- ---- counts

pub sound-stepped : (h : Held) → IsSound h → IsSound (record h { steps = h.steps + 1 })
sound-stepped h s = record {
  linked = s.linked;
  nodes = s.nodes;
  parents = s.parents;
  outputs_are = s.outputs_are;
  designed = s.designed;
  fits = s.fits;
  in_turn = s.in_turn;
  runs = s.runs;
  scopes = s.scopes;
  children = s.children;
  few_taken = omega (arith, s.few_taken);
  few_serials = omega (arith, s.few_serials);
  few_requests = λ item. (let few = s.few_requests item in omega (arith, few));
}

-- ---- a thread gives way

-- no thread runs, and threads come from those before
pub sound-rests : (h : Held) (threads : KeyedTable) (schedule : Schedule) → Fits h.net threads schedule → in_order (map unkeyed schedule.dues) ≡ map unkeyed schedule.dues
    → Descend h.threads.table.threads threads.table.threads → IsSound h → IsSound (record h { threads = threads; schedule = schedule; running = None })
sound-rests h threads schedule fits turn down s = record {
  linked = s.linked;
  nodes = s.nodes;
  parents = s.parents;
  outputs_are = s.outputs_are;
  designed = s.designed;
  fits = fits;
  in_turn = turn;
  runs = λ r is. absurd (let none : ⊥ = cc in none);
  scopes = descend-scopes h.scope_parents h.threads.table.threads threads.table.threads down s.scopes;
  children = descend-children h.threads.table.threads threads.table.threads down s.children;
  few_taken = s.few_taken;
  few_serials = omega (arith, s.few_serials, down.length);
  few_requests = s.few_requests;
}
