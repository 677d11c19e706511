-- What threads and an agenda are to each other, call by call.
use Rattle.std.proofs.Common.{◌≡◌, ℕ, ◌+◌, ◌≤◌, Bool, true, false, cond, Option, Some, None, is_some, option_map, List, [], ◌∷◌, ◌++◌, length, refl, sym, ap, subst, ◌∙◌, arith}
use Rattle.std.specs.List.{count_by, enumerate_from}
use Rattle.event_pool.specs.declared.agenda.Due.{Due}
use Rattle.event_pool.specs.Schedule.{Schedule, put_due}
use Rattle.slab.specs.Slab.{Slab}
use Rattle.vvp_threads.specs.declared.places.Place.{Place}
use Rattle.vvp_threads.specs.declared.thread.Frame.{Frame}
use Rattle.vvp_threads.specs.declared.thread.Thread.{Thread}
use Rattle.vvp_threads.specs.declared.thread.ThreadState.TheVariants.{Ready, Joining}
use Rattle.vvp_threads.specs.Frame.{first_frame}
use Rattle.vvp_threads.specs.Table.{slot_at, thread_of, changed_at, in_state, with_frame, waiters_of, spawned, joins_on, joiners_of, live_count}
use Rattle.vvp_threads.specs.Disable.{disabled_serials}
use Rattle.vvp_threads.specs.Keyed.{KeyedTable, IsKeyOf, serial_under, with_frame_under, run_under}
use Rattle.vvp_threads.specs.Kept.{threads_of, kept_as, IsPlaced, IsSound, ParentsBelow}
use Rattle.vvp_threads.specs.Runs.{runs_of, HasRuns, lacks_run, RestIn}
use Rattle.event_pool.proofs.CountLemmas.{count-cons}
use Rattle.vvp_threads.proofs.KeptLemmas.{length-threads, slot_at-keys, length-keys, under_seen}
use Rattle.vvp_threads.proofs.StepLemmas.{under_view, live_view}
use Rattle.vvp_threads.proofs.RunLemmas.{rest-runs}
use Rattle.vvp_threads.proofs.StartLemmas.{frame-runs, child-runs, forked-runs}
use Rattle.vvp_threads.proofs.RestLemmas.{AreNumberedFrom, rest-queue, rest-joiners, distinct-disabled}

-- the same, where threads and agenda are what equations say
pub moved-runs : (new w : KeyedTable) (s t : Schedule) (besides : ℕ) → new ≡ w → s ≡ t → HasRuns w besides t → HasRuns new besides s
moved-runs new w s t besides e f on = subst (λ v. HasRuns v besides s) (sym e) (subst (λ q. HasRuns w besides q) (sym f) on)

-- ---- what the invariant says, in the words of contracts

module _ (slots : List (Option Place)) (slab : Slab Thread) (queues : List (List ℕ)) (spare : ℕ) (v : KeyedTable) (e : kept_as slots slab queues ≡ v)
    (p : IsPlaced slots slab) (s : IsSound (threads_of slots slab) queues spare) where
  pub waiters-rest : (event : ℕ) → RestIn v.table.threads (waiters_of v.table event)
  waiters-rest event = subst (λ w. RestIn w.table.threads (waiters_of w.table event)) e (rest-queue (threads_of slots slab) queues spare s event)

  pub view-numbered : AreNumberedFrom 0 v.table.threads
  view-numbered = subst (λ w. AreNumberedFrom 0 w.table.threads) e at where
    at : (k : ℕ) (thread : Thread) → slot_at (threads_of slots slab) k ≡ Some thread → thread.serial ≡ 0 + k
    at k thread is =
        let u = under_seen slots slab p k thread is in
        let r = p.placed k u.0 u.1 in
        let same : Some thread ≡ Some r.1 = sym u.2 ∙ r.2 in
        let one : thread ≡ r.1 = cc in
        omega (arith, ap (λ t. t.serial) one, r.3)

  pub view-below : ParentsBelow v.table.threads
  view-below = subst (λ w. ParentsBelow w.table.threads) e s.below

  pub joiners-rest : (running : ℕ) (scope_parents : List ℕ) (scope : ℕ) → RestIn v.table.threads (joiners_of v.table.threads (disabled_serials v.table running scope_parents scope))
  joiners-rest running scope_parents scope =
      rest-joiners v.table.threads (disabled_serials v.table running scope_parents scope) (distinct-disabled v.table running scope_parents scope view-numbered)

  pub as-many-keys : length v.keys ≡ length v.table.threads
  as-many-keys = subst (λ w. length w.keys ≡ length w.table.threads) e (length-keys slots ∙ sym (length-threads slots slab))

  -- a serial has a key where its thread is live
  pub view-keyed : (serial : ℕ) → is_some (slot_at v.keys serial) ≡ is_some (slot_at v.table.threads serial)
  view-keyed serial = ap (λ w. is_some (slot_at w.keys serial)) (sym e) ∙ ap is_some (slot_at-keys slots serial) ∙ each (slot_at slots serial) ∙ sym (live_view slots slab queues v e p serial) where
    each : (slot : Option Place) → is_some (option_map (λ place. place.key) slot) ≡ is_some slot
    each None = refl
    each (Some place) = refl

  -- the live thread with a serial that has a key
  pub view-live : (serial key : ℕ) → IsKeyOf v serial key → (thread : Thread) × (thread_of v.table serial ≡ Some thread)
  view-live serial key k = let u = under_view slots slab queues v e p serial key k in (u.thread, ap (λ w. thread_of w.table serial) (sym e) ∙ u.seen)

-- ---- the calls

-- no threads
pub start-runs : (waiting : List (List ℕ)) (besides : ℕ) (s : Schedule) → s.dues ≡ [] → besides ≤ s.spare
    → HasRuns (record { table = record { threads = []; waiting = waiting }; keys = [] }) besides s
start-runs waiting besides s none room = from s.dues (sym none) where
  at_none : HasRuns (record { table = record { threads = []; waiting = waiting }; keys = [] }) besides (record s { dues = [] })
  at_none = record {
    runs = record { once = λ serial. omega arith; drawn = λ serial past. refl; resting = λ serial thread live rests. refl };
    keys = λ k d within. absurd (omega arith);
    room = omega arith;
  }

  from : (dues : List Due) → [] ≡ dues → HasRuns (record { table = record { threads = []; waiting = waiting }; keys = [] }) besides (record s { dues = dues })
  from dues is = subst (λ ds. HasRuns (record { table = record { threads = []; waiting = waiting }; keys = [] }) besides (record s { dues = ds })) is at_none

-- a thread starts, with a parent or with none
pub spawned-runs : (parent : Option ℕ) (besides scope pc key : ℕ) (threads : KeyedTable) (s : Schedule) → length threads.keys ≡ length threads.table.threads → HasRuns threads (besides + 1) s
    → HasRuns (record { table = spawned threads.table parent scope pc; keys = threads.keys ++ Some key ∷ [] }) besides (put_due s (run_under s.now (length threads.table.threads) key))
spawned-runs None besides scope pc key threads s lengths on =
    let serial = length threads.table.threads in
    let child : Thread = record { serial = serial; parent = None; scope = scope; frame = first_frame pc; state = Ready } in
    child-runs besides key child threads.keys threads.table.waiting threads.table.threads s refl lengths on
spawned-runs (Some parent) besides scope pc key threads s lengths on = forked-runs besides parent scope pc key threads s lengths on

-- a thread without a Run joins
pub joins-runs : (serial child besides : ℕ) (threads : KeyedTable) (s : Schedule) (thread : Thread) → thread_of threads.table serial ≡ Some thread → runs_of serial s.dues ≡ 0
    → HasRuns threads besides s → HasRuns (record threads { table = joins_on threads.table serial child }) besides s
joins-runs serial child besides threads s thread live none on = go (is_some (thread_of threads.table child)) where
  go : (b : Bool) → HasRuns (record threads { table = cond b (record threads.table { threads = changed_at threads.table.threads serial (in_state (Joining child)) }) threads.table }) besides s
  go true = rest-runs besides threads.keys threads.table.waiting threads.table.waiting threads.table.threads s serial thread (Joining child) live none on
  go false = on

-- a frame is written
pub framed-runs : (key : ℕ) (threads : KeyedTable) (frame : Frame) (besides : ℕ) (s : Schedule) → HasRuns threads besides s → HasRuns (with_frame_under threads key frame) besides s
framed-runs key threads frame besides s on =
    frame-runs besides (serial_under threads key) (with_frame frame) threads.keys threads.table.waiting threads.table.threads s (λ t. refl) on

-- ---- an agenda without dues

idle-lacking : (first : ℕ) (threads : List (Option Thread)) → count_by (lacks_run []) (enumerate_from first threads) ≡ count_by is_some threads
idle-lacking first [] = refl
idle-lacking first (None ∷ threads) =
    omega (arith, count-cons (lacks_run []) (first, None) (enumerate_from (first + 1) threads), count-cons is_some None threads, idle-lacking (first + 1) threads)
idle-lacking first (Some thread ∷ threads) =
    omega (arith, count-cons (lacks_run []) (first, Some thread) (enumerate_from (first + 1) threads), count-cons is_some (Some thread) threads, idle-lacking (first + 1) threads)

-- no Run is pending, and there is room for one of each live thread
pub idle-runs : (threads : KeyedTable) (s : Schedule) → s.dues ≡ [] → live_count threads.table ≤ s.spare → HasRuns threads 0 s
idle-runs threads s none room = from s.dues (sym none) where
  at_none : HasRuns threads 0 (record s { dues = [] })
  at_none = record {
    runs = record { once = λ serial. omega arith; drawn = λ serial past. refl; resting = λ serial thread live rests. refl };
    keys = λ k d within. absurd (omega arith);
    room = omega (arith, idle-lacking 0 threads.table.threads, room);
  }

  from : (dues : List Due) → [] ≡ dues → HasRuns threads 0 (record s { dues = dues })
  from dues is = subst (λ ds. HasRuns threads 0 (record s { dues = ds })) is at_none
