-- Marks, threads and an agenda with which a change may be delivered where nothing is pending.
use Rattle.std.proofs.Common.{◌≡◌, ℕ, zero, suc, ◌+◌, ◌≤◌, Bool, false, Some, None, List, [], ◌∷◌, ◌++◌, length, replicate, get_or, if◌then◌else◌, refl, sym, ap, subst, ◌∙◌, arith}
use Rattle.std.specs.List.{All, enumerate_from}
use Rattle.std.proofs.lemmas.List.{length-set, length-replicate}
use Rattle.std.proofs.lemmas.List.Elements.{All-nil}
use Rattle.std.proofs.lemmas.List.Sums.{count_by-le-length}
use Rattle.std.proofs.lemmas.List.FromFn.{length-enumerate_from}
use Rattle.event_pool.specs.declared.agenda.Due.{Due}
use Rattle.event_pool.specs.Schedule.{Schedule}
use Rattle.vvp_threads.specs.declared.thread.ThreadState.TheVariants.{Ready}
use Rattle.vvp_threads.specs.Table.{spawned, waits_on, IsInState}
use Rattle.vvp_threads.specs.Keyed.{KeyedTable, IsKeyOf}
use Rattle.vvp_threads.specs.Runs.{HasKey, HasRuns, lacks_run, runs_of}
use Rattle.sym_link.specs.Roots.{Node}
use Rattle.net_engine.specs.Net.{NetValues}
use Rattle.net_engine.specs.Kept.{NamesItems, evals_lacking, evals_of, lacks_eval, mark_of}
use Rattle.net_engine.specs.Parts.{MayFit}

no-mark : (count item : ℕ) → get_or (replicate count false) item false ≡ false
no-mark zero zero = refl
no-mark zero (suc item) = refl
no-mark (suc count) zero = refl
no-mark (suc count) (suc item) = no-mark count item

unmarked : (marks : List Bool) (count item : ℕ) → marks ≡ replicate count false → mark_of marks item ≡ 0
unmarked marks count item are = ap (λ (b : Bool). if b then 1 else 0) (ap (λ (ms : List Bool). get_or ms item false) are ∙ no-mark count item)

none-pending : (threads : KeyedTable) (besides : ℕ) (s : Schedule) → s.dues ≡ [] → length threads.table.threads + besides ≤ s.spare → HasRuns threads besides s
none-pending threads besides s none room = record {
  runs = record {
    once = λ serial. (let zero_runs : runs_of serial s.dues ≡ 0 = ap (λ (ds : List Due). runs_of serial ds) none in omega (arith, zero_runs));
    drawn = λ serial past. ap (λ (ds : List Due). runs_of serial ds) none;
    resting = λ serial thread at rests. ap (λ (ds : List Due). runs_of serial ds) none;
  };
  keys = subst (All (λ (due : Due). HasKey threads.keys due.act)) (sym none) (All-nil _);
  room = (let few = count_by-le-length (lacks_run s.dues) (enumerate_from 0 threads.table.threads) in let long = length-enumerate_from 0 threads.table.threads in omega (arith, few, long, room));
}

pub may-fit : (nodes : List Node) (values : NetValues) (marks : List Bool) (threads : KeyedTable) (s : Schedule) (count : ℕ) → length nodes ≡ count → marks ≡ replicate count false → s.dues ≡ [] → count + 1 ≤ s.spare
    → length threads.table.threads ≡ 1 → length threads.table.waiting ≡ count → MayFit nodes marks threads s
may-fit nodes values marks threads s count counted are none room one events = record {
  values = values;
  fits = record {
    marks = λ item. ap (λ (ds : List Due). evals_of item ds) none ∙ sym (unmarked marks count item are);
    runs = none-pending threads (evals_lacking nodes s.dues) s none
        (let few = count_by-le-length (lacks_eval s.dues) (enumerate_from 0 nodes) in let long = length-enumerate_from 0 nodes in omega (arith, few, long, counted, room, one));
    names = subst (All (λ (due : Due). NamesItems nodes values due.act)) (sym none) (All-nil _);
    marked = ap length are ∙ length-replicate count false ∙ sym counted;
    events = events ∙ sym counted;
  };
}

-- ---- one thread that waits

-- no thread, and so many events
abbrev pub no_thread : ℕ → KeyedTable
no_thread events = record { table = record { threads = []; waiting = replicate events [] }; keys = [] }

-- one thread, which has just begun
abbrev pub one_thread : ℕ → ℕ → KeyedTable
one_thread events key = record { table = spawned (no_thread events).table None 0 0; keys = Some key ∷ [] }

pub begun : (events key : ℕ) (old new : KeyedTable) → old ≡ no_thread events → new ≡ record { table = spawned old.table None 0 0; keys = old.keys ++ Some key ∷ [] } → new ≡ one_thread events key
begun events key old new empty is = is ∙ ap (λ (t : KeyedTable). (let k : KeyedTable = record { table = spawned t.table None 0 0; keys = t.keys ++ Some key ∷ [] } in k)) empty

pub is-ready : (events key : ℕ) (new : KeyedTable) → new ≡ one_thread events key → IsKeyOf new 0 key × IsInState new.table 0 Ready
is-ready events key new is = subst (λ (t : KeyedTable). IsKeyOf t 0 key × IsInState t.table 0 Ready) (sym is) (refl, refl)

pub now-waits : (events key event : ℕ) (old new : KeyedTable) → old ≡ one_thread events key → new ≡ record old { table = waits_on old.table 0 event } → (length new.table.threads ≡ 1) × (length new.table.waiting ≡ events)
now-waits events key event old new one is =
    let whole : new ≡ record (one_thread events key) { table = waits_on (one_thread events key).table 0 event } = is ∙ ap (λ (t : KeyedTable). (let k : KeyedTable = record t { table = waits_on t.table 0 event } in k)) one in
    subst (λ (t : KeyedTable). (length t.table.threads ≡ 1) × (length t.table.waiting ≡ events)) (sym whole) (refl, length-set (replicate events []) event _ ∙ length-replicate events [])
