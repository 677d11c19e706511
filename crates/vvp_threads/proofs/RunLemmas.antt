-- Runs that are put, and threads that go on: what threads and an agenda are to each other is kept.
use Rattle.std.proofs.Common.{◌≡◌, ◌≢◌, ℕ, zero, suc, ◌+◌, ◌<◌, ◌≤◌, ◌⊎◌, inl, inr, Bool, true, false, cond, not, ◌&&◌, ◌||◌, nat_eq, Option, Some, None, is_some, List, [], ◌∷◌, ◌++◌, length, map, filter, set, slice_get, refl, sym, ap, ◌∙◌, arith}
use Rattle.std.specs.List.{cons_option, count_by, enumerate_from, list_any}
use Rattle.std.specs.Option.{option_map, option_and_then, unwrap_or}
use Rattle.std.proofs.lemmas.Bool.{cases_eq, cases_lt}
use Rattle.std.proofs.lemmas.Bool.Decides.{nat_tests}
use Rattle.std.proofs.lemmas.List.{get_or-set_same, get_or-set_other, length-set}
use Rattle.std.proofs.lemmas.List.Elements.{All-weaker}
use Rattle.std.proofs.lemmas.Option.{slice_get_within}
use Rattle.event_pool.specs.declared.agenda.Due.{Due}
use Rattle.event_pool.specs.declared.agenda.Act.{Act}
use Rattle.event_pool.specs.declared.agenda.Act.TheVariants.{Run, Eval, Update, Mature}
use Rattle.event_pool.specs.declared.agenda.Region.TheVariants.{Active}
use Rattle.event_pool.specs.Schedule.{Schedule, put_due, put_all}
use Rattle.event_pool.proofs.CountLemmas.{one_if, count-cons, count-put, count-same, count-but_one, each-put, places-put}
use Rattle.vvp_threads.specs.declared.thread.Thread.{Thread}
use Rattle.vvp_threads.specs.declared.thread.ThreadState.{ThreadState}
use Rattle.vvp_threads.specs.declared.thread.ThreadState.TheVariants.{Ready, Waiting, Joining}
use Rattle.vvp_threads.specs.Table.{Table, slot_at, thread_of, changed_at, in_state, made_ready, woken, waiters_of, waits_on, emptied, has, is_joining, joining_parent, joiner_of, outside, joiners_of, without}
use Rattle.vvp_threads.specs.Keyed.{KeyedTable, run_of, with_runs}
use Rattle.vvp_threads.specs.Runs.{is_run_of, runs_of, rests, AreRunsOf, HasKey, lacks_run, runs_lacking, HasRuns, RestIn}

-- ---- one due more

-- one Run more is pending of the thread that it is put for
pub runs-put : (serial : ℕ) (s : Schedule) (due : Due) → runs_of serial (put_due s due).dues ≡ runs_of serial s.dues + one_if (is_run_of serial due.act)
runs-put serial s due = count-put (λ d. is_run_of serial d.act) s.dues due

-- another due leaves the threads that lack a Run
pub lacking-runs : (table : Table) (s : Schedule) (due : Due) → ((serial : ℕ) → is_run_of serial due.act ≡ false) → runs_lacking table (put_due s due).dues ≡ runs_lacking table s.dues
lacking-runs table s due none =
    count-same (lacks_run (put_due s due).dues) (lacks_run s.dues) table.threads 0
    (λ serial thread le. ap (λ (n : ℕ). is_some thread && nat_eq n 0) (runs-put serial s due ∙ omega (arith, ap one_if (none serial))))

-- the Run of a thread under a key, Active at now
abbrev pub run_due : Schedule → ℕ → ℕ → Due
run_due s serial key = record { time = s.now; region = Active; act = Run serial key }

-- a Run that is put takes the place that was kept for it
pub lacking-run : (table : Table) (serial key : ℕ) (thread : Thread) (s : Schedule) → slice_get table.threads serial ≡ Some (Some thread) → runs_of serial s.dues ≡ 0
    → runs_lacking table s.dues ≡ runs_lacking table (put_due s (run_due s serial key)).dues + 1
lacking-run table serial key thread s at none =
    count-but_one (lacks_run s.dues) (lacks_run (put_due s (run_due s serial key)).dues) table.threads (Some thread) 0 serial at
    (λ k other differ.
    let apart : nat_eq serial k ≡ false = (let no : k ≢ serial = (λ e. differ (omega (arith, e))) in grind (arith, nat_tests)) in
    let same : runs_of k s.dues ≡ runs_of k (put_due s (run_due s serial key)).dues = omega (arith, runs-put k s (run_due s serial key), ap one_if apart) in
    ap (λ (n : ℕ). is_some other && nat_eq n 0) same)
    (let before : runs_of (0 + serial) s.dues ≡ 0 = ap (λ (i : ℕ). runs_of i s.dues) here ∙ none in ap (λ (n : ℕ). nat_eq n 0) before)
    (let counts : nat_eq serial (0 + serial) ≡ true = grind (arith, nat_tests) in
    let after : runs_of (0 + serial) (put_due s (run_due s serial key)).dues ≡ 1 =
    omega (arith, runs-put (0 + serial) s (run_due s serial key), ap (λ (i : ℕ). runs_of i s.dues) here, none, ap one_if counts) in
    ap (λ (n : ℕ). nat_eq n 0) after)
  where
    here : 0 + serial ≡ serial
    here = omega arith

-- no more Runs are pending, and who rests has none
pub resting-put : (table : Table) (s : Schedule) (due : Due) → AreRunsOf table s.dues → ((serial : ℕ) → is_run_of serial due.act ≡ false) → AreRunsOf table (put_due s due).dues
resting-put table s due runs none = record {
  once = λ serial. omega (arith, runs.once serial, runs-put serial s due, ap one_if (none serial));
  drawn = λ serial past. omega (arith, runs.drawn serial past, runs-put serial s due, ap one_if (none serial));
  resting = λ serial thread live rests. omega (arith, runs.resting serial thread live rests, runs-put serial s due, ap one_if (none serial));
}

-- a thread in another state lacks what it lacked
pub lacking-state : (threads : List (Option Thread)) (dues : List Due) (from place : ℕ) (new : Thread) (old : Thread) → slice_get threads place ≡ Some (Some old)
    → count_by (lacks_run dues) (enumerate_from from (set threads place (Some new))) ≡ count_by (lacks_run dues) (enumerate_from from threads)
lacking-state [] dues from place new old at = cc
lacking-state (t ∷ threads) dues from zero new old at =
    let live : is_some t ≡ true = (let is : t ≡ Some old = cc in ap is_some is) in
    let same : lacks_run dues (from, t) ≡ lacks_run dues (from, Some new) = ap (λ (b : Bool). b && nat_eq (runs_of from dues) 0) live in
    omega (arith, count-cons (lacks_run dues) (from, t) (enumerate_from (from + 1) threads), count-cons (lacks_run dues) (from, Some new) (enumerate_from (from + 1) threads), ap one_if same)
lacking-state (t ∷ threads) dues from (suc place) new old at =
    omega (arith, lacking-state threads dues (from + 1) place new old at, count-cons (lacks_run dues) (from, t) (enumerate_from (from + 1) threads), count-cons (lacks_run dues) (from, t) (enumerate_from (from + 1) (set threads place (Some new))))

-- ---- slots

pub slot-get : (threads : List (Option Thread)) (serial : ℕ) (thread : Thread) → slot_at threads serial ≡ Some thread → slice_get threads serial ≡ Some (Some thread)
slot-get [] serial thread e = cc
slot-get (t ∷ threads) zero thread e = ap (λ (o : Option Thread). Some o) e
slot-get (t ∷ threads) (suc serial) thread e = slot-get threads serial thread e

-- another thread than the one that is changed
slot-other : (threads : List (Option Thread)) (serial other : ℕ) → other ≢ serial → slot_at (changed_at threads serial (in_state Ready)) other ≡ slot_at threads other
slot-other threads serial other differ = get_or-set_other threads serial other (option_map (in_state Ready) (slot_at threads serial)) None differ

changed-is : (threads : List (Option Thread)) (serial : ℕ) (thread : Thread) → slot_at threads serial ≡ Some thread
    → changed_at threads serial (in_state Ready) ≡ set threads serial (Some (in_state Ready thread))
changed-is threads serial thread e = ap (λ (o : Option Thread). set threads serial (option_map (in_state Ready) o)) e

both_false : (a b : Bool) → a || b ≡ false → (a ≡ false) × (b ≡ false)
both_false true b e = cc
both_false false b e = (refl, e)

-- who rests besides still does
rest-others : (threads : List (Option Thread)) (serial : ℕ) (serials : List ℕ) → list_any (nat_eq serial) serials ≡ false → RestIn threads serials → RestIn (changed_at threads serial (in_state Ready)) serials
rest-others threads serial [] none rest = tt
rest-others threads serial (other ∷ serials) none rest =
    let parts = both_false (nat_eq serial other) (list_any (nat_eq serial) serials) none in
    let first = parts.0 in
    let differ : other ≢ serial = grind (arith, nat_tests) in
    ((rest.0.0, slot-other threads serial other differ ∙ rest.0.1, rest.0.2), rest.1, rest-others threads serial serials parts.1 rest.2)

-- ---- going on

-- one thread goes on: it is ready and gets a Run
go-one : (besides : ℕ) (keys : List (Option ℕ)) (waiting : List (List ℕ)) (threads : List (Option Thread)) (s : Schedule) (serial : ℕ) (thread : Thread)
    → slot_at threads serial ≡ Some thread → rests thread.state ≡ true → HasRuns (record { table = record { threads = threads; waiting = waiting }; keys = keys }) besides s
    → (0 < s.spare) × HasRuns (record { table = record { threads = changed_at threads serial (in_state Ready); waiting = waiting }; keys = keys }) besides (put_due s (run_of s.now keys serial))
go-one besides keys waiting threads s serial thread live resting on =
    let at = slot-get threads serial thread live in
    let none = on.runs.resting serial thread live resting in
    let one = lacking-run (record { threads = threads; waiting = waiting }) serial (unwrap_or (slot_at keys serial) 0) thread s at none in
    let lacks : runs_lacking (record { threads = changed_at threads serial (in_state Ready); waiting = waiting }) new.dues ≡ runs_lacking (record { threads = threads; waiting = waiting }) new.dues =
    ap (λ (ts : List (Option Thread)). count_by (lacks_run new.dues) (enumerate_from 0 ts)) (changed-is threads serial thread live)
    ∙ lacking-state threads new.dues 0 serial (in_state Ready thread) thread at in (
      omega (arith, one, on.room),
      record {
        runs = record { once = λ k. once k (cases_eq k serial) none; drawn = λ k past. drawn k past at; resting = λ k t is rests. rests-none k t is rests (cases_eq k serial) at };
        keys = each-put (λ due. HasKey keys due.act) s (run_of s.now keys serial) on.keys (λ key e. ap (λ (o : Option ℕ). unwrap_or o 0) e);
        room = omega (arith, lacks, one, on.room);
      },
    )
  where
    new : Schedule
    new = put_due s (run_of s.now keys serial)

    once : (k : ℕ) → (k ≡ serial) ⊎ (k ≢ serial) → runs_of serial s.dues ≡ 0 → runs_of k (put_due s (run_of s.now keys serial)).dues ≤ 1
    once k (inl same) none =
        let counts : nat_eq serial k ≡ true = grind (arith, nat_tests) in
        omega (arith, runs-put k s (run_of s.now keys serial), ap (λ (i : ℕ). runs_of i s.dues) same, none, ap one_if counts)
    once k (inr differ) none =
        let counts : nat_eq serial k ≡ false = grind (arith, nat_tests) in
        omega (arith, runs-put k s (run_of s.now keys serial), on.runs.once k, ap one_if counts)

    drawn : (k : ℕ) → length (changed_at threads serial (in_state Ready)) ≤ k → slice_get threads serial ≡ Some (Some thread) → runs_of k (put_due s (run_of s.now keys serial)).dues ≡ 0
    drawn k past at =
        let same : length (changed_at threads serial (in_state Ready)) ≡ length threads = length-set threads serial (option_map (in_state Ready) (slot_at threads serial)) in
        let within : serial < length threads = slice_get_within threads serial (Some thread) at in
        let counts : nat_eq serial k ≡ false = (let differ : k ≢ serial = (λ e. omega (arith, e, past, same, within)) in grind (arith, nat_tests)) in
        omega (arith, runs-put k s (run_of s.now keys serial), on.runs.drawn k (omega (arith, past, same)), ap one_if counts)

    rests-none : (k : ℕ) (t : Thread) → slot_at (changed_at threads serial (in_state Ready)) k ≡ Some t → rests t.state ≡ true → (k ≡ serial) ⊎ (k ≢ serial)
        → slice_get threads serial ≡ Some (Some thread) → runs_of k (put_due s (run_of s.now keys serial)).dues ≡ 0
    rests-none k t is resting (inl same) at =
        let here : slot_at (changed_at threads serial (in_state Ready)) serial ≡ Some (in_state Ready thread) =
        ap (λ (ts : List (Option Thread)). slot_at ts serial) (changed-is threads serial thread live)
        ∙ get_or-set_same threads serial (Some (in_state Ready thread)) None (slice_get_within threads serial (Some thread) at) in
        let found : Some t ≡ Some (in_state Ready thread) = sym is ∙ ap (λ (i : ℕ). slot_at (changed_at threads serial (in_state Ready)) i) same ∙ here in
        let ready : t ≡ in_state Ready thread = cc in
        let no : false ≡ true = sym (ap (λ (u : Thread). rests u.state) ready) ∙ resting in
        cc
    rests-none k t is resting (inr differ) at =
        let counts : nat_eq serial k ≡ false = grind (arith, nat_tests) in
        omega (arith, runs-put k s (run_of s.now keys serial), on.runs.resting k t (sym (slot-other threads serial k differ) ∙ is) resting, ap one_if counts)

-- all of them go on
go-all : (besides : ℕ) (keys : List (Option ℕ)) (waiting : List (List ℕ)) (serials : List ℕ) (threads : List (Option Thread)) (s : Schedule)
    → RestIn threads serials → HasRuns (record { table = record { threads = threads; waiting = waiting }; keys = keys }) besides s
    → (length serials ≤ s.spare) × HasRuns (record { table = record { threads = made_ready serials threads; waiting = waiting }; keys = keys }) besides (with_runs s keys serials)
    × ((with_runs s keys serials).spare + length (with_runs s keys serials).dues ≡ s.spare + length s.dues)
go-all besides keys waiting [] threads s rest on = (omega arith, on, refl)
go-all besides keys waiting (serial ∷ serials) threads s rest on =
    let one = go-one besides keys waiting threads s serial rest.0.0 rest.0.1 rest.0.2 on in
    let more = go-all besides keys waiting serials (changed_at threads serial (in_state Ready)) (put_due s (run_of s.now keys serial)) (rest-others threads serial serials rest.1 rest.2) one.1 in
    (omega (arith, one.0, more.0), more.1, more.2 ∙ places-put s (run_of s.now keys serial) one.0)

-- ---- waking

-- what is said of Runs doesn't look at who waits for which event
with-waiting : (besides : ℕ) (keys : List (Option ℕ)) (waiting other : List (List ℕ)) (threads : List (Option Thread)) (s : Schedule)
    → HasRuns (record { table = record { threads = threads; waiting = waiting }; keys = keys }) besides s → HasRuns (record { table = record { threads = threads; waiting = other }; keys = keys }) besides s
with-waiting besides keys waiting other threads s on = record { runs = record { once = on.runs.once; drawn = on.runs.drawn; resting = on.runs.resting }; keys = on.keys; room = on.room }

pub now-put : (dues : List Due) (s : Schedule) → (put_all s dues).now ≡ s.now
now-put [] s = refl
now-put (due ∷ dues) s = now-put dues (put_due s due)

-- Who waits for an event goes on: there is room for the Runs, and what is kept besides stays.
pub woken-runs : (event besides : ℕ) (threads : KeyedTable) (s : Schedule) → RestIn threads.table.threads (waiters_of threads.table event) → HasRuns threads besides s
    → (length (waiters_of threads.table event) ≤ s.spare) × HasRuns (record threads { table = woken threads.table event }) besides (with_runs s threads.keys (waiters_of threads.table event))
    × ((with_runs s threads.keys (waiters_of threads.table event)).spare + length (with_runs s threads.keys (waiters_of threads.table event)).dues ≡ s.spare + length s.dues)
woken-runs event besides threads s rest on =
    go-all besides threads.keys (set threads.table.waiting event []) (waiters_of threads.table event) threads.table.threads s rest
    (with-waiting besides threads.keys threads.table.waiting (set threads.table.waiting event []) threads.table.threads s on)

-- ---- resting

-- a thread without a Run that comes to wait or to join keeps all
pub rest-runs : (besides : ℕ) (keys : List (Option ℕ)) (waiting other : List (List ℕ)) (threads : List (Option Thread)) (s : Schedule) (serial : ℕ) (thread : Thread) (state : ThreadState)
    → slot_at threads serial ≡ Some thread → runs_of serial s.dues ≡ 0 → HasRuns (record { table = record { threads = threads; waiting = waiting }; keys = keys }) besides s
    → HasRuns (record { table = record { threads = changed_at threads serial (in_state state); waiting = other }; keys = keys }) besides s
rest-runs besides keys waiting other threads s serial thread state live none on =
    let at = slot-get threads serial thread live in
    let is : changed_at threads serial (in_state state) ≡ set threads serial (Some (in_state state thread)) = ap (λ (o : Option Thread). set threads serial (option_map (in_state state) o)) live in
    let lacks : runs_lacking (record { threads = changed_at threads serial (in_state state); waiting = other }) s.dues ≡ runs_lacking (record { threads = threads; waiting = waiting }) s.dues =
    ap (λ (ts : List (Option Thread)). count_by (lacks_run s.dues) (enumerate_from 0 ts)) is ∙ lacking-state threads s.dues 0 serial (in_state state thread) thread at in
    record {
      runs = record {
        once = on.runs.once;
        drawn = λ k past. on.runs.drawn k (omega (arith, past, length-set threads serial (option_map (in_state state) (slot_at threads serial))));
        resting = λ k t at rests. resting k t at rests (cases_eq k serial);
      };
      keys = on.keys;
      room = omega (arith, lacks, on.room);
    }
  where
    resting : (k : ℕ) (t : Thread) → slot_at (changed_at threads serial (in_state state)) k ≡ Some t → rests t.state ≡ true → (k ≡ serial) ⊎ (k ≢ serial) → runs_of k s.dues ≡ 0
    resting k t at rests (inl same) = ap (λ (i : ℕ). runs_of i s.dues) same ∙ none
    resting k t at rests (inr differ) = on.runs.resting k t (sym (get_or-set_other threads serial k (option_map (in_state state) (slot_at threads serial)) None differ) ∙ at) rests

pub waits-runs : (event serial besides : ℕ) (threads : KeyedTable) (s : Schedule) (thread : Thread) → thread_of threads.table serial ≡ Some thread → runs_of serial s.dues ≡ 0
    → HasRuns threads besides s → HasRuns (record threads { table = waits_on threads.table serial event }) besides s
waits-runs event serial besides threads s thread live none on =
    rest-runs besides threads.keys threads.table.waiting (set threads.table.waiting event (waiters_of threads.table event ++ serial ∷ [])) threads.table.threads s serial thread (Waiting event) live none on

-- ---- ending

-- a slot that is emptied lacks nothing
pub lacking-gone : (threads : List (Option Thread)) (dues : List Due) (from place : ℕ)
    → count_by (lacks_run dues) (enumerate_from from (set threads place None)) ≤ count_by (lacks_run dues) (enumerate_from from threads)
lacking-gone [] dues from place = omega arith
lacking-gone (t ∷ threads) dues from zero =
    omega (arith, count-cons (lacks_run dues) (from, t) (enumerate_from (from + 1) threads), count-cons (lacks_run dues) (from, None) (enumerate_from (from + 1) threads))
lacking-gone (t ∷ threads) dues from (suc place) =
    omega (arith, lacking-gone threads dues (from + 1) place, count-cons (lacks_run dues) (from, t) (enumerate_from (from + 1) threads), count-cons (lacks_run dues) (from, t) (enumerate_from (from + 1) (set threads place None)))

-- past the end nothing is set
pub set_past : {X : Type 0} (xs : List X) (i : ℕ) (y : X) → length xs ≤ i → set xs i y ≡ xs
set_past [] i y past = refl
set_past (x ∷ xs) zero y past = absurd (omega arith)
set_past (x ∷ xs) (suc i) y past = ap (λ zs. x ∷ zs) (set_past xs i y (omega arith))

-- what is emptied has nothing, and all else has what it had
pub gone-slot : {X : Type 0} (slots : List (Option X)) (serial k : ℕ) (x : X) → slot_at (set slots serial None) k ≡ Some x → slot_at slots k ≡ Some x
gone-slot slots serial k x at = go (cases_eq k serial) (cases_lt serial (length slots)) where
  go : (k ≡ serial) ⊎ (k ≢ serial) → (serial < length slots) ⊎ (length slots ≤ serial) → slot_at slots k ≡ Some x
  go (inl same) (inl within) =
      let none : slot_at (set slots serial None) k ≡ None = ap (λ (i : ℕ). slot_at (set slots serial None) i) same ∙ get_or-set_same slots serial None None within in
      let no : None ≡ Some x = sym none ∙ at in
      cc
  go (inl same) (inr past) = ap (λ xs. slot_at xs k) (sym (set_past slots serial None past)) ∙ at
  go (inr differ) h = sym (get_or-set_other slots serial k None None differ) ∙ at

-- one thread is gone
gone-runs : (besides serial : ℕ) (keys : List (Option ℕ)) (waiting : List (List ℕ)) (threads : List (Option Thread)) (s : Schedule)
    → HasRuns (record { table = record { threads = threads; waiting = waiting }; keys = keys }) besides s
    → HasRuns (record { table = record { threads = set threads serial None; waiting = waiting }; keys = set keys serial None }) besides s
gone-runs besides serial keys waiting threads s on = record {
  runs = record {
    once = on.runs.once;
    drawn = λ k past. on.runs.drawn k (omega (arith, past, length-set threads serial None));
    resting = λ k t at rests. on.runs.resting k t (gone-slot threads serial k t at) rests;
  };
  keys = All-weaker (λ due. HasKey keys due.act) (λ due. HasKey (set keys serial None) due.act) (λ due h. kept due.act h) s.dues on.keys;
  room = omega (arith, lacking-gone threads s.dues 0 serial, on.room);
}
  where
    kept : (act : Act) → HasKey keys act → HasKey (set keys serial None) act
    kept (Run k key) h = λ found at. h found (gone-slot keys serial k found at)
    kept (Eval item) h = h
    kept (Update item word offset value) h = h
    kept (Mature delay number) h = h

gone-all : (besides : ℕ) (serials : List ℕ) (keys : List (Option ℕ)) (waiting : List (List ℕ)) (threads : List (Option Thread)) (s : Schedule)
    → HasRuns (record { table = record { threads = threads; waiting = waiting }; keys = keys }) besides s
    → HasRuns (record { table = record { threads = emptied serials threads; waiting = waiting }; keys = emptied serials keys }) besides s
gone-all besides [] keys waiting threads s on = on
gone-all besides (serial ∷ serials) keys waiting threads s on =
    gone-all besides serials (set keys serial None) waiting (set threads serial None) s (gone-runs besides serial keys waiting threads s on)

-- Threads end, and who joined one of them goes on: there is room for the Runs, and what is kept besides stays.
pub without-runs : (members : List ℕ) (besides : ℕ) (threads : KeyedTable) (s : Schedule) → RestIn threads.table.threads (joiners_of threads.table.threads members) → HasRuns threads besides s
    → (length (joiners_of threads.table.threads members) ≤ s.spare)
    × HasRuns (record { table = without threads.table members; keys = emptied members threads.keys }) besides (with_runs s threads.keys (joiners_of threads.table.threads members))
    × ((with_runs s threads.keys (joiners_of threads.table.threads members)).spare + length (with_runs s threads.keys (joiners_of threads.table.threads members)).dues ≡ s.spare + length s.dues)
without-runs members besides threads s rest on =
    let waiting = map (filter (λ serial. not (has members serial))) threads.table.waiting in
    let joiners = joiners_of threads.table.threads members in
    let all = go-all besides threads.keys waiting joiners threads.table.threads s rest (with-waiting besides threads.keys threads.table.waiting waiting threads.table.threads s on) in
    (all.0, gone-all besides members threads.keys waiting (made_ready joiners threads.table.threads) (with_runs s threads.keys joiners) all.1, all.2)

-- ---- one thread that ends

pub joining-rests : (state : ThreadState) (child : ℕ) → is_joining state child ≡ true → rests state ≡ true
joining-rests Ready child e = cc
joining-rests (Waiting event) child e = cc
joining-rests (Joining other) child e = refl

-- who joins a thread is live and rests
parent-rests : (threads : List (Option Thread)) (serial parent joiner : ℕ) → joining_parent threads serial (Some parent) ≡ Some joiner
    → (thread : Thread) × (slot_at threads joiner ≡ Some thread) × (rests thread.state ≡ true)
parent-rests threads serial parent joiner = by_slot (slot_at threads parent) refl where
  by_test : (thread : Thread) (b : Bool) → slot_at threads parent ≡ Some thread → is_joining thread.state serial ≡ b → cond b (Some parent) None ≡ Some joiner
      → (t : Thread) × (slot_at threads joiner ≡ Some t) × (rests t.state ≡ true)
  by_test thread true at is e = let same : parent ≡ joiner = cc in (thread, ap (λ (k : ℕ). slot_at threads k) (sym same) ∙ at, joining-rests thread.state serial is)
  by_test thread false at is e = let no : None ≡ Some joiner = e in cc

  by_slot : (slot : Option Thread) → slot_at threads parent ≡ slot → option_and_then (λ (thread : Thread). cond (is_joining thread.state serial) (Some parent) None) slot ≡ Some joiner
      → (t : Thread) × (slot_at threads joiner ≡ Some t) × (rests t.state ≡ true)
  by_slot None at e = cc
  by_slot (Some thread) at e = by_test thread (is_joining thread.state serial) at refl e

joiner-rests : (threads : List (Option Thread)) (serial joiner : ℕ) → joiner_of threads serial ≡ Some joiner
    → (thread : Thread) × (slot_at threads joiner ≡ Some thread) × (rests thread.state ≡ true)
joiner-rests threads serial joiner = by_slot (slot_at threads serial) where
  by_parent : (parent : Option ℕ) → joining_parent threads serial parent ≡ Some joiner → (t : Thread) × (slot_at threads joiner ≡ Some t) × (rests t.state ≡ true)
  by_parent None e = cc
  by_parent (Some parent) e = parent-rests threads serial parent joiner e

  by_slot : (slot : Option Thread) → option_and_then (λ (thread : Thread). joining_parent threads serial thread.parent) slot ≡ Some joiner
      → (t : Thread) × (slot_at threads joiner ≡ Some t) × (rests t.state ≡ true)
  by_slot None e = cc
  by_slot (Some thread) e = by_parent thread.parent e

rest-joiner : (threads : List (Option Thread)) (serial : ℕ) → RestIn threads (joiners_of threads (serial ∷ []))
rest-joiner threads serial = by_joiner (joiner_of threads serial) refl where
  by_test : (joiner : ℕ) (b : Bool) → joiner_of threads serial ≡ Some joiner → RestIn threads (cons_option (cond b None (Some joiner)) [])
  by_test joiner true is = tt
  by_test joiner false is = (joiner-rests threads serial joiner is, refl, tt)

  by_joiner : (joiner : Option ℕ) → joiner_of threads serial ≡ joiner → RestIn threads (cons_option (outside (serial ∷ []) joiner) [])
  by_joiner None is = tt
  by_joiner (Some joiner) is = by_test joiner (has (serial ∷ []) joiner) is

-- one thread ends: its parent goes on, where it joins it
pub ended-runs : (serial besides : ℕ) (threads : KeyedTable) (s : Schedule) → HasRuns threads besides s
    → (length (joiners_of threads.table.threads (serial ∷ [])) ≤ s.spare)
    × HasRuns (record { table = without threads.table (serial ∷ []); keys = emptied (serial ∷ []) threads.keys }) besides (with_runs s threads.keys (joiners_of threads.table.threads (serial ∷ [])))
    × ((with_runs s threads.keys (joiners_of threads.table.threads (serial ∷ []))).spare + length (with_runs s threads.keys (joiners_of threads.table.threads (serial ∷ []))).dues ≡ s.spare + length s.dues)
ended-runs serial besides threads s on = without-runs (serial ∷ []) besides threads s (rest-joiner threads.table.threads serial) on
