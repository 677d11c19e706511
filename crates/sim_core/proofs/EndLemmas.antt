-- What an engine keeps where threads wait, join and end.
use Rattle.std.proofs.Common.{◌≡◌, ◌≢◌, ℕ, zero, suc, Bool, true, false, cond, not, nat_eq, Option, Some, None, is_some, option_map, List, [], ◌∷◌, ◌++◌, length, map, filter, refl, sym, ap, subst, ◌∙◌, arith}
use Rattle.std.specs.List.{All, cons_option, filter_map}
use Rattle.std.specs.Option.{ForSome, option_and_then}
use Rattle.std.specs.Prelude.{slice_index_or}
use Rattle.std.proofs.lemmas.Bool.Decides.{nat_tests}
use Rattle.std.proofs.lemmas.List.{length-map, length-set}
use Rattle.event_pool.specs.declared.agenda.Due.{Due}
use Rattle.event_pool.specs.Order.{in_order}
use Rattle.event_pool.specs.Pending.{unkeyed}
use Rattle.event_pool.specs.Schedule.{Schedule, put_all, put_due}
use Rattle.event_pool.proofs.CountLemmas.{each-put, one_if}
use Rattle.vvp_threads.specs.declared.thread.Thread.{Thread}
use Rattle.vvp_threads.specs.declared.thread.ThreadState.{ThreadState}
use Rattle.vvp_threads.specs.declared.thread.ThreadState.TheVariants.{Joining, Ready, Waiting}
use Rattle.vvp_threads.specs.Table.{Table, changed_at, emptied, has, in_state, is_joining, joiner_of, joiners_of, joining_parent, made_ready, outside, slot_at, thread_of, waiters_of, waits_on, joins_on, without}
use Rattle.vvp_threads.specs.Keyed.{KeyedTable, run_of, with_runs}
use Rattle.vvp_threads.specs.Runs.{HasRuns, runs_of}
use Rattle.vvp_threads.proofs.RunLemmas.{runs-put}
use Rattle.vvp_threads.proofs.SlotLemmas.{slot_at-emptied}
use Rattle.sym_link.specs.Roots.{Node}
use Rattle.net_engine.specs.Net.{NetValues}
use Rattle.net_engine.specs.Kept.{AreMarked, Fits, NamesItems, NetNow, evals_lacking}
use Rattle.net_engine.proofs.KeptLemmas.{lacking-evals, marked-other}
use Rattle.sim_core.specs.declared.engine.Running.{Running}
use Rattle.sim_core.specs.Kept.{Held, IsRunning, IsSound}
use Rattle.sim_core.proofs.DescendLemmas.{Descend, descend-emptied, descend-none, descend-ready, descend-state, descend-then}
use Rattle.sim_core.proofs.SoundLemmas.{ordered-turn, sound-rests}
use Rattle.sim_core.proofs.WakeLemmas.{has-parts, ready-slot}
use Rattle.sim_core.proofs.PutLemmas.{in-state}

-- ---- a thread gives way

fits-runs : (net : NetNow) (threads new : KeyedTable) (s : Schedule) → HasRuns new (evals_lacking net.nodes s.dues) s → length new.table.waiting ≡ length threads.table.waiting → Fits net threads s → Fits net new s
fits-runs net threads new s on same fits = record { marks = fits.marks; runs = on; names = fits.names; marked = fits.marked; events = same ∙ fits.events }

-- the thread that ran waits for an event
pub sound-waits : (h : Held) (serial event : ℕ) → HasRuns (record h.threads { table = waits_on h.threads.table serial event }) (evals_lacking h.net.nodes h.schedule.dues) h.schedule
    → IsSound h → IsSound (record h { threads = record h.threads { table = waits_on h.threads.table serial event }; running = None })
sound-waits h serial event on s =
    sound-rests h (record h.threads { table = waits_on h.threads.table serial event }) h.schedule
    (fits-runs h.net h.threads (record h.threads { table = waits_on h.threads.table serial event }) h.schedule on (length-set h.threads.table.waiting event (waiters_of h.threads.table event ++ serial ∷ [])) s.fits)
    s.in_turn (descend-state h.threads.table.threads serial (Waiting event)) s

joins-descend : (table : Table) (serial child : ℕ) → Descend table.threads (joins_on table serial child).threads
joins-descend table serial child = go (is_some (thread_of table child)) where
  go : (b : Bool) → Descend table.threads (cond b (record table { threads = changed_at table.threads serial (in_state (Joining child)) }) table).threads
  go true = descend-state table.threads serial (Joining child)
  go false = descend-none table.threads

joins-waiting : (table : Table) (serial child : ℕ) → length (joins_on table serial child).waiting ≡ length table.waiting
joins-waiting table serial child = go (is_some (thread_of table child)) where
  go : (b : Bool) → length (cond b (record table { threads = changed_at table.threads serial (in_state (Joining child)) }) table).waiting ≡ length table.waiting
  go true = refl
  go false = refl

-- the thread that ran joins a child
pub sound-joins : (h : Held) (serial child : ℕ) → HasRuns (record h.threads { table = joins_on h.threads.table serial child }) (evals_lacking h.net.nodes h.schedule.dues) h.schedule
    → IsSound h → IsSound (record h { threads = record h.threads { table = joins_on h.threads.table serial child }; running = None })
sound-joins h serial child on s =
    sound-rests h (record h.threads { table = joins_on h.threads.table serial child }) h.schedule
    (fits-runs h.net h.threads (record h.threads { table = joins_on h.threads.table serial child }) h.schedule on (joins-waiting h.threads.table serial child) s.fits)
    s.in_turn (joins-descend h.threads.table serial child) s

-- ---- Runs that are put, one after another

marked-runs : (marks : List Bool) (now : ℕ) (keys : List (Option ℕ)) (serials : List ℕ) (s : Schedule) → AreMarked marks s.dues → AreMarked marks (put_all s (map (run_of now keys) serials)).dues
marked-runs marks now keys [] s marked = marked
marked-runs marks now keys (serial ∷ serials) s marked =
    marked-runs marks now keys serials (put_due s (run_of now keys serial)) (marked-other marks s (run_of now keys serial) marked (λ item. refl))

lacking-all : (nodes : List Node) (now : ℕ) (keys : List (Option ℕ)) (serials : List ℕ) (s : Schedule) → evals_lacking nodes (put_all s (map (run_of now keys) serials)).dues ≡ evals_lacking nodes s.dues
lacking-all nodes now keys [] s = refl
lacking-all nodes now keys (serial ∷ serials) s =
    lacking-all nodes now keys serials (put_due s (run_of now keys serial)) ∙ lacking-evals nodes s (run_of now keys serial) (λ item. refl)

named-runs : (nodes : List Node) (values : NetValues) (now : ℕ) (keys : List (Option ℕ)) (serials : List ℕ) (s : Schedule)
    → All (λ (due : Due). NamesItems nodes values due.act) s.dues → All (λ (due : Due). NamesItems nodes values due.act) (put_all s (map (run_of now keys) serials)).dues
named-runs nodes values now keys [] s named = named
named-runs nodes values now keys (serial ∷ serials) s named =
    named-runs nodes values now keys serials (put_due s (run_of now keys serial)) (each-put (λ (due : Due). NamesItems nodes values due.act) s (run_of now keys serial) named tt)

turn-runs : (now : ℕ) (keys : List (Option ℕ)) (serials : List ℕ) (s : Schedule) → in_order (map unkeyed s.dues) ≡ map unkeyed s.dues
    → in_order (map unkeyed (put_all s (map (run_of now keys) serials)).dues) ≡ map unkeyed (put_all s (map (run_of now keys) serials)).dues
turn-runs now keys [] s turn = turn
turn-runs now keys (serial ∷ serials) s turn = turn-runs now keys serials (put_due s (run_of now keys serial)) (ordered-turn (s.dues ++ run_of now keys serial ∷ []))

-- a thread that isn't among these has no Run more
others-runs : (serial now : ℕ) (keys : List (Option ℕ)) (serials : List ℕ) (s : Schedule) → has serials serial ≡ false → runs_of serial (put_all s (map (run_of now keys) serials)).dues ≡ runs_of serial s.dues
others-runs serial now keys [] s out = refl
others-runs serial now keys (other ∷ serials) s out =
    let parts = has-parts other serials serial out in
    let none : one_if (nat_eq other serial) ≡ 0 = ap one_if parts.0 in
    let one = runs-put serial s (run_of now keys other) in
    let rest = others-runs serial now keys serials (put_due s (run_of now keys other)) parts.1 in
    omega (arith, one, rest, none)

-- ---- threads that end

-- a net fits the threads that are left and the agenda that has the Runs of those that go on
pub fits-without : (net : NetNow) (threads : KeyedTable) (s : Schedule) (members : List ℕ)
    → HasRuns (record { table = without threads.table members; keys = emptied members threads.keys }) (evals_lacking net.nodes s.dues) (with_runs s threads.keys (joiners_of threads.table.threads members))
    → Fits net threads s → Fits net (record { table = without threads.table members; keys = emptied members threads.keys }) (with_runs s threads.keys (joiners_of threads.table.threads members))
fits-without net threads s members on fits =
    let joiners = joiners_of threads.table.threads members in
    record {
      marks = marked-runs net.marks s.now threads.keys joiners s fits.marks;
      runs = record { runs = on.runs; keys = on.keys; room = (let room = on.room in omega (arith, lacking-all net.nodes s.now threads.keys joiners s, room)) };
      names = named-runs net.nodes net.values s.now threads.keys joiners s fits.names;
      marked = fits.marked;
      events = length-map threads.table.waiting (filter (λ serial. not (has members serial))) ∙ fits.events;
    }

without-descend : (table : Table) (members : List ℕ) → Descend table.threads (without table members).threads
without-descend table members =
    let joiners = joiners_of table.threads members in
    descend-then table.threads (made_ready joiners table.threads) (emptied members (made_ready joiners table.threads)) (descend-ready joiners table.threads) (descend-emptied members (made_ready joiners table.threads))

-- threads have ended, the one that ran among them
pub sound-ended : (h : Held) (members : List ℕ)
    → HasRuns (record { table = without h.threads.table members; keys = emptied members h.threads.keys }) (evals_lacking h.net.nodes h.schedule.dues) (with_runs h.schedule h.threads.keys (joiners_of h.threads.table.threads members))
    → IsSound h → IsSound (record h {
      threads = record { table = without h.threads.table members; keys = emptied members h.threads.keys };
      schedule = with_runs h.schedule h.threads.keys (joiners_of h.threads.table.threads members);
      running = None;
    })
sound-ended h members on s =
    sound-rests h (record { table = without h.threads.table members; keys = emptied members h.threads.keys }) (with_runs h.schedule h.threads.keys (joiners_of h.threads.table.threads members))
    (fits-without h.net h.threads h.schedule members on s.fits) (turn-runs h.schedule.now h.threads.keys (joiners_of h.threads.table.threads members) h.schedule s.in_turn)
    (without-descend h.threads.table members) s

-- ---- a thread that runs on

-- a ready thread joins nobody
joins-none : (threads : List (Option Thread)) (serial member : ℕ) (thread : Thread) (parent : Option ℕ) → slot_at threads serial ≡ Some thread → thread.state ≡ Ready → joining_parent threads member parent ≡ Some serial → ⊥
joins-none threads serial member thread None live ready e = cc
joins-none threads serial member thread (Some parent) live ready e = by_slot (slot_at threads parent) refl e
  where
    by_test : (t : Thread) (b : Bool) → slot_at threads parent ≡ Some t → is_joining t.state member ≡ b → cond b (Some parent) None ≡ Some serial → ⊥
    by_test t true at is found =
        let here : parent ≡ serial = cc in
        let same : Some t ≡ Some thread = sym at ∙ ap (λ (k : ℕ). slot_at threads k) here ∙ live in
        let one : t ≡ thread = cc in
        let no : is_joining t.state member ≡ false = ap (λ (u : Thread). is_joining u.state member) one ∙ ap (λ (state : ThreadState). is_joining state member) ready in
        cc
    by_test t false at is found = cc

    by_slot : (slot : Option Thread) → slot_at threads parent ≡ slot → option_and_then (λ (t : Thread). cond (is_joining t.state member) (Some parent) None) slot ≡ Some serial → ⊥
    by_slot None at found = cc
    by_slot (Some t) at found = by_test t (is_joining t.state member) at refl found

not-joiner : (threads : List (Option Thread)) (serial member : ℕ) (thread : Thread) → slot_at threads serial ≡ Some thread → thread.state ≡ Ready → joiner_of threads member ≡ Some serial → ⊥
not-joiner threads serial member thread live ready e = by_slot (slot_at threads member) refl e
  where
    by_slot : (slot : Option Thread) → slot_at threads member ≡ slot → option_and_then (λ (t : Thread). joining_parent threads member t.parent) slot ≡ Some serial → ⊥
    by_slot None at found = cc
    by_slot (Some t) at found = joins-none threads serial member thread t.parent live ready found

-- so it isn't among those that go on
pub no-joiner : (threads : List (Option Thread)) (all members : List ℕ) (serial : ℕ) (thread : Thread) → slot_at threads serial ≡ Some thread → thread.state ≡ Ready
    → has (filter_map (λ member. outside all (joiner_of threads member)) members) serial ≡ false
no-joiner threads all [] serial thread live ready = refl
no-joiner threads all (member ∷ members) serial thread live ready = by_joiner (joiner_of threads member) refl (no-joiner threads all members serial thread live ready)
  where
    by_test : (joiner : ℕ) (b : Bool) → joiner_of threads member ≡ Some joiner → has (filter_map (λ m. outside all (joiner_of threads m)) members) serial ≡ false
        → has (cons_option (cond b None (Some joiner)) (filter_map (λ m. outside all (joiner_of threads m)) members)) serial ≡ false
    by_test joiner true is rest = rest
    by_test joiner false is rest =
        let differ : serial ≢ joiner = (λ e. not-joiner threads serial member thread live ready (is ∙ ap (λ (k : ℕ). Some k) (sym e))) in
        let apart : nat_eq joiner serial ≡ false = grind (arith, nat_tests) in
        rw apart rest

    by_joiner : (joiner : Option ℕ) → joiner_of threads member ≡ joiner → has (filter_map (λ m. outside all (joiner_of threads m)) members) serial ≡ false
        → has (cons_option (outside all joiner) (filter_map (λ m. outside all (joiner_of threads m)) members)) serial ≡ false
    by_joiner None is rest = rest
    by_joiner (Some joiner) is rest = by_test joiner (has all joiner) is rest

-- who waits for no event is in no list of those that are left
filter-out : (p : ℕ → Bool) (serials : List ℕ) (serial : ℕ) → has serials serial ≡ false → has (filter p serials) serial ≡ false
filter-out p [] serial out = refl
filter-out p (s ∷ serials) serial out =
    let parts = has-parts s serials serial out in
    go (p s) parts.0 (filter-out p serials serial parts.1)
  where
    go : (b : Bool) → nat_eq s serial ≡ false → has (filter p serials) serial ≡ false → has (cond b (s ∷ filter p serials) (filter p serials)) serial ≡ false
    go true apart rest = rw apart rest
    go false apart rest = rest

left-out : (p : ℕ → Bool) (waiting : List (List ℕ)) (event serial : ℕ) → has (slice_index_or waiting event []) serial ≡ false → has (slice_index_or (map (filter p) waiting) event []) serial ≡ false
left-out p [] event serial out = refl
left-out p (list ∷ waiting) zero serial out = filter-out p list serial out
left-out p (list ∷ waiting) (suc event) serial out = left-out p waiting event serial out

not-member : (b : Bool) (slot : Option ℕ) → is_some (cond b None slot) ≡ true → b ≡ false
not-member true slot some = absurd (let none : ⊥ = cc in none)
not-member false slot some = refl

-- threads have ended, and the one that ran goes on where it is not among them
pub sound-disabled : (h : Held) (members : List ℕ) (r : Running) (now : Option Running) → h.running ≡ Some r
    → ForSome now (λ (q : Running). (q ≡ r) × (is_some (slot_at (emptied members h.threads.keys) r.serial) ≡ true))
    → HasRuns (record { table = without h.threads.table members; keys = emptied members h.threads.keys }) (evals_lacking h.net.nodes h.schedule.dues) (with_runs h.schedule h.threads.keys (joiners_of h.threads.table.threads members))
    → IsSound h → IsSound (record h {
      threads = record { table = without h.threads.table members; keys = emptied members h.threads.keys };
      schedule = with_runs h.schedule h.threads.keys (joiners_of h.threads.table.threads members);
      running = now;
    })
sound-disabled h members r now ran on_now on s =
    let rest = sound-ended h members on s in
    record {
      linked = s.linked;
      nodes = s.nodes;
      parents = s.parents;
      outputs_are = s.outputs_are;
      designed = s.designed;
      fits = rest.fits;
      in_turn = rest.in_turn;
      runs = λ q is. (let k = on_now q is in subst (λ (x : Running). IsRunning threads schedule x) (sym k.0) (goes k.1));
      scopes = rest.scopes;
      children = rest.children;
      few_taken = s.few_taken;
      few_serials = rest.few_serials;
      few_requests = s.few_requests;
    }
  where
    joiners : List ℕ
    joiners = joiners_of h.threads.table.threads members

    threads : KeyedTable
    threads = record { table = without h.threads.table members; keys = emptied members h.threads.keys }

    schedule : Schedule
    schedule = with_runs h.schedule h.threads.keys (joiners_of h.threads.table.threads members)

    goes : is_some (slot_at (emptied members h.threads.keys) r.serial) ≡ true
        → IsRunning (record { table = without h.threads.table members; keys = emptied members h.threads.keys }) (with_runs h.schedule h.threads.keys (joiners_of h.threads.table.threads members)) r
    goes kept =
        let o = s.runs r ran in
        let at = in-state (thread_of h.threads.table r.serial) Ready o.ready in
        let out : has members r.serial ≡ false = not-member (has members r.serial) (slot_at h.threads.keys r.serial) (ap is_some (sym (slot_at-emptied members h.threads.keys r.serial)) ∙ kept) in
        let rests : has (joiners_of h.threads.table.threads members) r.serial ≡ false = no-joiner h.threads.table.threads members members r.serial at.0 at.1 at.2 in
        record {
          key = slot_at-emptied members h.threads.keys r.serial ∙ ap (λ (b : Bool). cond b None (slot_at h.threads.keys r.serial)) out ∙ o.key;
          ready =
              ap (option_map (λ (t : Thread). t.state))
              (slot_at-emptied members (made_ready (joiners_of h.threads.table.threads members) h.threads.table.threads) r.serial
              ∙ ap (λ (b : Bool). cond b None (slot_at (made_ready (joiners_of h.threads.table.threads members) h.threads.table.threads) r.serial)) out
              ∙ ready-slot (joiners_of h.threads.table.threads members) h.threads.table.threads r.serial rests)
              ∙ o.ready;
          no_event = λ event. left-out (λ serial. not (has members serial)) h.threads.table.waiting event r.serial (o.no_event event);
          no_run = others-runs r.serial h.schedule.now h.threads.keys (joiners_of h.threads.table.threads members) h.schedule rests ∙ o.no_run;
        }
