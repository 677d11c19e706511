-- The threads of the start, started one by one; and that an engine which starts keeps what engines keep.
use Rattle.std.proofs.Common.{◌≡◌, ◌⊎◌, inl, inr, ℕ, zero, suc, ◌+◌, ◌<◌, ◌≤◌, Bool, true, false, ◌&&◌, cond, nat_eq, Option, Some, None, is_some, List, [], ◌∷◌, ◌++◌, length, map, drop, get_or, slice_get, replicate, refl, sym, ap, subst, ◌∙◌, arith, append_assoc}
use Rattle.std.specs.List.{All, count_by, enumerate_from, fold}
use Rattle.std.specs.Option.{IfSome}
use Rattle.std.proofs.lemmas.List.{append-nil, length-append, length-drop, length-map, map-append}
use Rattle.std.proofs.lemmas.List.Sums.{sum_by-append}
use Rattle.std.proofs.lemmas.List.Elements.{All-append, All-from_recursion, All-head, All-tail, recursion_from_All}
use Rattle.event_pool.specs.declared.agenda.Due.{Due}
use Rattle.event_pool.specs.declared.agenda.Act.{Act}
use Rattle.event_pool.specs.declared.agenda.Act.TheVariants.{Run}
use Rattle.event_pool.specs.declared.agenda.Region.TheVariants.{Inactive}
use Rattle.event_pool.specs.Order.{in_order}
use Rattle.event_pool.specs.Pending.{eval_of, is_eval_of, run_of, unkeyed}
use Rattle.event_pool.specs.Schedule.{Schedule, put_due}
use Rattle.event_pool.proofs.CountLemmas.{count-cons, count-in_order, count-put, one_if}
use Rattle.event_pool.proofs.Keys.{in_order-unkeyed}
use Rattle.event_pool.proofs.PendingLemmas.{all_from_in_order, in_order-again, length-in_order}
use Rattle.vvp_threads.specs.declared.thread.Thread.{Thread}
use Rattle.vvp_threads.specs.declared.thread.ThreadState.TheVariants.{Ready}
use Rattle.vvp_threads.specs.Frame.{first_frame}
use Rattle.vvp_threads.specs.Table.{Table, live_count, slot_at, spawned}
use Rattle.vvp_threads.specs.Keyed.{KeyedTable, run_under}
use Rattle.vvp_threads.specs.Runs.{HasKey, HasRuns, is_run_of, runs_of}
use Rattle.sym_link.specs.declared.program.Item.{Item}
use Rattle.sym_link.specs.declared.program.Program.{Program}
use Rattle.sym_link.specs.declared.program.ScopeRow.{ScopeRow}
use Rattle.sym_link.specs.declared.program.Start.{Start}
use Rattle.sym_link.specs.Roots.{Node, node_of, nodes_of}
use Rattle.sym_link.specs.Sound.{IsProgram}
use Rattle.net_engine.specs.Net.{NetValues, Request, first_values, request_of}
use Rattle.net_engine.specs.Kept.{NamesItems, NetNow, evals_lacking, evals_of, has_output, lacks_eval, mark_of}
use Rattle.sys_tasks.specs.Design.{Design, design_of}
use Rattle.sys_tasks.specs.Tasks.{TasksNow, first_tasks}
use Rattle.sim_core.specs.Machine.{Machine}
use Rattle.sim_core.specs.Engine.{in_turn_of_machine}
use Rattle.sim_core.specs.Effects.{parents_of}
use Rattle.sim_core.specs.Start.{first_dues, first_evals, first_threads, run_at, start_of}
use Rattle.sim_core.specs.Kept.{IsSound, outputs_in}
use Rattle.sim_core.proofs.ActLemmas.{SameActs, acts-ordered, runs-acts}
use Rattle.sim_core.proofs.LoadLemmas.{acts-keyed, append-same, evals-keyed, evals-none, evals-some, evals_from, first-marks, first-named, names-keyed}
use Rattle.sim_core.proofs.TakeLemmas.{count-at}

-- a thread of the start
abbrev pub started : Table → Start → Table
started table start = spawned table None start.scope start.code

abbrev child_of : Table → Start → Thread
child_of table start = record { serial = length table.threads; parent = None; scope = start.scope; frame = first_frame start.code; state = Ready }

-- ---- the Runs of the start

count-append : (p : Due → Bool) (xs ys : List Due) → count_by p (xs ++ ys) ≡ count_by p xs + count_by p ys
count-append p xs ys = sum_by-append (λ y. cond (p y) 1 0) xs ys

-- evaluations have no keys
evals-bare : (nodes : List Node) (k : ℕ) → map unkeyed (evals_from k nodes) ≡ evals_from k nodes
evals-bare [] k = refl
evals-bare (node ∷ nodes) k = go (has_output node.what) refl (evals-bare nodes (k + 1)) where
  go : (b : Bool) → has_output node.what ≡ b → map unkeyed (evals_from (k + 1) nodes) ≡ evals_from (k + 1) nodes → map unkeyed (evals_from k (node ∷ nodes)) ≡ evals_from k (node ∷ nodes)
  go true h rest = ap (map unkeyed) (evals-some k node nodes h) ∙ ap (λ (ds : List Due). eval_of 0 k ∷ ds) rest ∙ sym (evals-some k node nodes h)
  go false h rest = ap (map unkeyed) (evals-none k node nodes h) ∙ rest ∙ sym (evals-none k node nodes h)

-- evaluations are no Runs
evals-no_runs : (nodes : List Node) (k serial : ℕ) → runs_of serial (evals_from k nodes) ≡ 0
evals-no_runs [] k serial = refl
evals-no_runs (node ∷ nodes) k serial = go (has_output node.what) refl (evals-no_runs nodes (k + 1) serial) where
  go : (b : Bool) → has_output node.what ≡ b → runs_of serial (evals_from (k + 1) nodes) ≡ 0 → runs_of serial (evals_from k (node ∷ nodes)) ≡ 0
  go true h rest = ap (runs_of serial) (evals-some k node nodes h) ∙ (let test : Due → Bool = λ d. is_run_of serial d.act in omega (arith, count-cons test (eval_of 0 k) (evals_from (k + 1) nodes), rest))
  go false h rest = ap (runs_of serial) (evals-none k node nodes h) ∙ rest

-- and have no threads whose keys they would need
evals-keys : (keys : List (Option ℕ)) (nodes : List Node) (k : ℕ) → All (λ (due : Due). HasKey keys due.act) (evals_from k nodes)
evals-keys keys [] k = λ j d within. absurd (omega arith)
evals-keys keys (node ∷ nodes) k = go (has_output node.what) refl (evals-keys keys nodes (k + 1)) where
  at : All (λ (due : Due). HasKey keys due.act) (evals_from (k + 1) nodes) → (j : ℕ) (d : Due) → j < length (eval_of 0 k ∷ evals_from (k + 1) nodes) → HasKey keys (get_or (eval_of 0 k ∷ evals_from (k + 1) nodes) j d).act
  at rest zero d within = tt
  at rest (suc j) d within = rest j d (omega arith)

  go : (b : Bool) → has_output node.what ≡ b → All (λ (due : Due). HasKey keys due.act) (evals_from (k + 1) nodes) → All (λ (due : Due). HasKey keys due.act) (evals_from k (node ∷ nodes))
  go true h rest = subst (λ (ds : List Due). All (λ (due : Due). HasKey keys due.act) ds) (sym (evals-some k node nodes h)) (λ j d within. at rest j d within)
  go false h rest = subst (λ (ds : List Due). All (λ (due : Due). HasKey keys due.act) ds) (sym (evals-none k node nodes h)) rest

-- before a thread starts
no-runs : (waiting : List (List ℕ)) (nodes : List Node) (besides : ℕ) (s : Schedule) → s.dues ≡ in_order (first_evals nodes) → besides ≤ s.spare → HasRuns (record { table = record { threads = []; waiting = waiting }; keys = [] }) besides s
no-runs waiting nodes besides s dues room = record {
  runs = record {
    once = λ serial. (let none = zero-runs serial in omega (arith, none));
    drawn = λ serial past. zero-runs serial;
    resting = λ serial thread live still. zero-runs serial;
  };
  keys = subst (λ (ds : List Due). All (λ (due : Due). HasKey [] due.act) ds) (sym dues) ((acts-ordered (first_evals nodes)).each (HasKey []) (evals-keys [] nodes 0));
  room = omega (arith, room);
}
  where
    zero-runs : (serial : ℕ) → runs_of serial s.dues ≡ 0
    zero-runs serial = ap (runs_of serial) dues ∙ count-in_order (λ (d : Due). is_run_of serial d.act) (first_evals nodes) ∙ evals-no_runs nodes 0 serial

-- ---- the threads of the start

replicate-map : (items : List Item) → replicate {A = List ℕ} (length items) [] ≡ map (λ (item : Item). []) items
replicate-map [] = refl
replicate-map (x ∷ items) = ap (λ (ws : List (List ℕ)). [] ∷ ws) (replicate-map items)

-- how far the threads of a program were started
pub record AreStarted (program : Program) (k : ℕ) (threads : KeyedTable) (s : Schedule) : Type 0 where
  pub time : s.now ≡ 0
  pub turn : in_order (map unkeyed s.dues) ≡ map unkeyed s.dues
  pub count : length threads.table.threads ≡ k
  pub table : fold started threads.table (drop k program.threads) ≡ first_threads program
  pub dues : in_order (map unkeyed s.dues ++ map run_at (enumerate_from k (drop k program.threads))) ≡ in_order (first_dues program)
  pub runs : HasRuns threads (length (drop k program.threads)) s

-- no threads, and events for which nobody waits
abbrev pub no_threads : ℕ → KeyedTable
no_threads events = record { table = record { threads = []; waiting = replicate events [] }; keys = [] }

pub started-none : (program : Program) (threads : KeyedTable) (s : Schedule) → threads ≡ no_threads (length program.items) → s.now ≡ 0
    → s.dues ≡ in_order (first_evals (nodes_of program)) → length program.threads ≤ s.spare → AreStarted program 0 threads s
started-none program threads s is now dues room =
    subst (λ (t : KeyedTable). AreStarted program 0 t s) (sym is) (record {
      time = now;
      turn = ap in_order bare ∙ in_order-again (first_evals (nodes_of program)) ∙ sym bare;
      count = refl;
      table = ap (λ (ws : List (List ℕ)). fold started (record { threads = []; waiting = ws }) program.threads) (replicate-map program.items);
      dues = ap (λ (ds : List Due). in_order (ds ++ map run_at (enumerate_from 0 program.threads))) bare
          ∙ append-same (in_order (first_evals (nodes_of program))) (first_evals (nodes_of program)) (map run_at (enumerate_from 0 program.threads)) (in_order-again (first_evals (nodes_of program)));
      runs = no-runs (replicate (length program.items) []) (nodes_of program) (length program.threads) s dues room;
    })
  where
    bare : map unkeyed s.dues ≡ in_order (first_evals (nodes_of program))
    bare = ap (map unkeyed) dues ∙ in_order-unkeyed (first_evals (nodes_of program)) ∙ ap in_order (evals-bare (nodes_of program) 0)

-- there is room for the Run of the next
pub started-room : (program : Program) (k : ℕ) (threads : KeyedTable) (s : Schedule) → k < length program.threads → AreStarted program k threads s → (besides : ℕ) × HasRuns threads (besides + 1) s
started-room program k threads s within a =
    let one : length (drop k program.threads) ≡ length (drop (k + 1) program.threads) + 1 = omega (arith, within, length-drop k program.threads, length-drop (k + 1) program.threads) in
    (length (drop (k + 1) program.threads), subst (λ (n : ℕ). HasRuns threads n s) one a.runs)

some-most : (xs : List (Option Thread)) → count_by is_some xs ≤ length xs
some-most [] = omega arith
some-most (x ∷ xs) = by_case (is_some x) refl (some-most xs) where
  by_case : (b : Bool) → is_some x ≡ b → count_by is_some xs ≤ length xs → count_by is_some (x ∷ xs) ≤ length (x ∷ xs)
  by_case true e rest = omega (arith, rest, count-cons is_some x xs, ap one_if e)
  by_case false e rest = omega (arith, rest, count-cons is_some x xs, ap one_if e)

-- no more are live than were drawn
pub live-most : (table : Table) → live_count table ≤ length table.threads
live-most table = some-most table.threads

-- the last due exchanged for one with the same act
swap-last : (P : Act → Type 0) (ds : List Due) (x y : Due) → x.act ≡ y.act → All (λ (d : Due). P d.act) (ds ++ x ∷ []) → All (λ (d : Due). P d.act) (ds ++ y ∷ [])
swap-last P [] x y e all = λ j d within. at j d within where
  at : (j : ℕ) (d : Due) → j < 1 → P (get_or (y ∷ []) j d).act
  at zero d within = subst P e (all 0 d (omega arith))
  at (suc j) d within = absurd (omega arith)
swap-last P (z ∷ ds) x y e all = λ j d within. at (swap-last P ds x y e (λ j d within. all (suc j) d (omega (arith, within)))) j d within where
  at : All (λ (d : Due). P d.act) (ds ++ y ∷ []) → (j : ℕ) (d : Due) → j < length (z ∷ (ds ++ y ∷ [])) → P (get_or (z ∷ (ds ++ y ∷ [])) j d).act
  at rest zero d within = all 0 d (omega arith)
  at rest (suc j) d within = rest j d (omega arith)

-- a Run in another region is as good
abbrev later_run : ℕ → ℕ → Due
later_run serial key = record { time = 0; region = Inactive; act = Run serial key }

pub runs-region : (threads : KeyedTable) (besides serial key : ℕ) (s : Schedule) → HasRuns threads besides (put_due s (run_under s.now serial key)) → HasRuns threads besides (put_due s (record { time = 0; region = Inactive; act = Run serial key }))
runs-region threads besides serial key s has = runs-acts threads besides (put_due s (run_under s.now serial key)) (put_due s (later_run serial key)) same (omega arith) has where
  unordered : (P : Act → Type 0) → All (λ (d : Due). P d.act) (in_order (s.dues ++ run_under s.now serial key ∷ [])) → All (λ (d : Due). P d.act) (s.dues ++ run_under s.now serial key ∷ [])
  unordered P all =
      let Q : Due → Type 0 = λ d. P d.act in
      All-from_recursion Q (s.dues ++ run_under s.now serial key ∷ []) (all_from_in_order Q (s.dues ++ run_under s.now serial key ∷ []) (recursion_from_All Q (in_order (s.dues ++ run_under s.now serial key ∷ [])) all))

  same : SameActs (put_due s (run_under s.now serial key)).dues (put_due s (later_run serial key)).dues
  same = record {
    counts = λ p. (let test : Due → Bool = λ d. p d.act in count-put test s.dues (later_run serial key) ∙ sym (count-put test s.dues (run_under s.now serial key)));
    each = λ P all. (acts-ordered (s.dues ++ later_run serial key ∷ [])).each P (swap-last P s.dues (run_under s.now serial key) (later_run serial key) refl (unordered P all));
  }

pub spawned-runs : (threads new : KeyedTable) (serial key : ℕ) (s t : Schedule) → serial ≡ length threads.table.threads → t ≡ put_due s (record { time = 0; region = Inactive; act = Run serial key })
    → ((besides : ℕ) (schedule : Schedule) → HasRuns threads (besides + 1) schedule → HasRuns new besides (put_due schedule (run_under schedule.now (length threads.table.threads) key)))
    → (besides : ℕ) → HasRuns threads (besides + 1) s → HasRuns new besides t
spawned-runs threads new serial key s t is e runs besides has =
    subst (λ (x : Schedule). HasRuns new besides x) (sym e)
    (subst (λ (n : ℕ). HasRuns new besides (put_due s (later_run n key))) (sym is) (runs-region new besides (length threads.table.threads) key s (runs besides s has)))

-- a Run that is put shows as the machine's
pub run-shown : (s : Schedule) (serial key : ℕ) → map unkeyed (put_due s (record { time = 0; region = Inactive; act = Run serial key })).dues ≡ in_order (map unkeyed s.dues ++ run_of 0 Inactive serial ∷ [])
run-shown s serial key = in_order-unkeyed (s.dues ++ record { time = 0; region = Inactive; act = Run serial key } ∷ []) ∙ ap in_order (map-append unkeyed s.dues (record { time = 0; region = Inactive; act = Run serial key } ∷ []))

pub started-more : (program : Program) (rest : List Start) (begun : Start) (k : ℕ) (threads new_threads : KeyedTable) (s new : Schedule) → drop k program.threads ≡ begun ∷ rest → drop (k + 1) program.threads ≡ rest
    → new_threads.table ≡ started threads.table begun → map unkeyed new.dues ≡ in_order (map unkeyed s.dues ++ run_of 0 Inactive k ∷ []) → new.now ≡ 0
    → ((besides : ℕ) → HasRuns threads (besides + 1) s → HasRuns new_threads besides new) → AreStarted program k threads s → AreStarted program (k + 1) new_threads new
started-more program rest begun k threads new_threads s new at next table dues now runs a = record {
  time = now;
  turn = ap in_order dues ∙ in_order-again (map unkeyed s.dues ++ run_of 0 Inactive k ∷ []) ∙ sym dues;
  count = ap (λ (t : Table). length t.threads) table ∙ length-append threads.table.threads (Some (child_of threads.table begun) ∷ []) ∙ (let was = a.count in omega (arith, was));
  table = ap (λ (xs : List Start). fold started new_threads.table xs) next ∙ ap (λ (t : Table). fold started t rest) table ∙ ap (λ (xs : List Start). fold started threads.table xs) (sym at) ∙ a.table;
  dues =
      ap (λ (xs : List Start). in_order (map unkeyed new.dues ++ map run_at (enumerate_from (k + 1) xs))) next
      ∙ ap (λ (ds : List Due). in_order (ds ++ map run_at (enumerate_from (k + 1) rest))) dues
      ∙ append-same (in_order (map unkeyed s.dues ++ run_of 0 Inactive k ∷ [])) (map unkeyed s.dues ++ run_of 0 Inactive k ∷ []) (map run_at (enumerate_from (k + 1) rest)) (in_order-again (map unkeyed s.dues ++ run_of 0 Inactive k ∷ []))
      ∙ ap in_order (append_assoc (map unkeyed s.dues) (run_of 0 Inactive k ∷ []) (map run_at (enumerate_from (k + 1) rest)))
      ∙ ap (λ (xs : List Start). in_order (map unkeyed s.dues ++ map run_at (enumerate_from k xs))) (sym at) ∙ a.dues;
  runs = runs (length (drop (k + 1) program.threads)) (subst (λ (n : ℕ). HasRuns threads n s) (let left : length (drop k program.threads) ≡ length (drop (k + 1) program.threads) + 1 = ap length at ∙ (let one : length (begun ∷ rest) ≡ length rest + 1 = omega arith in one) ∙ ap (λ (xs : List Start). length xs + 1) (sym next) in left) a.runs);
}

drop-all : {X : Type 0} (xs : List X) → drop (length xs) xs ≡ []
drop-all [] = refl
drop-all (x ∷ xs) = drop-all xs

pub record AllStarted (program : Program) (threads : KeyedTable) (s : Schedule) : Type 0 where
  pub table : threads.table ≡ first_threads program
  pub dues : map unkeyed s.dues ≡ in_order (first_dues program)
  pub runs : HasRuns threads 0 s

pub started-all : (program : Program) (k : ℕ) (threads : KeyedTable) (s : Schedule) → k ≡ length program.threads → AreStarted program k threads s → AllStarted program threads s
started-all program k threads s e a = record {
  table = ap (λ (xs : List Start). fold started threads.table xs) (sym none) ∙ a.table;
  dues = sym a.turn ∙ ap in_order (sym (append-nil (map unkeyed s.dues))) ∙ ap (λ (xs : List Start). in_order (map unkeyed s.dues ++ map run_at (enumerate_from k xs))) (sym none) ∙ a.dues;
  runs = subst (λ (xs : List Start). HasRuns threads (length xs) s) none a.runs;
}
  where
    none : drop k program.threads ≡ []
    none = ap (λ (n : ℕ). drop n program.threads) e ∙ drop-all program.threads

-- ---- an engine that starts

-- Runs evaluate nothing
runs-no_evals : (starts : List Start) (k item : ℕ) → evals_of item (map run_at (enumerate_from k starts)) ≡ 0
runs-no_evals [] k item = refl
runs-no_evals (x ∷ starts) k item =
    let test : Due → Bool = λ d. is_eval_of item d.act in
    omega (arith, count-cons test (run_of 0 Inactive k) (map run_at (enumerate_from (k + 1) starts)), runs-no_evals starts (k + 1) item)

runs-named : (nodes : List Node) (values : NetValues) (starts : List Start) (k : ℕ) → All (λ (due : Due). NamesItems nodes values due.act) (map run_at (enumerate_from k starts))
runs-named nodes values [] k = λ j d within. absurd (omega arith)
runs-named nodes values (x ∷ starts) k = λ j d within. at (runs-named nodes values starts (k + 1)) j d within where
  at : All (λ (due : Due). NamesItems nodes values due.act) (map run_at (enumerate_from (k + 1) starts)) → (j : ℕ) (d : Due) → j < length (map run_at (enumerate_from k (x ∷ starts)))
      → NamesItems nodes values (get_or (map run_at (enumerate_from k (x ∷ starts))) j d).act
  at rest zero d within = tt
  at rest (suc j) d within = rest j d (omega arith)

evals-start : (program : Program) (dues : List Due) (item : ℕ) → map unkeyed dues ≡ in_order (first_dues program) → evals_of item dues ≡ mark_of (map (λ (node : Node). has_output node.what) (nodes_of program)) item
evals-start program dues item shown =
    let test : Due → Bool = λ d. is_eval_of item d.act in
    let all : evals_of item dues ≡ evals_of item (first_evals (nodes_of program)) + evals_of item (map run_at (enumerate_from 0 program.threads)) =
    sym (evals-keyed item dues) ∙ ap (evals_of item) shown ∙ count-in_order test (first_dues program) ∙ count-append test (first_evals (nodes_of program)) (map run_at (enumerate_from 0 program.threads)) in
    omega (arith, all, runs-no_evals program.threads 0 item, first-marks (nodes_of program) item)

-- no evaluation is lacking
count-none : {X : Type 0} (xs : List X) (from : ℕ) → count_by (λ (x : ℕ × X). false) (enumerate_from from xs) ≡ 0
count-none [] from = refl
count-none {X = X} (x ∷ xs) from = omega (arith, count-none xs (from + 1), count-cons (λ (y : ℕ × X). false) (from, x) (enumerate_from (from + 1) xs))

mark-at : (nodes : List Node) (k : ℕ) (node : Node) → slice_get nodes k ≡ Some node → mark_of (map (λ (n : Node). has_output n.what) nodes) k ≡ one_if (has_output node.what)
mark-at [] k node e = absurd (let none : ⊥ = cc in none)
mark-at (x ∷ nodes) zero node e = (let same : x ≡ node = cc in ap (λ (n : Node). one_if (has_output n.what)) same)
mark-at (x ∷ nodes) (suc k) node e = mark-at nodes k node e

lacking-start : (nodes : List Node) (dues : List Due) → ((item : ℕ) → evals_of item dues ≡ mark_of (map (λ (node : Node). has_output node.what) nodes) item) → evals_lacking nodes dues ≡ 0
lacking-start nodes dues marks =
    count-at (lacks_eval dues) (λ (x : ℕ × Node). false) nodes 0 (λ k node at. by_output k node at (has_output node.what) refl) ∙ count-none nodes 0
  where
    by_output : (k : ℕ) (node : Node) → slice_get nodes k ≡ Some node → (b : Bool) → has_output node.what ≡ b → has_output node.what && nat_eq (evals_of (0 + k) dues) 0 ≡ false
    by_output k node at true h =
        let here : 0 + k ≡ k = omega arith in
        let one : evals_of (0 + k) dues ≡ 1 = ap (λ (i : ℕ). evals_of i dues) here ∙ marks k ∙ mark-at nodes k node at ∙ ap one_if h in
        ap (λ (b : Bool). b && nat_eq (evals_of (0 + k) dues) 0) h ∙ ap (λ (n : ℕ). nat_eq n 0) one
    by_output k node at false h = ap (λ (b : Bool). b && nat_eq (evals_of (0 + k) dues) 0) h

-- threads that stand in scopes of so many, without children
abbrev Fresh : ℕ → List (Option Thread) → Type 0
Fresh scopes threads = (serial : ℕ) (thread : Thread) → slot_at threads serial ≡ Some thread → (thread.scope < scopes) × (thread.frame.children ≡ [])

push-slot : (xs : List (Option Thread)) (child thread : Thread) (k : ℕ) → slot_at (xs ++ Some child ∷ []) k ≡ Some thread → (slot_at xs k ≡ Some thread) ⊎ (child ≡ thread)
push-slot [] child thread zero e = inr (let same : child ≡ thread = cc in same)
push-slot [] child thread (suc k) e = absurd (let none : ⊥ = cc in none)
push-slot (x ∷ xs) child thread zero e = inl e
push-slot (x ∷ xs) child thread (suc k) e = push-slot xs child thread k e

fresh-started : (scopes : ℕ) (table : Table) (start : Start) → start.scope < scopes → Fresh scopes table.threads → Fresh scopes (started table start).threads
fresh-started scopes table start stands fresh = λ serial thread at. go serial thread (push-slot table.threads (child_of table start) thread serial at) where
  go : (serial : ℕ) (thread : Thread) → (slot_at table.threads serial ≡ Some thread) ⊎ (child_of table start ≡ thread) → (thread.scope < scopes) × (thread.frame.children ≡ [])
  go serial thread (inl e) = fresh serial thread e
  go serial thread (inr e) = subst (λ (t : Thread). (t.scope < scopes) × (t.frame.children ≡ [])) e (stands, refl)

fresh-all : (scopes : ℕ) (starts : List Start) (table : Table) → All (λ (start : Start). start.scope < scopes) starts → Fresh scopes table.threads → Fresh scopes (fold started table starts).threads
fresh-all scopes [] table all fresh = fresh
fresh-all scopes (x ∷ starts) table all fresh =
    fresh-all scopes starts (started table x) (All-tail (λ (start : Start). start.scope < scopes) x starts all) (fresh-started scopes table x (All-head (λ (start : Start). start.scope < scopes) x starts all) fresh)

length-started : (starts : List Start) (table : Table) → length (fold started table starts).threads ≡ length table.threads + length starts
length-started [] table = omega arith
length-started (x ∷ starts) table = length-started starts (started table x) ∙ (let more = length-append table.threads (Some (child_of table x) ∷ []) in omega (arith, more))

waiting-started : (starts : List Start) (table : Table) → (fold started table starts).waiting ≡ table.waiting
waiting-started [] table = refl
waiting-started (x ∷ starts) table = waiting-started starts (started table x)

abbrev unasked : Request
unasked = record { serial = 0; kept = None }

abbrev unasked_at : Node → Request
unasked_at node = unasked

serials-none : (nodes : List Node) (item : ℕ) → (get_or (map unasked_at nodes) item unasked).serial ≤ 0
serials-none [] item = omega arith
serials-none (node ∷ nodes) zero = omega arith
serials-none (node ∷ nodes) (suc item) = serials-none nodes item

no-requests : (nodes : List Node) (item : ℕ) → (request_of (first_values nodes) item).serial ≤ 0
unfolding first_values
no-requests nodes item = serials-none nodes item

pub sound-start : (program : Program) (parents : List ℕ) (outputs : ℕ) (net : NetNow) (threads : KeyedTable) (design : Design) (schedule : Schedule) → IsProgram program → parents ≡ parents_of program → outputs ≡ outputs_in program.items
    → net.nodes ≡ nodes_of program → net.values ≡ first_values (nodes_of program) → net.marks ≡ map (λ (node : Node). has_output node.what) (nodes_of program) → design ≡ design_of program → AllStarted program threads schedule
    → IsSound (record { program = program; scope_parents = parents; outputs = outputs; net = net; threads = threads; design = design; schedule = schedule; running = None; steps = 0; taken = 0 })
sound-start program parents outputs net threads design schedule linked parent few nodes values marks designed a = record {
  linked = linked;
  nodes = nodes;
  parents = parent;
  outputs_are = few;
  designed = designed;
  fits = record {
    marks = λ item. evals item ∙ ap (λ (ms : List Bool). mark_of ms item) (sym marks);
    runs = subst (λ (n : ℕ). HasRuns threads n schedule) (sym (subst (λ (ns : List Node). evals_lacking ns schedule.dues ≡ 0) (sym nodes) (lacking-start (nodes_of program) schedule.dues evals))) a.runs;
    names = acts-keyed (NamesItems net.nodes net.values) (names-keyed net.nodes net.values) schedule.dues
        (subst (λ (ds : List Due). All (λ (due : Due). NamesItems net.nodes net.values due.act) ds) (sym a.dues)
        (subst (λ (ns : List Node). All (λ (due : Due). NamesItems ns net.values due.act) (in_order (first_dues program))) (sym nodes)
        ((acts-ordered (first_dues program)).each (NamesItems (nodes_of program) net.values)
        (All-append (λ (due : Due). NamesItems (nodes_of program) net.values due.act) (first_evals (nodes_of program)) (map run_at (enumerate_from 0 program.threads)) (first-named (nodes_of program) net.values) (runs-named (nodes_of program) net.values program.threads 0)))));
    marked = ap length marks ∙ length-map (nodes_of program) (λ (node : Node). has_output node.what) ∙ ap length (sym nodes);
    events = ap (λ (t : Table). length t.waiting) a.table ∙ ap length (waiting-started program.threads (record { threads = []; waiting = map (λ (item : Item). []) program.items })) ∙ length-map program.items (λ (item : Item). []) ∙ sym (length-map program.items node_of) ∙ ap length (sym nodes);
  };
  in_turn = ap in_order a.dues ∙ in_order-again (first_dues program) ∙ sym a.dues;
  runs = λ r is. absurd (let none : ⊥ = cc in none);
  scopes = λ serial. stand serial (slot_at threads.table.threads serial) refl;
  children = λ serial place child thread at there. absurd (let none : ⊥ = (let empty = sym (ap (λ (cs : List ℕ). slice_get cs place) (fresh serial thread at).1) ∙ there in cc) in none);
  few_taken = omega arith;
  few_serials = (let long : length threads.table.threads ≡ length program.threads = ap (λ (t : Table). length t.threads) a.table ∙ length-started program.threads (record { threads = []; waiting = map (λ (item : Item). []) program.items }) ∙ (let zero-plus : 0 + length program.threads ≡ length program.threads = omega arith in zero-plus) in omega (arith, long));
  few_requests = λ item. subst (λ (v : NetValues). (request_of v item).serial ≤ 0) (sym values) (no-requests (nodes_of program) item);
}
  where
    evals : (item : ℕ) → evals_of item schedule.dues ≡ mark_of (map (λ (node : Node). has_output node.what) (nodes_of program)) item
    evals item = evals-start program schedule.dues item a.dues

    scopes_there : All (λ (start : Start). start.scope < length program.scopes) program.threads
    scopes_there = λ k start within. (linked.each_thread k start within).stands

    none-yet : Fresh (length program.scopes) []
    none-yet serial thread at = absurd (let none : ⊥ = cc in none)

    fresh : Fresh (length program.scopes) threads.table.threads
    fresh = subst (λ (t : Table). Fresh (length program.scopes) t.threads) (sym a.table) (fresh-all (length program.scopes) program.threads (record { threads = []; waiting = map (λ (item : Item). []) program.items }) scopes_there none-yet)

    stand : (serial : ℕ) (slot : Option Thread) → slot_at threads.table.threads serial ≡ slot → IfSome (slot_at threads.table.threads serial) (λ (t : Thread). t.scope < length parents)
    stand serial None at = subst (λ (o : Option Thread). IfSome o (λ (t : Thread). t.scope < length parents)) (sym at) tt
    stand serial (Some thread) at =
        let count : length parents ≡ length program.scopes = ap length parent ∙ length-map program.scopes (λ (row : ScopeRow). row.parent) in
        subst (λ (o : Option Thread). IfSome o (λ (t : Thread). t.scope < length parents)) (sym at) (omega (arith, (fresh serial thread at).0, count))

-- ---- what an engine shows that starts

pub first-design : (design : Design) → (first_tasks design).design ≡ design
unfolding first_tasks
first-design design = refl

abbrev start_by : NetValues → Table → List Due → ℕ → TasksNow → ℕ → Machine
start_by values table dues now tasks peak = record {
  state = record { values = values; threads = table; pending = record { now = now; dues = dues } };
  running = None;
  tasks = tasks;
  steps = 0;
  peak = peak;
  taken = 0;
  ending = None;
}

pub start-shown : (program : Program) (net : NetNow) (threads : KeyedTable) (s : Schedule) (tasks : TasksNow) (peak : ℕ) → net.values ≡ first_values (nodes_of program) → tasks ≡ first_tasks (design_of program) → s.now ≡ 0
    → AllStarted program threads s → peak ≡ length s.dues → in_turn_of_machine (start_of program) ≡ start_by net.values threads.table (map unkeyed s.dues) s.now tasks peak
start-shown program net threads s tasks peak values kept now a high =
    ap (λ (v : NetValues). start_by v (first_threads program) (in_order (first_dues program)) 0 (first_tasks (design_of program)) (length (first_dues program))) (sym values)
    ∙ ap (λ (t : Table). start_by net.values t (in_order (first_dues program)) 0 (first_tasks (design_of program)) (length (first_dues program))) (sym a.table)
    ∙ ap (λ (ds : List Due). start_by net.values threads.table ds 0 (first_tasks (design_of program)) (length (first_dues program))) (sym a.dues)
    ∙ ap (λ (n : ℕ). start_by net.values threads.table (map unkeyed s.dues) n (first_tasks (design_of program)) (length (first_dues program))) (sym now)
    ∙ ap (λ (t : TasksNow). start_by net.values threads.table (map unkeyed s.dues) s.now t (length (first_dues program))) (sym kept)
    ∙ ap (λ (n : ℕ). start_by net.values threads.table (map unkeyed s.dues) s.now tasks n)
    (sym (high ∙ sym (length-map s.dues unkeyed) ∙ ap length a.dues ∙ length-in_order (first_dues program)))
