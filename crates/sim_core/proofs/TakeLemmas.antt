-- A due is taken and applied: what an engine keeps, and what the machine does.
use Rattle.std.proofs.Common.{◌≡◌, ◌≢◌, ◌⊎◌, inl, inr, ℕ, zero, suc, ◌+◌, ◌<◌, ◌≤◌, min, Bool, true, false, ◌&&◌, cond, nat_eq, Option, Some, None, is_some, option_map, List, [], ◌∷◌, length, map, set, get_or, slice_get, refl, sym, ap, subst, ◌∙◌, arith}
use Rattle.std.specs.List.{All, count_by, enumerate_from, filter, list_any}
use Rattle.std.specs.Option.{IfSome}
use Rattle.std.proofs.lemmas.Bool.{cases_eq}
use Rattle.std.proofs.lemmas.Bool.Decides.{nat_tests}
use Rattle.std.proofs.lemmas.List.{get_or-set_other, get_or-set_same, length-map}
use Rattle.event_pool.specs.declared.agenda.Due.{Due}
use Rattle.event_pool.specs.declared.agenda.Act.{Act}
use Rattle.event_pool.specs.declared.agenda.Act.TheVariants.{Eval, Run}
use Rattle.event_pool.specs.declared.agenda.Region.TheVariants.{Active}
use Rattle.event_pool.specs.Order.{in_order}
use Rattle.event_pool.specs.Pending.{Pending, is_eval_of, pending_of, unkeyed, unkeyed_act}
use Rattle.event_pool.specs.Schedule.{Schedule, active_dues, is_active_at, taken}
use Rattle.event_pool.proofs.CountLemmas.{count-but_one, count-cons, count-same, one_if}
use Rattle.event_pool.proofs.FollowLemmas.{active-shown, take-follows}
use Rattle.event_pool.proofs.Keys.{any-unkeyed, nth-unkeyed}
use Rattle.event_pool.proofs.PendingLemmas.{in_order-again}
use Rattle.vvp_threads.specs.declared.thread.Thread.{Thread}
use Rattle.vvp_threads.specs.declared.thread.ThreadState.{ThreadState}
use Rattle.vvp_threads.specs.declared.thread.ThreadState.TheVariants.{Ready, Waiting, Joining}
use Rattle.vvp_threads.specs.Table.{IsInState, Table, has, live_count, slot_at, thread_of, waiters_of}
use Rattle.vvp_threads.specs.Keyed.{IsKeyOf, KeyedTable}
use Rattle.vvp_threads.specs.Runs.{HasKey, HasRuns, is_run_of, lacks_run, rests, runs_lacking, runs_of}
use Rattle.vvp_threads.proofs.RunLemmas.{slot-get}
use Rattle.sym_link.specs.declared.program.Item.{Item}
use Rattle.sym_link.specs.declared.program.ItemKind.{ItemKind}
use Rattle.sym_link.specs.declared.program.ItemKind.TheVariants as kind
use Rattle.sym_link.specs.declared.program.Program.{Program}
use Rattle.sym_link.specs.Roots.{Node, kind_of, node_of, nodes_of}
use Rattle.net_engine.specs.State.{State}
use Rattle.net_engine.specs.Kept.{AreMarkedBut, Delivers, Fits, FitsBut, HasOutput, IsDelay, NamesItems, NetNow, StateFollows, evals_lacking, evals_of, has_output, in_turn_of, lacks_eval, mark_of, state_of}
use Rattle.sim_core.specs.declared.engine.Running.{Running}
use Rattle.sim_core.specs.Machine.{Machine, is_live, on_state, with_running}
use Rattle.sim_core.specs.Step.{apply, choices, pick, with_taken, without_due}
use Rattle.sim_core.specs.Engine.{Shown, in_turn_of_machine}
use Rattle.sim_core.specs.Kept.{AsksFew, Held, IsRunning, IsSound, outputs_in}
use Rattle.sim_core.specs.Parts.{ShownSteps, applied, applied_at, is_delay_in, is_delay_kind, stepped, take_by_order}
use Rattle.sim_core.proofs.DescendLemmas.{Descend, descend-children, descend-scopes}
use Rattle.sim_core.proofs.StepLemmas.{MachineFollows, choices-shown, follows-by, pending-follows, state-follows, with_agenda}
use Rattle.sim_core.proofs.TakenLemmas.{Removes, runs-taken}
use Rattle.sim_core.proofs.WakeLemmas.{Wakes}

-- ---- what is pending and how many lack something

-- fewer besides
pub runs-fewer : (threads : KeyedTable) (few many : ℕ) (s : Schedule) → few ≤ many → HasRuns threads many s → HasRuns threads few s
runs-fewer threads few many s fewer has = record { runs = has.runs; keys = has.keys; room = omega (arith, fewer, has.room) }

-- as many evaluations are lacking where another due was taken
pub lacking-taken : (nodes : List Node) (old new : List Due) (due : Due) → Removes due old new → ((item : ℕ) → is_eval_of item due.act ≡ false) → evals_lacking nodes new ≡ evals_lacking nodes old
lacking-taken nodes old new due r other =
    count-same (lacks_eval new) (lacks_eval old) nodes 0
    (λ k (node : Node) from. ap (λ (n : ℕ). has_output node.what && nat_eq n 0) (let one = r.counts (is_eval_of k) in let none = ap one_if (other k) in omega (arith, one, none)))

-- ---- a due that is neither a Run nor an evaluation

pub fits-taken : (net : NetNow) (threads : KeyedTable) (old new : Schedule) (due : Due) → Removes due old.dues new.dues → new.spare ≡ old.spare + 1
    → ((serial : ℕ) → is_run_of serial due.act ≡ false) → ((item : ℕ) → is_eval_of item due.act ≡ false) → Fits net threads old → Fits net threads new
fits-taken net threads old new due r room run eval fits = record {
  marks = λ item. (let one = r.counts (is_eval_of item) in let none = ap one_if (eval item) in let was = fits.marks item in omega (arith, one, none, was));
  runs =
      let besides = evals_lacking net.nodes old.dues in
      let more : HasRuns threads (besides + 1) new = runs-taken threads besides old new due r room run fits.runs in
      let same : evals_lacking net.nodes new.dues ≡ besides = lacking-taken net.nodes old.dues new.dues due r eval in
      runs-fewer threads (evals_lacking net.nodes new.dues) (besides + 1) new (omega (arith, same)) more;
  names = r.each (NamesItems net.nodes net.values) fits.names;
  marked = fits.marked;
  events = fits.events;
}

-- ---- an evaluation

get-within : {X : Type 0} (xs : List X) (k : ℕ) (x : X) → slice_get xs k ≡ Some x → k < length xs
get-within [] k x e = absurd (let none : ⊥ = cc in none)
get-within (y ∷ xs) zero x e = omega arith
get-within (y ∷ xs) (suc k) x e = omega (arith, get-within xs k x e)

-- the node of an item that has an output
node-there : (nodes : List Node) (item : ℕ) → HasOutput (kind_of nodes item) → (node : Node) × (slice_get nodes item ≡ Some node) × (has_output node.what ≡ true)
node-there nodes item has = go (slice_get nodes item) refl has where
  go : (slot : Option Node) → slice_get nodes item ≡ slot → HasOutput (option_map (λ (node : Node). node.what) slot) → (node : Node) × (slice_get nodes item ≡ Some node) × (has_output node.what ≡ true)
  go None at h = absurd h
  go (Some node) at h = (node, at, h)

-- an evaluation that was taken is lacking
lacking-eval-taken : (nodes : List Node) (old new : List Due) (item : ℕ) (node : Node) (due : Due) → slice_get nodes item ≡ Some node → has_output node.what ≡ true → due.act ≡ Eval item → Removes due old new
    → evals_of item new ≡ 0 → evals_of item old ≡ 1 → evals_lacking nodes new ≡ evals_lacking nodes old + 1
lacking-eval-taken nodes old new item node due at output is r none one =
    count-but_one (lacks_eval new) (lacks_eval old) nodes node 0 item at
    (λ k (other : Node) differ.
    let apart : nat_eq item k ≡ false = (let unlike : k ≢ item = (λ e. differ (omega (arith, e))) in grind (arith, nat_tests)) in
    let evals = r.counts (is_eval_of k) in
    let act : one_if (is_eval_of k due.act) ≡ 0 = ap (λ (a : Act). one_if (is_eval_of k a)) is ∙ ap one_if apart in
    ap (λ (n : ℕ). has_output other.what && nat_eq n 0) (let same : evals_of k new ≡ evals_of k old = omega (arith, evals, act) in same))
    (let after : evals_of (0 + item) new ≡ 0 = ap (λ (i : ℕ). evals_of i new) here ∙ none in
    ap (λ (b : Bool). b && nat_eq (evals_of (0 + item) new) 0) output ∙ ap (λ (n : ℕ). nat_eq n 0) after)
    (let before : evals_of (0 + item) old ≡ 1 = ap (λ (i : ℕ). evals_of i old) here ∙ one in
    ap (λ (b : Bool). b && nat_eq (evals_of (0 + item) old) 0) output ∙ ap (λ (n : ℕ). nat_eq n 0) before)
  where
    here : 0 + item ≡ item
    here = omega arith

-- a mark is 0 or 1
mark-most : (marks : List Bool) (item : ℕ) → mark_of marks item ≤ 1
mark-most marks item = go (get_or marks item false) where
  go : (b : Bool) → one_if b ≤ 1
  go true = omega arith
  go false = omega arith

marked-true : (marks : List Bool) (item : ℕ) → mark_of marks item ≡ 1 → get_or marks item false ≡ true
marked-true marks item e = go (get_or marks item false) e where
  go : (b : Bool) → one_if b ≡ 1 → b ≡ true
  go true k = refl
  go false k = absurd (omega (arith, k))

marked-within : (marks : List Bool) (item : ℕ) → get_or marks item false ≡ true → item < length marks
marked-within [] item e = absurd (let none : ⊥ = cc in none)
marked-within (m ∷ marks) zero e = omega arith
marked-within (m ∷ marks) (suc item) e = omega (arith, marked-within marks item e)

-- the marks but for the item's
marks-but : (marks : List Bool) (old new : List Due) (item : ℕ) (due : Due) → due.act ≡ Eval item → Removes due old new → ((k : ℕ) → evals_of k old ≡ mark_of marks k) → AreMarkedBut item marks new
marks-but marks old new item due is r all = record {
  marked = one;
  others = λ k. other k (cases_eq k item);
}
  where
    taken-one : (k : ℕ) → evals_of k new + one_if (nat_eq item k) ≡ evals_of k old
    taken-one k = ap (λ (a : Act). evals_of k new + one_if (is_eval_of k a)) (sym is) ∙ r.counts (is_eval_of k)

    self_eq : one_if (nat_eq item item) ≡ 1
    self_eq = let same : nat_eq item item ≡ true = grind (arith, nat_tests) in ap one_if same

    one : mark_of marks item ≡ 1
    one = omega (arith, taken-one item, self_eq, all item, mark-most marks item)

    within : item < length marks
    within = marked-within marks item (marked-true marks item one)

    other : (k : ℕ) → (k ≡ item) ⊎ (k ≢ item) → evals_of k new ≡ mark_of (set marks item false) k
    other k (inl same) =
        let gone : get_or (set marks item false) k false ≡ false = ap (λ (i : ℕ). get_or (set marks item false) i false) same ∙ get_or-set_same marks item false false within in
        let mark : mark_of (set marks item false) k ≡ 0 = ap one_if gone in
        let here : evals_of k new ≡ evals_of item new = ap (λ (i : ℕ). evals_of i new) same in
        omega (arith, taken-one item, self_eq, all item, mark-most marks item, mark, here)
    other k (inr differ) =
        let apart : nat_eq item k ≡ false = grind (arith, nat_tests) in
        let mark : mark_of (set marks item false) k ≡ mark_of marks k = ap one_if (get_or-set_other marks item k false false differ) in
        omega (arith, taken-one k, ap one_if apart, all k, mark)

cons-most : {X : Type 0} (p : X → Bool) (x : X) (xs : List X) → count_by p (x ∷ xs) ≤ count_by p xs + 1
cons-most p x xs = go (p x) refl where
  go : (b : Bool) → p x ≡ b → count_by p (x ∷ xs) ≤ count_by p xs + 1
  go true e = omega (arith, count-cons p x xs, ap one_if e)
  go false e = omega (arith, count-cons p x xs, ap one_if e)

cons-one : {X : Type 0} (p : X → Bool) (x : X) (xs : List X) → p x ≡ true → count_by p (x ∷ xs) ≡ count_by p xs + 1
cons-one p x xs e = omega (arith, count-cons p x xs, ap one_if e)

cons-none : {X : Type 0} (p : X → Bool) (x : X) (xs : List X) → p x ≡ false → count_by p (x ∷ xs) ≡ count_by p xs
cons-none p x xs e = omega (arith, count-cons p x xs, ap one_if e)

-- no more are lacking than there are
count-most : {X : Type 0} (p : ℕ × X → Bool) (q : X → Bool) (xs : List X) (from : ℕ) → ((k : ℕ) (x : X) → q x ≡ false → p (k, x) ≡ false) → count_by p (enumerate_from from xs) ≤ count_by q xs
count-most p q [] from less = omega arith
count-most p q (x ∷ xs) from less = go (q x) refl (count-most p q xs (from + 1) less) where
  go : (b : Bool) → q x ≡ b → count_by p (enumerate_from (from + 1) xs) ≤ count_by q xs → count_by p ((from, x) ∷ enumerate_from (from + 1) xs) ≤ count_by q (x ∷ xs)
  go true e rest = omega (arith, rest, cons-most p (from, x) (enumerate_from (from + 1) xs), cons-one q x xs e)
  go false e rest = omega (arith, rest, cons-none p (from, x) (enumerate_from (from + 1) xs) (less from x e), cons-none q x xs e)

runs-most : (table : Table) (dues : List Due) → runs_lacking table dues ≤ live_count table
runs-most table dues = count-most (lacks_run dues) is_some table.threads 0 (λ k (slot : Option Thread) e. ap (λ (b : Bool). b && nat_eq (runs_of k dues) 0) e)

evals-most : (items : List Item) (dues : List Due) → evals_lacking (map node_of items) dues ≤ outputs_in items
evals-most items dues = go items 0 where
  go : (xs : List Item) (from : ℕ) → count_by (lacks_eval dues) (enumerate_from from (map node_of xs)) ≤ outputs_in xs
  go [] from = omega arith
  go (x ∷ xs) from = by_output (has_output x.what) refl (go xs (from + 1)) where
    by_output : (b : Bool) → has_output x.what ≡ b → count_by (lacks_eval dues) (enumerate_from (from + 1) (map node_of xs)) ≤ outputs_in xs
        → count_by (lacks_eval dues) ((from, node_of x) ∷ enumerate_from (from + 1) (map node_of xs)) ≤ outputs_in (x ∷ xs)
    by_output true e rest = omega (arith, rest, cons-most (lacks_eval dues) (from, node_of x) (enumerate_from (from + 1) (map node_of xs)), cons-one (λ (item : Item). has_output item.what) x xs e)
    by_output false e rest =
        omega (arith, rest, cons-none (lacks_eval dues) (from, node_of x) (enumerate_from (from + 1) (map node_of xs)) (ap (λ (b : Bool). b && nat_eq (evals_of from dues) 0) e), cons-none (λ (item : Item). has_output item.what) x xs e)

-- ---- the evaluation of an item was taken

delay-kind : (items : List Item) (item : ℕ) → IsDelay (kind_of (map node_of items) item) → is_delay_in items item ≡ true
delay-kind [] item is = absurd is
delay-kind (x ∷ items) zero is = go x.what is where
  go : (what : ItemKind) → IsDelay (Some what) → is_delay_kind what ≡ true
  go (kind.Delay rise fall decay port) h = refl
  go (kind.Var integer) h = absurd h
  go (kind.Net root) h = absurd h
  go (kind.Functor gate drive ports) h = absurd h
  go (kind.Edge edge ports) h = absurd h
  go kind.Named h = absurd h
  go (kind.AnyOf events) h = absurd h
  go (kind.Array words) h = absurd h
  go (kind.Scope scope) h = absurd h
  go kind.Param h = absurd h
delay-kind (x ∷ items) (suc item) is = delay-kind items item is

-- What is left fits but for the item, with the room that was made: by `gate` no agenda was touched, by `delay` there is a place more.
pub fits-eval : (items : List Item) (outputs : ℕ) (net : NetNow) (threads : KeyedTable) (old mid new : Schedule) (item : ℕ) (due : Due) → due.act ≡ Eval item → Removes due old.dues mid.dues → mid.spare ≡ old.spare + 1
    → net.nodes ≡ map node_of items → outputs ≡ outputs_in items → new.dues ≡ mid.dues → (is_delay_in items item ≡ false → new ≡ mid)
    → (is_delay_in items item ≡ true → min mid.spare (live_count threads.table + outputs) + 1 ≤ new.spare) → Fits net threads old → FitsBut item net threads new
fits-eval items outputs net threads old mid new item due is r spare nodes few dues gate delay fits = record {
  marks = subst (λ (ds : List Due). AreMarkedBut item net.marks ds) (sym dues) (marks-but net.marks old.dues mid.dues item due is r fits.marks);
  runs = by_kind (is_delay_in items item) refl;
  more = λ d. delayed (delay-kind items item (subst (λ (ns : List Node). IsDelay (kind_of ns item)) nodes d));
  names = subst (λ (ds : List Due). All (λ (d : Due). NamesItems net.nodes net.values d.act) ds) (sym dues) (r.each (NamesItems net.nodes net.values) fits.names);
  marked = fits.marked;
  events = fits.events;
}
  where
    output : HasOutput (kind_of net.nodes item)
    output = subst (λ (a : Act). NamesItems net.nodes net.values a) is (r.had (NamesItems net.nodes net.values) fits.names)

    there : (node : Node) × (slice_get net.nodes item ≡ Some node) × (has_output node.what ≡ true)
    there = node-there net.nodes item output

    but : AreMarkedBut item net.marks mid.dues
    but = marks-but net.marks old.dues mid.dues item due is r fits.marks

    was : evals_of item old.dues ≡ 1
    was = fits.marks item ∙ but.marked

    now : evals_of item mid.dues ≡ 0
    now =
        let same : nat_eq item item ≡ true = grind (arith, nat_tests) in
        let act : one_if (is_eval_of item due.act) ≡ 1 = ap (λ (a : Act). one_if (is_eval_of item a)) is ∙ ap one_if same in
        let one = r.counts (is_eval_of item) in
        omega (arith, one, act, was)

    lacks : evals_lacking net.nodes mid.dues ≡ evals_lacking net.nodes old.dues + 1
    lacks = lacking-eval-taken net.nodes old.dues mid.dues item there.0 due there.1 there.2 is r now was

    at_mid : HasRuns threads (evals_lacking net.nodes mid.dues) mid
    at_mid =
        subst (λ (n : ℕ). HasRuns threads n mid) (sym lacks)
        (runs-taken threads (evals_lacking net.nodes old.dues) old mid due r spare (λ serial. ap (λ (a : Act). is_run_of serial a) is) fits.runs)

    most : evals_lacking net.nodes mid.dues ≤ outputs
    most = omega (arith, few, subst (λ (ns : List Node). evals_lacking ns mid.dues ≤ outputs_in items) (sym nodes) (evals-most items mid.dues))

    delayed : is_delay_in items item ≡ true → HasRuns threads (evals_lacking net.nodes new.dues + 1) new
    delayed d =
        subst (λ (ds : List Due). HasRuns threads (evals_lacking net.nodes ds + 1) (record { now = new.now; dues = ds; spare = new.spare })) (sym dues)
        (record {
          runs = at_mid.runs;
          keys = at_mid.keys;
          room = (let place = delay d in let runs = runs-most threads.table mid.dues in let room = at_mid.room in omega (arith, place, most, runs, room));
        })

    by_kind : (b : Bool) → is_delay_in items item ≡ b → HasRuns threads (evals_lacking net.nodes new.dues) new
    by_kind true d = runs-fewer threads (evals_lacking net.nodes new.dues) (evals_lacking net.nodes new.dues + 1) new (omega arith) (delayed d)
    by_kind false d = subst (λ (s : Schedule). HasRuns threads (evals_lacking net.nodes s.dues) s) (sym (gate d)) at_mid

-- ---- a due of a net is applied

-- The net, the threads and an agenda that were changed as f does, once a due was taken from the agenda.
pub sound-applied : (f : State → State) (h : Held) (mid : Schedule) (net : NetNow) (threads : KeyedTable) (schedule : Schedule) → h.running ≡ None → in_order (map unkeyed mid.dues) ≡ map unkeyed mid.dues
    → Delivers f h.net net h.threads threads mid schedule → ((state : State) → Wakes state (f state)) → AsksFew net.values (h.steps + 1) → IsSound h
    → IsSound (record h { net = net; threads = threads; schedule = schedule; steps = h.steps + 1; taken = h.taken + 1 })
sound-applied f h mid net threads schedule rests turn d wakes few s = record {
  linked = s.linked;
  nodes = d.keeps.nodes ∙ s.nodes;
  parents = s.parents;
  outputs_are = s.outputs_are;
  designed = s.designed;
  fits = d.fits;
  in_turn = ap in_order (sym dues) ∙ in_order-again after.pending.dues ∙ dues;
  runs = λ r is. absurd (let none : ⊥ = (let here = sym rests ∙ is in cc) in none);
  scopes = descend-scopes h.scope_parents h.threads.table.threads threads.table.threads down s.scopes;
  children = descend-children h.threads.table.threads threads.table.threads down s.children;
  few_taken = omega (arith, s.few_taken);
  few_serials = omega (arith, s.few_serials, down.length);
  few_requests = few;
}
  where
    before : State
    before = state_of h.net h.threads mid

    after : State
    after = f before

    exact : in_turn_of after ≡ state_of net threads schedule
    exact = d.state.shown before (ap (λ (ds : List Due). record before { pending = record before.pending { dues = ds } }) turn)

    table : after.threads ≡ threads.table
    table = ap (λ (st : State). st.threads) exact

    dues : in_order after.pending.dues ≡ map unkeyed schedule.dues
    dues = ap (λ (st : State). st.pending.dues) exact

    down : Descend h.threads.table.threads threads.table.threads
    down = subst (λ (t : Table). Descend h.threads.table.threads t.threads) table (wakes before).down

-- ---- a Run is applied

not-resting : (state : ThreadState) → rests state ≡ false → state ≡ Ready
not-resting Ready h = refl
not-resting (Waiting event) h = absurd (let none : ⊥ = cc in none)
not-resting (Joining child) h = absurd (let none : ⊥ = cc in none)

-- the thread of a Run is ready
ready-runs : (h : Held) (serial : ℕ) (thread : Thread) → thread_of h.threads.table serial ≡ Some thread → runs_of serial h.schedule.dues ≡ 1 → IsSound h → thread.state ≡ Ready
ready-runs h serial thread live one s = not-resting thread.state (go (rests thread.state) refl) where
  go : (b : Bool) → rests thread.state ≡ b → rests thread.state ≡ false
  go true e = absurd (let none : runs_of serial h.schedule.dues ≡ 0 = s.fits.runs.runs.resting serial thread live e in let false_ : ⊥ = omega (arith, none, one) in false_)
  go false e = e

-- two tests that agree at each element
pub count-at : {X : Type 0} (p q : ℕ × X → Bool) (xs : List X) (from : ℕ) → ((k : ℕ) (x : X) → slice_get xs k ≡ Some x → p (from + k, x) ≡ q (from + k, x)) → count_by p (enumerate_from from xs) ≡ count_by q (enumerate_from from xs)
count-at p q [] from agree = refl
count-at {X = X} p q (x ∷ xs) from agree =
    let here : from + 0 ≡ from = omega arith in
    let first : p (from, x) ≡ q (from, x) = subst (λ (k : ℕ). p (k, x) ≡ q (k, x)) here (agree zero x refl) in
    let rest = count-at p q xs (from + 1) (λ k y at. (let moved : from + suc k ≡ from + 1 + k = omega arith in subst (λ (i : ℕ). p (i, y) ≡ q (i, y)) moved (agree (suc k) y at))) in
    omega (arith, rest, count-cons p (from, x) (enumerate_from (from + 1) xs), count-cons q (from, x) (enumerate_from (from + 1) xs), ap one_if first)

slot-there : (threads : List (Option Thread)) (k : ℕ) (slot : Option Thread) → slice_get threads k ≡ Some slot → slot_at threads k ≡ slot
slot-there [] k slot e = absurd (let none : ⊥ = cc in none)
slot-there (x ∷ threads) zero slot e = cc
slot-there (x ∷ threads) (suc k) slot e = slot-there threads k slot e

-- what is lacking where a Run was taken
run-lacking : (threads : KeyedTable) (besides : ℕ) (old new : Schedule) (due : Due) (serial key : ℕ) → due.act ≡ Run serial key → Removes due old.dues new.dues → new.spare ≡ old.spare + 1 → HasRuns threads besides old → HasRuns threads besides new
run-lacking threads besides old new due serial key is r spare has = record {
  runs = record {
    once = λ k. (let c = count k in let o = has.runs.once k in omega (arith, c, o));
    drawn = λ k past. (let c = count k in let o = has.runs.drawn k past in omega (arith, c, o));
    resting = λ k thread live still. (let c = count k in let o = has.runs.resting k thread live still in omega (arith, c, o));
  };
  keys = r.each (HasKey threads.keys) has.keys;
  room = by_slot (slot_at threads.table.threads serial) refl;
}
  where
    count : (k : ℕ) → runs_of k new.dues + one_if (nat_eq serial k) ≡ runs_of k old.dues
    count k = ap (λ (a : Act). runs_of k new.dues + one_if (is_run_of k a)) (sym is) ∙ r.counts (is_run_of k)

    apart : (k : ℕ) → k ≢ serial → runs_of k new.dues ≡ runs_of k old.dues
    apart k differ = (let unlike : nat_eq serial k ≡ false = grind (arith, nat_tests) in omega (arith, count k, ap one_if unlike))

    one : one_if (nat_eq serial serial) ≡ 1
    one = (let same : nat_eq serial serial ≡ true = grind (arith, nat_tests) in ap one_if same)

    by_slot : (slot : Option Thread) → slot_at threads.table.threads serial ≡ slot → runs_lacking threads.table new.dues + besides ≤ new.spare
    by_slot None at =
        let same : runs_lacking threads.table new.dues ≡ runs_lacking threads.table old.dues = count-at (lacks_run new.dues) (lacks_run old.dues) threads.table.threads 0 (λ k slot there. alike k slot there (cases_eq k serial)) in
        omega (arith, same, has.room, spare)
      where
        alike : (k : ℕ) (slot : Option Thread) → slice_get threads.table.threads k ≡ Some slot → (k ≡ serial) ⊎ (k ≢ serial)
            → is_some slot && nat_eq (runs_of (0 + k) new.dues) 0 ≡ is_some slot && nat_eq (runs_of (0 + k) old.dues) 0
        alike k slot there (inl same) =
            let gone : slot ≡ None = sym (slot-there threads.table.threads k slot there) ∙ ap (λ (i : ℕ). slot_at threads.table.threads i) same ∙ at in
            ap (λ (o : Option Thread). is_some o && nat_eq (runs_of (0 + k) new.dues) 0) gone ∙ sym (ap (λ (o : Option Thread). is_some o && nat_eq (runs_of (0 + k) old.dues) 0) gone)
        alike k slot there (inr differ) = ap (λ (n : ℕ). is_some slot && nat_eq n 0) (apart (0 + k) (λ e. differ (omega (arith, e))))
    by_slot (Some thread) at =
        let lacks : runs_lacking threads.table new.dues ≡ runs_lacking threads.table old.dues + 1 =
        count-but_one (lacks_run new.dues) (lacks_run old.dues) threads.table.threads (Some thread) 0 serial (slot-get threads.table.threads serial thread at)
        (λ k (other : Option Thread) differ. ap (λ (n : ℕ). is_some other && nat_eq n 0) (apart k (λ e. differ (omega (arith, e)))))
        (let after : runs_of (0 + serial) new.dues ≡ 0 = ap (λ (i : ℕ). runs_of i new.dues) here ∙ gone in ap (λ (n : ℕ). nat_eq n 0) after)
        (let before : runs_of (0 + serial) old.dues ≡ 1 = ap (λ (i : ℕ). runs_of i old.dues) here ∙ was in ap (λ (n : ℕ). nat_eq n 0) before) in
        omega (arith, lacks, has.room, spare)
      where
        here : 0 + serial ≡ serial
        here = omega arith

        gone : runs_of serial new.dues ≡ 0
        gone = (let c = count serial in let o = has.runs.once serial in omega (arith, c, o, one))

        was : runs_of serial old.dues ≡ 1
        was = (let c = count serial in omega (arith, c, one, gone))

pub if-some : {X : Type 0} (o : Option X) (P : X → Type 0) → IfSome o P → (x : X) → o ≡ Some x → P x
if-some None P h x e = absurd (let none : ⊥ = cc in none)
if-some (Some y) P h x e = subst P (let same : y ≡ x = cc in same) h

-- a Run lets its thread go on, where that has not ended
pub sound-run : (h : Held) (new : Schedule) (due : Due) (serial key : ℕ) (running : Option Running) → due.act ≡ Run serial key → Removes due h.schedule.dues new.dues → new.spare ≡ h.schedule.spare + 1
    → in_order (map unkeyed new.dues) ≡ map unkeyed new.dues → option_map (λ (r : Running). r.serial) running ≡ cond (is_some (thread_of h.threads.table serial)) (Some serial) None
    → ((r : Running) → running ≡ Some r → IsKeyOf h.threads r.serial r.key) → ((event waiter : ℕ) → has (waiters_of h.threads.table event) waiter ≡ true → IsInState h.threads.table waiter (Waiting event)) → IsSound h
    → IsSound (record h { schedule = new; running = running; steps = h.steps + 1; taken = h.taken + 1 })
sound-run h new due serial key running is r spare turn goes keyed waits s = record {
  linked = s.linked;
  nodes = s.nodes;
  parents = s.parents;
  outputs_are = s.outputs_are;
  designed = s.designed;
  fits = record {
    marks = λ item. (let one = r.counts (is_eval_of item) in let none = ap (λ (a : Act). one_if (is_eval_of item a)) is in let was = s.fits.marks item in omega (arith, one, none, was));
    runs = subst (λ (n : ℕ). HasRuns h.threads n new) (sym lacking) (run-lacking h.threads (evals_lacking h.net.nodes h.schedule.dues) h.schedule new due serial key is r spare s.fits.runs);
    names = r.each (NamesItems h.net.nodes h.net.values) s.fits.names;
    marked = s.fits.marked;
    events = s.fits.events;
  };
  in_turn = turn;
  runs = λ next e. found next e (thread_of h.threads.table serial) refl (ap (option_map (λ (r : Running). r.serial)) (sym e) ∙ goes);
  scopes = s.scopes;
  children = s.children;
  few_taken = omega (arith, s.few_taken);
  few_serials = omega (arith, s.few_serials);
  few_requests = λ item. (let few = s.few_requests item in omega (arith, few));
}
  where
    lacking : evals_lacking h.net.nodes new.dues ≡ evals_lacking h.net.nodes h.schedule.dues
    lacking = lacking-taken h.net.nodes h.schedule.dues new.dues due r (λ item. ap (λ (a : Act). is_eval_of item a) is)

    self_eq : one_if (nat_eq serial serial) ≡ 1
    self_eq = (let same : nat_eq serial serial ≡ true = grind (arith, nat_tests) in ap one_if same)

    counted : runs_of serial new.dues + one_if (nat_eq serial serial) ≡ runs_of serial h.schedule.dues
    counted = ap (λ (a : Act). runs_of serial new.dues + one_if (is_run_of serial a)) (sym is) ∙ r.counts (is_run_of serial)

    gone : runs_of serial new.dues ≡ 0
    gone = (let o = s.fits.runs.runs.once serial in omega (arith, counted, self_eq, o))

    was : runs_of serial h.schedule.dues ≡ 1
    was = omega (arith, counted, self_eq, gone)

    found : (next : Running) → running ≡ Some next → (slot : Option Thread) → thread_of h.threads.table serial ≡ slot → Some next.serial ≡ cond (is_some (thread_of h.threads.table serial)) (Some serial) None → IsRunning h.threads new next
    found next e None at k = absurd (let none : ⊥ = (let empty = k ∙ ap (λ (o : Option Thread). cond (is_some o) (Some serial) None) at in cc) in none)
    found next e (Some thread) at k =
        let same : next.serial ≡ serial = (let there = k ∙ ap (λ (o : Option Thread). cond (is_some o) (Some serial) None) at in cc) in
        let ready : thread.state ≡ Ready = ready-runs h serial thread at was s in
        let state : IsInState h.threads.table serial Ready = ap (option_map (λ (t : Thread). t.state)) at ∙ ap (λ (st : ThreadState). Some st) ready in
        record {
          key = keyed next e;
          ready = subst (λ (n : ℕ). IsInState h.threads.table n Ready) (sym same) state;
          no_event = λ event. subst (λ (n : ℕ). has (waiters_of h.threads.table event) n ≡ false) (sym same) (idle_at event (has (waiters_of h.threads.table event) serial) refl state);
          no_run = ap (λ (n : ℕ). runs_of n new.dues) same ∙ gone;
        }
      where
        idle_at : (event : ℕ) (b : Bool) → has (waiters_of h.threads.table event) serial ≡ b → IsInState h.threads.table serial Ready → has (waiters_of h.threads.table event) serial ≡ false
        idle_at event true e state = absurd (let none : ⊥ = (let other = sym state ∙ waits event serial e in cc) in none)
        idle_at event false e state = e

-- ---- the machine's step

-- the due that the order picks is applied
pub take-follows-order : (program : Program) (order : ℕ) (s : Schedule) (due : Due) (old new : Machine)
    → slice_get (active_dues s.now s.dues) (pick order old.taken (length (active_dues s.now s.dues))) ≡ Some due
    → MachineFollows (apply program (unkeyed due).act) (with_taken (with_agenda (taken (pick order old.taken (length (active_dues s.now s.dues))) s) (stepped old))) new
    → MachineFollows (λ machine. take_by_order program order (stepped machine)) (with_agenda s old) new
take-follows-order program order s due old new at done = record {
  shown = λ machine e.
      let count = length (active_dues s.now s.dues) in
      let place = pick order old.taken count in
      let pending = ap (λ (m : Machine). m.state.pending) e in
      ap (λ (k : ℕ). in_turn_of_machine (applied_at program (pick order k (choices machine)) (stepped machine))) (ap (λ (m : Machine). m.taken) e)
      ∙ ap (λ (n : ℕ). in_turn_of_machine (applied_at program (pick order old.taken n) (stepped machine))) (choices-shown machine old s e)
      ∙ ap (λ (d : Option Due). in_turn_of_machine (applied program place d (stepped machine)))
      (ap (λ (ds : List Due). slice_get ds place) (active-shown machine.state.pending s pending) ∙ nth-unkeyed (active_dues s.now s.dues) place due at)
      ∙ done.shown (with_taken (without_due place (stepped machine)))
      (ap with_taken ((pending-follows _ (with_agenda s (stepped old)) (pending_of (taken place s)) (take-follows place s)).shown (stepped machine) (ap stepped e)));
}

delivered-follows : (f : State → State) (old : Machine) (net new_net : NetNow) (threads new_threads : KeyedTable) (mid new : Schedule) → old.state ≡ state_of net threads mid → Delivers f net new_net threads new_threads mid new
    → MachineFollows (on_state f) old (record old { state = state_of new_net new_threads new })
delivered-follows f old net new_net threads new_threads mid new e d =
    state-follows f old (state_of new_net new_threads new) (subst (λ (st : State). StateFollows f st (state_of new_net new_threads new)) (sym e) d.state)

-- an engine's machine has the agenda's dues
agenda-there : (old : Machine) (net : NetNow) (threads : KeyedTable) (s : Schedule) → old.state ≡ state_of net threads s → with_agenda s old ≡ old
agenda-there old net threads s e = ap (λ (p : Pending). record old { state = record old.state { pending = p } }) (sym (ap (λ (st : State). st.pending) e))

-- a due that the net applies
pub net-taken : (f : State → State) (shown : Shown) (net new_net : NetNow) (threads new_threads : KeyedTable) (s mid new : Schedule) (due : Due) → shown.machine.state ≡ state_of net threads s
    → slice_get (active_dues s.now s.dues) (pick shown.order shown.machine.taken (length (active_dues s.now s.dues))) ≡ Some due
    → mid.now ≡ s.now → mid.dues ≡ (taken (pick shown.order shown.machine.taken (length (active_dues s.now s.dues))) s).dues
    → ((machine : Machine) → apply shown.program (unkeyed due).act machine ≡ on_state f machine) → Delivers f net new_net threads new_threads mid new
    → ShownSteps (λ machine. take_by_order shown.program shown.order (stepped machine)) shown
    (record shown { machine = record shown.machine { state = state_of new_net new_threads new; steps = shown.machine.steps + 1; taken = shown.machine.taken + 1 } })
net-taken f shown net new_net threads new_threads s mid new due e at now dues act d = record {
  machine = subst (λ (m : Machine). MachineFollows (λ machine. take_by_order shown.program shown.order (stepped machine)) m last) (agenda-there shown.machine net threads s e)
      (take-follows-order shown.program shown.order s due shown.machine last at (follows-by (apply shown.program (unkeyed due).act) (on_state f) first last (λ machine k. act machine) (delivered-follows f first net new_net threads new_threads mid new there d)));
  program = refl;
  order = refl;
  failed = refl;
  steps = omega arith;
}
  where
    place : ℕ
    place = pick shown.order shown.machine.taken (length (active_dues s.now s.dues))

    first : Machine
    first = with_taken (with_agenda (taken place s) (stepped shown.machine))

    last : Machine
    last = record shown.machine { state = state_of new_net new_threads new; steps = shown.machine.steps + 1; taken = shown.machine.taken + 1 }

    pending : pending_of (taken place s) ≡ pending_of mid
    pending = ap (λ (n : ℕ). record { now = n; dues = map unkeyed (taken place s).dues }) (sym now) ∙ ap (λ (ds : List Due). record { now = mid.now; dues = map unkeyed ds }) (sym dues)

    there : first.state ≡ state_of net threads mid
    there = ap (λ (st : State). record st { pending = pending_of (taken place s) }) e ∙ ap (λ (p : Pending). record { values = net.values; threads = threads.table; pending = p }) pending

-- a due that lets a thread go on
pub run-taken : (shown : Shown) (net : NetNow) (threads : KeyedTable) (s : Schedule) (due : Due) (serial key : ℕ) (running : Option ℕ) → shown.machine.state ≡ state_of net threads s → shown.machine.running ≡ None
    → slice_get (active_dues s.now s.dues) (pick shown.order shown.machine.taken (length (active_dues s.now s.dues))) ≡ Some due
    → due.act ≡ Run serial key → running ≡ cond (is_some (thread_of threads.table serial)) (Some serial) None
    → ShownSteps (λ machine. take_by_order shown.program shown.order (stepped machine)) shown
    (record shown { machine = record shown.machine { state = state_of net threads (taken (pick shown.order shown.machine.taken (length (active_dues s.now s.dues))) s); running = running; steps = shown.machine.steps + 1; taken = shown.machine.taken + 1 } })
run-taken shown net threads s due serial key running e none at is goes = record {
  machine = subst (λ (m : Machine). MachineFollows (λ machine. take_by_order shown.program shown.order (stepped machine)) m last) (agenda-there shown.machine net threads s e)
      (take-follows-order shown.program shown.order s due shown.machine last at
      (record { shown = λ machine k. ap (λ (a : Act). in_turn_of_machine (apply shown.program (unkeyed_act a) machine)) is ∙ resumes machine (is_live serial machine) refl k }));
  program = refl;
  order = refl;
  failed = refl;
  steps = omega arith;
}
  where
    place : ℕ
    place = pick shown.order shown.machine.taken (length (active_dues s.now s.dues))

    first : Machine
    first = with_taken (with_agenda (taken place s) (stepped shown.machine))

    last : Machine
    last = record shown.machine { state = state_of net threads (taken place s); running = running; steps = shown.machine.steps + 1; taken = shown.machine.taken + 1 }

    there : first.state ≡ state_of net threads (taken place s)
    there = ap (λ (st : State). record st { pending = pending_of (taken place s) }) e

    resumes : (machine : Machine) (b : Bool) → is_live serial machine ≡ b → in_turn_of_machine machine ≡ first → in_turn_of_machine (cond (is_live serial machine) (with_running (Some serial) machine) machine) ≡ last
    resumes machine true live k =
        let here : is_some (thread_of threads.table serial) ≡ true = ap (λ (st : State). is_some (thread_of st.threads serial)) (sym (ap (λ (m : Machine). m.state) k ∙ there)) ∙ live in
        let next : Some serial ≡ running = sym (goes ∙ ap (λ (b : Bool). cond b (Some serial) None) here) in
        ap (λ (b : Bool). in_turn_of_machine (cond b (with_running (Some serial) machine) machine)) live
        ∙ ap (λ (m : Machine). with_running (Some serial) m) k ∙ ap (λ (st : State). record first { state = st; running = Some serial }) there ∙ ap (λ (r : Option ℕ). record last { running = r }) next
    resumes machine false live k =
        let here : is_some (thread_of threads.table serial) ≡ false = ap (λ (st : State). is_some (thread_of st.threads serial)) (sym (ap (λ (m : Machine). m.state) k ∙ there)) ∙ live in
        let next : None ≡ running = sym (goes ∙ ap (λ (b : Bool). cond b (Some serial) None) here) in
        ap (λ (b : Bool). in_turn_of_machine (cond b (with_running (Some serial) machine) machine)) live
        ∙ k ∙ ap (λ (st : State). record first { state = st }) there ∙ ap (λ (r : Option ℕ). record last { running = r }) (none ∙ next)

-- a settled agenda that shows an Active due of now has one to take
some-active : (test : Due → Bool) (dues : List Due) → list_any test dues ≡ true → 0 < length (filter test dues)
some-active test [] h = absurd (let none : ⊥ = cc in none)
some-active test (due ∷ dues) h = go (test due) refl (λ k. some-active test dues k) where
  go : (b : Bool) → test due ≡ b → (list_any test dues ≡ true → 0 < length (filter test dues)) → 0 < length (filter test (due ∷ dues))
  go true e rest = rw e (let some : 0 < suc (length (filter test dues)) = omega arith in some)
  go false e rest = rw e (rest (rw e at h))

pub active-some : (now : ℕ) (dues : List Due) → list_any (is_active_at now) (map unkeyed dues) ≡ true → 0 < length (active_dues now dues)
active-some now dues h = some-active (is_active_at now) dues (sym (any-unkeyed Active now dues) ∙ h)

-- what a due that was taken names, and its key
pub taken-names : (h : Held) (due : Due) (act : Act) (new : List Due) → due.act ≡ act → Removes due h.schedule.dues new → IsSound h → NamesItems h.net.nodes h.net.values act
taken-names h due act new is r s = subst (NamesItems h.net.nodes h.net.values) is (r.had (NamesItems h.net.nodes h.net.values) s.fits.names)

pub taken-key : (h : Held) (due : Due) (act : Act) (new : List Due) → due.act ≡ act → Removes due h.schedule.dues new → IsSound h → HasKey h.threads.keys act
taken-key h due act new is r s = subst (HasKey h.threads.keys) is (r.had (HasKey h.threads.keys) s.fits.runs.keys)

-- an item with an output is there
pub output-within : (program : Program) (nodes : List Node) (item : ℕ) → nodes ≡ nodes_of program → HasOutput (kind_of nodes item) → item < length program.items
output-within program nodes item e has =
    let there = node-there nodes item has in
    let within : item < length nodes = get-within nodes item there.0 there.1 in
    omega (arith, within, ap length e, length-map program.items node_of)

-- fewer outputs than items
pub outputs-most : (items : List Item) → outputs_in items ≤ length items
outputs-most [] = omega arith
outputs-most (x ∷ items) = go (has_output x.what) refl (outputs-most items) where
  go : (b : Bool) → has_output x.what ≡ b → outputs_in items ≤ length items → outputs_in (x ∷ items) ≤ length (x ∷ items)
  go true e rest = omega (arith, rest, cons-one (λ (i : Item). has_output i.what) x items e)
  go false e rest = omega (arith, rest, cons-none (λ (i : Item). has_output i.what) x items e)
