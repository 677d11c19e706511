-- How marks, threads and agenda follow a change, whatever the values: one thread list after another, one input after another.
use Rattle.std.proofs.Common.{◌≡◌, ◌≢◌, ℕ, suc, ◌+◌, ◌<◌, ◌≤◌, ◌⊎◌, inl, inr, Bool, true, false, if◌then◌else◌, Option, Some, None, List, [], ◌∷◌, ◌++◌, length, map, set, get_or, take, slice_get, refl, sym, ap, subst, ◌∙◌, arith}
use Rattle.std.specs.List.{All, Contains, fold, enumerate_from, filter_map, flat_map, cons_option}
use Rattle.std.proofs.lemmas.Bool.{cases_lt}
use Rattle.std.proofs.lemmas.List.{take_more, take_all, get_or_past, get_or_default, length-map}
use Rattle.std.proofs.lemmas.List.Elements.{All-nil, All-cons, All-append, All-weaker}
use Rattle.std.proofs.lemmas.Option.{slice_get-get_or, slice_get_within, get_or_from_slice_get}
use Rattle.event_pool.specs.Schedule.{Schedule, put_due}
use Rattle.event_pool.specs.Pending.{eval_of}
use Rattle.four_state.specs.declared.bits.Bit.{Bit}
use Rattle.port_chain.specs.Link.{InputPort, no_link}
use Rattle.port_chain.specs.Pairs.{link_at, IsAfter, AreDistinctPorts}
use Rattle.vvp_threads.specs.Table.{woken, waiters_of}
use Rattle.vvp_threads.specs.Keyed.{KeyedTable, with_runs}
use Rattle.vvp_threads.specs.Runs.{HasRuns}
use Rattle.sym_link.specs.Roots.{Node, Input, kind_of, readers, inputs_of, input_at, ports_of, drives, lists, listener}
use Rattle.sym_link.specs.declared.program.Source.{Source}
use Rattle.strengths.specs.Interval.{Interval}
use Rattle.net_engine.specs.Net.{NetValues, levels_of, with_parts}
use Rattle.net_engine.specs.State.{State, with_values}
use Rattle.net_engine.specs.Delivery.{wake, ask_eval, reached, reached_at, delivered, become}
use Rattle.net_engine.specs.Kept.{in_turn_of, Fits, Delivers, has_output, evals_of, evals_lacking}
use Rattle.net_engine.specs.Readers.{port_of, driven_ports, listeners_of}
use Rattle.net_engine.specs.Parts.{net_of, MayFit, Reaches, followed}
use Rattle.net_engine.proofs.MixLemmas.{map-get}
use Rattle.net_engine.proofs.KeptLemmas.{delivers-wake, delivers-none, delivers-more, delivers-marked, delivers-unmarked, fits-values, lacking-eval}
use Rattle.event_pool.proofs.CountLemmas.{one_if}

-- ---- what fits goes on fitting

pub fit-after : (f : State → State) (nodes : List Node) (marks new_marks : List Bool) (threads new_threads : KeyedTable) (s new : Schedule)
    → MayFit nodes marks threads s → Reaches f nodes marks new_marks threads new_threads s new → MayFit nodes new_marks new_threads new
fit-after f nodes marks new_marks threads new_threads s new fit reaches = record { values = fit.values; fits = (reaches.delivers fit.values fit.fits).fits }

-- room for a Run of each thread, and for no evaluation besides
pub runs-alone : (nodes : List Node) (marks : List Bool) (threads : KeyedTable) (s : Schedule) → MayFit nodes marks threads s → HasRuns threads 0 s
runs-alone nodes marks threads s fit =
    let runs = fit.fits.runs in
    let room = runs.room in
    record { runs = runs.runs; keys = runs.keys; room = omega (arith, room) }

-- an item is an event of the threads
pub event-there : (nodes : List Node) (marks : List Bool) (threads : KeyedTable) (s : Schedule) (event : ℕ) → MayFit nodes marks threads s → event < length nodes → event < length threads.table.waiting
event-there nodes marks threads s event fit within = let events = fit.fits.events in omega (arith, events)

-- ---- one call after another

pub reaches-none : (nodes : List Node) (marks : List Bool) (threads : KeyedTable) (s : Schedule) → Reaches (λ state. state) nodes marks marks threads threads s s
reaches-none nodes marks threads s = record { delivers = λ values fits. delivers-none (net_of nodes values marks) threads s fits }

pub reaches-more : {X : Type 0} (f : State → X → State) (before : List X) (x : X) (nodes : List Node) (marks mid_marks new_marks : List Bool) (threads mid_threads new_threads : KeyedTable) (s mid new : Schedule)
    → Reaches (λ state. fold f state before) nodes marks mid_marks threads mid_threads s mid → Reaches (λ state. f state x) nodes mid_marks new_marks mid_threads new_threads mid new
    → Reaches (λ state. fold f state (before ++ x ∷ [])) nodes marks new_marks threads new_threads s new
reaches-more f before x nodes marks mid_marks new_marks threads mid_threads new_threads s mid new first second = record {
  delivers = λ values fits.
      let one = first.delivers values fits in
      delivers-more f before x (net_of nodes values marks) (net_of nodes values mid_marks) (net_of nodes values new_marks) threads mid_threads new_threads s mid new one (second.delivers values one.fits);
}

-- ---- waking

pub wake-reaches : (event : ℕ) (nodes : List Node) (marks : List Bool) (threads new_threads : KeyedTable) (s new : Schedule)
    → new_threads ≡ record threads { table = woken threads.table event }
    → new ≡ with_runs s threads.keys (waiters_of threads.table event)
    → ((besides : ℕ) → HasRuns threads besides s → HasRuns new_threads besides new)
    → new.spare + length new.dues ≡ s.spare + length s.dues
    → Reaches (λ state. wake state event) nodes marks marks threads new_threads s new
wake-reaches event nodes marks threads new_threads s new table agenda runs places = record {
  delivers = λ values fits.
      let net = net_of nodes values marks in
      let after : KeyedTable = record threads { table = woken threads.table event } in
      let later = with_runs s threads.keys (waiters_of threads.table event) in
      let kept : HasRuns after (evals_lacking nodes s.dues) later =
      subst (λ (x : Schedule). HasRuns after (evals_lacking nodes s.dues) x) agenda (subst (λ (t : KeyedTable). HasRuns t (evals_lacking nodes s.dues) new) table (runs (evals_lacking nodes s.dues) fits.runs)) in
      let same : later.spare + length later.dues ≡ s.spare + length s.dues = subst (λ (x : Schedule). x.spare + length x.dues ≡ s.spare + length s.dues) agenda places in
      let done = delivers-wake event net threads s fits kept same in
      subst (λ (t : KeyedTable). Delivers (λ state. wake state event) net net threads t s new) (sym table) (subst (λ (x : Schedule). Delivers (λ state. wake state event) net net threads after s x) (sym agenda) done);
}

-- ---- asking for an evaluation

pub ask-reaches : (item : ℕ) (node : Node) (nodes : List Node) (marks new_marks : List Bool) (threads : KeyedTable) (s new : Schedule) → slice_get nodes item ≡ Some node → has_output node.what ≡ true
    → (get_or marks item false ≡ true → (new_marks ≡ marks) × (new ≡ s))
    → (get_or marks item false ≡ false → (new_marks ≡ set marks item true) × (new ≡ put_due s (eval_of s.now item)))
    → Reaches (ask_eval item) nodes marks new_marks threads threads s new
ask-reaches item node nodes marks new_marks threads s new at output marked unmarked = go (get_or marks item false) refl where
  go : (b : Bool) → get_or marks item false ≡ b → Reaches (ask_eval item) nodes marks new_marks threads threads s new
  go true is = record {
    delivers = λ values fits.
        let net = net_of nodes values marks in
        let done = delivers-marked item net threads s fits is in
        subst (λ (ms : List Bool). Delivers (ask_eval item) net (net_of nodes values ms) threads threads s new) (sym (marked is).0) (subst (λ (x : Schedule). Delivers (ask_eval item) net net threads threads s x) (sym (marked is).1) done);
  }
  go false is = record {
    delivers = λ values fits.
        let net = net_of nodes values marks in
        let done = delivers-unmarked item node net threads s fits at output is in
        subst (λ (ms : List Bool). Delivers (ask_eval item) net (net_of nodes values ms) threads threads s new) (sym (unmarked is).0)
        (subst (λ (x : Schedule). Delivers (ask_eval item) net (net_of nodes values (set marks item true)) threads threads s x) (sym (unmarked is).1) done);
  }

-- an evaluation that is pending of no marked item has room
pub ask-room : (item : ℕ) (node : Node) (nodes : List Node) (marks : List Bool) (threads : KeyedTable) (s : Schedule) → MayFit nodes marks threads s → slice_get nodes item ≡ Some node → has_output node.what ≡ true
    → get_or marks item false ≡ false → 0 < s.spare
ask-room item node nodes marks threads s fit at output is =
    let marks_fit = fit.fits.marks in
    let none : evals_of item s.dues ≡ 0 = omega (arith, marks_fit item, ap one_if is) in
    let evals = lacking-eval nodes item node s at output none in
    let room = fit.fits.runs.room in
    omega (arith, evals, room)

-- ---- the values that are set

pub become-followed : (nodes : List Node) (item : ℕ) (driven : List Interval) (forced : List (Option Interval)) (values : NetValues) (marks new_marks : List Bool) (threads new_threads : KeyedTable) (s new : Schedule)
    → Fits (net_of nodes values marks) threads s
    → Reaches (followed nodes item (levels_of values item) (levels_of (with_parts item driven forced values) item)) nodes marks new_marks threads new_threads s new
    → Delivers (become nodes item driven forced) (net_of nodes values marks) (net_of nodes (with_parts item driven forced values) new_marks) threads new_threads s new
unfolding become
become-followed nodes item driven forced values marks new_marks threads new_threads s new fits reaches =
    let set_values = with_parts item driven forced values in
    let done = reaches.delivers set_values (fits-values set_values (net_of nodes values marks) threads s refl fits) in
    record {
      state = record {
        shown = λ state e.
            ap (λ (v : NetValues). in_turn_of (followed nodes item (levels_of v item) (levels_of (with_parts item driven forced v) item) (with_values (with_parts item driven forced v) state))) (ap (λ (old : State). old.values) e)
            ∙ done.state.shown (with_values set_values state) (ap (with_values set_values) e);
      };
      fits = done.fits;
      keeps = record { nodes = done.keeps.nodes; keys = done.keeps.keys; now = done.keeps.now; places = done.keeps.places };
    }

-- ---- items that are there

-- each reader is an item
readers-from : (nodes : List Node) (item : ℕ) (rows : List Node) (from : ℕ) → All (λ (input : Input). input.item < from + length rows) (flat_map (inputs_of nodes item) (enumerate_from from rows))
readers-from nodes item [] from = All-nil (λ (input : Input). input.item < from + 0)
readers-from nodes item (row ∷ rows) from =
    let first : All (λ (input : Input). input.item < from + suc (length rows)) (inputs_of nodes item (from, row)) =
    All-weaker (λ (input : Input). input.item ≡ from) (λ (input : Input). input.item < from + suc (length rows)) (λ input e. omega arith) _ (ports-from nodes item from (enumerate_from 0 (ports_of row.what))) in
    let others : All (λ (input : Input). input.item < from + suc (length rows)) (flat_map (inputs_of nodes item) (enumerate_from (from + 1) rows)) =
    All-weaker (λ (input : Input). input.item < from + 1 + length rows) (λ (input : Input). input.item < from + suc (length rows)) (λ input e. omega arith) _ (readers-from nodes item rows (from + 1)) in
    All-append (λ (input : Input). input.item < from + suc (length rows)) (inputs_of nodes item (from, row)) _ first others
  where
    one : (nodes : List Node) (item reader : ℕ) (port : ℕ × Source) (rest : List Input) → All (λ (input : Input). input.item ≡ reader) rest → All (λ (input : Input). input.item ≡ reader) (cons_option (input_at nodes item reader port) rest)
    one nodes item reader port rest all = go (drives nodes item port.1) where
      go : (b : Bool) → All (λ (input : Input). input.item ≡ reader) (cons_option (if b then Some (record { item = reader; port = port.0 }) else None) rest)
      go true = All-cons (λ (input : Input). input.item ≡ reader) (record { item = reader; port = port.0 }) rest refl all
      go false = all

    ports-from : (nodes : List Node) (item reader : ℕ) (ports : List (ℕ × Source)) → All (λ (input : Input). input.item ≡ reader) (filter_map (input_at nodes item reader) ports)
    ports-from nodes item reader [] = All-nil (λ (input : Input). input.item ≡ reader)
    ports-from nodes item reader (port ∷ ports) = one nodes item reader port (filter_map (input_at nodes item reader) ports) (ports-from nodes item reader ports)

pub readers-within : (nodes : List Node) (item : ℕ) → All (λ (input : Input). input.item < length nodes) (readers nodes item)
unfolding readers
readers-within nodes item = All-weaker (λ (input : Input). input.item < 0 + length nodes) (λ (input : Input). input.item < length nodes) (λ input e. omega arith) _ (readers-from nodes item nodes 0)

-- each event that lists another is an item
pub listeners-from : (event : ℕ) (rows : List Node) (from : ℕ) → All (λ (item : ℕ). item < from + length rows) (filter_map (listener event) (enumerate_from from rows))
listeners-from event [] from = All-nil (λ (item : ℕ). item < from + 0)
listeners-from event (row ∷ rows) from =
    let others : All (λ (item : ℕ). item < from + suc (length rows)) (filter_map (listener event) (enumerate_from (from + 1) rows)) =
    All-weaker (λ (item : ℕ). item < from + 1 + length rows) (λ (item : ℕ). item < from + suc (length rows)) (λ item e. omega arith) _ (listeners-from event rows (from + 1)) in
    one (lists event row.what) (filter_map (listener event) (enumerate_from (from + 1) rows)) others
  where
    one : (b : Bool) (rest : List ℕ) → All (λ (item : ℕ). item < from + suc (length rows)) rest → All (λ (item : ℕ). item < from + suc (length rows)) (cons_option (if b then Some from else None) rest)
    one true rest all = All-cons (λ (item : ℕ). item < from + suc (length rows)) from rest (omega arith) all
    one false rest all = all

pub listeners-within : (nodes : List Node) (event : ℕ) → All (λ (item : ℕ). item < length nodes) (listeners_of nodes event)
listeners-within nodes event = All-weaker (λ (item : ℕ). item < 0 + length nodes) (λ (item : ℕ). item < length nodes) (λ item e. omega arith) _ (listeners-from event nodes 0)

-- ---- a walk along the inputs that an item drives

-- The walk has come to the link at a place, and the inputs before it were reached.
pub record Walked (nodes : List Node) (before after : List Bit) (item : ℕ) (marks new_marks : List Bool) (threads new_threads : KeyedTable) (s new : Schedule) (link : InputPort) : Type 0 where
  pub ports : AreDistinctPorts (driven_ports nodes item)
  pub place : ℕ
  pub at : link ≡ link_at (driven_ports nodes item) place
  pub within : place ≤ length (readers nodes item)
  pub done : Reaches (λ state. fold (reached_at nodes before after) state (take place (readers nodes item))) nodes marks new_marks threads new_threads s new

pub walked-start : (nodes : List Node) (before after : List Bit) (item : ℕ) (marks : List Bool) (threads : KeyedTable) (s : Schedule) (link : InputPort)
    → AreDistinctPorts (driven_ports nodes item) → link ≡ link_at (driven_ports nodes item) 0 → Walked nodes before after item marks marks threads threads s s link
walked-start nodes before after item marks threads s link ports at =
    record { ports = ports; place = 0; at = at; within = omega arith; done = reaches-none nodes marks threads s }

-- the ports are as many as the readers
ports-length : (nodes : List Node) (item : ℕ) → length (driven_ports nodes item) ≡ length (readers nodes item)
unfolding driven_ports
ports-length nodes item = length-map (readers nodes item) port_of

port-at : (nodes : List Node) (item place : ℕ) (input : Input) → slice_get (readers nodes item) place ≡ Some input → link_at (driven_ports nodes item) place ≡ port_of input
unfolding driven_ports
port-at nodes item place input at = get_or_from_slice_get (map port_of (readers nodes item)) place (port_of input) no_link (map-get port_of (readers nodes item) place input at)

-- the input that the walk has come to
pub walked-input : (nodes : List Node) (before after : List Bit) (item : ℕ) (marks new_marks : List Bool) (threads new_threads : KeyedTable) (s new : Schedule) (link : InputPort)
    → (w : Walked nodes before after item marks new_marks threads new_threads s new link) → link ≢ no_link
    → (input : Input) × (slice_get (readers nodes item) w.place ≡ Some input) × (link ≡ port_of input)
walked-input nodes before after item marks new_marks threads new_threads s new link w more = go (cases_lt w.place (length (readers nodes item))) where
  go : (w.place < length (readers nodes item)) ⊎ (length (readers nodes item) ≤ w.place) → (input : Input) × (slice_get (readers nodes item) w.place ≡ Some input) × (link ≡ port_of input)
  go (inl inside) =
      let none : Input = record { item = 0; port = 0 } in
      let here = slice_get-get_or (readers nodes item) w.place none inside in
      (get_or (readers nodes item) w.place none, here, w.at ∙ port-at nodes item w.place (get_or (readers nodes item) w.place none) here)
  go (inr past) = absurd (more (w.at ∙ get_or_past (driven_ports nodes item) w.place no_link (omega (arith, ports-length nodes item, past))))

-- it is an item
pub walked-there : (nodes : List Node) (before after : List Bit) (item : ℕ) (marks new_marks : List Bool) (threads new_threads : KeyedTable) (s new : Schedule) (link : InputPort)
    → Walked nodes before after item marks new_marks threads new_threads s new link → link ≢ no_link → link.node < length nodes
walked-there nodes before after item marks new_marks threads new_threads s new link w more =
    let found = walked-input nodes before after item marks new_marks threads new_threads s new link w more in
    let inside = slice_get_within (readers nodes item) w.place found.0 found.1 in
    let all = readers-within nodes item w.place found.0 inside in
    let here : get_or (readers nodes item) w.place found.0 ≡ found.0 = get_or_from_slice_get (readers nodes item) w.place found.0 found.0 found.1 in
    let is : found.0.item < length nodes = subst (λ (i : Input). i.item < length nodes) here all in
    subst (λ (l : InputPort). l.node < length nodes) (sym found.2) is

-- it is one of the ports that the item drives
pub walked-contains : (nodes : List Node) (before after : List Bit) (item : ℕ) (marks new_marks : List Bool) (threads new_threads : KeyedTable) (s new : Schedule) (link : InputPort)
    → Walked nodes before after item marks new_marks threads new_threads s new link → link ≢ no_link → Contains (driven_ports nodes item) link
walked-contains nodes before after item marks new_marks threads new_threads s new link w more = go (cases_lt w.place (length (driven_ports nodes item))) where
  go : (w.place < length (driven_ports nodes item)) ⊎ (length (driven_ports nodes item) ≤ w.place) → Contains (driven_ports nodes item) link
  go (inl inside) = (w.place, inside, get_or_default (driven_ports nodes item) w.place link no_link inside ∙ sym w.at)
  go (inr past) = absurd (more (w.at ∙ get_or_past (driven_ports nodes item) w.place no_link past))

-- it is reached, and the walk goes on
pub walked-more : (nodes : List Node) (before after : List Bit) (item : ℕ) (marks mid_marks new_marks : List Bool) (threads mid_threads new_threads : KeyedTable) (s mid new : Schedule) (link next : InputPort)
    → Walked nodes before after item marks mid_marks threads mid_threads s mid link → link ≢ no_link
    → Reaches (reached nodes before after link.node (kind_of nodes link.node)) nodes mid_marks new_marks mid_threads new_threads mid new
    → IsAfter (driven_ports nodes item) link next
    → Walked nodes before after item marks new_marks threads new_threads s new next
walked-more nodes before after item marks mid_marks new_marks threads mid_threads new_threads s mid new link next w more reached_it after_it =
    let found = walked-input nodes before after item marks mid_marks threads mid_threads s mid link w more in
    let inside = slice_get_within (readers nodes item) w.place found.0 found.1 in
    let ports_inside : w.place < length (driven_ports nodes item) = omega (arith, ports-length nodes item, inside) in
    let one : Reaches (λ state. reached_at nodes before after state found.0) nodes mid_marks new_marks mid_threads new_threads mid new =
    subst (λ (l : InputPort). Reaches (reached nodes before after l.node (kind_of nodes l.node)) nodes mid_marks new_marks mid_threads new_threads mid new) found.2 reached_it in
    let both = reaches-more (reached_at nodes before after) (take w.place (readers nodes item)) found.0 nodes marks mid_marks new_marks threads mid_threads new_threads s mid new w.done one in
    let inputs : take (w.place + 1) (readers nodes item) ≡ take w.place (readers nodes item) ++ found.0 ∷ [] =
    take_more (readers nodes item) w.place found.0 inside ∙ ap (λ (i : Input). take w.place (readers nodes item) ++ i ∷ []) (get_or_from_slice_get (readers nodes item) w.place found.0 found.0 found.1) in
    record {
      ports = w.ports;
      place = w.place + 1;
      at = after_it w.place ports_inside w.at;
      within = omega arith;
      done = subst (λ (is : List Input). Reaches (λ state. fold (reached_at nodes before after) state is) nodes marks new_marks threads new_threads s new) (sym inputs) both;
    }

-- all inputs were reached
pub walked-all : (nodes : List Node) (before after : List Bit) (item : ℕ) (marks new_marks : List Bool) (threads new_threads : KeyedTable) (s new : Schedule) (link : InputPort)
    → Walked nodes before after item marks new_marks threads new_threads s new link → link ≡ no_link
    → Reaches (delivered nodes before after item) nodes marks new_marks threads new_threads s new
unfolding delivered
walked-all nodes before after item marks new_marks threads new_threads s new link w ends =
    subst (λ (is : List Input). Reaches (λ state. fold (reached_at nodes before after) state is) nodes marks new_marks threads new_threads s new) (take_all w.place (readers nodes item) enough) w.done where
      enough : length (readers nodes item) ≤ w.place
      enough = elim (cases_lt w.place (length (driven_ports nodes item))) [ inl inside ↦ absurd (w.ports.named w.place no_link inside (sym w.at ∙ ends)) | inr past ↦ omega (arith, ports-length nodes item, past) ]
