-- What each call on a net delivers, from what its parts do.
use Rattle.std.proofs.Common.{◌≡◌, ℕ, ◌+◌, ◌<◌, ℤ, Bool, true, false, nat_eq, nat_lt, if◌then◌else◌, Option, Some, None, List, [], map, get_or, slice_get, refl, sym, ap, subst, ◌∙◌, arith}
use Rattle.std.proofs.lemmas.Bool.Decides.{nat_tests}
use Rattle.std.specs.List.{enumerate_from}
use Rattle.event_pool.specs.declared.agenda.Due.{Due}
use Rattle.event_pool.specs.declared.agenda.Act.TheVariants.{Mature}
use Rattle.event_pool.specs.declared.agenda.Region.TheVariants.{Active}
use Rattle.event_pool.specs.Schedule.{Schedule, put_due}
use Rattle.four_state.specs.declared.bits.Bit.{Bit}
use Rattle.four_state.specs.Vector.{overlaid}
use Rattle.vvp_threads.specs.Keyed.{KeyedTable}
use Rattle.vvp_threads.specs.Runs.{HasRuns}
use Rattle.sym_link.specs.declared.program.ItemKind.{ItemKind}
use Rattle.sym_link.specs.declared.program.ItemKind.TheVariants.{Var, Net, Functor, Delay, Edge, Named, AnyOf, Array, Scope, Param}
use Rattle.sym_link.specs.Roots.{Node, kind_of, root_of}
use Rattle.strengths.specs.Interval.{Interval}
use Rattle.net_engine.specs.declared.store.Change.{Change}
use Rattle.net_engine.specs.Net.{NetValues, Request, driven_of, forced_of, levels_of, array_of, request_of, value_of, output_of, seen, strongly, with_parts, with_word, with_request}
use Rattle.net_engine.specs.State.{State, with_values, put_in}
use Rattle.net_engine.specs.Delivery.{Times, become, change, variable_assigned, word_assigned, assigned, write, force, release, driven_after, forced_after, later, postponed, follows_after, next_request, asked_anew, asked, same_levels, time_between, matured, mature, evaluated, row_evaluated, eval}
use Rattle.net_engine.specs.Kept.{NetNow, in_turn_of, Fits, Delivers, IsDelay, IsWritable, evals_lacking}
use Rattle.net_engine.specs.Parts.{net_of, IsChange, Reaches, MayFit, followed, keeps}
use Rattle.net_engine.proofs.KeptLemmas.{delivers-none, delivers-then, delivers-request, delivers-put, delivers-word, fits-values}

-- ---- what is done by the values, or by the time

-- what is done depends on the values that there are
pub delivers-values : (g : NetValues → State → State) (net new_net : NetNow) (threads new_threads : KeyedTable) (s new : Schedule)
    → Delivers (g net.values) net new_net threads new_threads s new → Delivers (λ state. g state.values state) net new_net threads new_threads s new
delivers-values g net new_net threads new_threads s new d = record {
  state = record { shown = λ state e. ap (λ (v : NetValues). in_turn_of (g v state)) (ap (λ (old : State). old.values) e) ∙ d.state.shown state e };
  fits = d.fits;
  keeps = d.keeps;
}

-- what is done depends on the time that it is
pub delivers-now : (g : ℕ → State → State) (net new_net : NetNow) (threads new_threads : KeyedTable) (s new : Schedule)
    → Delivers (g s.now) net new_net threads new_threads s new → Delivers (λ state. g state.pending.now state) net new_net threads new_threads s new
delivers-now g net new_net threads new_threads s new d = record {
  state = record { shown = λ state e. ap (λ (now : ℕ). in_turn_of (g now state)) (ap (λ (old : State). old.pending.now) e) ∙ d.state.shown state e };
  fits = d.fits;
  keeps = d.keeps;
}

-- marks are no part of the state
pub delivers-marks : (f : State → State) (marks : List Bool) (net new_net : NetNow) (threads new_threads : KeyedTable) (s new : Schedule)
    → Delivers f (record net { marks = marks }) new_net threads new_threads s new → Delivers f net new_net threads new_threads s new
delivers-marks f marks net new_net threads new_threads s new d = record {
  state = record { shown = λ state e. d.state.shown state e };
  fits = d.fits;
  keeps = record { nodes = d.keeps.nodes; keys = d.keeps.keys; now = d.keeps.now; places = d.keeps.places };
}

-- ---- parts that are set

-- What drives an item, and what is forced on it, are set by what they were; what follows was done.
pub parts-followed : (nodes : List Node) (item : ℕ) (drives : NetValues → List Interval) (forces : NetValues → List (Option Interval)) (values new_values : NetValues) (marks new_marks : List Bool) (threads new_threads : KeyedTable) (s new : Schedule) (found : Option Change)
    → Fits (net_of nodes values marks) threads s → new_values ≡ with_parts item (drives values) (forces values) values → IsChange found (levels_of values item) (levels_of new_values item)
    → ((before after : List Interval) → IsChange found before after → Reaches (followed nodes item before after) nodes marks new_marks threads new_threads s new)
    → Delivers (λ state. become nodes item (drives state.values) (forces state.values) state) (net_of nodes values marks) (net_of nodes new_values new_marks) threads new_threads s new
unfolding become
parts-followed nodes item drives forces values new_values marks new_marks threads new_threads s new found fits is changed follow =
    let set_values = with_parts item (drives values) (forces values) values in
    let reaches : Reaches (followed nodes item (levels_of values item) (levels_of set_values item)) nodes marks new_marks threads new_threads s new =
    subst (λ (v : NetValues). Reaches (followed nodes item (levels_of values item) (levels_of v item)) nodes marks new_marks threads new_threads s new) is (follow (levels_of values item) (levels_of new_values item) changed) in
    let done = reaches.delivers set_values (fits-values set_values (net_of nodes values marks) threads s refl fits) in
    let whole : Delivers (λ state. become nodes item (drives state.values) (forces state.values) state) (net_of nodes values marks) (net_of nodes set_values new_marks) threads new_threads s new = record {
      state = record {
        shown = λ state e.
            ap (λ (v : NetValues). in_turn_of (followed nodes item (levels_of v item) (levels_of (with_parts item (drives v) (forces v) v) item) (with_values (with_parts item (drives v) (forces v) v) state))) (ap (λ (old : State). old.values) e)
            ∙ done.state.shown (with_values set_values state) (ap (with_values set_values) e);
      };
      fits = done.fits;
      keeps = record { nodes = done.keeps.nodes; keys = done.keeps.keys; now = done.keeps.now; places = done.keeps.places };
    } in
    subst (λ (v : NetValues). Delivers (λ state. become nodes item (drives state.values) (forces state.values) state) (net_of nodes values marks) (net_of nodes v new_marks) threads new_threads s new) (sym is) whole

-- with other values that fit, marks may fit
pub fit-parts : (nodes : List Node) (item : ℕ) (driven : List Interval) (forced : List (Option Interval)) (values : NetValues) (marks : List Bool) (threads : KeyedTable) (s : Schedule) → Fits (net_of nodes values marks) threads s → MayFit nodes marks threads s
fit-parts nodes item driven forced values marks threads s fits = record { values = values; fits = fits }

-- ---- forcing and releasing

pub force-followed : (nodes : List Node) (item : ℕ) (value : List Bit) (values new_values : NetValues) (marks new_marks : List Bool) (threads new_threads : KeyedTable) (s new : Schedule) (found : Option Change)
    → Fits (net_of nodes values marks) threads s
    → new_values ≡ with_parts (root_of nodes item) (driven_of values (root_of nodes item)) (map Some (strongly value)) values
    → IsChange found (levels_of values (root_of nodes item)) (levels_of new_values (root_of nodes item))
    → ((before after : List Interval) → IsChange found before after → Reaches (followed nodes (root_of nodes item) before after) nodes marks new_marks threads new_threads s new)
    → Delivers (force nodes item value) (net_of nodes values marks) (net_of nodes new_values new_marks) threads new_threads s new
unfolding force
force-followed nodes item value values new_values marks new_marks threads new_threads s new found fits is changed follow =
    parts-followed nodes (root_of nodes item) (λ v. driven_of v (root_of nodes item)) (λ v. map Some (strongly value)) values new_values marks new_marks threads new_threads s new found fits is changed follow

pub release-followed : (nodes : List Node) (item base width : ℕ) (keep : Bool) (values new_values : NetValues) (marks new_marks : List Bool) (threads new_threads : KeyedTable) (s new : Schedule) (found : Option Change)
    → Fits (net_of nodes values marks) threads s
    → new_values ≡ with_parts (root_of nodes item) (driven_after base width keep values (root_of nodes item)) (map (forced_after base width) (enumerate_from 0 (forced_of values (root_of nodes item)))) values
    → IsChange found (levels_of values (root_of nodes item)) (levels_of new_values (root_of nodes item))
    → ((before after : List Interval) → IsChange found before after → Reaches (followed nodes (root_of nodes item) before after) nodes marks new_marks threads new_threads s new)
    → Delivers (release nodes item base width keep) (net_of nodes values marks) (net_of nodes new_values new_marks) threads new_threads s new
unfolding release
release-followed nodes item base width keep values new_values marks new_marks threads new_threads s new found fits is changed follow =
    parts-followed nodes (root_of nodes item) (λ v. driven_after base width keep v (root_of nodes item)) (λ v. map (forced_after base width) (enumerate_from 0 (forced_of v (root_of nodes item)))) values new_values marks new_marks threads new_threads s new found fits is changed follow

-- ---- assignments

pub assign-delivers : (nodes : List Node) (item : ℕ) (offset : ℤ) (value : List Bit) (net new_net : NetNow) (threads new_threads : KeyedTable) (s new : Schedule)
    → Delivers (change nodes item (strongly (overlaid (seen (driven_of net.values item)) offset value))) net new_net threads new_threads s new
    → Delivers (variable_assigned nodes item offset value) net new_net threads new_threads s new
assign-delivers nodes item offset value net new_net threads new_threads s new d =
    delivers-values (λ v. change nodes item (strongly (overlaid (seen (driven_of v item)) offset value))) net new_net threads new_threads s new d

pub write-variable : (nodes : List Node) (item word : ℕ) (offset : ℤ) (value : List Bit) (integer : Bool) (net new_net : NetNow) (threads new_threads : KeyedTable) (s new : Schedule) → kind_of nodes item ≡ Some (Var integer)
    → Delivers (variable_assigned nodes item offset value) net new_net threads new_threads s new → Delivers (write nodes item word offset value) net new_net threads new_threads s new
unfolding write
write-variable nodes item word offset value integer net new_net threads new_threads s new is d =
    subst (λ (k : Option ItemKind). Delivers (assigned nodes item word offset value k) net new_net threads new_threads s new) (sym is) d

pub write-array : (nodes : List Node) (item word : ℕ) (offset : ℤ) (value : List Bit) (words : ℕ) (values new_values : NetValues) (marks : List Bool) (threads : KeyedTable) (s : Schedule) → kind_of nodes item ≡ Some (Array words)
    → Fits (net_of nodes values marks) threads s → new_values ≡ with_word item word (overlaid (get_or (array_of values item) word []) offset value) values
    → Delivers (write nodes item word offset value) (net_of nodes values marks) (net_of nodes new_values marks) threads threads s s
unfolding write
write-array nodes item word offset value words values new_values marks threads s is fits set_is =
    subst (λ (k : Option ItemKind). Delivers (assigned nodes item word offset value k) (net_of nodes values marks) (net_of nodes new_values marks) threads threads s s) (sym is)
    (subst (λ (v : NetValues). Delivers (word_assigned item word offset value) (net_of nodes values marks) (net_of nodes v marks) threads threads s s) (sym set_is) (delivers-word item word offset value (net_of nodes values marks) threads s fits))

-- what may be written is a variable or an array
pub writable-variable : (values : NetValues) (item word : ℕ) (kind : ItemKind) → IsWritable values item word (Some kind) → ((words : ℕ) → kind ≡ Array words → ⊥) → (integer : Bool) × (kind ≡ Var integer)
writable-variable values item word (Var integer) h other = (integer, refl)
writable-variable values item word (Array words) h other = absurd (other words refl)
writable-variable values item word (Net root) h other = absurd h
writable-variable values item word (Functor gate drive ports) h other = absurd h
writable-variable values item word (Delay rise fall decay port) h other = absurd h
writable-variable values item word (Edge edge ports) h other = absurd h
writable-variable values item word Named h other = absurd h
writable-variable values item word (AnyOf events) h other = absurd h
writable-variable values item word (Scope scope) h other = absurd h
writable-variable values item word Param h other = absurd h

-- ---- net delays

-- a request is made, and a due put
pub postpone-delivers : (item ticks : ℕ) (wanted : List Interval) (serial : ℕ) (kept : Option (List Interval)) (nodes : List Node) (values new_values : NetValues) (marks : List Bool) (threads : KeyedTable) (s new : Schedule)
    → Fits (net_of nodes values marks) threads s → HasRuns threads (evals_lacking nodes s.dues + 1) s → IsDelay (kind_of nodes item)
    → new_values ≡ with_request item (record { serial = serial; kept = Some wanted }) values
    → new ≡ put_due s (record { time = later s.now ticks; region = Active; act = Mature item serial })
    → Delivers (postponed item ticks wanted (record { serial = serial; kept = kept })) (net_of nodes values marks) (net_of nodes new_values marks) threads threads s new
postpone-delivers item ticks wanted serial kept nodes values new_values marks threads s new fits more delay set_is put_is =
    let request : Request = record { serial = serial; kept = Some wanted } in
    let due : Due = record { time = later s.now ticks; region = Active; act = Mature item serial } in
    let set_net = net_of nodes (with_request item request values) marks in
    let first = delivers-request item request (net_of nodes values marks) threads s fits in
    let second : Delivers (put_in due) set_net set_net threads threads s (put_due s due) = delivers-put due set_net threads s first.fits (λ i. refl) (λ i. refl) tt delay more in
    let both : Delivers (λ state. put_in due (with_values (with_request item request state.values) state)) (net_of nodes values marks) set_net threads threads s (put_due s due) =
    delivers-then (λ state. with_values (with_request item request state.values) state) (put_in due) (net_of nodes values marks) set_net set_net threads threads threads s s (put_due s due) first second in
    let timed = delivers-now (λ now state. put_in (record { time = later now ticks; region = Active; act = Mature item serial }) (with_values (with_request item request state.values) state)) (net_of nodes values marks) set_net threads threads s (put_due s due) both in
    subst (λ (v : NetValues). Delivers (postponed item ticks wanted (record { serial = serial; kept = kept })) (net_of nodes values marks) (net_of nodes v marks) threads threads s new) (sym set_is)
    (subst (λ (x : Schedule). Delivers (postponed item ticks wanted (record { serial = serial; kept = kept })) (net_of nodes values marks) set_net threads threads s x) (sym put_is) timed)

-- after so many ticks
pub later-delivers : (nodes : List Node) (item ticks : ℕ) (wanted : List Interval) (request : Request) (net new_net : NetNow) (threads new_threads : KeyedTable) (s new : Schedule) → 0 < ticks
    → Delivers (postponed item ticks wanted request) net new_net threads new_threads s new → Delivers (follows_after nodes item ticks wanted request) net new_net threads new_threads s new
later-delivers nodes item ticks wanted request net new_net threads new_threads s new some d =
    let is : nat_lt 0 ticks ≡ true = grind (arith, nat_tests) in
    subst (λ (b : Bool). Delivers (λ state. if b then postponed item ticks wanted request state else change nodes item wanted (with_values (with_request item request state.values) state)) net new_net threads new_threads s new) (sym is) d

-- at once
pub now-delivers : (nodes : List Node) (item ticks : ℕ) (wanted : List Interval) (request : Request) (values set_values : NetValues) (marks : List Bool) (new_net : NetNow) (threads new_threads : KeyedTable) (s new : Schedule) → ticks ≡ 0
    → Fits (net_of nodes values marks) threads s → set_values ≡ with_request item request values
    → Delivers (change nodes item wanted) (net_of nodes set_values marks) new_net threads new_threads s new → Delivers (follows_after nodes item ticks wanted request) (net_of nodes values marks) new_net threads new_threads s new
now-delivers nodes item ticks wanted request values set_values marks new_net threads new_threads s new none fits set_is d =
    let is : nat_lt 0 ticks ≡ false = grind (arith, nat_tests) in
    let first = delivers-request item request (net_of nodes values marks) threads s fits in
    let second = subst (λ (v : NetValues). Delivers (change nodes item wanted) (net_of nodes v marks) new_net threads new_threads s new) set_is d in
    let both = delivers-then (λ state. with_values (with_request item request state.values) state) (change nodes item wanted) (net_of nodes values marks) (net_of nodes (with_request item request values) marks) new_net threads threads new_threads s s new first second in
    subst (λ (b : Bool). Delivers (λ state. if b then postponed item ticks wanted request state else change nodes item wanted (with_values (with_request item request state.values) state)) (net_of nodes values marks) new_net threads new_threads s new) (sym is) both

-- the request of the next number is made
abbrev anew : List Node → ℕ → Times → List Interval → NetValues → State → State
anew nodes item times wanted values state =
    let request = next_request (request_of values item) in
    let driven = driven_of values item in
    if same_levels wanted driven then with_values (with_request item request state.values) state
    else follows_after nodes item (time_between times driven wanted) wanted request state

pub anew-same : (nodes : List Node) (item : ℕ) (times : Times) (wanted : List Interval) (request : Request) (values new_values : NetValues) (marks : List Bool) (threads : KeyedTable) (s : Schedule)
    → Fits (net_of nodes values marks) threads s → same_levels wanted (driven_of values item) ≡ true → request ≡ next_request (request_of values item) → new_values ≡ with_request item request values
    → Delivers (asked_anew nodes item times wanted) (net_of nodes values marks) (net_of nodes new_values marks) threads threads s s
anew-same nodes item times wanted request values new_values marks threads s fits same is set_is =
    let net = net_of nodes values marks in
    let next = next_request (request_of values item) in
    let at : Delivers (anew nodes item times wanted values) net (net_of nodes (with_request item next values) marks) threads threads s s =
    subst (λ (b : Bool). Delivers (λ state. if b then with_values (with_request item next state.values) state else follows_after nodes item (time_between times (driven_of values item) wanted) wanted next state) net (net_of nodes (with_request item next values) marks) threads threads s s) (sym same) (delivers-request item next net threads s fits) in
    let whole = delivers-values (anew nodes item times wanted) net (net_of nodes (with_request item next values) marks) threads threads s s at in
    subst (λ (v : NetValues). Delivers (asked_anew nodes item times wanted) net (net_of nodes v marks) threads threads s s) (sym (set_is ∙ ap (λ (r : Request). with_request item r values) is)) whole

pub anew-other : (nodes : List Node) (item : ℕ) (times : Times) (wanted : List Interval) (ticks : ℕ) (request : Request) (net new_net : NetNow) (threads new_threads : KeyedTable) (s new : Schedule)
    → same_levels wanted (driven_of net.values item) ≡ false → request ≡ next_request (request_of net.values item) → ticks ≡ time_between times (driven_of net.values item) wanted
    → Delivers (follows_after nodes item ticks wanted request) net new_net threads new_threads s new → Delivers (asked_anew nodes item times wanted) net new_net threads new_threads s new
anew-other nodes item times wanted ticks request net new_net threads new_threads s new other is time d =
    let next = next_request (request_of net.values item) in
    let done : Delivers (follows_after nodes item (time_between times (driven_of net.values item) wanted) wanted next) net new_net threads new_threads s new =
    subst (λ (n : ℕ). Delivers (follows_after nodes item n wanted next) net new_net threads new_threads s new) time (subst (λ (r : Request). Delivers (follows_after nodes item ticks wanted r) net new_net threads new_threads s new) is d) in
    let at : Delivers (anew nodes item times wanted net.values) net new_net threads new_threads s new =
    subst (λ (b : Bool). Delivers (λ state. if b then with_values (with_request item next state.values) state else follows_after nodes item (time_between times (driven_of net.values item) wanted) wanted next state) net new_net threads new_threads s new) (sym other) done in
    delivers-values (anew nodes item times wanted) net new_net threads new_threads s new at

pub asked-kept : (nodes : List Node) (item : ℕ) (times : Times) (wanted : List Interval) (kept : Option (List Interval)) (net : NetNow) (threads : KeyedTable) (s : Schedule)
    → Fits net threads s → keeps wanted kept ≡ true → Delivers (asked nodes item times wanted kept) net net threads threads s s
asked-kept nodes item times wanted None net threads s fits is = absurd (let never : false ≡ true = is in cc)
asked-kept nodes item times wanted (Some kept) net threads s fits is =
    subst (λ (b : Bool). Delivers (λ state. if b then state else asked_anew nodes item times wanted state) net net threads threads s s) (sym is) (delivers-none net threads s fits)

pub asked-other : (nodes : List Node) (item : ℕ) (times : Times) (wanted : List Interval) (kept : Option (List Interval)) (net new_net : NetNow) (threads new_threads : KeyedTable) (s new : Schedule)
    → keeps wanted kept ≡ false → Delivers (asked_anew nodes item times wanted) net new_net threads new_threads s new → Delivers (asked nodes item times wanted kept) net new_net threads new_threads s new
asked-other nodes item times wanted None net new_net threads new_threads s new is d = d
asked-other nodes item times wanted (Some kept) net new_net threads new_threads s new is d =
    subst (λ (b : Bool). Delivers (λ state. if b then state else asked_anew nodes item times wanted state) net new_net threads new_threads s new) (sym is) d

-- ---- a request's time has come

abbrev matures : List Node → ℕ → ℕ → NetValues → State → State
matures nodes item serial values state =
    let request = request_of values item in
    if nat_eq request.serial serial then matured nodes item request request.kept state else state

pub mature-late : (nodes : List Node) (item serial : ℕ) (net : NetNow) (threads : KeyedTable) (s : Schedule) → Fits net threads s → nat_eq (request_of net.values item).serial serial ≡ false
    → Delivers (mature nodes item serial) net net threads threads s s
unfolding mature
mature-late nodes item serial net threads s fits other =
    let request = request_of net.values item in
    delivers-values (matures nodes item serial) net net threads threads s s
    (subst (λ (b : Bool). Delivers (λ state. if b then matured nodes item request request.kept state else state) net net threads threads s s) (sym other) (delivers-none net threads s fits))

pub mature-empty : (nodes : List Node) (item serial : ℕ) (net : NetNow) (threads : KeyedTable) (s : Schedule) → Fits net threads s → nat_eq (request_of net.values item).serial serial ≡ true → (request_of net.values item).kept ≡ None
    → Delivers (mature nodes item serial) net net threads threads s s
unfolding mature
mature-empty nodes item serial net threads s fits same none =
    let request = request_of net.values item in
    delivers-values (matures nodes item serial) net net threads threads s s
    (subst (λ (b : Bool). Delivers (λ state. if b then matured nodes item request request.kept state else state) net net threads threads s s) (sym same)
    (subst (λ (k : Option (List Interval)). Delivers (matured nodes item request k) net net threads threads s s) (sym none) (delivers-none net threads s fits)))

pub mature-due : (nodes : List Node) (item serial : ℕ) (kept : List Interval) (values set_values : NetValues) (marks : List Bool) (new_net : NetNow) (threads new_threads : KeyedTable) (s new : Schedule)
    → Fits (net_of nodes values marks) threads s → nat_eq (request_of values item).serial serial ≡ true → (request_of values item).kept ≡ Some kept
    → set_values ≡ with_request item (record (request_of values item) { kept = None }) values
    → Delivers (change nodes item kept) (net_of nodes set_values marks) new_net threads new_threads s new → Delivers (mature nodes item serial) (net_of nodes values marks) new_net threads new_threads s new
unfolding mature
mature-due nodes item serial kept values set_values marks new_net threads new_threads s new fits same is set_is d =
    let net = net_of nodes values marks in
    let request = request_of values item in
    let empty : Request = record request { kept = None } in
    let first = delivers-request item empty net threads s fits in
    let second = subst (λ (v : NetValues). Delivers (change nodes item kept) (net_of nodes v marks) new_net threads new_threads s new) set_is d in
    let both : Delivers (matured nodes item request (Some kept)) net new_net threads new_threads s new =
    delivers-then (λ state. with_values (with_request item empty state.values) state) (change nodes item kept) net (net_of nodes (with_request item empty values) marks) new_net threads threads new_threads s s new first second in
    delivers-values (matures nodes item serial) net new_net threads new_threads s new
    (subst (λ (b : Bool). Delivers (λ state. if b then matured nodes item request request.kept state else state) net new_net threads new_threads s new) (sym same)
    (subst (λ (k : Option (List Interval)). Delivers (matured nodes item request k) net new_net threads new_threads s new) (sym is) both))

-- ---- evaluating

-- a gate drives its output
pub eval-gate : (nodes : List Node) (item : ℕ) (node : Node) (levels : List Interval) (net new_net : NetNow) (threads new_threads : KeyedTable) (s new : Schedule) → slice_get nodes item ≡ Some node
    → ((rise fall decay port : ℕ) → node.what ≡ Delay rise fall decay port → ⊥) → levels ≡ output_of nodes net.values node
    → Delivers (change nodes item levels) net new_net threads new_threads s new → Delivers (eval nodes item) net new_net threads new_threads s new
unfolding eval
eval-gate nodes item node levels net new_net threads new_threads s new at gate is d =
    subst (λ (o : Option Node). Delivers (row_evaluated nodes item o) net new_net threads new_threads s new) (sym at) (by_kind node.what refl)
  where
    out : Delivers (λ state. change nodes item (output_of nodes state.values node) state) net new_net threads new_threads s new
    out = delivers-values (λ v. change nodes item (output_of nodes v node)) net new_net threads new_threads s new (subst (λ (l : List Interval). Delivers (change nodes item l) net new_net threads new_threads s new) is d)

    by_kind : (kind : ItemKind) → node.what ≡ kind → Delivers (evaluated nodes item node kind) net new_net threads new_threads s new
    by_kind (Delay rise fall decay port) e = absurd (gate rise fall decay port e)
    by_kind (Var integer) e = out
    by_kind (Net root) e = out
    by_kind (Functor kind drive ports) e = out
    by_kind (Edge edge ports) e = out
    by_kind Named e = out
    by_kind (AnyOf events) e = out
    by_kind (Array words) e = out
    by_kind (Scope scope) e = out
    by_kind Param e = out

-- a net delay is asked for what its port has
pub eval-delay : (nodes : List Node) (item : ℕ) (node : Node) (rise fall decay port : ℕ) (wanted : List Interval) (kept : Option (List Interval)) (net new_net : NetNow) (threads new_threads : KeyedTable) (s new : Schedule) → slice_get nodes item ≡ Some node
    → node.what ≡ Delay rise fall decay port → wanted ≡ value_of nodes net.values port → kept ≡ (request_of net.values item).kept
    → Delivers (asked nodes item (record { rise = rise; fall = fall; decay = decay }) wanted kept) net new_net threads new_threads s new → Delivers (eval nodes item) net new_net threads new_threads s new
unfolding eval
eval-delay nodes item node rise fall decay port wanted kept net new_net threads new_threads s new at is wants keeps_it d =
    let times : Times = record { rise = rise; fall = fall; decay = decay } in
    let now : Delivers (asked nodes item times (value_of nodes net.values port) (request_of net.values item).kept) net new_net threads new_threads s new =
    subst (λ (k : Option (List Interval)). Delivers (asked nodes item times (value_of nodes net.values port) k) net new_net threads new_threads s new) keeps_it (subst (λ (w : List Interval). Delivers (asked nodes item times w kept) net new_net threads new_threads s new) wants d) in
    subst (λ (o : Option Node). Delivers (row_evaluated nodes item o) net new_net threads new_threads s new) (sym at)
    (subst (λ (k : ItemKind). Delivers (evaluated nodes item node k) net new_net threads new_threads s new) (sym is)
    (delivers-values (λ v. asked nodes item times (value_of nodes v port) (request_of v item).kept) net new_net threads new_threads s new now))
