-- What a call on a net does, from what the calls on its parts say.
use Rattle.std.proofs.Common.{◌≡◌, ◌≢◌, ℕ, ◌+◌, ◌-◌, ◌^◌, ◌<◌, ◌≤◌, ℤ, Bool, true, false, nat_eq, Option, Some, None, List, [], ◌++◌, length, map, get_or, take, drop, slice_get, refl, sym, ap, subst, ◌∙◌, arith}
use Rattle.std.specs.Prelude.{min}
use Rattle.std.specs.List.{enumerate_from}
use Rattle.std.specs.Option.{ForSome}
use Rattle.std.proofs.lemmas.Bool.Decides.{nat_tests}
use Rattle.std.proofs.lemmas.List.{length-map}
use Rattle.std.proofs.lemmas.Option.{same_Some}
use Rattle.event_pool.specs.declared.agenda.Due.{Due}
use Rattle.event_pool.specs.declared.agenda.Act.TheVariants.{Mature}
use Rattle.event_pool.specs.declared.agenda.Region.TheVariants.{Active}
use Rattle.event_pool.specs.Schedule.{Schedule, put_due}
use Rattle.four_state.specs.declared.bits.Bit.{Bit}
use Rattle.four_state.specs.Vector.{overlaid}
use Rattle.strengths.specs.Interval.{Interval}
use Rattle.vvp_threads.specs.Keyed.{KeyedTable}
use Rattle.vvp_threads.specs.Runs.{HasRuns}
use Rattle.sym_link.specs.declared.program.Program.{Program}
use Rattle.sym_link.specs.declared.program.ItemKind.{ItemKind}
use Rattle.sym_link.specs.declared.program.ItemKind.TheVariants.{Var, Net, Functor, Edge, Named, AnyOf, Array, Scope, Param, Delay}
use Rattle.sym_link.specs.Roots.{Node, node_of, nodes_of, kind_of, root_of}
use Rattle.sym_link.specs.Sound.{IsProgram, IsKind, is_value_kind}
use Rattle.net_engine.specs.declared.store.Change.{Change}
use Rattle.net_engine.specs.Net.{NetValues, Request, driven_of, forced_of, levels_of, array_of, request_of, value_of, output_of, strongly, with_parts, with_word, with_request, first_values}
use Rattle.net_engine.specs.Delivery.{change, force, release, trigger, write, mature, eval, asked, postponed, follows_after, driven_after, forced_after}
use Rattle.net_engine.specs.Kept.{NetNow, Fits, Delivers, IsDelay, IsWritable, has_output, evals_lacking}
use Rattle.net_engine.specs.Parts.{IsNet, IsLinked, AreWide, IsChange, Reaches, HasLevels, HasValue, IsGateKind, has_value, followed, net_of}
use Rattle.net_engine.proofs.LinkedLemmas.{node-of-kind, item-at, item-sound, such-within}
use Rattle.net_engine.proofs.RootLemmas.{rooted, own-width, levels-such}
use Rattle.net_engine.proofs.StepLemmas.{refilled}
use Rattle.net_engine.proofs.WideLemmas.{wide-word, wide-first}
use Rattle.net_engine.proofs.NetLemmas.{parts-followed, force-followed, release-followed, postpone-delivers, now-delivers, mature-late, mature-empty, mature-due, write-array, eval-delay, eval-gate, delivers-marks, writable-variable}
use Rattle.net_engine.proofs.SoundLemmas.{net-parts, value-driven}

-- marks that were lent and changed
pub marks-whole : (len : ℕ) (marks lent new_marks : List Bool) → len ≡ length marks → lent ≡ marks → length new_marks ≡ length lent → take len (new_marks ++ drop (length new_marks) marks) ≡ new_marks
marks-whole len marks lent new_marks long same count = refilled len marks new_marks long (count ∙ ap length same)

-- the net is one after parts were set and marks changed
pub call-net : (nodes : List Node) (values new_values : NetValues) (marks lent new_marks : List Bool) (len item : ℕ) (levels : List Interval) (forced : List (Option Interval)) → IsNet nodes values marks
    → len ≡ length marks → lent ≡ marks → length new_marks ≡ length lent → new_values ≡ with_parts item levels forced values → length levels ≡ length (driven_of values item) → length forced ≡ length levels
    → IsNet nodes new_values (take len (new_marks ++ drop (length new_marks) marks))
call-net nodes values new_values marks lent new_marks len item levels forced net long same count is width places =
    net-parts nodes values new_values marks (take len (new_marks ++ drop (length new_marks) marks)) item levels forced net is width places
    (ap length (marks-whole len marks lent new_marks long same count) ∙ count ∙ ap length same ∙ net.marked)

-- what follows from parts that were set
abbrev pub Follows : Option Change → List Node → ℕ → List Bool → List Bool → KeyedTable → KeyedTable → Schedule → Schedule → Type 0
Follows found nodes item lent new_marks threads new_threads s new =
    (before after : List Interval) → IsChange found before after → Reaches (followed nodes item before after) nodes lent new_marks threads new_threads s new

follow-marks : (found : Option Change) (nodes : List Node) (item : ℕ) (marks lent new_marks : List Bool) (threads new_threads : KeyedTable) (s new : Schedule) → lent ≡ marks → Follows found nodes item lent new_marks threads new_threads s new
    → Follows found nodes item marks new_marks threads new_threads s new
follow-marks found nodes item marks lent new_marks threads new_threads s new same follow =
    λ before after is. subst (λ (ms : List Bool). Reaches (followed nodes item before after) nodes ms new_marks threads new_threads s new) same (follow before after is)

pub change-call : (net : NetNow) (nodes : List Node) (values new_values : NetValues) (marks lent new_marks : List Bool) (len item : ℕ) (levels : List Interval) (threads new_threads : KeyedTable) (s new : Schedule) (found : Option Change)
    → net_of nodes values marks ≡ net → Fits net threads s → len ≡ length marks → lent ≡ marks → length new_marks ≡ length lent
    → new_values ≡ with_parts item levels (forced_of values item) values → IsChange found (levels_of values item) (levels_of new_values item) → Follows found nodes item lent new_marks threads new_threads s new
    → Delivers (change net.nodes item levels) net (net_of nodes new_values (take len (new_marks ++ drop (length new_marks) marks))) threads new_threads s new
change-call net nodes values new_values marks lent new_marks len item levels threads new_threads s new found view fits long same count is changed follow =
    subst (λ (n : NetNow). Delivers (change n.nodes item levels) n (net_of nodes new_values (take len (new_marks ++ drop (length new_marks) marks))) threads new_threads s new) view
    (subst (λ (ms : List Bool). Delivers (change nodes item levels) (net_of nodes values marks) (net_of nodes new_values ms) threads new_threads s new) (sym (marks-whole len marks lent new_marks long same count))
    (parts-followed nodes item (λ v. levels) (λ v. forced_of v item) values new_values marks new_marks threads new_threads s new found (subst (λ (n : NetNow). Fits n threads s) (sym view) fits) is changed
    (follow-marks found nodes item marks lent new_marks threads new_threads s new same follow)))

pub force-call : (net : NetNow) (nodes : List Node) (values new_values : NetValues) (marks lent new_marks : List Bool) (len item root : ℕ) (value : List Bit) (threads new_threads : KeyedTable) (s new : Schedule) (found : Option Change)
    → net_of nodes values marks ≡ net → Fits net threads s → len ≡ length marks → lent ≡ marks → length new_marks ≡ length lent → root ≡ root_of nodes item
    → new_values ≡ with_parts root (driven_of values root) (map Some (strongly value)) values → IsChange found (levels_of values root) (levels_of new_values root) → Follows found nodes root lent new_marks threads new_threads s new
    → Delivers (force net.nodes item value) net (net_of nodes new_values (take len (new_marks ++ drop (length new_marks) marks))) threads new_threads s new
force-call net nodes values new_values marks lent new_marks len item root value threads new_threads s new found view fits long same count at is changed follow =
    let r = root_of nodes item in
    subst (λ (n : NetNow). Delivers (force n.nodes item value) n (net_of nodes new_values (take len (new_marks ++ drop (length new_marks) marks))) threads new_threads s new) view
    (subst (λ (ms : List Bool). Delivers (force nodes item value) (net_of nodes values marks) (net_of nodes new_values ms) threads new_threads s new) (sym (marks-whole len marks lent new_marks long same count))
    (force-followed nodes item value values new_values marks new_marks threads new_threads s new found (subst (λ (n : NetNow). Fits n threads s) (sym view) fits)
    (subst (λ (k : ℕ). new_values ≡ with_parts k (driven_of values k) (map Some (strongly value)) values) at is)
    (subst (λ (k : ℕ). IsChange found (levels_of values k) (levels_of new_values k)) at changed)
    (subst (λ (k : ℕ). Follows found nodes k marks new_marks threads new_threads s new) at (follow-marks found nodes root marks lent new_marks threads new_threads s new same follow))))

pub release-call : (net : NetNow) (nodes : List Node) (values new_values : NetValues) (marks lent new_marks : List Bool) (len item root base width : ℕ) (keep : Bool) (threads new_threads : KeyedTable) (s new : Schedule) (found : Option Change)
    → net_of nodes values marks ≡ net → Fits net threads s → len ≡ length marks → lent ≡ marks → length new_marks ≡ length lent → root ≡ root_of nodes item
    → new_values ≡ with_parts root (driven_after base width keep values root) (map (forced_after base width) (enumerate_from 0 (forced_of values root))) values → IsChange found (levels_of values root) (levels_of new_values root)
    → Follows found nodes root lent new_marks threads new_threads s new
    → Delivers (release net.nodes item base width keep) net (net_of nodes new_values (take len (new_marks ++ drop (length new_marks) marks))) threads new_threads s new
release-call net nodes values new_values marks lent new_marks len item root base width keep threads new_threads s new found view fits long same count at is changed follow =
    subst (λ (n : NetNow). Delivers (release n.nodes item base width keep) n (net_of nodes new_values (take len (new_marks ++ drop (length new_marks) marks))) threads new_threads s new) view
    (subst (λ (ms : List Bool). Delivers (release nodes item base width keep) (net_of nodes values marks) (net_of nodes new_values ms) threads new_threads s new) (sym (marks-whole len marks lent new_marks long same count))
    (release-followed nodes item base width keep values new_values marks new_marks threads new_threads s new found (subst (λ (n : NetNow). Fits n threads s) (sym view) fits)
    (subst (λ (k : ℕ). new_values ≡ with_parts k (driven_after base width keep values k) (map (forced_after base width) (enumerate_from 0 (forced_of values k))) values) at is)
    (subst (λ (k : ℕ). IsChange found (levels_of values k) (levels_of new_values k)) at changed)
    (subst (λ (k : ℕ). Follows found nodes k marks new_marks threads new_threads s new) at (follow-marks found nodes root marks lent new_marks threads new_threads s new same follow))))

-- a net whose events were triggered
pub trigger-call : (net : NetNow) (nodes : List Node) (values : NetValues) (marks : List Bool) (event : ℕ) (threads new_threads : KeyedTable) (s new : Schedule) → net_of nodes values marks ≡ net → Fits net threads s
    → Reaches (trigger nodes event) nodes marks marks threads new_threads s new → Delivers (trigger net.nodes event) net net threads new_threads s new
trigger-call net nodes values marks event threads new_threads s new view fits reaches =
    subst (λ (n : NetNow). Delivers (trigger n.nodes event) n n threads new_threads s new) view (reaches.delivers values (subst (λ (n : NetNow). Fits n threads s) (sym view) fits))

-- ---- requests

pub none-kept : (request : Request) (n : ℕ) → request.kept ≡ None → ForSome request.kept (λ kept. length kept ≡ n)
none-kept request n none = λ kept is. absurd (let never : None ≡ Some kept = sym none ∙ is in cc)

pub some-kept : (wanted : List Interval) (n : ℕ) → length wanted ≡ n → ForSome (Some wanted) (λ kept. length kept ≡ n)
some-kept wanted n same = λ kept is. ap length (same_Some kept wanted (sym is)) ∙ same

pub postpone-call : (net : NetNow) (nodes : List Node) (values new_values : NetValues) (marks : List Bool) (item ticks now time serial : ℕ) (wanted : List Interval) (kept : Option (List Interval)) (threads : KeyedTable) (s new : Schedule)
    → net_of nodes values marks ≡ net → Fits net threads s → HasRuns threads (evals_lacking net.nodes s.dues + 1) s → IsDelay (kind_of net.nodes item)
    → new_values ≡ with_request item (record { serial = serial; kept = Some wanted }) values → now ≡ s.now → time ≡ min (now + ticks) (2 ^ 64 - 1)
    → new ≡ put_due s (record { time = time; region = Active; act = Mature item serial })
    → Delivers (postponed item ticks wanted (record { serial = serial; kept = kept })) net (net_of nodes new_values marks) threads threads s new
postpone-call net nodes values new_values marks item ticks now time serial wanted kept threads s new view fits more delay is now_is time_is put_is =
    let due : ℕ → Due = λ t. record { time = t; region = Active; act = Mature item serial } in
    subst (λ (n : NetNow). Delivers (postponed item ticks wanted (record { serial = serial; kept = kept })) n (net_of nodes new_values marks) threads threads s new) view
    (postpone-delivers item ticks wanted serial kept nodes values new_values marks threads s new (subst (λ (n : NetNow). Fits n threads s) (sym view) fits)
    (subst (λ (n : NetNow). HasRuns threads (evals_lacking n.nodes s.dues + 1) s) (sym view) more) (subst (λ (n : NetNow). IsDelay (kind_of n.nodes item)) (sym view) delay) is
    (put_is ∙ ap (λ (t : ℕ). put_due s (due t)) (time_is ∙ ap (λ (n : ℕ). min (n + ticks) (2 ^ 64 - 1)) now_is)))

pub now-call : (net new_net : NetNow) (nodes : List Node) (values set_values : NetValues) (marks : List Bool) (item ticks : ℕ) (wanted : List Interval) (request : Request) (threads new_threads : KeyedTable) (s new : Schedule)
    → net_of nodes values marks ≡ net → Fits net threads s → ticks ≡ 0 → set_values ≡ with_request item request values
    → Delivers (change nodes item wanted) (net_of nodes set_values marks) new_net threads new_threads s new → Delivers (follows_after net.nodes item ticks wanted request) net new_net threads new_threads s new
now-call net new_net nodes values set_values marks item ticks wanted request threads new_threads s new view fits none is d =
    subst (λ (n : NetNow). Delivers (follows_after n.nodes item ticks wanted request) n new_net threads new_threads s new) view
    (now-delivers nodes item ticks wanted request values set_values marks new_net threads new_threads s new none (subst (λ (n : NetNow). Fits n threads s) (sym view) fits) is d)

-- ---- requests whose time has come

pub late-call : (net : NetNow) (nodes : List Node) (values : NetValues) (marks : List Bool) (item serial : ℕ) (request : Request) (threads : KeyedTable) (s : Schedule) → net_of nodes values marks ≡ net → Fits net threads s → request ≡ request_of values item
    → (request.serial ≡ serial → ⊥) → Delivers (mature net.nodes item serial) net net threads threads s s
late-call net nodes values marks item serial request threads s view fits is other =
    let apart : nat_eq request.serial serial ≡ false = (let differ : request.serial ≢ serial = other in grind (arith, nat_tests)) in
    subst (λ (n : NetNow). Delivers (mature n.nodes item serial) n n threads threads s s) view
    (mature-late nodes item serial (net_of nodes values marks) threads s (subst (λ (n : NetNow). Fits n threads s) (sym view) fits) (ap (λ (r : Request). nat_eq r.serial serial) (sym is) ∙ apart))

same-serial : (request : Request) (serial : ℕ) → request.serial ≡ serial → nat_eq request.serial serial ≡ true
same-serial request serial same = grind (arith, nat_tests)

pub empty-call : (net : NetNow) (nodes : List Node) (values : NetValues) (marks : List Bool) (item serial : ℕ) (request : Request) (threads : KeyedTable) (s : Schedule) → net_of nodes values marks ≡ net → Fits net threads s → request ≡ request_of values item
    → request.serial ≡ serial → request.kept ≡ None → Delivers (mature net.nodes item serial) net net threads threads s s
empty-call net nodes values marks item serial request threads s view fits is same none =
    subst (λ (n : NetNow). Delivers (mature n.nodes item serial) n n threads threads s s) view
    (mature-empty nodes item serial (net_of nodes values marks) threads s (subst (λ (n : NetNow). Fits n threads s) (sym view) fits) (ap (λ (r : Request). nat_eq r.serial serial) (sym is) ∙ same-serial request serial same)
    (ap (λ (r : Request). r.kept) (sym is) ∙ none))

pub due-call : (net new_net : NetNow) (nodes : List Node) (values set_values : NetValues) (marks : List Bool) (item serial : ℕ) (request : Request) (kept : List Interval) (threads new_threads : KeyedTable) (s new : Schedule) → net_of nodes values marks ≡ net → Fits net threads s
    → request ≡ request_of values item → request.serial ≡ serial → request.kept ≡ Some kept → set_values ≡ with_request item (record { serial = serial; kept = None }) values
    → Delivers (change nodes item kept) (net_of nodes set_values marks) new_net threads new_threads s new → Delivers (mature net.nodes item serial) net new_net threads new_threads s new
due-call net new_net nodes values set_values marks item serial request kept threads new_threads s new view fits is same some set_is d =
    let empty : ℕ → Request = λ n. record { serial = n; kept = None } in
    let number : serial ≡ (request_of values item).serial = sym same ∙ ap (λ (r : Request). r.serial) is in
    subst (λ (n : NetNow). Delivers (mature n.nodes item serial) n new_net threads new_threads s new) view
    (mature-due nodes item serial kept values set_values marks new_net threads new_threads s new (subst (λ (n : NetNow). Fits n threads s) (sym view) fits) (ap (λ (r : Request). nat_eq r.serial serial) (sym is) ∙ same-serial request serial same)
    (ap (λ (r : Request). r.kept) (sym is) ∙ some) (set_is ∙ ap (λ (n : ℕ). with_request item (empty n) values) number) d)

-- ---- words

pub net-word : (nodes : List Node) (values new_values : NetValues) (marks : List Bool) (array word : ℕ) (offset : ℤ) (piece : List Bit) → IsNet nodes values marks
    → new_values ≡ with_word array word (overlaid (get_or (array_of values array) word []) offset piece) values → IsNet nodes new_values marks
net-word nodes values new_values marks array word offset piece net is =
    record { linked = net.linked; wide = subst (AreWide nodes) (sym is) (wide-word nodes values array word offset piece net.wide); marked = net.marked }

pub array-call : (net : NetNow) (nodes : List Node) (values new_values : NetValues) (marks : List Bool) (item word words : ℕ) (offset sent : ℤ) (value : List Bit) (threads : KeyedTable) (s : Schedule) → net_of nodes values marks ≡ net → Fits net threads s
    → kind_of nodes item ≡ Some (Array words) → sent ≡ offset → new_values ≡ with_word item word (overlaid (get_or (array_of values item) word []) sent value) values
    → Delivers (write net.nodes item word offset value) net (net_of nodes new_values marks) threads threads s s
array-call net nodes values new_values marks item word words offset sent value threads s view fits kind same is =
    subst (λ (n : NetNow). Delivers (write n.nodes item word offset value) n (net_of nodes new_values marks) threads threads s s) view
    (write-array nodes item word offset value words values new_values marks threads s kind (subst (λ (n : NetNow). Fits n threads s) (sym view) fits)
    (is ∙ ap (λ (z : ℤ). with_word item word (overlaid (get_or (array_of values item) word []) z value) values) same))

-- ---- evaluations

pub delay-call : (net new_net : NetNow) (nodes : List Node) (values : NetValues) (marks : List Bool) (item rise fall decay port : ℕ) (wanted : List Interval) (threads new_threads : KeyedTable) (s new : Schedule) → net_of nodes values marks ≡ net
    → kind_of nodes item ≡ Some (Delay rise fall decay port) → wanted ≡ value_of nodes values port
    → Delivers (asked nodes item (record { rise = rise; fall = fall; decay = decay }) wanted (request_of values item).kept) (net_of nodes values marks) new_net threads new_threads s new
    → Delivers (eval net.nodes item) net new_net threads new_threads s new
delay-call net new_net nodes values marks item rise fall decay port wanted threads new_threads s new view kind is d =
    let found = node-of-kind nodes item (Delay rise fall decay port) kind in
    subst (λ (n : NetNow). Delivers (eval n.nodes item) n new_net threads new_threads s new) view
    (eval-delay nodes item found.0 rise fall decay port wanted (request_of values item).kept (net_of nodes values marks) new_net threads new_threads s new found.1 found.2 is refl d)

-- a gate is no net delay
gate-of : (k : Option ItemKind) → IsGateKind k → (kind : ItemKind) × (k ≡ Some kind) × ((rise fall decay port : ℕ) → kind ≡ Delay rise fall decay port → ⊥)
gate-of (Some (Functor gate drive ports)) h = (Functor gate drive ports, refl, λ rise fall decay port e. (let never : Functor gate drive ports ≡ Delay rise fall decay port = e in cc))
gate-of (Some (Var integer)) h = absurd h
gate-of (Some (Net root)) h = absurd h
gate-of (Some (Edge kind ports)) h = absurd h
gate-of (Some Named) h = absurd h
gate-of (Some (AnyOf events)) h = absurd h
gate-of (Some (Array words)) h = absurd h
gate-of (Some (Scope scope)) h = absurd h
gate-of (Some Param) h = absurd h
gate-of (Some (Delay rise fall decay port)) h = absurd h
gate-of None h = absurd h

-- a gate was evaluated, and what it drives was changed
pub gate-done : (net new_net : NetNow) (nodes : List Node) (values : NetValues) (marks : List Bool) (item : ℕ) (levels : List Interval) (threads new_threads : KeyedTable) (s new : Schedule) → net_of nodes values marks ≡ net
    → IsGateKind (kind_of net.nodes item) → ((node : Node) → slice_get nodes item ≡ Some node → levels ≡ output_of nodes values node)
    → Delivers (change nodes item levels) (net_of nodes values marks) new_net threads new_threads s new → Delivers (eval net.nodes item) net new_net threads new_threads s new
gate-done net new_net nodes values marks item levels threads new_threads s new view gate gives d =
    let kind = gate-of (kind_of nodes item) (subst (λ (n : NetNow). IsGateKind (kind_of n.nodes item)) (sym view) gate) in
    let found = node-of-kind nodes item kind.0 kind.1 in
    subst (λ (n : NetNow). Delivers (eval n.nodes item) n new_net threads new_threads s new) view
    (eval-gate nodes item found.0 levels (net_of nodes values marks) new_net threads new_threads s new found.1 (λ rise fall decay port e. kind.2 rise fall decay port (sym found.2 ∙ e)) (gives found.0 found.1) d)

-- the mark of an item that was evaluated
pub eval-call : (net new_net : NetNow) (nodes : List Node) (values : NetValues) (marks lent : List Bool) (item : ℕ) (threads new_threads : KeyedTable) (s new : Schedule) → net_of nodes values marks ≡ net
    → Delivers (eval nodes item) (net_of nodes values lent) new_net threads new_threads s new → Delivers (eval net.nodes item) net new_net threads new_threads s new
eval-call net new_net nodes values marks lent item threads new_threads s new view d =
    subst (λ (n : NetNow). Delivers (eval n.nodes item) n new_net threads new_threads s new) view
    (delivers-marks (eval nodes item) lent (net_of nodes values marks) new_net threads new_threads s new d)

-- the port of a net delay
pub delay-port : (nodes : List Node) (values : NetValues) (item rise fall decay port : ℕ) → IsLinked nodes → AreWide nodes values → kind_of nodes item ≡ Some (Delay rise fall decay port)
    → (port < length nodes) × (1 ≤ length (driven_of values (root_of nodes port))) × (length (driven_of values (root_of nodes port)) ≡ length (driven_of values item))
delay-port nodes values item rise fall decay port linked wide kind =
    let program = linked.program in
    let P : List Node → Type 0 = λ ns. (port < length ns) × (1 ≤ length (driven_of values (root_of ns port))) × (length (driven_of values (root_of ns port)) ≡ length (driven_of values item)) in
    let wide_program = subst (λ (ns : List Node). AreWide ns values) (sym linked.same) wide in
    let node = node-of-kind (nodes_of program) item (Delay rise fall decay port) (ap (λ (ns : List Node). kind_of ns item) linked.same ∙ kind) in
    let found = item-at program.items item node.0 node.1 in
    let what : found.0.what ≡ Delay rise fall decay port = ap (λ (n : Node). n.what) (sym found.2) ∙ node.2 in
    let sound : IsKind program found.0 (Delay rise fall decay port) = subst (IsKind program found.0) what (item-sound program item found.0 linked.linked found.1) in
    let r = rooted program values port linked.linked wide_program sound.follows in
    let own = own-width program values item found.0 linked.linked wide_program found.1 (ap has_value what) in
    let inside : port < length (nodes_of program) = omega (arith, length-map program.items node_of, such-within is_value_kind program.items port sound.follows) in
    let width = r.width in
    let least : 1 ≤ length (driven_of values (root_of (nodes_of program) port)) = (let sized = r.sized.0 in omega (arith, width, sized)) in
    subst P linked.same (inside, least, width ∙ sound.same ∙ sym own.0)

-- the root of an item with levels drives at most 128 places
pub levels-most : (nodes : List Node) (values : NetValues) (item : ℕ) → IsLinked nodes → AreWide nodes values → HasLevels (kind_of nodes item) → length (driven_of values (root_of nodes item)) ≤ 128
levels-most nodes values item linked wide h =
    let program = linked.program in
    let r = rooted program values item linked.linked (subst (λ (ns : List Node). AreWide ns values) (sym linked.same) wide) (levels-such program.items item (subst (λ (ns : List Node). HasLevels (kind_of ns item)) (sym linked.same) h)) in
    let width = r.width in
    let most : length (driven_of values (root_of (nodes_of program) item)) ≤ 128 = (let sized = r.sized.1 in omega (arith, width, sized)) in
    subst (λ (ns : List Node). length (driven_of values (root_of ns item)) ≤ 128) linked.same most

-- ---- the start

pub built-net : (program : Program) (nodes : List Node) (values : NetValues) (marks : List Bool) → IsProgram program → nodes ≡ nodes_of program → values ≡ first_values (nodes_of program) → marks ≡ map (λ (node : Node). has_output node.what) (nodes_of program) → IsNet nodes values marks
built-net program nodes values marks linked are start marked = record {
  linked = record { program = program; linked = linked; same = sym are };
  wide = subst (λ (v : NetValues). AreWide nodes v) (sym start) (subst (λ (ns : List Node). AreWide ns (first_values (nodes_of program))) (sym are) (wide-first (nodes_of program)));
  marked = ap length marked ∙ length-map (nodes_of program) (λ (node : Node). has_output node.what) ∙ ap length (sym are);
}

-- what may be written and is no array is a variable
pub variable-there : (nodes : List Node) (values : NetValues) (item word : ℕ) (kind : ItemKind) → IsLinked nodes → AreWide nodes values → kind_of nodes item ≡ Some kind → IsWritable values item word (kind_of nodes item) → ((words : ℕ) → kind ≡ Array words → ⊥)
    → (integer : Bool) × (kind_of nodes item ≡ Some (Var integer)) × (1 ≤ length (driven_of values item))
variable-there nodes values item word kind linked wide is may other =
    let found = writable-variable values item word kind (subst (IsWritable values item word) is may) other in
    let variable : kind_of nodes item ≡ Some (Var found.0) = is ∙ ap (λ (k : ItemKind). Some k) found.1 in
    (found.0, variable, value-driven nodes values item linked wide (subst HasValue (sym variable) refl))
