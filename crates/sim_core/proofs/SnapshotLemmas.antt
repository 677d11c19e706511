-- The lists of a snapshot, element by element.
use Rattle.std.proofs.Common.{◌≡◌, ℕ, zero, suc, ◌+◌, ◌<◌, ◌≤◌, true, Option, Some, None, is_some, List, [], ◌∷◌, ◌++◌, length, map, take, get_or, refl, sym, ap, subst, ◌∙◌, arith}
use Rattle.std.specs.List.{cons_option, enumerate_from, filter_map, slice_get}
use Rattle.std.proofs.lemmas.List.{length-map, map-append, take_all}
use Rattle.std.proofs.lemmas.List.Elements.{filter_map-append}
use Rattle.std.proofs.lemmas.Option.{slice_get_read}
use Rattle.four_state.specs.declared.bits.Bit.{Bit}
use Rattle.strengths.specs.Interval.{Interval}
use Rattle.event_pool.specs.declared.agenda.Due.{Due}
use Rattle.event_pool.specs.Order.{in_order}
use Rattle.event_pool.specs.Pending.{unkeyed}
use Rattle.vvp_threads.specs.declared.thread.Thread.{Thread}
use Rattle.sys_tasks.specs.declared.state.TaskState.{TaskState}
use Rattle.sym_link.specs.declared.program.Item.{Item}
use Rattle.sym_link.specs.declared.program.ItemKind.{ItemKind}
use Rattle.sym_link.specs.declared.program.ItemKind.TheVariants.{Array}
use Rattle.sym_link.specs.Roots.{Node, kind_of, node_of, nodes_of}
use Rattle.net_engine.specs.Net.{NetValues, array_of, words_by, words_of}
use Rattle.net_engine.specs.Parts.{AreWide, HasValue, IsWide, has_value}
use Rattle.net_engine.proofs.MixLemmas.{enumerate-get, enumerate-length, map-get}
use Rattle.sim_core.specs.declared.snapshot.Snapshot.{Snapshot}
use Rattle.sim_core.specs.Engine.{Shown}
use Rattle.sim_core.specs.Kept.{Held, Stands}
use Rattle.sim_core.specs.Snapshot.{driven_at, forced_at, live_threads, request_at, snapshot_of, words_at}
use Rattle.sim_core.proofs.WholeLemmas.{Whole, shown_of}

-- ---- one element more

some-is : {X : Type 0} (x y : X) → Some x ≡ Some y → x ≡ y
some-is x y e = cc

take-next : {X : Type 0} (xs : List X) (i : ℕ) (x : X) → slice_get xs i ≡ Some x → take (suc i) xs ≡ take i xs ++ x ∷ []
take-next [] i x at = absurd (let none : ⊥ = cc in none)
take-next (y ∷ ys) zero x at = ap (λ z. z ∷ []) (some-is y x at)
take-next (y ∷ ys) (suc i) x at = ap (λ zs. y ∷ zs) (take-next ys i x at)

pub take-more : {X : Type 0} (xs : List X) (i : ℕ) (x : X) → slice_get xs i ≡ Some x → take (i + 1) xs ≡ take i xs ++ x ∷ []
take-more xs i x at =
    let next : i + 1 ≡ suc i = omega arith in
    ap (λ n. take n xs) next ∙ take-next xs i x at

pub map-more : {X Y : Type 0} (f : X → Y) (xs : List X) (i : ℕ) (x : X) (done new : List Y) → slice_get xs i ≡ Some x → done ≡ map f (take i xs) → new ≡ done ++ f x ∷ [] → new ≡ map f (take (i + 1) xs)
map-more f xs i x done new at so_far more =
    more ∙ ap (λ ys. ys ++ f x ∷ []) so_far ∙ sym (map-append f (take i xs) (x ∷ [])) ∙ ap (map f) (sym (take-more xs i x at))

pub map-all : {X Y : Type 0} (f : X → Y) (xs : List X) (i : ℕ) (done : List Y) → length xs ≤ i → done ≡ map f (take i xs) → done ≡ map f xs
map-all f xs i done enough so_far = so_far ∙ ap (map f) (take_all i xs enough)

pub filter-more : {X Y : Type 0} (f : X → Option Y) (xs : List X) (i : ℕ) (x : X) (done new : List Y) → slice_get xs i ≡ Some x → done ≡ filter_map f (take i xs) → new ≡ done ++ cons_option (f x) [] → new ≡ filter_map f (take (i + 1) xs)
filter-more f xs i x done new at so_far more =
    more ∙ ap (λ ys. ys ++ cons_option (f x) []) so_far ∙ sym (filter_map-append f (take i xs) (x ∷ [])) ∙ ap (filter_map f) (sym (take-more xs i x at))

pub filter-all : {X Y : Type 0} (f : X → Option Y) (xs : List X) (i : ℕ) (done : List Y) → length xs ≤ i → done ≡ filter_map f (take i xs) → done ≡ filter_map f xs
filter-all f xs i done enough so_far = so_far ∙ ap (filter_map f) (take_all i xs enough)

-- ---- items

-- an item, as the net knows it
node-there : (items : List Item) (nodes : List Node) (i : ℕ) (item : Item) → nodes ≡ map node_of items → i < length items → item ≡ get_or items i item → slice_get nodes i ≡ Some (node_of item)
node-there items nodes i item same within read =
    ap (λ (ns : List Node). slice_get ns i) same ∙ map-get node_of items i item (slice_get_read items (length items) i item refl within read)

pub kind-there : (items : List Item) (nodes : List Node) (i : ℕ) (item : Item) → nodes ≡ map node_of items → i < length items → item ≡ get_or items i item → kind_of nodes i ≡ Some item.what
kind-there items nodes i item same within read =
    ap (λ (n : Option Node). kind_in n) (node-there items nodes i item same within read)
  where
    kind_in : Option Node → Option ItemKind
    kind_in None = None
    kind_in (Some node) = Some node.what

-- with its number
pub numbered : (items : List Item) (nodes : List Node) (i : ℕ) (item : Item) → nodes ≡ map node_of items → i < length items → item ≡ get_or items i item → slice_get (enumerate_from 0 nodes) i ≡ Some (i, node_of item)
numbered items nodes i item same within read =
    let from : 0 + i ≡ i = omega arith in
    enumerate-get nodes 0 i (node_of item) (node-there items nodes i item same within read) ∙ ap (λ k. Some (k, node_of item)) from

pub numbered-all : (items : List Item) (nodes : List Node) (i : ℕ) → nodes ≡ map node_of items → length items ≤ i → length (enumerate_from 0 nodes) ≤ i
numbered-all items nodes i same enough =
    let nodes_are = ap (λ (ns : List Node). length ns) same in
    omega (arith, enumerate-length nodes 0, nodes_are, length-map items node_of, enough)

-- ---- values

pub value-there : (found : Option ItemKind) (kind : ItemKind) → found ≡ Some kind → has_value kind ≡ true → HasValue found
value-there found kind is has = subst (λ (k : Option ItemKind). HasValue k) (sym is) has

-- a node of a kind stands there
node-of_kind : (nodes : List Node) (item : ℕ) (kind : ItemKind) → kind_of nodes item ≡ Some kind → (node : Node) × (slice_get nodes item ≡ Some node) × (node.what ≡ kind)
node-of_kind nodes item kind is = go (slice_get nodes item) refl is
  where
    go : (found : Option Node) → slice_get nodes item ≡ found → kind_of nodes item ≡ Some kind → (node : Node) × (slice_get nodes item ≡ Some node) × (node.what ≡ kind)
    go None at e = absurd (let none : ⊥ = cc in none)
    go (Some node) at e = (node, at, (let same : Some node.what ≡ Some kind = cc in cc))

words-as : (nodes : List Node) (values : NetValues) (item : ℕ) → words_of nodes values item ≡ words_by values item (kind_of nodes item)
unfolding words_of
words-as nodes values item = refl

-- what is read of an array is its words
pub words-are : (nodes : List Node) (values : NetValues) (item words : ℕ) → kind_of nodes item ≡ Some (Array words) → words_of nodes values item ≡ array_of values item
words-are nodes values item words is = words-as nodes values item ∙ ap (words_by values item) is

-- of which there are so many
pub words-many : (nodes : List Node) (values : NetValues) (item words : ℕ) → AreWide nodes values → kind_of nodes item ≡ Some (Array words) → length (array_of values item) ≡ words
words-many nodes values item words wide is =
    let at = node-of_kind nodes item (Array words) is in
    (subst (λ (kind : ItemKind). IsWide values item at.0 kind) at.2 (wide.each item at.0 at.1)).1

pub word-within : (nodes : List Node) (values : NetValues) (item words word : ℕ) → AreWide nodes values → kind_of nodes item ≡ Some (Array words) → word < words → word < length (words_of nodes values item)
word-within nodes values item words word wide is within =
    let many = words-many nodes values item words wide is in
    let same = ap length (words-are nodes values item words is) in
    omega (arith, many, same, within)

-- a live one
pub is-there : {X : Type 0} (found : Option X) → is_some found ≡ true → (x : X) × (found ≡ Some x)
is-there None e = absurd (let none : ⊥ = cc in none)
is-there (Some x) e = (x, refl)

-- ---- all of it

-- the parts of a snapshot, put together
abbrev pub made : ℕ → ℕ → ℕ → ℕ → ℕ → Option ℕ → ℕ → List Due → List Thread → List (List ℕ) → List (List Interval) → List (List (List Bit)) → TaskState → List (ℕ × Option (List Interval)) → List (List (Option Interval)) → Snapshot
made steps peak taken order now running serials dues threads waiting values words tasks delays forced = record {
  now = now;
  steps = steps;
  peak = peak;
  running = running;
  serials = serials;
  dues = dues;
  threads = threads;
  waiting = waiting;
  values = values;
  words = words;
  tasks = tasks;
  delays = delays;
  forced = forced;
  taken = taken;
  order = order;
}

made-same : (steps peak taken order now now' : ℕ) (running running' : Option ℕ) (serials serials' : ℕ) (dues dues' : List Due) (threads threads' : List Thread) (waiting waiting' : List (List ℕ)) (values values' : List (List Interval)) (words words' : List (List (List Bit)))
    (tasks tasks' : TaskState) (delays delays' : List (ℕ × Option (List Interval))) (forced forced' : List (List (Option Interval)))
    → now ≡ now' → running ≡ running' → serials ≡ serials' → dues ≡ dues' → threads ≡ threads' → waiting ≡ waiting' → values ≡ values' → words ≡ words' → tasks ≡ tasks' → delays ≡ delays' → forced ≡ forced'
    → made steps peak taken order now running serials dues threads waiting values words tasks delays forced ≡ made steps peak taken order now' running' serials' dues' threads' waiting' values' words' tasks' delays' forced'
made-same steps peak taken order now now' running running' serials serials' dues dues' threads threads' waiting waiting' values values' words words' tasks tasks' delays delays' forced forced' a b c d e f g h i j k =
    ap (λ x. made steps peak taken order x running serials dues threads waiting values words tasks delays forced) a
    ∙ ap (λ x. made steps peak taken order now' x serials dues threads waiting values words tasks delays forced) b
    ∙ ap (λ x. made steps peak taken order now' running' x dues threads waiting values words tasks delays forced) c
    ∙ ap (λ x. made steps peak taken order now' running' serials' x threads waiting values words tasks delays forced) d
    ∙ ap (λ x. made steps peak taken order now' running' serials' dues' x waiting values words tasks delays forced) e
    ∙ ap (λ x. made steps peak taken order now' running' serials' dues' threads' x values words tasks delays forced) f
    ∙ ap (λ x. made steps peak taken order now' running' serials' dues' threads' waiting' x words tasks delays forced) g
    ∙ ap (λ x. made steps peak taken order now' running' serials' dues' threads' waiting' values' x tasks delays forced) h
    ∙ ap (λ x. made steps peak taken order now' running' serials' dues' threads' waiting' values' words' x delays forced) i
    ∙ ap (λ x. made steps peak taken order now' running' serials' dues' threads' waiting' values' words' tasks' x forced) j
    ∙ ap (λ x. made steps peak taken order now' running' serials' dues' threads' waiting' values' words' tasks' delays' x) k

-- what the parts of an engine show
shown-made : (w : Whole) → made w.held.steps w.peak w.held.taken w.order w.held.schedule.now (shown_of w).machine.running (length w.held.threads.table.threads) (in_order (map unkeyed w.held.schedule.dues)) (live_threads w.held.threads.table.threads) w.held.threads.table.waiting
    (map (driven_at w.held.net.values) (enumerate_from 0 (nodes_of w.held.program))) (filter_map (words_at w.held.net.values) (enumerate_from 0 (nodes_of w.held.program))) w.tasks.state (filter_map (request_at w.held.net.values) (enumerate_from 0 (nodes_of w.held.program)))
    (map (forced_at w.held.net.values) (enumerate_from 0 (nodes_of w.held.program)))
    ≡ snapshot_of w.held.program w.order (shown_of w).machine
unfolding snapshot_of
shown-made w = refl

-- these parts make a snapshot of what is shown
pub snapshot-made : (w : Whole) (old : Shown) (now : ℕ) (running : Option ℕ) (serials : ℕ) (dues : List Due) (threads : List Thread) (waiting : List (List ℕ)) (values : List (List Interval)) (words : List (List (List Bit))) (tasks : TaskState)
    (delays : List (ℕ × Option (List Interval))) (forced : List (List (Option Interval))) → shown_of w ≡ old → Stands w.held.program w.held.net w.held.threads w.held.schedule
    → now ≡ w.held.schedule.now → running ≡ (shown_of w).machine.running → serials ≡ length w.held.threads.table.threads → dues ≡ map unkeyed w.held.schedule.dues → threads ≡ live_threads w.held.threads.table.threads → waiting ≡ w.held.threads.table.waiting
    → values ≡ map (driven_at w.held.net.values) (enumerate_from 0 w.held.net.nodes) → words ≡ filter_map (words_at w.held.net.values) (enumerate_from 0 w.held.net.nodes) → tasks ≡ w.tasks.state
    → delays ≡ filter_map (request_at w.held.net.values) (enumerate_from 0 w.held.net.nodes) → forced ≡ map (forced_at w.held.net.values) (enumerate_from 0 w.held.net.nodes)
    → made w.held.steps w.peak w.held.taken w.order now running serials dues threads waiting values words tasks delays forced ≡ snapshot_of old.program old.order old.machine
snapshot-made w old now running serials dues threads waiting values words tasks delays forced view stands a b c d e f g h i j k =
    subst (λ (s : Shown). made w.held.steps w.peak w.held.taken w.order now running serials dues threads waiting values words tasks delays forced ≡ snapshot_of s.program s.order s.machine) view
    (made-same w.held.steps w.peak w.held.taken w.order now _ running _ serials _ dues _ threads _ waiting _ values _ words _ tasks _ delays _ forced _ a b c (d ∙ sym stands.in_turn) e f
    (g ∙ ap (λ (ns : List Node). map (driven_at w.held.net.values) (enumerate_from 0 ns)) stands.nodes) (h ∙ ap (λ (ns : List Node). filter_map (words_at w.held.net.values) (enumerate_from 0 ns)) stands.nodes) i
    (j ∙ ap (λ (ns : List Node). filter_map (request_at w.held.net.values) (enumerate_from 0 ns)) stands.nodes) (k ∙ ap (λ (ns : List Node). map (forced_at w.held.net.values) (enumerate_from 0 ns)) stands.nodes)
    ∙ shown-made w)

-- as many events as items
pub events-are : (h : Held) (items : List Item) → Stands h.program h.net h.threads h.schedule → items ≡ h.program.items → length h.threads.table.waiting ≡ length items
events-are h items stands same =
    stands.events ∙ ap (λ (ns : List Node). length ns) stands.nodes ∙ length-map h.program.items node_of ∙ ap (λ (xs : List Item). length xs) (sym same)
