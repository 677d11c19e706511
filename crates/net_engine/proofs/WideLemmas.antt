-- Values stay as wide as their items are.
use Rattle.std.proofs.Common.{◌≡◌, ◌≢◌, ℕ, zero, suc, ◌<◌, ◌≤◌, ℤ, ◌⊎◌, inl, inr, Option, Some, None, List, [], ◌∷◌, length, map, set, get_or, replicate, refl, sym, ap, subst, ◌∙◌}
use Rattle.std.specs.List.{All, enumerate_from}
use Rattle.std.specs.Option.{ForSome}
use Rattle.std.proofs.lemmas.Bool.{cases_eq, cases_lt}
use Rattle.std.proofs.lemmas.List.{length-map, length-set, length-replicate, get_or-set_same, get_or-set_other, nil_from_length, set_past}
use Rattle.std.proofs.lemmas.List.Elements.{All-set, All-replicate}
use Rattle.std.proofs.lemmas.List.FromFn.{length-enumerate_from}
use Rattle.std.proofs.lemmas.Option.{get_or_from_slice_get}
use Rattle.four_state.specs.declared.bits.Bit.{Bit}
use Rattle.four_state.specs.declared.bits.Bit.TheVariants.{Unknown}
use Rattle.four_state.specs.Vector.{overlaid}
use Rattle.gate_rules.specs.Strong.{starting_levels, strength_of}
use Rattle.strengths.specs.Interval.{Interval}
use Rattle.strengths.specs.Level.{driven}
use Rattle.sym_link.specs.declared.program.ItemKind.{ItemKind}
use Rattle.sym_link.specs.declared.program.ItemKind.TheVariants.{Var, Net, Functor, Delay, Edge, Named, AnyOf, Array, Scope, Param}
use Rattle.sym_link.specs.Roots.{Node}
use Rattle.net_engine.specs.Net.{NetValues, Request, driven_of, array_of, request_of, with_parts, with_word, with_request, first_driven, first_driven_by, first_forced, first_words, first_values}
use Rattle.net_engine.specs.Parts.{AreWide, IsWide}
use Rattle.net_engine.proofs.MixLemmas.{map-get}

-- ---- what drives an item, and what is forced on it

-- an element of another list that is as long
same-long : {X : Type 0} (xss : List (List X)) (i : ℕ) (xs : List X) (k : ℕ) → length xs ≡ length (get_or xss i []) → length (get_or (set xss i xs) k []) ≡ length (get_or xss k [])
same-long xss i xs k same = go (cases_eq k i) (cases_lt i (length xss)) where
  go : (k ≡ i) ⊎ (k ≢ i) → (i < length xss) ⊎ (length xss ≤ i) → length (get_or (set xss i xs) k []) ≡ length (get_or xss k [])
  go (inl here) (inl inside) =
      ap (λ (j : ℕ). length (get_or (set xss i xs) j [])) here ∙ ap length (get_or-set_same xss i xs [] inside) ∙ same ∙ ap (λ (j : ℕ). length (get_or xss j [])) (sym here)
  go (inl here) (inr past) = ap (λ yss. length (get_or yss k [])) (set_past xss i xs past)
  go (inr other) h = ap length (get_or-set_other xss i k xs [] other)

still-none : (old new : List Interval) → length new ≡ length old → old ≡ [] → new ≡ []
still-none old new same none = nil_from_length new (same ∙ ap length none)

wide-same : (values new : NetValues) (k : ℕ) (node : Node) (kind : ItemKind) → length (driven_of new k) ≡ length (driven_of values k) → new.words ≡ values.words → new.requests ≡ values.requests → IsWide values k node kind → IsWide new k node kind
wide-same values new k node (Var integer) same words requests h = same ∙ h
wide-same values new k node (Functor gate drive ports) same words requests h = same ∙ h
wide-same values new k node (Delay rise fall decay port) same words requests h =
    (same ∙ h.0, subst (λ (rs : List Request). ForSome (get_or rs k (record { serial = 0; kept = None })).kept (λ kept. length kept ≡ node.width)) (sym requests) h.1)
wide-same values new k node (Array words) same list requests h = (
  still-none (driven_of values k) (driven_of new k) same h.0,
  ap (λ (ws : List (List (List Bit))). length (get_or ws k [])) list ∙ h.1,
  subst (λ (ws : List (List (List Bit))). All (λ word. length word ≡ node.width) (get_or ws k [])) (sym list) h.2,
)
wide-same values new k node (Net root) same words requests h = still-none (driven_of values k) (driven_of new k) same h
wide-same values new k node (Edge edge ports) same words requests h = still-none (driven_of values k) (driven_of new k) same h
wide-same values new k node Named same words requests h = still-none (driven_of values k) (driven_of new k) same h
wide-same values new k node (AnyOf events) same words requests h = still-none (driven_of values k) (driven_of new k) same h
wide-same values new k node (Scope scope) same words requests h = still-none (driven_of values k) (driven_of new k) same h
wide-same values new k node Param same words requests h = still-none (driven_of values k) (driven_of new k) same h

pub wide-parts : (nodes : List Node) (values : NetValues) (item : ℕ) (levels : List Interval) (forced : List (Option Interval)) → AreWide nodes values → length levels ≡ length (driven_of values item) → length forced ≡ length levels
    → AreWide nodes (with_parts item levels forced values)
wide-parts nodes values item levels forced wide same places = record {
  each = λ k node at. wide-same values (with_parts item levels forced values) k node node.what (same-long values.driven item levels k same) refl refl (wide.each k node at);
  forced = λ k. (let was = wide.forced item in same-long values.forced item forced k (places ∙ same ∙ sym was)) ∙ wide.forced k ∙ sym (same-long values.driven item levels k same);
  drivens = length-set values.driven item levels ∙ wide.drivens;
  arrays = wide.arrays;
  asked = wide.asked;
}

-- ---- words of arrays

pub overlaid-length : (bits : List Bit) (offset : ℤ) (piece : List Bit) → length (overlaid bits offset piece) ≡ length bits
unfolding overlaid
overlaid-length bits offset piece = length-map (enumerate_from 0 bits) _ ∙ length-enumerate_from 0 bits

all-one : (words : List (List Bit)) (width word : ℕ) (bits : List Bit) → All (λ w. length w ≡ width) words → length bits ≡ length (get_or words word []) → All (λ w. length w ≡ width) (set words word bits)
all-one words width word bits all same = go (cases_lt word (length words)) where
  go : (word < length words) ⊎ (length words ≤ word) → All (λ w. length w ≡ width) (set words word bits)
  go (inl inside) = All-set (λ w. length w ≡ width) words word bits (same ∙ all word [] inside) all
  go (inr past) = subst (All (λ w. length w ≡ width)) (sym (set_past words word bits past)) all

-- the words of each array, after one was set
word-wide : (words : List (List (List Bit))) (array word : ℕ) (bits : List Bit) (k count width : ℕ) → length bits ≡ length (get_or (get_or words array []) word []) → length (get_or words k []) ≡ count → All (λ w. length w ≡ width) (get_or words k [])
    → (length (get_or (set words array (set (get_or words array []) word bits)) k []) ≡ count) × All (λ w. length w ≡ width) (get_or (set words array (set (get_or words array []) word bits)) k [])
word-wide words array word bits k count width same long all = go (cases_eq k array) (cases_lt array (length words)) where
  new : List (List Bit)
  new = set (get_or words array []) word bits

  P : List (List Bit) → Type 0
  P ws = (length ws ≡ count) × All (λ w. length w ≡ width) ws

  go : (k ≡ array) ⊎ (k ≢ array) → (array < length words) ⊎ (length words ≤ array) → P (get_or (set words array (set (get_or words array []) word bits)) k [])
  go (inl here) (inl inside) =
      let was : P (get_or words array []) = subst (λ (j : ℕ). P (get_or words j [])) here (long, all) in
      subst P (sym (ap (λ (j : ℕ). get_or (set words array new) j []) here ∙ get_or-set_same words array new [] inside))
      (length-set (get_or words array []) word bits ∙ was.0, all-one (get_or words array []) width word bits was.1 same)
  go (inl here) (inr past) = subst (λ (wss : List (List (List Bit))). P (get_or wss k [])) (sym (set_past words array new past)) (long, all)
  go (inr other) h = subst P (sym (get_or-set_other words array k new [] other)) (long, all)

wide-word-by : (values : NetValues) (array word : ℕ) (bits : List Bit) (k : ℕ) (node : Node) (kind : ItemKind) → length bits ≡ length (get_or (array_of values array) word []) → IsWide values k node kind → IsWide (with_word array word bits values) k node kind
wide-word-by values array word bits k node (Array words) same h =
    let new = word-wide values.words array word bits k words node.width same h.1 h.2 in (h.0, new.0, new.1)
wide-word-by values array word bits k node (Var integer) same h = h
wide-word-by values array word bits k node (Functor gate drive ports) same h = h
wide-word-by values array word bits k node (Delay rise fall decay port) same h = h
wide-word-by values array word bits k node (Net root) same h = h
wide-word-by values array word bits k node (Edge edge ports) same h = h
wide-word-by values array word bits k node Named same h = h
wide-word-by values array word bits k node (AnyOf events) same h = h
wide-word-by values array word bits k node (Scope scope) same h = h
wide-word-by values array word bits k node Param same h = h

pub wide-word : (nodes : List Node) (values : NetValues) (array word : ℕ) (offset : ℤ) (piece : List Bit) → AreWide nodes values
    → AreWide nodes (with_word array word (overlaid (get_or (array_of values array) word []) offset piece) values)
wide-word nodes values array word offset piece wide =
    let bits = overlaid (get_or (array_of values array) word []) offset piece in
    record {
      each = λ k node at. wide-word-by values array word bits k node node.what (overlaid-length (get_or (array_of values array) word []) offset piece) (wide.each k node at);
      forced = wide.forced;
      drivens = wide.drivens;
      arrays = length-set values.words array (set (array_of values array) word bits) ∙ wide.arrays;
      asked = wide.asked;
    }

-- ---- requests

-- a request keeps as many levels as the net delay has bits
request-wide : (requests : List Request) (item : ℕ) (request : Request) (k width : ℕ) → (k ≡ item → ForSome request.kept (λ kept. length kept ≡ width)) → ForSome (get_or requests k (record { serial = 0; kept = None })).kept (λ kept. length kept ≡ width)
    → ForSome (get_or (set requests item request) k (record { serial = 0; kept = None })).kept (λ kept. length kept ≡ width)
request-wide requests item request k width new old = go (cases_eq k item) (cases_lt item (length requests)) where
  none : Request
  none = record { serial = 0; kept = None }

  go : (k ≡ item) ⊎ (k ≢ item) → (item < length requests) ⊎ (length requests ≤ item) → ForSome (get_or (set requests item request) k (record { serial = 0; kept = None })).kept (λ kept. length kept ≡ width)
  go (inl here) (inl inside) =
      subst (λ (r : Request). ForSome r.kept (λ kept. length kept ≡ width)) (sym (ap (λ (j : ℕ). get_or (set requests item request) j none) here ∙ get_or-set_same requests item request none inside)) (new here)
  go (inl here) (inr past) = subst (λ (rs : List Request). ForSome (get_or rs k none).kept (λ kept. length kept ≡ width)) (sym (set_past requests item request past)) old
  go (inr other) h = subst (λ (r : Request). ForSome r.kept (λ kept. length kept ≡ width)) (sym (get_or-set_other requests item k request none other)) old

wide-request-by : (values : NetValues) (item : ℕ) (request : Request) (k : ℕ) (node : Node) (kind : ItemKind) → ForSome request.kept (λ kept. length kept ≡ length (driven_of values item)) → IsWide values k node kind → IsWide (with_request item request values) k node kind
wide-request-by values item request k node (Delay rise fall decay port) kept h = (
  h.0,
  request-wide values.requests item request k node.width
      (λ here. subst (λ (n : ℕ). ForSome request.kept (λ kept. length kept ≡ n)) (ap (λ (j : ℕ). length (driven_of values j)) (sym here) ∙ h.0) kept) h.1,
)
wide-request-by values item request k node (Array words) kept h = h
wide-request-by values item request k node (Var integer) kept h = h
wide-request-by values item request k node (Functor gate drive ports) kept h = h
wide-request-by values item request k node (Net root) kept h = h
wide-request-by values item request k node (Edge edge ports) kept h = h
wide-request-by values item request k node Named kept h = h
wide-request-by values item request k node (AnyOf events) kept h = h
wide-request-by values item request k node (Scope scope) kept h = h
wide-request-by values item request k node Param kept h = h

pub wide-request : (nodes : List Node) (values : NetValues) (item : ℕ) (request : Request) → AreWide nodes values → ForSome request.kept (λ kept. length kept ≡ length (driven_of values item)) → AreWide nodes (with_request item request values)
wide-request nodes values item request wide kept = record {
  each = λ k node at. wide-request-by values item request k node node.what kept (wide.each k node at);
  forced = wide.forced;
  drivens = wide.drivens;
  arrays = wide.arrays;
  asked = length-set values.requests item request ∙ wide.asked;
}

-- ---- the start

starting-length : (node : Node) (kind : ItemKind) (values : NetValues) (k : ℕ) → driven_of values k ≡ first_driven_by node kind → array_of values k ≡ first_words node kind → request_of values k ≡ record { serial = 0; kept = None } → IsWide values k node kind
unfolding starting_levels
starting-length node (Var integer) values k drives words request = ap length drives ∙ length-map (replicate node.width Unknown) (driven 6 6) ∙ length-replicate node.width Unknown
starting-length node (Functor gate drive ports) values k drives words request =
    ap length drives ∙ length-replicate node.width (driven (strength_of gate drive.0) (strength_of gate drive.1) Unknown)
starting-length node (Delay rise fall decay port) values k drives words request = (
  ap length drives ∙ length-map (replicate node.width Unknown) (driven 6 6) ∙ length-replicate node.width Unknown,
  subst (λ (r : Request). ForSome r.kept (λ kept. length kept ≡ node.width)) (sym request) (λ kept none. absurd (let never : None ≡ Some kept = none in cc)),
)
starting-length node (Array count) values k drives words request = (
  drives,
  ap length words ∙ length-replicate count (replicate node.width Unknown),
  subst (All (λ w. length w ≡ node.width)) (sym words) (All-replicate (λ w. length w ≡ node.width) count (replicate node.width Unknown) (length-replicate node.width Unknown)),
)
starting-length node (Net root) values k drives words request = drives
starting-length node (Edge edge ports) values k drives words request = drives
starting-length node Named values k drives words request = drives
starting-length node (AnyOf events) values k drives words request = drives
starting-length node (Scope scope) values k drives words request = drives
starting-length node Param values k drives words request = drives

pub wide-first : (nodes : List Node) → AreWide nodes (first_values nodes)
unfolding first_values
wide-first nodes = record {
  each = λ k node at.
      starting-length node node.what (first_values nodes) k
      (get_or_from_slice_get (map first_driven nodes) k (first_driven node) [] (map-get first_driven nodes k node at))
      (get_or_from_slice_get (map (λ (n : Node). first_words n n.what) nodes) k (first_words node node.what) [] (map-get (λ (n : Node). first_words n n.what) nodes k node at))
      (get_or_from_slice_get (map (λ (n : Node). record { serial = 0; kept = None }) nodes) k (record { serial = 0; kept = None }) (record { serial = 0; kept = None }) (map-get (λ (n : Node). record { serial = 0; kept = None }) nodes k node at));
  forced = λ k. forced-first nodes k;
  drivens = length-map nodes first_driven;
  arrays = length-map nodes (λ (n : Node). first_words n n.what);
  asked = length-map nodes (λ (n : Node). record { serial = 0; kept = None });
} where
  forced-first : (ns : List Node) (k : ℕ) → length (get_or (map first_forced ns) k []) ≡ length (get_or (map first_driven ns) k [])
  forced-first [] k = refl
  forced-first (n ∷ ns) zero = length-map (first_driven n) _
  forced-first (n ∷ ns) (suc k) = forced-first ns k
