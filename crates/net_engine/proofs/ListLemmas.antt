-- How the lists of events that list an event are built.
use Rattle.std.proofs.Common.{◌≡◌, ◌≢◌, ℕ, zero, suc, ◌+◌, ◌-◌, ◌<◌, ◌≤◌, ◌⊎◌, inl, inr, Bool, true, false, ◌||◌, nat_eq, if◌then◌else◌, Some, None, List, [], ◌∷◌, ◌++◌, length, map, set, get_or, take, replicate, slice_get, refl, sym, ap, ◌∙◌, arith}
use Rattle.std.specs.List.{All, enumerate_from, filter_map, list_any, cons_option}
use Rattle.std.proofs.lemmas.Bool.{cases_eq, cases_lt}
use Rattle.std.proofs.lemmas.Bool.Decides.{nat_tests}
use Rattle.std.proofs.lemmas.List.{append-nil, length-set, get_or-set_same, get_or-set_other, get_or-replicate, take_more, take_all, ext_get_or, length_push, length-map, length-replicate}
use Rattle.std.proofs.lemmas.List.Elements.{filter_map-append}
use Rattle.std.proofs.lemmas.List.Folds.{list_any_more}
use Rattle.std.proofs.lemmas.List.FromFn.{length-enumerate_from}
use Rattle.std.proofs.lemmas.Option.{slice_get-get_or, slice_get_within, slice_get_past, get_or_from_slice_get}
use Rattle.sym_link.specs.declared.program.ItemKind.{ItemKind}
use Rattle.sym_link.specs.declared.program.ItemKind.TheVariants.{Var, Net, Functor, Delay, Edge, Named, AnyOf, Array, Scope, Param}
use Rattle.sym_link.specs.Roots.{Node, lists, listener}
use Rattle.net_engine.specs.Readers.{listeners_of}
use Rattle.net_engine.specs.Built.{events_of, is_number, is_last, once, IsListing}
use Rattle.net_engine.proofs.MixLemmas.{map-get, enumerate-get}
use Rattle.net_engine.proofs.ReachLemmas.{listeners-from}

-- of each event the lists have those of the first so many items that list it
pub record AreListed (nodes : List Node) (lists : List (List ℕ)) (i : ℕ) : Type 0 where
  pub count : length lists ≡ length nodes
  pub each : (event : ℕ) → event < length nodes → get_or lists event [] ≡ filter_map (listener event) (take i (enumerate_from 0 nodes))

pub listed-none : (nodes : List Node) (lists : List (List ℕ)) → lists ≡ replicate (length nodes) [] → AreListed nodes lists 0
listed-none nodes lists same = record {
  count = ap length same ∙ length-replicate (length nodes) [];
  each = λ event within. ap (λ (ls : List (List ℕ)). get_or ls event []) same ∙ get_or-replicate (length nodes) event [] [] within;
}

-- whether an item lists an event is whether the event is among its events
lists-events : (event : ℕ) (kind : ItemKind) → lists event kind ≡ list_any (nat_eq event) (events_of kind)
lists-events event (AnyOf events) = refl
lists-events event (Var integer) = refl
lists-events event (Net root) = refl
lists-events event (Functor gate drive ports) = refl
lists-events event (Delay rise fall decay port) = refl
lists-events event (Edge kind ports) = refl
lists-events event Named = refl
lists-events event (Array words) = refl
lists-events event (Scope scope) = refl
lists-events event Param = refl

one_listed : (b : Bool) (i : ℕ) → (if b then i ∷ [] else []) ≡ cons_option (if b then Some i else None) []
one_listed true i = refl
one_listed false i = refl

pub listed-more : (nodes : List Node) (old new : List (List ℕ)) (i : ℕ) (node : Node) → AreListed nodes old i → slice_get nodes i ≡ Some node → IsListing old new i (events_of node.what) → AreListed nodes new (i + 1)
listed-more nodes old new i node listed at listing = record {
  count = listing.count ∙ listed.count;
  each = λ event within.
      let old_within : event < length old = omega (arith, listed.count, within) in
      let here = enumerate-get nodes 0 i node at in
      let inside : i < length (enumerate_from 0 nodes) = slice_get_within (enumerate_from 0 nodes) i (0 + i, node) here in
      let pair : 0 + i ≡ i = omega arith in
      let next : take (i + 1) (enumerate_from 0 nodes) ≡ take i (enumerate_from 0 nodes) ++ (i, node) ∷ [] =
      take_more (enumerate_from 0 nodes) i (0 + i, node) inside
      ∙ ap (λ (p : ℕ × Node). take i (enumerate_from 0 nodes) ++ p ∷ []) (get_or_from_slice_get (enumerate_from 0 nodes) i (0 + i, node) (0 + i, node) here ∙ ap (λ (k : ℕ). (k, node)) pair) in
      listing.each event old_within
      ∙ ap (λ (xs : List ℕ). xs ++ (if list_any (nat_eq event) (events_of node.what) then i ∷ [] else [])) (listed.each event within)
      ∙ ap (λ (b : Bool). filter_map (listener event) (take i (enumerate_from 0 nodes)) ++ (if b then i ∷ [] else [])) (sym (lists-events event node.what))
      ∙ ap (λ (xs : List ℕ). filter_map (listener event) (take i (enumerate_from 0 nodes)) ++ xs) (one_listed (lists event node.what) i)
      ∙ sym (filter_map-append (listener event) (take i (enumerate_from 0 nodes)) ((i, node) ∷ []))
      ∙ ap (filter_map (listener event)) (sym next);
}

pub listed-all : (nodes : List Node) (lists : List (List ℕ)) (i : ℕ) → length nodes ≤ i → AreListed nodes lists i → lists ≡ map (λ event. listeners_of nodes event.0) (enumerate_from 0 nodes)
listed-all nodes lists i enough listed =
    ext_get_or [] lists (map (λ event. listeners_of nodes event.0) (enumerate_from 0 nodes))
    (listed.count ∙ sym (length-map (enumerate_from 0 nodes) (λ event. listeners_of nodes event.0) ∙ length-enumerate_from 0 nodes))
    (λ event within.
    let inside : event < length nodes = omega (arith, listed.count, within) in
    let node = get_or nodes event (record { width = 0; what = Named }) in
    let at = enumerate-get nodes 0 event node (slice_get-get_or nodes event (record { width = 0; what = Named }) inside) in
    let pair : 0 + event ≡ event = omega arith in
    let every : length (enumerate_from 0 nodes) ≤ i = omega (arith, length-enumerate_from 0 nodes, enough) in
    listed.each event inside
    ∙ ap (filter_map (listener event)) (take_all i (enumerate_from 0 nodes) every)
    ∙ sym (get_or_from_slice_get (map (λ e. listeners_of nodes e.0) (enumerate_from 0 nodes)) event (listeners_of nodes (0 + event)) [] (map-get (λ e. listeners_of nodes e.0) (enumerate_from 0 nodes) event (0 + event, node) at)
    ∙ ap (listeners_of nodes) pair))

-- ---- a number that isn't there yet

take-enumerate : {X : Type 0} (xs : List X) (from i : ℕ) → take i (enumerate_from from xs) ≡ enumerate_from from (take i xs)
take-enumerate xs from zero = refl
take-enumerate [] from (suc i) = refl
take-enumerate (x ∷ xs) from (suc i) = ap (λ ys. (from, x) ∷ ys) (take-enumerate xs (from + 1) i)

length-take-most : {X : Type 0} (i : ℕ) (xs : List X) → length (take i xs) ≤ i
length-take-most zero xs = omega arith
length-take-most (suc i) [] = omega arith
length-take-most (suc i) (x ∷ xs) = omega (arith, length-take-most i xs)

lower-number : (x i : ℕ) → x < i → is_number i (Some x) ≡ false
lower-number x i lower = let apart : x ≢ i = omega arith in grind (arith, nat_tests)

lower-last : (xs : List ℕ) (i k : ℕ) → All (λ (x : ℕ). x < i) xs → is_number i (slice_get xs k) ≡ false
lower-last xs i k lower = go (cases_lt k (length xs)) where
  go : (k < length xs) ⊎ (length xs ≤ k) → is_number i (slice_get xs k) ≡ false
  go (inl inside) = ap (is_number i) (slice_get-get_or xs k 0 inside) ∙ lower-number (get_or xs k 0) i (lower k 0 inside)
  go (inr past) = ap (is_number i) (slice_get_past xs k past)

pub listed-fresh : (nodes : List Node) (lists : List (List ℕ)) (i event : ℕ) → AreListed nodes lists i → event < length nodes → is_last (get_or lists event []) i ≡ false
listed-fresh nodes lists i event listed within =
    let same : get_or lists event [] ≡ filter_map (listener event) (enumerate_from 0 (take i nodes)) = listed.each event within ∙ ap (filter_map (listener event)) (take-enumerate nodes 0 i) in
    let lower : All (λ (x : ℕ). x < i) (filter_map (listener event) (enumerate_from 0 (take i nodes))) =
    λ k d inside. (let below : get_or (filter_map (listener event) (enumerate_from 0 (take i nodes))) k d < 0 + length (take i nodes) = listeners-from event (take i nodes) 0 k d inside in omega (arith, below, length-take-most i nodes)) in
    ap (λ (xs : List ℕ). is_last xs i) same ∙ lower-last (filter_map (listener event) (enumerate_from 0 (take i nodes))) i (length (filter_map (listener event) (enumerate_from 0 (take i nodes))) - 1) lower

-- ---- the events of one item, one after another

get-push : {X : Type 0} (xs : List X) (x : X) → slice_get (xs ++ x ∷ []) (length xs) ≡ Some x
get-push [] x = refl
get-push (y ∷ xs) x = get-push xs x

pub last-push : (xs : List ℕ) (x : ℕ) → is_last (xs ++ x ∷ []) x ≡ true
last-push xs x =
    let end : length (xs ++ x ∷ []) - 1 ≡ length xs = omega (arith, length_push xs x) in
    let same : nat_eq x x ≡ true = grind (arith, nat_tests) in
    ap (λ (k : ℕ). is_number x (slice_get (xs ++ x ∷ []) k)) end ∙ ap (is_number x) (get-push xs x) ∙ same

pub listing-none : (old : List (List ℕ)) (item : ℕ) → IsListing old old item []
listing-none old item = record { count = refl; each = λ event within. sym (append-nil (get_or old event [])) }

-- a list has the item once more, or not again
once-more : (old lists : List ℕ) (item : ℕ) (listed : Bool) → is_last old item ≡ false → lists ≡ old ++ (if listed then item ∷ [] else []) → once lists item ≡ old ++ item ∷ []
once-more old lists item true fresh same = ap (λ (xs : List ℕ). once xs item) same ∙ ap (λ (b : Bool). if b then old ++ item ∷ [] else old ++ item ∷ [] ++ item ∷ []) (last-push old item)
once-more old lists item false fresh same =
    ap (λ (xs : List ℕ). once xs item) (same ∙ append-nil old) ∙ ap (λ (b : Bool). if b then old else old ++ item ∷ []) fresh

pub listing-more : (old lists new : List (List ℕ)) (item i event : ℕ) (events : List ℕ)
    → IsListing old lists item (take i events) → slice_get events i ≡ Some event → event < length old → ((e : ℕ) → e < length old → is_last (get_or old e []) item ≡ false)
    → new ≡ set lists event (once (get_or lists event []) item) → IsListing old new item (take (i + 1) events)
listing-more old lists new item i event events listing at there fresh is = record {
  count = ap length is ∙ length-set lists event (once (get_or lists event []) item) ∙ listing.count;
  each = λ e within. ap (λ (ls : List (List ℕ)). get_or ls e []) is ∙ go e within (cases_eq e event);
} where
  inside : i < length events
  inside = slice_get_within events i event at

  any-more : (e : ℕ) → list_any (nat_eq e) (take (i + 1) events) ≡ (list_any (nat_eq e) (take i events) || nat_eq e event)
  any-more e = list_any_more (nat_eq e) events i event inside ∙ ap (λ (x : ℕ). list_any (nat_eq e) (take i events) || nat_eq e x) (get_or_from_slice_get events i event event at)

  or-true : (b : Bool) → (b || true) ≡ true
  or-true true = refl
  or-true false = refl

  or-false : (b : Bool) → (b || false) ≡ b
  or-false true = refl
  or-false false = refl

  go : (e : ℕ) → e < length old → (e ≡ event) ⊎ (e ≢ event) → get_or (set lists event (once (get_or lists event []) item)) e [] ≡ get_or old e [] ++ (if list_any (nat_eq e) (take (i + 1) events) then item ∷ [] else [])
  go e within (inl same) =
      let yes : nat_eq e event ≡ true = grind (arith, nat_tests) in
      let now : list_any (nat_eq e) (take (i + 1) events) ≡ true = any-more e ∙ ap (λ (b : Bool). list_any (nat_eq e) (take i events) || b) yes ∙ or-true (list_any (nat_eq e) (take i events)) in
      let event_inside : event < length lists = omega (arith, listing.count, there) in
      ap (λ (k : ℕ). get_or (set lists event (once (get_or lists event []) item)) k []) same
      ∙ get_or-set_same lists event (once (get_or lists event []) item) [] event_inside
      ∙ ap (λ (k : ℕ). once (get_or lists k []) item) (sym same)
      ∙ once-more (get_or old e []) (get_or lists e []) item (list_any (nat_eq e) (take i events)) (fresh e within) (listing.each e within)
      ∙ ap (λ (b : Bool). get_or old e [] ++ (if b then item ∷ [] else [])) (sym now)
  go e within (inr differ) =
      let other : nat_eq e event ≡ false = grind (arith, nat_tests) in
      let now : list_any (nat_eq e) (take (i + 1) events) ≡ list_any (nat_eq e) (take i events) = any-more e ∙ ap (λ (b : Bool). list_any (nat_eq e) (take i events) || b) other ∙ or-false (list_any (nat_eq e) (take i events)) in
      get_or-set_other lists event e (once (get_or lists event []) item) [] differ
      ∙ listing.each e within
      ∙ ap (λ (b : Bool). get_or old e [] ++ (if b then item ∷ [] else [])) (sym now)
