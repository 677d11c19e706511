-- The list of all readers: what each item's part of it is, and what it says of the ports that an item drives.
use Rattle.std.proofs.Common.{◌≡◌, ◌≢◌, ℕ, zero, suc, ◌+◌, ◌<◌, ◌≤◌, Bool, true, false, nat_eq, if◌then◌else◌, Option, Some, None, List, [], ◌∷◌, ◌++◌, length, map, get_or, take, slice_get, refl, sym, ap, ◌∙◌, arith, append_assoc}
use Rattle.std.specs.List.{All, AllPairs, filter, filter_map, flat_map, cons_option, enumerate_from}
use Rattle.std.specs.Option.{option_to_list}
use Rattle.std.proofs.lemmas.List.{map-append, take_more, take_all, flat_map_more, length-map}
use Rattle.std.proofs.lemmas.List.Elements.{All-nil, All-cons, All-append, All-weaker, filter-append}
use Rattle.std.proofs.lemmas.List.Kept.{AllPairs-cons}
use Rattle.std.proofs.lemmas.Option.{slice_get_within, slice_get-get_or, get_or_from_slice_get}
use Rattle.port_chain.specs.Link.{InputPort}
use Rattle.port_chain.specs.Pairs.{links_of}
use Rattle.port_chain.specs.declared.link.Reader.{Reader}
use Rattle.sym_link.specs.declared.program.Item.{Item}
use Rattle.sym_link.specs.declared.program.ItemKind.TheVariants.{Named}
use Rattle.sym_link.specs.declared.program.Source.{Source}
use Rattle.sym_link.specs.declared.program.Source.TheVariants as source
use Rattle.sym_link.specs.Roots.{Node, node_of, root_of, ports_of, input_at, inputs_of, readers}
use Rattle.net_engine.specs.Readers.{port_of, driven_ports, reader_of, reader_at, readers_at, all_readers}
use Rattle.net_engine.proofs.MixLemmas.{enumerate-get}

-- ---- appending

pub append-option : {X : Type 0} (o : Option X) (xs : List X) → option_to_list o ++ xs ≡ cons_option o xs
append-option None xs = refl
append-option (Some x) xs = refl

-- four ports, one after another
pub four-pushed : (nodes : List Node) (at : ℕ) (old : List Reader) (a b c d : Source)
    → (((old ++ option_to_list (reader_of nodes at 0 a)) ++ option_to_list (reader_of nodes at 1 b)) ++ option_to_list (reader_of nodes at 2 c)) ++ option_to_list (reader_of nodes at 3 d)
    ≡ old ++ filter_map (reader_at nodes at) (enumerate_from 0 (a ∷ b ∷ c ∷ d ∷ []))
four-pushed nodes at old a b c d =
    let p = option_to_list (reader_of nodes at 0 a) in
    let q = option_to_list (reader_of nodes at 1 b) in
    let r = option_to_list (reader_of nodes at 2 c) in
    let s = option_to_list (reader_of nodes at 3 d) in
    ap (λ xs. xs ++ s) (ap (λ xs. xs ++ r) (append_assoc old p q) ∙ append_assoc old (p ++ q) r) ∙ append_assoc old ((p ++ q) ++ r) s
    ∙ ap (λ xs. old ++ xs)
    (append_assoc (p ++ q) r s ∙ append_assoc p q (r ++ s)
    ∙ append-option (reader_of nodes at 0 a) (q ++ (r ++ s))
    ∙ ap (cons_option (reader_of nodes at 0 a)) (append-option (reader_of nodes at 1 b) (r ++ s)
    ∙ ap (cons_option (reader_of nodes at 1 b)) (append-option (reader_of nodes at 2 c) s ∙ ap (cons_option (reader_of nodes at 2 c)) (ends (reader_of nodes at 3 d)))))
  where
    ends : (o : Option Reader) → option_to_list o ≡ cons_option o []
    ends None = refl
    ends (Some x) = refl

-- one item's readers more
pub readers-more : (nodes : List Node) (old new : List Reader) (at : ℕ) (node : Node) → slice_get nodes at ≡ Some node
    → old ≡ flat_map (readers_at nodes) (take at (enumerate_from 0 nodes)) → new ≡ old ++ readers_at nodes (at, node) → new ≡ flat_map (readers_at nodes) (take (at + 1) (enumerate_from 0 nodes))
readers-more nodes old new at node is before pushed =
    let here = enumerate-get nodes 0 at node is in
    let inside : at < length (enumerate_from 0 nodes) = slice_get_within (enumerate_from 0 nodes) at (0 + at, node) here in
    let pair : 0 + at ≡ at = omega arith in
    let next : take (at + 1) (enumerate_from 0 nodes) ≡ take at (enumerate_from 0 nodes) ++ (at, node) ∷ [] =
    take_more (enumerate_from 0 nodes) at (0 + at, node) inside
    ∙ ap (λ (p : ℕ × Node). take at (enumerate_from 0 nodes) ++ p ∷ []) (get_or_from_slice_get (enumerate_from 0 nodes) at (0 + at, node) (0 + at, node) here ∙ ap (λ (k : ℕ). (k, node)) pair) in
    pushed ∙ ap (λ xs. xs ++ readers_at nodes (at, node)) before
    ∙ flat_map_more (readers_at nodes) [] (take at (enumerate_from 0 nodes)) (at, node)
    ∙ ap (flat_map (readers_at nodes)) (sym next)

-- the same, by what is read of a slice of items
pub readers-step : (items : List Item) (old new : List Reader) (at : ℕ) → at < length items → old ≡ flat_map (readers_at (map node_of items)) (take at (enumerate_from 0 (map node_of items)))
    → ((node : Node) → slice_get (map node_of items) at ≡ Some node → new ≡ old ++ readers_at (map node_of items) (at, node)) → new ≡ flat_map (readers_at (map node_of items)) (take (at + 1) (enumerate_from 0 (map node_of items)))
readers-step items old new at inside before pushed =
    let none : Node = record { width = 0; what = Named } in
    let many : at < length (map node_of items) = omega (arith, length-map items node_of, inside) in
    let is = slice_get-get_or (map node_of items) at none many in
    readers-more (map node_of items) old new at (get_or (map node_of items) at none) is before (pushed (get_or (map node_of items) at none) is)

pub readers-all : (nodes : List Node) (found : List Reader) (at : ℕ) → length nodes ≤ at → found ≡ flat_map (readers_at nodes) (take at (enumerate_from 0 nodes)) → found ≡ all_readers nodes
unfolding all_readers
readers-all nodes found at enough is = is ∙ ap (flat_map (readers_at nodes)) (take_all at (enumerate_from 0 nodes) (omega (arith, enumerate-length nodes 0, enough))) where
  enumerate-length : (rows : List Node) (from : ℕ) → length (enumerate_from from rows) ≡ length rows
  enumerate-length [] from = refl
  enumerate-length (row ∷ rows) from = ap suc (enumerate-length rows (from + 1))

-- ---- the readers that an item drives

-- whether a reader is driven by an item
abbrev is_driven_by : ℕ → Reader → Bool
is_driven_by item reader = nat_eq reader.driver item

abbrev links : ℕ → List Reader → List InputPort
links item found = map (λ (reader : Reader). reader.link) (filter (is_driven_by item) found)

links-append : (item : ℕ) (xs ys : List Reader) → links item (xs ++ ys) ≡ links item xs ++ links item ys
links-append item xs ys = ap (map (λ (reader : Reader). reader.link)) (filter-append (is_driven_by item) xs ys) ∙ map-append (λ (reader : Reader). reader.link) (filter (is_driven_by item) xs) (filter (is_driven_by item) ys)

-- at the ports of one item
ports-links : (nodes : List Node) (item reader : ℕ) (ports : List (ℕ × Source)) → links item (filter_map (reader_at nodes reader) ports) ≡ map port_of (filter_map (input_at nodes item reader) ports)
ports-links nodes item reader [] = refl
ports-links nodes item reader ((port, source.Unused) ∷ ports) = ports-links nodes item reader ports
ports-links nodes item reader ((port, source.Fixed bits) ∷ ports) = ports-links nodes item reader ports
ports-links nodes item reader ((port, source.Item named) ∷ ports) =
    step (nat_eq (root_of nodes named) item) (record { driver = root_of nodes named; link = record { node = reader; port = port } }) refl (ports-links nodes item reader ports)
  where
    step : (b : Bool) (r : Reader) → r.link ≡ record { node = reader; port = port } → links item (filter_map (reader_at nodes reader) ports) ≡ map port_of (filter_map (input_at nodes item reader) ports)
        → map (λ (x : Reader). x.link) (if b then r ∷ filter (is_driven_by item) (filter_map (reader_at nodes reader) ports) else filter (is_driven_by item) (filter_map (reader_at nodes reader) ports))
        ≡ map port_of (cons_option (if b then Some (record { item = reader; port = port }) else None) (filter_map (input_at nodes item reader) ports))
    step true r link rest = ap (λ (l : InputPort). l ∷ links item (filter_map (reader_at nodes reader) ports)) link ∙ ap (λ (ls : List InputPort). record { node = reader; port = port } ∷ ls) rest
    step false r link rest = rest

-- at the ports of all items
items-links : (nodes : List Node) (item : ℕ) (rows : List (ℕ × Node)) → links item (flat_map (readers_at nodes) rows) ≡ map port_of (flat_map (inputs_of nodes item) rows)
items-links nodes item [] = refl
items-links nodes item (row ∷ rows) =
    links-append item (readers_at nodes row) (flat_map (readers_at nodes) rows)
    ∙ ap (λ ls. ls ++ links item (flat_map (readers_at nodes) rows)) (ports-links nodes item row.0 (enumerate_from 0 (ports_of row.1.what)))
    ∙ ap (λ ls. map port_of (inputs_of nodes item row) ++ ls) (items-links nodes item rows)
    ∙ sym (map-append port_of (inputs_of nodes item row) (flat_map (inputs_of nodes item) rows))

pub readers-links : (nodes : List Node) (item : ℕ) → links_of item (all_readers nodes) ≡ driven_ports nodes item
unfolding all_readers driven_ports readers
readers-links nodes item = items-links nodes item (enumerate_from 0 nodes)

-- ---- each port once

-- the readers of one item, from a port on
ports-at : (nodes : List Node) (item from : ℕ) (sources : List Source) → All (λ (r : Reader). (r.link.node ≡ item) × (from ≤ r.link.port)) (filter_map (reader_at nodes item) (enumerate_from from sources))
ports-at nodes item from [] = All-nil (λ (r : Reader). (r.link.node ≡ item) × (from ≤ r.link.port))
ports-at nodes item from (source.Unused ∷ sources) =
    All-weaker (λ (r : Reader). (r.link.node ≡ item) × (from + 1 ≤ r.link.port)) (λ (r : Reader). (r.link.node ≡ item) × (from ≤ r.link.port)) (λ r h. (h.0, omega arith)) _ (ports-at nodes item (from + 1) sources)
ports-at nodes item from (source.Fixed bits ∷ sources) =
    All-weaker (λ (r : Reader). (r.link.node ≡ item) × (from + 1 ≤ r.link.port)) (λ (r : Reader). (r.link.node ≡ item) × (from ≤ r.link.port)) (λ r h. (h.0, omega arith)) _ (ports-at nodes item (from + 1) sources)
ports-at nodes item from (source.Item named ∷ sources) =
    All-cons (λ (r : Reader). (r.link.node ≡ item) × (from ≤ r.link.port)) (record { driver = root_of nodes named; link = record { node = item; port = from } }) _ (refl, omega arith)
    (All-weaker (λ (r : Reader). (r.link.node ≡ item) × (from + 1 ≤ r.link.port)) (λ (r : Reader). (r.link.node ≡ item) × (from ≤ r.link.port)) (λ r h. (h.0, omega arith)) _ (ports-at nodes item (from + 1) sources))

ports-once : (nodes : List Node) (item from : ℕ) (sources : List Source) → AllPairs (λ (a b : Reader). a.link ≢ b.link) (filter_map (reader_at nodes item) (enumerate_from from sources))
ports-once nodes item from [] = λ i j d before inside. absurd (omega arith)
ports-once nodes item from (source.Unused ∷ sources) = ports-once nodes item (from + 1) sources
ports-once nodes item from (source.Fixed bits ∷ sources) = ports-once nodes item (from + 1) sources
ports-once nodes item from (source.Item named ∷ sources) =
    AllPairs-cons (λ (a b : Reader). a.link ≢ b.link) (record { driver = root_of nodes named; link = record { node = item; port = from } }) _
    (All-weaker (λ (r : Reader). (r.link.node ≡ item) × (from + 1 ≤ r.link.port)) (λ (r : Reader). record { node = item; port = from } ≡ r.link → ⊥)
    (λ r h same. (let port : from ≡ r.link.port = ap (λ (l : InputPort). l.port) same in let later = h.1 in absurd (omega (arith, port, later)))) _ (ports-at nodes item (from + 1) sources))
    (ports-once nodes item (from + 1) sources)

-- two lists of which each has its pairs, and each of the one goes with each of the other
pairs-append : {X : Type 0} (R : X → X → Type 0) (xs ys : List X) → AllPairs R xs → AllPairs R ys → ((x y : X) (i j : ℕ) → slice_get xs i ≡ Some x → slice_get ys j ≡ Some y → R x y) → AllPairs R (xs ++ ys)
pairs-append R [] ys left right cross = right
pairs-append R (x ∷ xs) ys left right cross =
    AllPairs-cons R x (xs ++ ys)
    (All-append (R x) xs ys (λ k d inside. left zero (suc k) d (omega arith) (omega arith)) (λ k d inside. cross x (get_or ys k d) 0 k refl (slice_get-get_or ys k d inside)))
    (pairs-append R xs ys (λ i j d before inside. left (suc i) (suc j) d (omega arith) (omega arith)) right (λ a b i j at_a at_b. cross a b (suc i) j at_a at_b))

-- the readers of the items from a number on
items-at : (nodes : List Node) (from : ℕ) (rows : List Node) → All (λ (r : Reader). from ≤ r.link.node) (flat_map (readers_at nodes) (enumerate_from from rows))
items-at nodes from [] = All-nil (λ (r : Reader). from ≤ r.link.node)
items-at nodes from (row ∷ rows) =
    All-append (λ (r : Reader). from ≤ r.link.node) (readers_at nodes (from, row)) _
    (All-weaker (λ (r : Reader). (r.link.node ≡ from) × (0 ≤ r.link.port)) (λ (r : Reader). from ≤ r.link.node) (λ r h. (let same = h.0 in omega (arith, same))) _ (ports-at nodes from 0 (ports_of row.what)))
    (All-weaker (λ (r : Reader). from + 1 ≤ r.link.node) (λ (r : Reader). from ≤ r.link.node) (λ r h. omega arith) _ (items-at nodes (from + 1) rows))

items-once : (nodes : List Node) (from : ℕ) (rows : List Node) → AllPairs (λ (a b : Reader). a.link ≢ b.link) (flat_map (readers_at nodes) (enumerate_from from rows))
items-once nodes from [] = λ i j d before inside. absurd (omega arith)
items-once nodes from (row ∷ rows) =
    pairs-append (λ (a b : Reader). a.link ≢ b.link) (readers_at nodes (from, row)) (flat_map (readers_at nodes) (enumerate_from (from + 1) rows)) (ports-once nodes from 0 (ports_of row.what)) (items-once nodes (from + 1) rows)
    (λ x y i j at_x at_y same.
    let here : x.link.node ≡ from = (ap (λ (r : Reader). r.link.node) (sym (get_or_from_slice_get (readers_at nodes (from, row)) i x x at_x)) ∙ (ports-at nodes from 0 (ports_of row.what) i x (slice_get_within (readers_at nodes (from, row)) i x at_x)).0) in
    let later_at : from + 1 ≤ (get_or (flat_map (readers_at nodes) (enumerate_from (from + 1) rows)) j y).link.node = items-at nodes (from + 1) rows j y (slice_get_within (flat_map (readers_at nodes) (enumerate_from (from + 1) rows)) j y at_y) in
    let there : (get_or (flat_map (readers_at nodes) (enumerate_from (from + 1) rows)) j y).link.node ≡ y.link.node = ap (λ (r : Reader). r.link.node) (get_or_from_slice_get (flat_map (readers_at nodes) (enumerate_from (from + 1) rows)) j y y at_y) in
    let equal : x.link.node ≡ y.link.node = ap (λ (l : InputPort). l.node) same in
    absurd (omega (arith, here, later_at, there, equal)))

pub readers-once : (nodes : List Node) → AllPairs (λ (a b : Reader). a.link ≢ b.link) (all_readers nodes)
unfolding all_readers
readers-once nodes = items-once nodes 0 nodes
