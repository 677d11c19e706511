-- The readers of a linked program name items.
use Rattle.std.proofs.Common.{◌≡◌, ℕ, ◌+◌, ◌<◌, ◌≤◌, Option, Some, List, [], ◌∷◌, length, map, get_or, slice_get, refl, sym, ap, subst, ◌∙◌, arith}
use Rattle.std.specs.List.{All, filter_map, flat_map, enumerate_from}
use Rattle.std.proofs.lemmas.List.{length-map}
use Rattle.std.proofs.lemmas.List.Elements.{All-nil, All-cons, All-head, All-tail, All-append}
use Rattle.std.proofs.lemmas.Option.{slice_get-get_or, same_Some}
use Rattle.vvp_forms.specs.declared.form.EdgeKind.{EdgeKind}
use Rattle.vvp_forms.specs.declared.form.Gate.{Gate}
use Rattle.port_chain.specs.declared.link.Reader.{Reader}
use Rattle.sym_link.specs.declared.program.Program.{Program}
use Rattle.sym_link.specs.declared.program.Item.{Item}
use Rattle.sym_link.specs.declared.program.ItemKind.{ItemKind}
use Rattle.sym_link.specs.declared.program.ItemKind.TheVariants.{Var, Net, Functor, Delay, Edge, Named, AnyOf, Array, Scope, Param}
use Rattle.sym_link.specs.declared.program.Source.{Source}
use Rattle.sym_link.specs.declared.program.Source.TheVariants as source
use Rattle.sym_link.specs.Roots.{Node, node_of, nodes_of, kind_of, root_of, root_by, ports_of}
use Rattle.sym_link.specs.Sound.{IsProgram, IsKind, is_root_kind}
use Rattle.net_engine.specs.Readers.{reader_at, readers_at, all_readers}
use Rattle.net_engine.specs.Parts.{IsNamed, AreNamed}
use Rattle.net_engine.proofs.MixLemmas.{map-get, read-at}
use Rattle.net_engine.proofs.LinkedLemmas.{item-at, item-sound, such-within, is-true, kind-at, ports-named}

-- ---- roots

root-kind-within : (program : Program) (k : ℕ) (item : Item) (kind : ItemKind) → IsKind program item kind → k < length program.items → root_by (Some kind) k < length program.items
root-kind-within program k item (Net root) h inside = such-within is_root_kind program.items root (is-true _ h.leads)
root-kind-within program k item (Var integer) h inside = inside
root-kind-within program k item (Functor gate drive ports) h inside = inside
root-kind-within program k item (Delay rise fall decay port) h inside = inside
root-kind-within program k item (Edge edge ports) h inside = inside
root-kind-within program k item Named h inside = inside
root-kind-within program k item (AnyOf events) h inside = inside
root-kind-within program k item (Array count) h inside = inside
root-kind-within program k item (Scope scope) h inside = inside
root-kind-within program k item Param h inside = inside

-- the root of an item is an item
pub root-within : (program : Program) (k : ℕ) → IsProgram program → k < length program.items → root_of (nodes_of program) k < length program.items
root-within program k linked inside =
    let in_nodes : k < length (nodes_of program) = omega (arith, length-map program.items node_of, inside) in
    let none : Node = record { width = 0; what = Named } in
    let at = slice_get-get_or (nodes_of program) k none in_nodes in
    let found = item-at program.items k (get_or (nodes_of program) k none) at in
    let kind : kind_of (nodes_of program) k ≡ Some found.0.what = kind-at (nodes_of program) k (get_or (nodes_of program) k none) at ∙ ap (λ (n : Node). Some n.what) found.2 in
    subst (λ (o : Option ItemKind). root_by o k < length program.items) (sym kind) (root-kind-within program k found.0 found.0.what (item-sound program k found.0 linked found.1) inside)

-- ---- drivers

ports-drivers : (nodes : List Node) (n item from : ℕ) (sources : List Source) → ((k : ℕ) → k < n → root_of nodes k < n) → AreNamed n sources → All (λ (r : Reader). r.driver < n) (filter_map (reader_at nodes item) (enumerate_from from sources))
ports-drivers nodes n item from [] roots named = All-nil (λ (r : Reader). r.driver < n)
ports-drivers nodes n item from (source.Unused ∷ sources) roots named = ports-drivers nodes n item (from + 1) sources roots (All-tail (IsNamed n) source.Unused sources named)
ports-drivers nodes n item from (source.Fixed bits ∷ sources) roots named = ports-drivers nodes n item (from + 1) sources roots (All-tail (IsNamed n) (source.Fixed bits) sources named)
ports-drivers nodes n item from (source.Item number ∷ sources) roots named =
    All-cons (λ (r : Reader). r.driver < n) (record { driver = root_of nodes number; link = record { node = item; port = from } }) _ (roots number (All-head (IsNamed n) (source.Item number) sources named))
    (ports-drivers nodes n item (from + 1) sources roots (All-tail (IsNamed n) (source.Item number) sources named))

items-drivers : (nodes : List Node) (n from : ℕ) (rows : List Node) → ((k : ℕ) → k < n → root_of nodes k < n) → All (λ (row : Node). AreNamed n (ports_of row.what)) rows → All (λ (r : Reader). r.driver < n) (flat_map (readers_at nodes) (enumerate_from from rows))
items-drivers nodes n from [] roots named = All-nil (λ (r : Reader). r.driver < n)
items-drivers nodes n from (row ∷ rows) roots named =
    All-append (λ (r : Reader). r.driver < n) (readers_at nodes (from, row)) _ (ports-drivers nodes n from 0 (ports_of row.what) roots (All-head (λ (r : Node). AreNamed n (ports_of r.what)) row rows named))
    (items-drivers nodes n (from + 1) rows roots (All-tail (λ (r : Node). AreNamed n (ports_of r.what)) row rows named))

-- the sources of an item
pub sources-at : (program : Program) (k : ℕ) (node : Node) → IsProgram program → slice_get (nodes_of program) k ≡ Some node → AreNamed (length program.items) (ports_of node.what)
sources-at program k node linked at =
    let found = item-at program.items k node at in
    subst (λ (n : Node). AreNamed (length program.items) (ports_of n.what)) (sym found.2) (ports-named program found.0 found.0.what (item-sound program k found.0 linked found.1))

pub drivers-within : (program : Program) → IsProgram program → All (λ (r : Reader). r.driver < length program.items) (all_readers (nodes_of program))
unfolding all_readers
drivers-within program linked =
    items-drivers (nodes_of program) (length program.items) 0 (nodes_of program) (λ k inside. root-within program k linked inside)
    (λ k d inside. sources-at program k (get_or (nodes_of program) k d) linked (slice_get-get_or (nodes_of program) k d inside))

-- ---- nodes

ports-nodes : (nodes : List Node) (n item from : ℕ) (sources : List Source) → item < n → All (λ (r : Reader). r.link.node < n) (filter_map (reader_at nodes item) (enumerate_from from sources))
ports-nodes nodes n item from [] inside = All-nil (λ (r : Reader). r.link.node < n)
ports-nodes nodes n item from (source.Unused ∷ sources) inside = ports-nodes nodes n item (from + 1) sources inside
ports-nodes nodes n item from (source.Fixed bits ∷ sources) inside = ports-nodes nodes n item (from + 1) sources inside
ports-nodes nodes n item from (source.Item number ∷ sources) inside =
    All-cons (λ (r : Reader). r.link.node < n) (record { driver = root_of nodes number; link = record { node = item; port = from } }) _ inside (ports-nodes nodes n item (from + 1) sources inside)

items-nodes : (nodes : List Node) (n from : ℕ) (rows : List Node) → from + length rows ≤ n → All (λ (r : Reader). r.link.node < n) (flat_map (readers_at nodes) (enumerate_from from rows))
items-nodes nodes n from [] most = All-nil (λ (r : Reader). r.link.node < n)
items-nodes nodes n from (row ∷ rows) most =
    All-append (λ (r : Reader). r.link.node < n) (readers_at nodes (from, row)) _ (ports-nodes nodes n from 0 (ports_of row.what) (omega (arith, most))) (items-nodes nodes n (from + 1) rows (omega (arith, most)))

pub nodes-within : (program : Program) → All (λ (r : Reader). r.link.node < length program.items) (all_readers (nodes_of program))
unfolding all_readers
nodes-within program = items-nodes (nodes_of program) (length program.items) 0 (nodes_of program) (omega (arith, length-map program.items node_of))

-- ---- one item of a slice

-- the node of an item that was read
pub node-read : (items : List Item) (k : ℕ) (item : Item) → k < length items → item ≡ get_or items k item → slice_get (map node_of items) k ≡ Some (node_of item)
node-read items k item inside is = map-get node_of items k item (read-at items k item inside is)

pub kind-sources : (items : List Item) (k : ℕ) (item : Item) (kind : ItemKind) → k < length items → item ≡ get_or items k item → item.what ≡ kind → ((node : Node) → slice_get (map node_of items) k ≡ Some node → AreNamed (length items) (ports_of node.what))
    → AreNamed (length items) (ports_of kind)
kind-sources items k item kind inside read is named = subst (λ (w : ItemKind). AreNamed (length items) (ports_of w)) is (named (node_of item) (node-read items k item inside read))

pub delay-source : (n port named : ℕ) → AreNamed n (source.Item port ∷ []) → source.Item port ≡ source.Item named → named < n
delay-source n port named all same =
    let is : port ≡ named = cc in subst (λ (k : ℕ). k < n) is (All-head (IsNamed n) (source.Item port) [] all)

pub kind-ports : (items : List Item) (k : ℕ) (item : Item) (kind : ItemKind) (node : Node) → k < length items → item ≡ get_or items k item → item.what ≡ kind → slice_get (map node_of items) k ≡ Some node → ports_of kind ≡ ports_of node.what
kind-ports items k item kind node inside read is at =
    let same : node_of item ≡ node = same_Some (node_of item) node (sym (node-read items k item inside read) ∙ at) in
    ap ports_of (sym is) ∙ ap (λ (n : Node). ports_of n.what) same

-- an item of another kind has no ports
pub no-ports : (kind : ItemKind) → ((gate : Gate) (drive : ℕ × ℕ) (ports : List Source) → kind ≡ Functor gate drive ports → ⊥) → ((edge : EdgeKind) (ports : List Source) → kind ≡ Edge edge ports → ⊥) → ((rise fall decay port : ℕ) → kind ≡ Delay rise fall decay port → ⊥)
    → ports_of kind ≡ []
no-ports (Functor gate drive ports) f e d = absurd (f gate drive ports refl)
no-ports (Edge edge ports) f e d = absurd (e edge ports refl)
no-ports (Delay rise fall decay port) f e d = absurd (d rise fall decay port refl)
no-ports (Var integer) f e d = refl
no-ports (Net root) f e d = refl
no-ports Named f e d = refl
no-ports (AnyOf events) f e d = refl
no-ports (Array count) f e d = refl
no-ports (Scope scope) f e d = refl
no-ports Param f e d = refl
