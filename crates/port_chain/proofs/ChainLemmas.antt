-- How the chains change with one more reader, and what is read along them.
use Rattle.std.proofs.Common.{◌≡◌, ◌≢◌, ℕ, zero, suc, ◌+◌, ◌*◌, ◌^◌, ◌<◌, ◌≤◌, true, false, nat_eq, nat_lt, List, [], ◌∷◌, ◌⊎◌, inl, inr, map, length, All, AllPairs, get_or, set, drop, refl, sym, ap, subst, ◌∙◌, arith, length-set, add-one}
use Rattle.std.proofs.lemmas.Bool.{cases_eq, eqb-true}
use Rattle.std.proofs.lemmas.Bool.Decides.{nat_tests, Decides-eqb}
use Rattle.std.proofs.lemmas.List.{get_or-set_same, get_or-set_other, get_or_read, get_or-map, length-map, drop_more, get_or-drop, length-drop}
use Rattle.std.proofs.lemmas.List.Elements.{All-nil, All-cons, All-head, All-tail, All-map, All-filter, All-contains}
use Rattle.std.proofs.lemmas.List.Kept.{AllPairs-cons, AllPairs-filter}
use Rattle.std.proofs.lemmas.Map.Made.{IsDistinct-from_AllPairs}
use Rattle.std.proofs.lemmas.Map.Views.{Contains-from_any}
use Rattle.std.proofs.lemmas.Map.Steps.{length-le_from_distinct_below}
use Rattle.port_chain.specs.Link.{InputPort, no_link, place_of}
use Rattle.port_chain.specs.Pairs.{link_at, AreDistinctPorts, links_of}
use Rattle.port_chain.specs.Chain.{next_of, IsChain, links_from, IsBound, IsFanout}
use Rattle.port_chain.specs.declared.link.Reader.{Reader}

-- two ports of one place are one
same_port : (a b : InputPort) → a.port < 4 → b.port < 4 → place_of a ≡ place_of b → a ≡ b
same_port a b small small' e =
    let nodes : a.node ≡ b.node = omega arith in
    let ports : a.port ≡ b.port = omega arith in
    ap (λ (n : ℕ). let link : InputPort = record { node = n; port = a.port } in link) nodes ∙ ap (λ (n : ℕ). let link : InputPort = record { node = b.node; port = n } in link) ports

-- a write to another port leaves a chain
IsChain-set : (ports : List InputPort) (at : ℕ) (next start : InputPort) (links : List InputPort) → All (λ link. place_of link ≢ at) links → IsChain ports start links → IsChain (set ports at next) start links
IsChain-set ports at next start [] other chain = chain
IsChain-set ports at next start (link ∷ links) other chain = (
  chain.0,
  omega (arith, chain.1, length-set ports at next),
  subst (λ (s : InputPort). IsChain (set ports at next) s links) (sym (get_or-set_other ports at (place_of link) next no_link (All-head (λ (l : InputPort). place_of l ≢ at) link links other))) (IsChain-set ports at next (next_of ports link) links (All-tail (λ (l : InputPort). place_of l ≢ at) link links other) chain.2),
)

-- one more reader in front, of this node or of another
links_of-same : (node : ℕ) (reader : Reader) (readers : List Reader) → reader.driver ≡ node → links_of node (reader ∷ readers) ≡ reader.link ∷ links_of node readers
links_of-same node reader readers e = let is : nat_eq reader.driver node ≡ true = grind (arith, nat_tests) in rw is refl

links_of-other : (node : ℕ) (reader : Reader) (readers : List Reader) → reader.driver ≢ node → links_of node (reader ∷ readers) ≡ links_of node readers
links_of-other node reader readers e = let is : nat_eq reader.driver node ≡ false = grind (arith, nat_tests) in rw is refl

-- what holds of each reader's link holds of the links of a node
All-links_of : (P : InputPort → Type 0) (node : ℕ) (readers : List Reader) → All (λ reader. P reader.link) readers → All P (links_of node readers)
All-links_of P node readers all =
    All-map P (λ (reader : Reader). reader.link) _ (All-filter (λ (reader : Reader). nat_eq reader.driver node) (λ (reader : Reader). P reader.link) readers all)

-- the chains after one more reader is put at the head of its driver's chain
pub IsBound-cons : (heads ports : List InputPort) (reader : Reader) (readers : List Reader) (head : InputPort) → reader.driver < length heads → place_of reader.link < length ports → reader.link.port < 4 → head ≡ get_or heads reader.driver head →
    All (λ other. reader.link ≢ other.link) readers → IsBound heads ports readers → IsBound (set heads reader.driver reader.link) (set ports (place_of reader.link) head) (reader ∷ readers)
IsBound-cons heads ports reader readers head driver inside valid read fresh b = record {
  chained = λ node within. go node (omega (arith, within, length-set heads reader.driver reader.link)) (cases_eq reader.driver node);
  apart = AllPairs-cons (λ (one other : Reader). one.link ≢ other.link) reader readers fresh b.apart;
  valid = All-cons (λ (one : Reader). one.link.port < 4) reader readers valid b.valid;
} where
  at : ℕ
  at = place_of reader.link

  heads' : List InputPort
  heads' = set heads reader.driver reader.link

  ports' : List InputPort
  ports' = set ports at head

  others : All (λ other. place_of other.link ≢ at) readers
  others = λ k d within e. fresh k d within (same_port reader.link (get_or readers k d).link valid (b.valid k d within) (sym e))

  kept : (node : ℕ) → node < length heads → IsChain ports' (get_or heads node no_link) (links_of node readers)
  kept node within = IsChain-set ports at head _ (links_of node readers) (All-links_of (λ link. place_of link ≢ at) node readers others) (b.chained node within)

  go : (node : ℕ) → node < length heads → (reader.driver ≡ node) ⊎ (reader.driver ≢ node) → IsChain ports' (get_or heads' node no_link) (links_of node (reader ∷ readers))
  go node within (inl e) =
      let start : get_or heads' node no_link ≡ reader.link = ap (λ n. get_or heads' n no_link) (sym e) ∙ get_or-set_same heads reader.driver reader.link no_link driver in
      let rest : next_of ports' reader.link ≡ get_or heads node no_link =
      get_or-set_same ports at head no_link inside ∙ get_or_read heads reader.driver head driver read no_link ∙ ap (λ n. get_or heads n no_link) e in
      subst (λ (links : List InputPort). IsChain ports' (get_or heads' node no_link) links) (sym (links_of-same node reader readers e)) (
        start,
        omega (arith, inside, length-set ports at head),
        subst (λ (s : InputPort). IsChain ports' s (links_of node readers)) (sym rest) (kept node within),
      )
  go node within (inr n) =
      let start : get_or heads' node no_link ≡ get_or heads node no_link = get_or-set_other heads reader.driver node reader.link no_link (λ e. n (sym e)) in
      subst (λ (links : List InputPort). IsChain ports' (get_or heads' node no_link) links) (sym (links_of-other node reader readers n))
      (subst (λ (s : InputPort). IsChain ports' s (links_of node readers)) (sym start) (kept node within))

-- the links of a chain name ports that are kept
IsChain-inside : (ports : List InputPort) (start : InputPort) (links : List InputPort) → IsChain ports start links → All (λ link. place_of link < length ports) links
IsChain-inside ports start [] chain = All-nil (λ (link : InputPort). place_of link < length ports)
IsChain-inside ports start (link ∷ links) chain =
    All-cons (λ (l : InputPort). place_of l < length ports) link links chain.1 (IsChain-inside ports (next_of ports link) links chain.2)

-- a chain begins with its first link, and each of its links leads to the next
first_link : (ports : List InputPort) (start : InputPort) (links : List InputPort) → IsChain ports start links → start ≡ link_at links 0
first_link ports start [] chain = chain
first_link ports start (link ∷ links) chain = chain.0

pub next_link : (ports : List InputPort) (start : InputPort) (links : List InputPort) (k : ℕ) → IsChain ports start links → k < length links → (place_of (link_at links k) < length ports) × (next_of ports (link_at links k) ≡ link_at links (suc k))
next_link ports start [] k chain within = absurd (omega arith)
next_link ports start (link ∷ links) zero chain within = (chain.1, first_link ports (next_of ports link) links chain.2)
next_link ports start (link ∷ links) (suc k) chain within = next_link ports (next_of ports link) links k chain.2 (omega arith)

AllPairs-map : {X Y : Type 0} (R : Y → Y → Type 0) (f : X → Y) (xs : List X) (some : X) → AllPairs (λ a b. R (f a) (f b)) xs → AllPairs R (map f xs)
AllPairs-map R f xs some all i j d before within =
    let there : j < length xs = omega (arith, within, length-map xs f) in
    let left = get_or-map f xs i some d (omega arith) in
    let right = get_or-map f xs j some d there in
    rw (left, right) (all i j some before there)

-- what holds of each two readers' links holds of each two links of a node
AllPairs-links_of : (R : InputPort → InputPort → Type 0) (node : ℕ) (readers : List Reader) → AllPairs (λ a b. R a.link b.link) readers → AllPairs R (links_of node readers)
AllPairs-links_of R node readers all =
    AllPairs-map R (λ (reader : Reader). reader.link) _ (record { driver = 0; link = no_link }) (AllPairs-filter (λ (a b : Reader). R a.link b.link) (λ (reader : Reader). nat_eq reader.driver node) readers all)

-- the readers' links name ports at different places
places_apart : (readers : List Reader) → AllPairs (λ a b. a.link ≢ b.link) readers → All (λ reader. reader.link.port < 4) readers → AllPairs (λ a b. place_of a.link ≢ place_of b.link) readers
places_apart readers apart valid i j d before within e =
    apart i j d before within (same_port _ _ (valid i d (omega arith)) (valid j d within) e)

-- a chain whose links name different ports is no longer than all ports
chain_short : (ports : List InputPort) (start : InputPort) (links : List InputPort) → IsChain ports start links → AllPairs (λ a b. place_of a ≢ place_of b) links → length links ≤ length ports
chain_short ports start links chain apart =
    let places = map place_of links in
    let inside : All (λ place. place < length ports) places = All-map (λ (place : ℕ). place < length ports) place_of links (IsChain-inside ports start links chain) in
    let distinct : AllPairs (λ a b. a ≢ b) places = AllPairs-map (λ (a b : ℕ). a ≢ b) place_of links no_link apart in
    omega (arith, length-map links place_of, length-le_from_distinct_below places (length ports) (IsDistinct-from_AllPairs Decides-eqb places distinct) (λ place among. All-contains (λ (n : ℕ). n < length ports) places place inside (Contains-from_any eqb-true place places among)))

-- what the view reads from the head of a chain
links_from-chain : (ports : List InputPort) (limit : ℕ) (start : InputPort) (links : List InputPort) → length ports ≤ place_of no_link → length links ≤ limit → IsChain ports start links → links_from ports limit start ≡ links
links_from-chain ports zero start [] few enough chain = refl
links_from-chain ports zero start (link ∷ links) few enough chain = absurd (omega arith)
links_from-chain ports (suc limit) start [] few enough chain =
    let ends : nat_lt (place_of start) (length ports) ≡ false = rw chain (grind (arith, nat_tests)) in rw ends refl
links_from-chain ports (suc limit) start (link ∷ links) few enough chain =
    let rest = links_from-chain ports limit (next_of ports link) links few (omega arith) chain.2 in
    let inside = chain.1 in
    let goes_on : nat_lt (place_of link) (length ports) ≡ true = grind (arith, nat_tests) in
    rw (chain.0, goes_on, rest) refl

-- what the view shows
abbrev pub shown : List InputPort → List InputPort → List (List InputPort)
shown heads ports = map (links_from ports (length ports)) heads

pub shown-at : (heads ports : List InputPort) (f : IsFanout heads ports) (node : ℕ) → node < length heads → get_or (shown heads ports) node [] ≡ links_of node f.readers
shown-at heads ports f node within =
    let chain = f.bound.chained node within in
    let apart = AllPairs-links_of (λ a b. place_of a ≢ place_of b) node f.readers (places_apart f.readers f.bound.apart f.bound.valid) in
    get_or-map (links_from ports (length ports)) heads node no_link [] within
    ∙ links_from-chain ports (length ports) (get_or heads node no_link) (links_of node f.readers) (omega (arith, f.four, f.few)) (chain_short ports _ _ chain apart) chain

-- the links of a node name ports, each another one
pub distinct_ports : (heads ports : List InputPort) (f : IsFanout heads ports) (node : ℕ) → node < length heads → AreDistinctPorts (links_of node f.readers)
distinct_ports heads ports f node within = record {
  apart = AllPairs-links_of (λ a b. a ≢ b) node f.readers f.bound.apart;
  named = λ k d there e.
      let inside = IsChain-inside ports _ _ (f.bound.chained node within) k d there in
      let place = ap place_of e in
      omega (arith, f.four, f.few, inside, place);
}

-- the links of a node, as the view shows them
pairs-at : (heads ports : List InputPort) (f : IsFanout heads ports) (fan : List (List InputPort)) (node : ℕ) → shown heads ports ≡ fan → node < length fan → (node < length heads) × (get_or fan node [] ≡ links_of node f.readers)
pairs-at heads ports f fan node view within =
    let there : node < length heads = omega (arith, within, ap length view, length-map heads (links_from ports (length ports))) in
    (there, ap (λ (lists : List (List InputPort)). get_or lists node []) (sym view) ∙ shown-at heads ports f node there)

-- what `first` reads
pub first_pair : (heads ports : List InputPort) (f : IsFanout heads ports) (fan : List (List InputPort)) (node : ℕ) → shown heads ports ≡ fan → node < length fan → (head : InputPort) → head ≡ get_or heads node head → (head ≡ link_at (get_or fan node []) 0) × AreDistinctPorts (get_or fan node [])
first_pair heads ports f fan node view within head read =
    let at = pairs-at heads ports f fan node view within in (
      get_or_read heads node head at.0 read no_link ∙ first_link ports _ _ (f.bound.chained node at.0) ∙ ap (λ (links : List InputPort). link_at links 0) (sym at.1),
      subst AreDistinctPorts (sym at.1) (distinct_ports heads ports f node at.0),
    )

-- what `next` reads
pub next_pair : (heads ports : List InputPort) (f : IsFanout heads ports) (fan : List (List InputPort)) (node k : ℕ) (link : InputPort) → shown heads ports ≡ fan → node < length fan → k < length (get_or fan node []) → link ≡ link_at (get_or fan node []) k → (place_of link < length ports) × (next_of ports link ≡ link_at (get_or fan node []) (k + 1))
next_pair heads ports f fan node k link view within inside is =
    let at = pairs-at heads ports f fan node view within in
    let n = next_link ports _ _ k (f.bound.chained node at.0) (omega (arith, inside, ap length at.1)) in
    let same : link ≡ link_at (links_of node f.readers) k = is ∙ ap (λ (links : List InputPort). link_at links k) at.1 in
    rw (same, at.1, add-one) n

-- one more reader, read at a place before those that are bound
pub IsBound-more : (heads ports : List InputPort) (readers : List Reader) (i : ℕ) (reader : Reader) → i < length readers → reader ≡ get_or readers i reader → AllPairs (λ a b. a.link ≢ b.link) readers →
    (All (λ other. reader.link ≢ other.link) (drop (i + 1) readers) → IsBound heads ports (reader ∷ drop (i + 1) readers)) → IsBound heads ports (drop i readers)
IsBound-more heads ports readers i reader within read once bound =
    subst (IsBound heads ports) (sym (drop_more readers i reader within ∙ ap (λ (r : Reader). r ∷ drop (i + 1) readers) (sym read))) (bound (λ k d there.
    let inside : i + 1 + k < length readers = omega (arith, there, length-drop (i + 1) readers) in
    let pair = once i (i + 1 + k) d (omega arith) inside in
    λ same. pair (ap (λ (r : Reader). r.link) (sym (get_or_read readers i reader within read d)) ∙ same ∙ ap (λ (r : Reader). r.link) (get_or-drop (i + 1) readers k d))))

-- the view of chains to which all readers are bound
pub built_pairs : (heads ports heads' ports' : List InputPort) (readers : List Reader) (nodes : ℕ) → nodes ≤ 2 ^ 20 → length heads ≡ nodes → length ports ≡ 4 * nodes → IsBound heads ports readers → heads' ≡ heads → ports' ≡ ports → (node : ℕ) → node < nodes → get_or (shown heads' ports') node [] ≡ links_of node readers
built_pairs heads ports heads' ports' readers nodes few one four bound same_heads same_ports node within =
    rw (same_heads, same_ports) (shown-at heads ports (record { few = omega arith; four = omega arith; readers = readers; bound = bound }) node (omega arith))
