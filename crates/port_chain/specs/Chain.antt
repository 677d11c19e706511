-- How links are chained through the ports. No public clause cites this module.
use Rattle.std.specs.Prelude.{◌≡◌, ◌≢◌, ℕ, zero, suc, ◌*◌, ◌^◌, ◌<◌, ◌≤◌, nat_lt, List, [], ◌∷◌, length, All, AllPairs, slice_index_or, if◌then◌else◌}
use Rattle.port_chain.specs.Link.{InputPort, no_link, place_of}
use Rattle.port_chain.specs.Pairs.{links_of}
use Rattle.port_chain.specs.declared.link.Reader.{Reader}

-- the link that is kept for the port which a link names
abbrev pub next_of : List InputPort → InputPort → InputPort
next_of ports link = slice_index_or ports (place_of link) no_link

-- from `start`, each link followed by the one that is kept for its port, these are the links to the end
abbrev pub IsChain : List InputPort → InputPort → List InputPort → Type 0
IsChain ports start [] = start ≡ no_link
IsChain ports start (link ∷ links) = (start ≡ link) × (place_of link < length ports) × IsChain ports (next_of ports link) links

-- the links from `start` on, as far as they name ports that are kept, and at most `limit` of them
abbrev pub links_from : List InputPort → ℕ → InputPort → List InputPort
links_from ports zero start = []
links_from ports (suc limit) start =
    if nat_lt (place_of start) (length ports) then start ∷ links_from ports limit (next_of ports start) else []

-- from each node's head leads a chain of the links of its readers, and no port is in two chains or twice in one
pub record IsBound (heads ports : List InputPort) (readers : List Reader) : Type 0 where
  pub chained : (node : ℕ) → node < length heads → IsChain ports (slice_index_or heads node no_link) (links_of node readers)
  pub apart : AllPairs (λ a b. a.link ≢ b.link) readers
  pub valid : All (λ reader. reader.link.port < 4) readers

-- a head for each node, four ports for each node, and the chains of some readers through them
pub record IsFanout (heads ports : List InputPort) : Type 0 where
  pub few : length heads ≤ 2 ^ 20
  pub four : length ports ≡ 4 * length heads
  pub readers : List Reader
  pub bound : IsBound heads ports readers
