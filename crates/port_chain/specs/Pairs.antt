-- The ports that a node drives, as a list of links.
use Rattle.std.specs.Prelude.{◌≡◌, ◌≢◌, ℕ, ◌+◌, ◌<◌, ◌==◌, List, [], map, filter, length, All, AllPairs, slice_index_or}
use Rattle.port_chain.specs.Link.{InputPort, no_link}
use Rattle.port_chain.specs.declared.link.Reader.{Reader}

-- the k-th of the links, from 0; past their end the link of no port
abbrev pub link_at : List InputPort → ℕ → InputPort
link_at links k = slice_index_or links k no_link

-- wherever the link stands among the links, `next` is the one after it
abbrev pub IsAfter : List InputPort → InputPort → InputPort → Type 0
IsAfter links link next = (k : ℕ) → k < length links → link ≡ link_at links k → next ≡ link_at links (k + 1)

-- the links name ports, each another one
pub record AreDistinctPorts (links : List InputPort) : Type 0 where
  pub apart : AllPairs (λ a b. a ≢ b) links
  pub named : All (λ link. link ≢ no_link) links

-- the links of the readers that a node drives, in the order of the readers
abbrev pub links_of : ℕ → List Reader → List InputPort
links_of node readers = map (λ reader. reader.link) (filter (λ reader. reader.driver == node) readers)

-- the links of a node, where the links of all nodes are given in the order of the nodes
abbrev pub pairs_of : List (List InputPort) → ℕ → List InputPort
pairs_of fan node = slice_index_or fan node []
