-- How a walk along the ports of a node goes on and ends. It needs no count of what it has visited.
use Rattle.std.proofs.Common.{◌≡◌, ◌≢◌, ℕ, ◌+◌, ◌-◌, ◌<◌, ◌≤◌, Bool, true, false, ◌&&◌, nat_eq, List, length, take, ◌⊎◌, inl, inr, refl, sym, ap, ◌∙◌, arith}
use Rattle.std.specs.List.{position_or_len}
use Rattle.std.proofs.lemmas.Bool.{cases_lt, eqb-true}
use Rattle.std.proofs.lemmas.Bool.Decides.{nat_tests}
use Rattle.std.proofs.lemmas.List.{take_all, get_or_past}
use Rattle.std.proofs.lemmas.List.Sums.{position_or_len_is}
use Rattle.port_chain.specs.Link.{InputPort, no_link}
use Rattle.port_chain.specs.Pairs.{link_at, IsAfter, AreDistinctPorts}

-- whether a port is the one that a link names
abbrev pub is_port : InputPort → InputPort → Bool
is_port link port = nat_eq port.node link.node && nat_eq port.port link.port

is_port-same : (link : InputPort) → is_port link link ≡ true
is_port-same link = grind (arith, nat_tests)

is_port-other : (link port : InputPort) → (port ≡ link → ⊥) → is_port link port ≡ false
is_port-other link port differ = go (nat_eq port.node link.node) (nat_eq port.port link.port) refl refl where
  go : (n p : Bool) → nat_eq port.node link.node ≡ n → nat_eq port.port link.port ≡ p → (n && p) ≡ false
  go false p nodes ports = refl
  go true false nodes ports = refl
  go true true nodes ports =
      absurd (differ (ap (λ (n : ℕ). let x : InputPort = record { node = n; port = port.port } in x) (eqb-true _ _ nodes) ∙ ap (λ (p : ℕ). let x : InputPort = record { node = link.node; port = p } in x) (eqb-true _ _ ports)))

-- the k-th link stands at place k, and the link of no port behind all
place-at : (links : List InputPort) → AreDistinctPorts links → (k : ℕ) → k ≤ length links → position_or_len (is_port (link_at links k)) links ≡ k
place-at links ports k within =
    position_or_len_is (is_port (link_at links k)) links k no_link within (λ j before. is_port-other _ _ (apart j before (cases_lt k (length links)))) (λ inside. is_port-same (link_at links k)) where
      apart : (j : ℕ) → j < k → (k < length links) ⊎ (length links ≤ k) → link_at links j ≡ link_at links k → ⊥
      apart j before (inl inside) e = ports.apart j k no_link before inside e
      apart j before (inr past) e = ports.named j no_link (omega arith) (e ∙ get_or_past links k no_link past)

-- the walk comes nearer to the end
pub walk_on : (links : List InputPort) (k : ℕ) (link next : InputPort) → AreDistinctPorts links → link ≡ link_at links k → link ≢ no_link → IsAfter links link next → length links - position_or_len (is_port next) links < length links - position_or_len (is_port link) links
walk_on links k link next ports at more after =
    let inside : k < length links = elim (cases_lt k (length links)) [ inl inside ↦ inside | inr past ↦ absurd (more (at ∙ get_or_past links k no_link past)) ] in
    let here = ap (λ (l : InputPort). position_or_len (is_port l) links) at ∙ place-at links ports k (omega arith) in
    let there = ap (λ (l : InputPort). position_or_len (is_port l) links) (after k inside at) ∙ place-at links ports (k + 1) (omega arith) in
    omega (arith, here, there)

-- a walk that has come to the link of no port has visited all
pub walk_end : (links visited : List InputPort) (k : ℕ) (link : InputPort) → AreDistinctPorts links → link ≡ link_at links k → link ≡ no_link → visited ≡ take k links → visited ≡ links
walk_end links visited k link ports at ends so_far =
    so_far ∙ elim (cases_lt k (length links)) [ inl more ↦ absurd (ports.named k no_link more (sym at ∙ ends)) | inr enough ↦ take_all k links enough ]
