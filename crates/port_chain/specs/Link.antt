-- What a link names.
use Rattle.std.specs.Prelude.{◌≡◌, ℕ, ◌+◌, ◌-◌, ◌*◌, ◌^◌, ◌/◌, ◌%◌}
use Rattle.std.proofs.Common.{arith}

-- an input port of a node, both counted from 0
pub record InputPort : Type 0 where
  pub node : ℕ
  pub port : ℕ

-- the word of all ones, which ends a chain; no net has that node
abbrev pub no_link : InputPort
no_link = record { node = 2 ^ 30 - 1; port = 3 }

-- its place among the ports of all nodes, where each node has four
abbrev pub place_of : InputPort → ℕ
place_of link = 4 * link.node + link.port

-- a place is that of the node and the port which quotient and remainder name
pub place_of-parts : (n : ℕ) → 4 * (n / 4) + n % 4 ≡ n
place_of-parts n = omega arith
