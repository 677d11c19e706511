use Rattle.std.proofs.Common.{◌≡◌, ◌≤◌, ◌-◌, length, take, vec_len}
use Rattle.std.specs.List.{position_or_len}
use Rattle.port_chain.specs.Pairs.{link_at, AreDistinctPorts}
use Rattle.port_chain.proofs.WalkLemmas.{is_port}
use Rattle.port_chain.proofs.tests.collect_pairs.Given as goal

-- the ports visited so far are the first of the pairs, and the link is that of the next
abbrev pub invariant-loop-link : goal.invariant-loop-link
invariant-loop-link g l = record {
  ports : AreDistinctPorts (g.F.Fanout.pairs l.fan l.node);
  visited : l.links.items ≡ take (vec_len l.links) (g.F.Fanout.pairs l.fan l.node);
  within : vec_len l.links ≤ length (g.F.Fanout.pairs l.fan l.node);
  at : l.link ≡ link_at (g.F.Fanout.pairs l.fan l.node) (vec_len l.links);
}

-- how many ports there are from the link on
abbrev pub decreases-loop-link : goal.decreases-loop-link
decreases-loop-link g l = length (g.F.Fanout.pairs l.fan l.node) - position_or_len (is_port l.link) (g.F.Fanout.pairs l.fan l.node)
