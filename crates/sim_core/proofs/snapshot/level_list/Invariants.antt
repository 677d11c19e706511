use Rattle.std.proofs.Common.{◌≡◌, map, take}
use Rattle.std.specs.List.{enumerate_from}
use Rattle.sim_core.specs.Snapshot.{driven_at}
use Rattle.sim_core.proofs.snapshot.level_list.Given as goal

abbrev pub invariant-items : goal.invariant-items
invariant-items g l = l.list ≡ map (driven_at l.net.values) (take l.i (enumerate_from 0 l.net.nodes))
