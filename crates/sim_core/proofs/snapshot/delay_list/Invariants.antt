use Rattle.std.proofs.Common.{◌≡◌, take}
use Rattle.std.specs.List.{enumerate_from, filter_map}
use Rattle.sim_core.specs.Snapshot.{request_at}
use Rattle.sim_core.proofs.snapshot.delay_list.Given as goal

abbrev pub invariant-items : goal.invariant-items
invariant-items g l = l.list ≡ filter_map (request_at l.net.values) (take l.i (enumerate_from 0 l.net.nodes))
