use Rattle.std.proofs.Common.{◌≡◌, take, map}
use Rattle.toggle_lanes.specs.Lanes.{moves_of}
use Rattle.toggle_lanes.proofs.rows.counts.Given as goal

abbrev pub invariant-loop-net : goal.invariant-loop-net
invariant-loop-net l = l.counts.items ≡ map moves_of (take l.net-index l.nets)
