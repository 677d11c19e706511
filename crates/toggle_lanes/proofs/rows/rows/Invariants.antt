use Rattle.std.proofs.Common.{◌≡◌, take, map, slice_index_or}
use Rattle.std.specs.List.{enumerate_from}
use Rattle.toggle_lanes.specs.Lanes.{no_moves, row_with}
use Rattle.toggle_lanes.proofs.rows.rows.Given as goal

abbrev pub invariant-loop-i : goal.invariant-loop-i
invariant-loop-i l = l.rows.items ≡ map (λ numbered. row_with numbered.0 (slice_index_or l.counts numbered.1.net no_moves)) (enumerate_from 0 (take l.i l.vars))
