use Rattle.std.proofs.Common.{arith}
use Rattle.toggle_lanes.specs.Lanes.{no_moves}
use Rattle.toggle_lanes.proofs.RowLemmas.{row-pushed}
use Rattle.toggle_lanes.proofs.rows.rows.Goals as goal

pub loop-i-preserved : goal.loop-i-preserved
loop-i-preserved c =
    row-pushed c.args.counts.now c.args.vars.now c.index-vars-i.result c.loop-i.i c.moves_at-rises.result c.loop-i.rows.items _
    c.loop-i.invariant (omega arith) c.index-vars-i.is (c.moves_at-rises.ensures no_moves) c.in_ok-push.ensures.items
