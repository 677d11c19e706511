use Rattle.std.proofs.Common.{◌∙◌, ap, sum_by, arith}
use Rattle.std.specs.Int.RustNames.{count_ones}
use Rattle.toggle_lanes.proofs.SumLemmas.{rises-lanes, falls-lanes, gained-same}
use Rattle.toggle_lanes.proofs.lanes.four_moves.Goals as goal

pub returns-clause-rises : goal.returns-clause-rises
returns-clause-rises c =
    c.ones_in.ensures.value
    ∙ (ap (sum_by count_ones) (c.gained_lanes.ensures ∙ gained-same _ _ _ _ _ _ _ _ c.four-new_a.ensures c.four-new_b.ensures c.four-old_a.ensures c.four-old_b.ensures)
    ∙ rises-lanes c.args.a.now c.args.b.now c.args.at 4 (omega arith) (omega arith))

pub returns-clause-falls : goal.returns-clause-falls
returns-clause-falls c =
    c.ones_in-2.ensures.value
    ∙ (ap (sum_by count_ones) (c.gained_lanes-2.ensures ∙ gained-same _ _ _ _ _ _ _ _ c.four-old_a.ensures c.four-old_b.ensures c.four-new_a.ensures c.four-new_b.ensures)
    ∙ falls-lanes c.args.a.now c.args.b.now c.args.at 4 (omega arith) (omega arith))
