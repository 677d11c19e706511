use Rattle.std.proofs.Common.{◌∙◌, sym, ap}
use Rattle.std.specs.Int.RustNames.{count_ones}
use Rattle.toggle_lanes.proofs.SumLemmas.{rises-one, falls-one}
use Rattle.toggle_lanes.proofs.lanes.one_move.Goals as goal

pub returns-clause-rises : goal.returns-clause-rises
returns-clause-rises c = c.ones.ensures.value ∙ (ap count_ones c.gained.ensures ∙ sym (rises-one c.args.a.now c.args.b.now c.args.at))

pub returns-clause-falls : goal.returns-clause-falls
returns-clause-falls c = c.ones-2.ensures.value ∙ (ap count_ones c.gained-2.ensures ∙ sym (falls-one c.args.a.now c.args.b.now c.args.at))
