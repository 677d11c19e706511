use Rattle.std.proofs.Common.{refl}
use Rattle.toggle_lanes.proofs.FillLemmas.{filled-more}
use Rattle.toggle_lanes.proofs.rows.fill.Goals as goal

pub loop-change-preserved : goal.loop-change-preserved
loop-change-preserved c =
    filled-more c.args.nets.now c.loop-change.nets _ c.loop-change.yielded c.in-Some.change c.index-nets-change.result c.push.new.self
    c.loop-change.invariant c.in_ok-push.ensures refl
