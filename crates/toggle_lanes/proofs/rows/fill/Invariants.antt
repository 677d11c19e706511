use Rattle.toggle_lanes.specs.Lanes.{AreFilled}
use Rattle.toggle_lanes.proofs.rows.fill.Given as goal

abbrev pub invariant-loop-change : goal.invariant-loop-change
invariant-loop-change l = AreFilled l.initial.nets l.nets l.yielded
