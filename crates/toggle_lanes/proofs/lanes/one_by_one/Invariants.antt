use Rattle.std.proofs.Common.{◌≡◌, ◌≤◌, ◌*◌, ◌-◌}
use Rattle.toggle_lanes.specs.Lanes.{lane_rises, lane_falls}
use Rattle.toggle_lanes.proofs.lanes.one_by_one.Given as goal

abbrev pub invariant-loop-at : goal.invariant-loop-at
invariant-loop-at l = record {
  rises : l.moves.rises ≡ lane_rises l.a l.b l.from (l.at - l.from);
  falls : l.moves.falls ≡ lane_falls l.a l.b l.from (l.at - l.from);
  few_rises : l.moves.rises ≤ 64 * (l.at - l.from);
  few_falls : l.moves.falls ≤ 64 * (l.at - l.from);
}
