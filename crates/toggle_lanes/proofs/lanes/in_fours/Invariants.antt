use Rattle.std.proofs.Common.{◌≡◌, ◌≤◌, ◌*◌}
use Rattle.toggle_lanes.specs.Lanes.{lane_rises, lane_falls}
use Rattle.toggle_lanes.proofs.lanes.in_fours.Given as goal

abbrev pub invariant-loop-four : goal.invariant-loop-four
invariant-loop-four l = record {
  rises : l.moves.rises ≡ lane_rises l.a l.b 0 (l.four * 4);
  falls : l.moves.falls ≡ lane_falls l.a l.b 0 (l.four * 4);
  few_rises : l.moves.rises ≤ 256 * l.four;
  few_falls : l.moves.falls ≤ 256 * l.four;
}
