use Rattle.std.proofs.Common.{◌+◌, ◌*◌, sym, arith}
use Rattle.toggle_lanes.proofs.SumLemmas.{rises-none, falls-none, rises-more, falls-more, in-parts}
use Rattle.toggle_lanes.proofs.lanes.in_fours.Goals as goal

pub loop-four-init : goal.loop-four-init
loop-four-init c = record {
  rises = sym (rises-none c.args.a.now c.args.b.now 0 _ (omega arith));
  falls = sym (falls-none c.args.a.now c.args.b.now 0 _ (omega arith));
  few_rises = omega arith;
  few_falls = omega arith;
}

pub loop-four-preserved : goal.loop-four-preserved
loop-four-preserved c = record {
  rises = in-parts _ _ _ _ _ _ c.and-moves.ensures.rises c.loop-four.invariant.rises c.four_moves.ensures.rises
      (rises-more c.args.a.now c.args.b.now 0 (c.loop-four.four * 4) (c.loop-four.four * 4) 4 ((c.loop-four.four + 1) * 4) (omega arith) (omega arith));
  falls = in-parts _ _ _ _ _ _ c.and-moves.ensures.falls c.loop-four.invariant.falls c.four_moves.ensures.falls
      (falls-more c.args.a.now c.args.b.now 0 (c.loop-four.four * 4) (c.loop-four.four * 4) 4 ((c.loop-four.four + 1) * 4) (omega arith) (omega arith));
  few_rises = omega arith;
  few_falls = omega arith;
}
