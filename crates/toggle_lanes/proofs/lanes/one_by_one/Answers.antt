use Rattle.std.proofs.Common.{◌+◌, ◌-◌, sym, arith}
use Rattle.toggle_lanes.proofs.SumLemmas.{rises-none, falls-none, rises-more, falls-more, in-parts}
use Rattle.toggle_lanes.proofs.lanes.one_by_one.Goals as goal

pub loop-at-init : goal.loop-at-init
loop-at-init c = record {
  rises = sym (rises-none c.args.a.now c.args.b.now c.args.from _ (omega arith));
  falls = sym (falls-none c.args.a.now c.args.b.now c.args.from _ (omega arith));
  few_rises = omega arith;
  few_falls = omega arith;
}

pub loop-at-preserved : goal.loop-at-preserved
loop-at-preserved c = record {
  rises = in-parts _ _ _ _ _ _ c.and-moves.ensures.rises c.loop-at.invariant.rises c.one_move.ensures.rises
      (rises-more c.args.a.now c.args.b.now c.args.from (c.loop-at.at - c.args.from) c.loop-at.at 1 (c.loop-at.at + 1 - c.args.from) (omega arith) (omega arith));
  falls = in-parts _ _ _ _ _ _ c.and-moves.ensures.falls c.loop-at.invariant.falls c.one_move.ensures.falls
      (falls-more c.args.a.now c.args.b.now c.args.from (c.loop-at.at - c.args.from) c.loop-at.at 1 (c.loop-at.at + 1 - c.args.from) (omega arith) (omega arith));
  few_rises = omega arith;
  few_falls = omega arith;
}
