use Rattle.std.proofs.Common.{◌≡◌, ◌∙◌, ◌-◌, length, sym, arith}
use Rattle.std.proofs.lemmas.Bool.{eqb-true}
use Rattle.toggle_lanes.proofs.SumLemmas.{rises-none, falls-none, rises-more, falls-more, in-parts}
use Rattle.toggle_lanes.proofs.lanes.moves_in.Goals as goal

pub returns-then-is_empty-clause-rises : goal.returns-then-is_empty-clause-rises
returns-then-is_empty-clause-rises c =
    let empty : length c.args.a.now ≡ 0 = eqb-true (length c.args.a.now) 0 (sym c.is_empty.ensures ∙ c.if-is_empty.true) in
    sym (rises-none c.args.a.now c.args.b.now 0 _ (omega arith))

pub returns-then-is_empty-clause-falls : goal.returns-then-is_empty-clause-falls
returns-then-is_empty-clause-falls c =
    let empty : length c.args.a.now ≡ 0 = eqb-true (length c.args.a.now) 0 (sym c.is_empty.ensures ∙ c.if-is_empty.true) in
    sym (falls-none c.args.a.now c.args.b.now 0 _ (omega arith))

pub returns-clause-rises : goal.returns-clause-rises
returns-clause-rises c =
    in-parts _ _ _ _ _ _ c.and.ensures.rises c.in_fours.ensures.rises c.one_by_one.ensures.rises
    (rises-more c.args.a.now c.args.b.now 0 _ _ _ (length c.args.a.now - 1) (omega arith) (omega arith))

pub returns-clause-falls : goal.returns-clause-falls
returns-clause-falls c =
    in-parts _ _ _ _ _ _ c.and.ensures.falls c.in_fours.ensures.falls c.one_by_one.ensures.falls
    (falls-more c.args.a.now c.args.b.now 0 _ _ _ (length c.args.a.now - 1) (omega arith) (omega arith))
