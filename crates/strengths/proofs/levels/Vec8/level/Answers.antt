use Rattle.std.proofs.Common.{◌∙◌, ap, Some, arith}
use Rattle.std.proofs.lemmas.Int.{ints}
use Rattle.std.proofs.lemmas.Option.{slice_get-get_or}
use Rattle.strengths.specs.Interval.{Interval, IsLevel}
use Rattle.strengths.specs.Planes.{end_at}
use Rattle.strengths.proofs.Sizes.{IsLevel-end_at, kept_is}
use Rattle.strengths.proofs.Spelled.{width_spelled, level_spelled}
use Rattle.strengths.proofs.levels.Vec8.level.Goals as goal

pub end-requires : goal.end-requires
end-requires c = omega (arith, width_spelled _ _ _ _ c.self.view_is, c.self.invariant.most)

pub end-requires-2 : goal.end-requires-2
end-requires-2 c = omega (arith, width_spelled _ _ _ _ c.self.view_is, c.self.invariant.most)

pub invariant_of-result : goal.invariant_of-result
invariant_of-result c =
    let level : IsLevel (end_at c.self.inside.lo c.args.i) (end_at c.self.inside.hi c.args.i) = IsLevel-end_at _ _ _ (c.self.invariant.ordered c.args.i (omega (arith, width_spelled _ _ _ _ c.self.view_is))) in
    rw (c.end.ensures, c.end-2.ensures, kept_is _ level.least (omega (arith, ints, level)), kept_is _ (omega (arith, ints, level)) level.most) level

pub returns : goal.returns
returns c =
    let level : IsLevel (end_at c.self.inside.lo c.args.i) (end_at c.self.inside.hi c.args.i) = IsLevel-end_at _ _ _ (c.self.invariant.ordered c.args.i (omega (arith, width_spelled _ _ _ _ c.self.view_is))) in
    let result : Interval = record { lo = end_at c.self.inside.lo c.args.i; hi = end_at c.self.inside.hi c.args.i } in
    rw (c.end.ensures, c.end-2.ensures, kept_is _ level.least (omega (arith, ints, level)), kept_is _ (omega (arith, ints, level)) level.most)
    (slice_get-get_or c.args.self.now c.args.i result c.requires ∙ ap (λ l. Some l) (level_spelled _ _ _ _ _ result c.self.view_is c.requires))
