use Rattle.std.proofs.Common.{arith}
use Rattle.net_engine.proofs.SlotLemmas.{kept-inside, kept-more, kept-all}
use Rattle.net_engine.proofs.slot.all_kept.Goals as goal

pub with_level-levels-requires : goal.with_level-levels-requires
with_level-levels-requires c = omega (arith, kept-inside c.args.base c.args.width c.args.forced.now c.args.driven c.places.levels c.places.i c.requires c.places.invariant)

pub places-preserved : goal.places-preserved
places-preserved c =
    kept-more c.args.base c.args.width c.args.forced.now c.args.driven c.places.levels c.with_level-levels.result c.places.i c.index-forced-i.result c.level.result c.kept_after-level.result c.requires (omega arith) c.index-forced-i.is c.level.ensures
    c.kept_after-level.ensures c.places.invariant c.with_level-levels.ensures

pub returns : goal.returns
returns c = kept-all c.args.base c.args.width c.args.forced.now c.args.driven c.places.levels c.places.i c.requires (omega arith) c.places.invariant
