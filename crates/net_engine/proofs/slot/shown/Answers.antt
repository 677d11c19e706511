use Rattle.std.proofs.Common.{arith}
use Rattle.net_engine.proofs.SlotLemmas.{shown-inside, shown-more, shown-all}
use Rattle.net_engine.proofs.slot.shown.Goals as goal

pub with_shown-levels-requires : goal.with_shown-levels-requires
with_shown-levels-requires c = shown-inside c.args.forced.now c.args.driven c.places.levels c.places.i c.places.i c.requires c.places.invariant (omega arith)

pub places-preserved : goal.places-preserved
places-preserved c = shown-more c.args.forced.now c.args.driven c.places.levels c.with_shown-levels.result c.places.i c.index-forced-i.result c.requires (omega arith) c.index-forced-i.is c.places.invariant c.with_shown-levels.ensures

pub returns : goal.returns
returns c = shown-all c.args.forced.now c.args.driven c.places.levels c.places.i c.requires (omega arith) c.places.invariant
