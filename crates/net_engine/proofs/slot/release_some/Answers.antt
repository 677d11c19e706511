use Rattle.std.proofs.Common.{refl, arith}
use Rattle.net_engine.proofs.SlotLemmas.{release-more, release-all}
use Rattle.net_engine.proofs.slot.release_some.Goals as goal

pub places-preserved : goal.places-preserved
places-preserved c = release-more c.args.base c.args.width c.args.forced.now c.places.forced _ c.places.i c.index-forced-i.result c.forced_after.result (omega arith) c.index-forced-i.is c.forced_after.ensures c.places.invariant refl

pub returns : goal.returns
returns c = release-all c.args.base c.args.width c.args.forced.now c.places.forced c.places.i (omega arith) c.places.invariant
