use Rattle.std.proofs.Common.{refl}
use Rattle.net_engine.proofs.SlotLemmas.{force-more}
use Rattle.net_engine.proofs.slot.force_all.Goals as goal

pub places-preserved : goal.places-preserved
places-preserved c = force-more c.args.forced.now c.places.forced _ c.args.levels c.places.i c.level.result c.requires c.level.ensures c.places.invariant refl
