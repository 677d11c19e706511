use Rattle.net_engine.proofs.SlotLemmas.{bare-bits}
use Rattle.net_engine.proofs.slot.Slot.driven_bits.Goals as goal

pub returns-in-None : goal.returns-in-None
returns-in-None c = bare-bits c.self.inside.levels c.self.inside.forced.items c.args.self.now c.args.bits c.self.view_is c.in-None.is
