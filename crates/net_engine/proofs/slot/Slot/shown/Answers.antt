use Rattle.net_engine.proofs.SlotLemmas.{shown-bare}
use Rattle.net_engine.proofs.slot.Slot.shown.Goals as goal

pub returns-else-self : goal.returns-else-self
returns-else-self c = shown-bare c.self.inside.levels c.self.inside.forced.items c.self.inside.any c.args.self.now c.args.bits c.driven-driven.result c.self.invariant c.self.view_is c.if-self.false c.requires c.driven-driven.ensures
