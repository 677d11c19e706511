use Rattle.net_engine.proofs.SlotLemmas.{force-shown}
use Rattle.net_engine.proofs.slot.Slot.force.Goals as goal

pub returns-clause-shown : goal.returns-clause-shown
returns-clause-shown c = force-shown c.self.inside.levels c.self.inside.forced.items c.self.inside.any c.args.self.now c.args.bits c.args.levels c.self.invariant c.self.view_is c.requires.bits c.requires.levels
