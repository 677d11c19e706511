use Rattle.net_engine.proofs.SlotLemmas.{drive-bare, drive-shown}
use Rattle.net_engine.proofs.slot.Slot.drive.Goals as goal

pub returns-else-self-clause-value : goal.returns-else-self-clause-value
returns-else-self-clause-value c = drive-bare c.self.inside.levels c.beside_bits-self-inside.result c.args.levels c.self.inside.forced.items c.self.inside.any c.args.self.now c.self.invariant c.self.view_is c.if-self.false c.requires c.beside_bits-self-inside.ensures

pub returns-else-self-clause-shown : goal.returns-else-self-clause-shown
returns-else-self-clause-shown c = drive-shown c.self.inside.levels c.args.levels c.self.inside.forced.items c.self.inside.any c.args.self.now c.self.invariant c.self.view_is c.if-self.false c.requires
