use Rattle.net_engine.proofs.SlotLemmas.{keeps-new}
use Rattle.net_engine.proofs.slot.Slot.new.Goals as goal

pub returns-clause-value : goal.returns-clause-value
returns-clause-value c = keeps-new c.beside_bits.result c.args.levels c.in_ok-none_forced.field-0.items c.width.result c.beside_bits.ensures c.in_ok-none_forced.ensures c.width.ensures.value
