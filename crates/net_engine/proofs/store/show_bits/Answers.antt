use Rattle.net_engine.proofs.PlainLemmas.{bits-width, bits-same, bits-unchanged, bits-changed}
use Rattle.net_engine.proofs.store.show_bits.Goals as goal

pub eeq-requires : goal.eeq-requires
eeq-requires c = bits-width c.args.plane.now c.args.item c.get-old.result c.args.bits c.get-old.ensures c.requires.width

pub returns-then-eeq-clause-plane : goal.returns-then-eeq-clause-plane
returns-then-eeq-clause-plane c = bits-same c.args.plane.now c.args.item c.get-old.result c.args.bits c.get-old.ensures (c.eeq.ensures.0 c.if-eeq.true)

pub returns-then-eeq-clause-change : goal.returns-then-eeq-clause-change
returns-then-eeq-clause-change c = bits-unchanged c.args.plane.now c.args.item c.get-old.result c.args.bits c.get-old.ensures (c.eeq.ensures.0 c.if-eeq.true)

pub returns-clause-change : goal.returns-clause-change
returns-clause-change c = bits-changed c.args.plane.now c.args.item c.get-old.result c.args.bits c.eeq.result c.get-old.ensures (λ e. c.eeq.ensures.0 e) (λ e. c.eeq.ensures.1 e) c.if-eeq.false
