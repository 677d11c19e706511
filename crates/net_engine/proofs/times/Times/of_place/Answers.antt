use Rattle.net_engine.proofs.TimeLemmas.{of-place}
use Rattle.net_engine.proofs.times.Times.of_place.Goals as goal
use Rattle.std.proofs.Common.{sym, ◌∙◌}

pub returns-else-eq : goal.returns-else-eq
returns-else-eq c =
    of-place c.args.self c.args.old c.args.new c.args.bits c.args.place c.level.result c.level-2.result c.bit.result c.to_bit.result c.level.ensures c.level-2.ensures c.requires.bits c.bit.ensures (sym c.eq.ensures ∙ c.if-eq.false) c.to_bit.ensures
