use Rattle.std.proofs.Common.{◌≡◌, map, Some}
use Rattle.net_engine.proofs.MixLemmas.{mixed}
use Rattle.net_engine.proofs.slot.force_all.Given as goal

abbrev pub invariant-places : goal.invariant-places
invariant-places l = l.forced ≡ mixed (map Some l.levels) l.initial.forced l.i
