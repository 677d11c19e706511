use Rattle.std.proofs.Common.{◌≡◌, map}
use Rattle.std.specs.List.{enumerate_from}
use Rattle.net_engine.specs.Delivery.{forced_after}
use Rattle.net_engine.proofs.MixLemmas.{mixed}
use Rattle.net_engine.proofs.slot.release_some.Given as goal

abbrev pub invariant-places : goal.invariant-places
invariant-places l = l.forced ≡ mixed (map (forced_after l.base l.width) (enumerate_from 0 l.initial.forced)) l.initial.forced l.i
