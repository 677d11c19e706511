use Rattle.std.proofs.Common.{take}
use Rattle.net_engine.specs.Built.{IsListing}
use Rattle.net_engine.proofs.build.list_all.Given as goal

abbrev pub invariant-events : goal.invariant-events
invariant-events l = IsListing l.initial.listeners l.listeners l.item (take l.i l.events)
