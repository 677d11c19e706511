use Rattle.std.proofs.Common.{◌≡◌, take}
use Rattle.net_engine.specs.Net.{forced_of}
use Rattle.sim_core.proofs.snapshot.forced_places.Given as goal

abbrev pub invariant-places : goal.invariant-places
invariant-places g l = l.forced ≡ take l.place (forced_of l.net.values l.item)
