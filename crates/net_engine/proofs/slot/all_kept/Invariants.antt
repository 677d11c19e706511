use Rattle.std.proofs.Common.{◌≡◌, map}
use Rattle.std.specs.List.{zip, enumerate_from}
use Rattle.net_engine.specs.Delivery.{kept_after}
use Rattle.net_engine.proofs.MixLemmas.{mixed}
use Rattle.net_engine.proofs.slot.all_kept.Given as goal

abbrev pub invariant-places : goal.invariant-places
invariant-places l = l.levels ≡ mixed (map (kept_after l.base l.width) (enumerate_from 0 (zip l.forced l.driven))) l.driven l.i
