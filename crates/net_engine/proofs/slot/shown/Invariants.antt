use Rattle.std.proofs.Common.{◌≡◌, map}
use Rattle.std.specs.List.{zip}
use Rattle.net_engine.specs.Net.{shown_level}
use Rattle.net_engine.proofs.MixLemmas.{mixed}
use Rattle.net_engine.proofs.slot.shown.Given as goal

abbrev pub invariant-places : goal.invariant-places
invariant-places l = l.levels ≡ mixed (map shown_level (zip l.forced l.fn.driven)) l.fn.driven l.i
