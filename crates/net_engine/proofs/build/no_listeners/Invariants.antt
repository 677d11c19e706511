use Rattle.std.proofs.Common.{◌≡◌, [], replicate}
use Rattle.net_engine.proofs.build.no_listeners.Given as goal

abbrev pub invariant-items : goal.invariant-items
invariant-items l = l.listeners.items ≡ replicate l._at []
