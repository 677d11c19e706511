use Rattle.std.proofs.Common.{◌≡◌, map, take}
use Rattle.event_pool.specs.Pending.{unkeyed}
use Rattle.sim_core.proofs.snapshot.without_keys.Given as goal

abbrev pub invariant-dues : goal.invariant-dues
invariant-dues l = l.bare ≡ map unkeyed (take l.i l.dues)
