use Rattle.std.proofs.Common.{◌≡◌, take}
use Rattle.sim_core.proofs.snapshot.wait_list.Given as goal

abbrev pub invariant-events : goal.invariant-events
invariant-events l = l.list ≡ take l.event l.threads.table.waiting
