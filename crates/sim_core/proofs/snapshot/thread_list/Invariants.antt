use Rattle.std.proofs.Common.{◌≡◌, take}
use Rattle.sim_core.specs.Snapshot.{live_threads}
use Rattle.sim_core.proofs.snapshot.thread_list.Given as goal

abbrev pub invariant-each : goal.invariant-each
invariant-each l = l.list ≡ live_threads (take l.serial l.threads.table.threads)
