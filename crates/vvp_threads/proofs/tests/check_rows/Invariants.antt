use Rattle.std.proofs.Common.{◌<◌, length}
use Rattle.vvp_threads.specs.Disable.{StandIn}
use Rattle.vvp_threads.proofs.tests.check_rows.Given as goal

abbrev pub invariant-rows : goal.invariant-rows
invariant-rows g l = (1 < length l.threads.table.waiting) × StandIn l.scope_parents l.threads.table.threads
