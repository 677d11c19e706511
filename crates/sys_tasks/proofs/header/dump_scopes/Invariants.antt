use Rattle.std.proofs.Common.{◌≡◌, map, take}
use Rattle.sys_tasks.specs.Dumped.{dump_scope}
use Rattle.sys_tasks.proofs.header.dump_scopes.Given as goal

abbrev pub invariant-loop-row : goal.invariant-loop-row
invariant-loop-row l = l.scopes.items ≡ map dump_scope (take l.row-index l.rows)
