use Rattle.std.proofs.Common.{◌≡◌, false, take}
use Rattle.std.specs.List.{list_any}
use Rattle.sys_tasks.specs.Dumped.{is_named}
use Rattle.sys_tasks.proofs.LineageLemmas.{lineage}
use Rattle.sys_tasks.proofs.chosen.is_among.Given as goal

abbrev pub invariant-loop-target : goal.invariant-loop-target
invariant-loop-target l = list_any (is_named l.entries l.depth (lineage l.scopes l.scope) l.item) (take l.target-index l.targets) ≡ false
