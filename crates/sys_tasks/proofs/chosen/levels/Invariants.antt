use Rattle.std.proofs.Common.{◌≡◌, ◌+◌, ◌≤◌, length}
use Rattle.sys_tasks.proofs.LineageLemmas.{lineage}
use Rattle.sys_tasks.proofs.chosen.levels.Given as goal

abbrev pub invariant-loop-at : goal.invariant-loop-at
invariant-loop-at l = record { few : l.levels + l.at ≤ l.initial.at; left : l.levels + length (lineage l.scopes l.at) ≡ length (lineage l.scopes l.initial.at) }

abbrev pub decreases-loop-at : goal.decreases-loop-at
decreases-loop-at l = l.at
