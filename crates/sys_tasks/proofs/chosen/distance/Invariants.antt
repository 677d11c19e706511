use Rattle.std.proofs.Common.{◌≡◌, ◌+◌, ◌≤◌, eqb}
use Rattle.std.specs.List.{position_from}
use Rattle.sys_tasks.proofs.LineageLemmas.{lineage}
use Rattle.sys_tasks.proofs.chosen.distance.Given as goal

abbrev pub invariant-loop-at : goal.invariant-loop-at
invariant-loop-at l = record {
  few : l.levels + l.at ≤ l.initial.at;
  left : position_from (λ s. eqb s l.above) l.levels (lineage l.scopes l.at) ≡ position_from (λ s. eqb s l.above) 0 (lineage l.scopes l.initial.at);
}

abbrev pub decreases-loop-at : goal.decreases-loop-at
decreases-loop-at l = l.at
