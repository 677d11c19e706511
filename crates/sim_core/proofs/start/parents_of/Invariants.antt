use Rattle.std.proofs.Common.{◌≡◌, map, take}
use Rattle.sym_link.specs.declared.program.ScopeRow.{ScopeRow}
use Rattle.sim_core.proofs.start.parents_of.Given as goal

abbrev pub invariant-loop-row : goal.invariant-loop-row
invariant-loop-row l = l.parents.items ≡ map (λ (row : ScopeRow). row.parent) (take l.row-index l.scopes)
