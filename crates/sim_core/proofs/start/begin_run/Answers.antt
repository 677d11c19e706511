use Rattle.std.proofs.Common.{List, map, ap, ◌∙◌}
use Rattle.sym_link.specs.declared.program.ScopeRow.{ScopeRow}
use Rattle.sim_core.proofs.start.begin_run.Goals as goal

pub returns-clause-parents : goal.returns-clause-parents
returns-clause-parents g c = c.in_ok-scope_parents.ensures ∙ ap (λ (rows : List ScopeRow). map (λ (row : ScopeRow). row.parent) rows) c.as_slice.ensures
