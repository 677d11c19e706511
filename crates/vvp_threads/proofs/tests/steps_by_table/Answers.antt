use Rattle.std.proofs.Common.{zero, suc, [], ◌∷◌, refl, arith}
use Rattle.vvp_threads.specs.declared.scopes.TheConstants.{NO_SCOPE}
use Rattle.vvp_threads.specs.Disable.{AreScopes}
use Rattle.vvp_threads.proofs.tests.steps_by_table.Goals as goal

tree : AreScopes (NO_SCOPE ∷ 0 ∷ 1 ∷ 1 ∷ 0 ∷ [])
tree zero within differ = absurd (differ refl)
tree (suc zero) within differ = omega arith
tree (suc (suc zero)) within differ = omega arith
tree (suc (suc (suc zero))) within differ = omega arith
tree (suc (suc (suc (suc zero)))) within differ = omega arith
tree (suc (suc (suc (suc (suc k))))) within differ = absurd (omega arith)

pub check_rows-requires-clause-tree : goal.check_rows-requires-clause-tree
check_rows-requires-clause-tree g c = tree
