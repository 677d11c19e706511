use Rattle.std.proofs.Common.{◌≡◌, ℕ, Some, length, slice_get}
use Rattle.sym_link.specs.Roots.{kind_of}
use Rattle.net_engine.specs.declared.inputs.Inputs.{Inputs}
use Rattle.net_engine.specs.Inputs.{IsInputs}
use Rattle.net_engine.proofs.inputs.inputs_of.Given as goal

abbrev pub invariant-rows : goal.invariant-rows
invariant-rows l = (length l.inputs.items ≡ l.i) × ((item : ℕ) (found : Inputs) → slice_get l.inputs.items item ≡ Some found → IsInputs l.rows (kind_of l.rows item) found)
