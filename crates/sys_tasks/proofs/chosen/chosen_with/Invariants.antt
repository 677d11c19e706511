use Rattle.std.proofs.Common.{◌≡◌}
use Rattle.std.specs.Prelude.{filter}
use Rattle.std.specs.List.{range_with_len}
use Rattle.sys_tasks.proofs.ChosenLemmas.{is_taken}
use Rattle.sys_tasks.proofs.chosen.chosen_with.Given as goal

abbrev pub invariant-loop-item : goal.invariant-loop-item
invariant-loop-item l = l.items ≡ filter (is_taken l.entries l.scopes l.args l.chosen) (range_with_len 0 l.item)
