use Rattle.std.proofs.Common.{◌≡◌, ◌<◌, ◌++◌, length, reverse}
use Rattle.sys_tasks.proofs.PathLemmas.{path}
use Rattle.sys_tasks.proofs.place.path_of.Given as goal

abbrev pub invariant-loop-at : goal.invariant-loop-at
invariant-loop-at l = record { there : l.at < length l.scopes; left : path l.scopes l.initial.at ≡ path l.scopes l.at ++ reverse l.path.items }

abbrev pub decreases-loop-at : goal.decreases-loop-at
decreases-loop-at l = l.at
