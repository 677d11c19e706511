use Rattle.std.proofs.Common.{take}
use Rattle.sys_tasks.proofs.ChosenLemmas.{AreMarks}
use Rattle.std.specs.Prelude.{length}
use Rattle.sys_tasks.proofs.chosen.marks_of.Given as goal

abbrev pub invariant-loop-item : goal.invariant-loop-item
invariant-loop-item l = AreMarks (length l.entries) (take l.item-index l.chosen) l.marks.items
