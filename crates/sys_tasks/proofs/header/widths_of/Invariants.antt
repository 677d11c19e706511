use Rattle.std.proofs.Common.{◌≡◌, map, take}
use Rattle.sys_tasks.specs.Design.{width_of}
use Rattle.sys_tasks.proofs.header.widths_of.Given as goal

abbrev pub invariant-loop-item : goal.invariant-loop-item
invariant-loop-item l = l.widths.items ≡ map (width_of l.entries) (take l.item-index l.items)
