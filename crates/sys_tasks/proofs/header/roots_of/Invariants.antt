use Rattle.std.proofs.Common.{◌≡◌, map, take}
use Rattle.sys_tasks.specs.Design.{root_of}
use Rattle.sys_tasks.proofs.header.roots_of.Given as goal

abbrev pub invariant-loop-item : goal.invariant-loop-item
invariant-loop-item l = l.roots.items ≡ map (root_of l.entries) (take l.item-index l.chosen)
