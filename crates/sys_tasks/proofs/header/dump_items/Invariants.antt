use Rattle.std.proofs.Common.{◌≡◌, take}
use Rattle.sys_tasks.specs.Dumped.{dump_items_of}
use Rattle.sys_tasks.proofs.header.dump_items.Given as goal

abbrev pub invariant-loop-item : goal.invariant-loop-item
invariant-loop-item l = l.items.items ≡ dump_items_of l.entries (take l.item-index l.chosen)
