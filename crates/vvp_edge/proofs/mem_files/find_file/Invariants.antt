use Rattle.std.proofs.Common.{◌≡◌, ◌≤◌, length, map, reverse, take}
use Rattle.std.specs.FinMap.{get}
use Rattle.vvp_edge.specs.MemoryStore.{entry_of, files_in}
use Rattle.vvp_edge.proofs.mem_files.find_file.Given as goal

abbrev pub invariant-loop-left : goal.invariant-loop-left
invariant-loop-left l = record {
  within : l.left ≤ length l.files;
  passed : get (files_in (reverse (map entry_of l.files))) l.name ≡ get (files_in (reverse (map entry_of (take l.left l.files)))) l.name;
}

abbrev pub decreases-loop-left : goal.decreases-loop-left
decreases-loop-left l = l.left
