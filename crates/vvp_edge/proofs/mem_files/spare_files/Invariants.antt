use Rattle.std.proofs.Common.{◌-◌, ◌≤◌, vec_len, All}
use Rattle.vvp_edge.specs.MemoryStore.{IsSpare}
use Rattle.vvp_edge.proofs.mem_files.spare_files.Given as goal

abbrev pub invariant-loop-alloc : goal.invariant-loop-alloc
invariant-loop-alloc l = record {
  within : vec_len l.files ≤ l.count;
  spare : All (IsSpare l.room) l.files.items;
}

abbrev pub decreases-loop-alloc : goal.decreases-loop-alloc
decreases-loop-alloc l = l.count - vec_len l.files
