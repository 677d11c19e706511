use Rattle.std.proofs.Common.{◌-◌, ◌≤◌, ◌^◌, length}
use Rattle.sym_link.specs.Known.{IsCounted}
use Rattle.sym_link.proofs.labels.counts_on.Given as goal

abbrev pub decreases-loop-place : goal.decreases-loop-place
decreases-loop-place l = l.end - l.place

abbrev pub invariant-loop-place : goal.invariant-loop-place
invariant-loop-place l = record {
  within : l.fn.from ≤ l.to → l.to ≤ length l.placed → l.place ≤ l.to;
  counts : length l.placed ≤ 2 ^ 26 → IsCounted l.placed l.fn.from l.fn.before → IsCounted l.placed l.place l.counts;
}
