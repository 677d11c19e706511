use Rattle.std.proofs.Common.{◌≡◌, ◌+◌, ◌-◌, ◌*◌, ◌≤◌, length}
use Rattle.sym_link.specs.Known.{IsCounted}
use Rattle.sym_link.proofs.CountLemmas.{AreKeptHere}
use Rattle.sym_link.proofs.labels.kept_counts.Given as goal

abbrev pub decreases-loop-place : goal.decreases-loop-place
decreases-loop-place l = length l.placed - l.place

abbrev pub invariant-loop-place : goal.invariant-loop-place
invariant-loop-place l = record {
  within : l.place ≤ length l.placed;
  len : length l.kept.items * 8 ≡ l.place + 8;
  counts : IsCounted l.placed l.place l.counts;
  each : AreKeptHere l.placed l.kept.items;
}
