use Rattle.std.proofs.Common.{◌≡◌, ◌-◌, ◌≤◌, ◌++◌, drop, length}
use Rattle.sym_link.specs.Known.{labelled_from, labelled_places}
use Rattle.sym_link.proofs.labels.labelled_places.Given as goal

abbrev pub decreases-loop-place : goal.decreases-loop-place
decreases-loop-place l = length l.placed - l.place

abbrev pub invariant-loop-place : goal.invariant-loop-place
invariant-loop-place l = record {
  within : l.place ≤ length l.placed;
  places : labelled_places l.placed ≡ l.places.items ++ labelled_from l.place (drop l.place l.placed);
}
