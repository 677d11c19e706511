use Rattle.std.proofs.Common.{◌≤◌, length, take}
use Rattle.strengths.specs.Resolver.{used, first_width}
use Rattle.strengths.specs.Wired.{Shows, seen_at}
use Rattle.strengths.proofs.JoinLemmas.{IsWide}
use Rattle.strengths.proofs.resolver.shown.Given as goal

abbrev pub invariant-loop-port : goal.invariant-loop-port
invariant-loop-port l = record {
  shows : Shows l.places (first_width (used l.ports)) (seen_at (used (take l.port-index l.ports)));
  wide : 1 ≤ length (used (take l.port-index l.ports)) → IsWide l.width (first_width (used l.ports));
}
