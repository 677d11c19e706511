use Rattle.std.proofs.Common.{◌≡◌, length, map}
use Rattle.sym_link.specs.Roots.{node_of}
use Rattle.net_engine.specs.Built.{first_place}
use Rattle.net_engine.proofs.MixLemmas.{mixed}
use Rattle.net_engine.proofs.build.first_plane.Given as goal

abbrev pub invariant-items : goal.invariant-items
invariant-items l = record {
  plane : l.plane ≡ mixed (map first_place (map node_of l.items)) l.initial.plane l.i;
  widths : map length l.plane ≡ map length (map first_place (map node_of l.items));
}
