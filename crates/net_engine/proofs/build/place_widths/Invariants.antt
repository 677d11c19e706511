use Rattle.std.proofs.Common.{◌≡◌, ◌≤◌, ℕ, length, take, map}
use Rattle.std.specs.List.{All}
use Rattle.sym_link.specs.Roots.{node_of}
use Rattle.net_engine.specs.Built.{first_place}
use Rattle.net_engine.proofs.build.place_widths.Given as goal

abbrev pub invariant-items : goal.invariant-items
invariant-items l = record {
  widths : l.widths.items ≡ map length (map first_place (map node_of (take l.i l.items)));
  least : All (λ (width : ℕ). 1 ≤ width) l.widths.items;
  most : All (λ (width : ℕ). width ≤ 128) l.widths.items;
}
