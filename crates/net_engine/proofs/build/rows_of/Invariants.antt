use Rattle.std.proofs.Common.{◌≡◌, take, map}
use Rattle.sym_link.specs.Roots.{node_of}
use Rattle.net_engine.proofs.build.rows_of.Given as goal

abbrev pub invariant-items : goal.invariant-items
invariant-items l = l.rows.items ≡ map node_of (take l.i l.items)
