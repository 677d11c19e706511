use Rattle.std.proofs.Common.{◌≡◌, take, map}
use Rattle.sym_link.specs.Roots.{Node, node_of}
use Rattle.net_engine.specs.Kept.{has_output}
use Rattle.net_engine.proofs.build.marks_of.Given as goal

abbrev pub invariant-items : goal.invariant-items
invariant-items l = l.marks.items ≡ map (λ (node : Node). has_output node.what) (map node_of (take l.i l.items))
