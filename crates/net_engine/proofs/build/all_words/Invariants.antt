use Rattle.std.proofs.Common.{◌≡◌, take, map}
use Rattle.sym_link.specs.Roots.{Node, node_of}
use Rattle.net_engine.specs.Net.{first_words}
use Rattle.net_engine.proofs.build.all_words.Given as goal

abbrev pub invariant-items : goal.invariant-items
invariant-items l = l.words.items ≡ map (λ (node : Node). first_words node node.what) (map node_of (take l.i l.items))
