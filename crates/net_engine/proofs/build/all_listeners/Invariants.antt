use Rattle.std.proofs.Common.{map}
use Rattle.sym_link.specs.Roots.{node_of}
use Rattle.net_engine.proofs.ListLemmas.{AreListed}
use Rattle.net_engine.proofs.build.all_listeners.Given as goal

abbrev pub invariant-items : goal.invariant-items
invariant-items l = AreListed (map node_of l.items) l.listeners.items l.i
