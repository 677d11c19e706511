use Rattle.std.proofs.Common.{◌≡◌, take, map}
use Rattle.std.specs.List.{enumerate_from, flat_map}
use Rattle.sym_link.specs.Roots.{node_of}
use Rattle.net_engine.specs.Readers.{readers_at}
use Rattle.net_engine.proofs.readers.reader_list.Given as goal

abbrev pub invariant-items : goal.invariant-items
invariant-items l = l.readers.items ≡ flat_map (readers_at (map node_of l.items)) (take l.at (enumerate_from 0 (map node_of l.items)))
