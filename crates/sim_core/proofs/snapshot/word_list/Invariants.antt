use Rattle.std.proofs.Common.{◌≡◌, take}
use Rattle.std.specs.List.{enumerate_from, filter_map}
use Rattle.sim_core.specs.Snapshot.{words_at}
use Rattle.sim_core.proofs.snapshot.word_list.Given as goal

abbrev pub invariant-items : goal.invariant-items
invariant-items g l = l.list ≡ filter_map (words_at l.net.values) (take l.i (enumerate_from 0 l.net.nodes))
