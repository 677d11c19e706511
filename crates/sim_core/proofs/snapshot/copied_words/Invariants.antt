use Rattle.std.proofs.Common.{◌≡◌, take}
use Rattle.net_engine.specs.Net.{array_of}
use Rattle.sim_core.proofs.snapshot.copied_words.Given as goal

abbrev pub invariant-words : goal.invariant-words
invariant-words g l = l.list ≡ take l.word (array_of l.net.values l.item)
