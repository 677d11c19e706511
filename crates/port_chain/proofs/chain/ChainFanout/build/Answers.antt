use Rattle.std.proofs.Common.{arith}
use Rattle.std.proofs.lemmas.List.{take_at}
use Rattle.port_chain.proofs.ChainLemmas.{built_pairs}
use Rattle.port_chain.proofs.chain.ChainFanout.build.Goals as goal

pub returns-clause-pairs : goal.returns-clause-pairs
returns-clause-pairs c =
    built_pairs c.bind_all.new.heads c.bind_all.new.ports _ _ c.args.readers.now c.args.nodes c.requires.few (omega (arith, c.in_ok-heads.ensures.len)) (omega (arith, c.in_ok-ports.ensures.len)) c.bind_all.ensures (take_at _ _ _ (omega arith)) (take_at _ _ _ (omega arith))
