use Rattle.std.proofs.Common.{drop, length, ◌-◌}
use Rattle.port_chain.specs.Chain.{IsBound}
use Rattle.port_chain.proofs.chain.bind_all.Given as goal

abbrev pub invariant-loop-reader : goal.invariant-loop-reader
invariant-loop-reader l = IsBound l.heads l.ports (drop (length l.readers - length l.yielded) l.readers)
