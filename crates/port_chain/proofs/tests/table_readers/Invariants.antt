use Rattle.std.proofs.Common.{◌≢◌, ◌<◌, All, AllPairs}
use Rattle.port_chain.specs.declared.link.Reader.{Reader}
use Rattle.port_chain.proofs.tests.table_readers.Given as goal

abbrev pub invariant-loop-driver : goal.invariant-loop-driver
invariant-loop-driver g l = record {
  drivers : All (λ (reader : Reader). reader.driver < l.nodes) l.readers.items;
  nodes : All (λ (reader : Reader). reader.link.node < l.nodes) l.readers.items;
  once : AllPairs (λ (a b : Reader). a.link ≢ b.link) l.readers.items;
}
