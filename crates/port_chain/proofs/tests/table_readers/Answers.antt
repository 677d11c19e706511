use Rattle.std.proofs.Common.{◌≢◌, ◌<◌, All, rules}
use Rattle.std.proofs.lemmas.List.Elements.{All-push}
use Rattle.std.proofs.lemmas.List.Quantifiers.{all_pairs_push}
use Rattle.port_chain.specs.declared.link.Reader.{Reader}
use Rattle.port_chain.proofs.tests.table_readers.Goals as goal

pub loop-driver-preserved : goal.loop-driver-preserved
loop-driver-preserved g c =
    let i = c.loop-driver.invariant in
    let fresh : All (λ (reader : Reader). reader.link ≢ c.of-link.result) c.loop-driver.readers.items = search rules in
    rw c.in_ok-push.ensures.items (record {
      drivers = All-push (λ (reader : Reader). reader.driver < c.args.nodes) _ _ i.drivers (search rules);
      nodes = All-push (λ (reader : Reader). reader.link.node < c.args.nodes) _ _ i.nodes (search rules);
      once = all_pairs_push (λ (a b : Reader). a.link ≢ b.link) _ _ i.once fresh;
    })
