use Rattle.std.proofs.Common.{◌≡◌, ◌≢◌, arith}
use Rattle.std.proofs.lemmas.Bool.Decides.{nat_tests}
use Rattle.port_chain.specs.Link.{no_link}
use Rattle.port_chain.proofs.WalkLemmas.{walk_on, walk_end}
use Rattle.port_chain.proofs.tests.collect_pairs.Goals as goal

pub loop-link-smaller : goal.loop-link-smaller
loop-link-smaller g c =
    let i = c.loop-link.invariant in
    let more : c.loop-link.link ≢ no_link = λ ends. grind (arith, nat_tests, c.loop-link-test.ensures) in
    walk_on (g.F.Fanout.pairs c.args.fan.now c.args.node) _ _ _ i.ports i.at more (c.next-link.ensures c.args.node c.requires)

pub returns : goal.returns
returns g c =
    let i = c.loop-link.invariant in
    let ends : c.loop-link.link ≡ no_link = grind (arith, nat_tests, c.loop-link-test.ensures) in
    walk_end (g.F.Fanout.pairs c.args.fan.now c.args.node) _ _ _ i.ports i.at ends i.visited
