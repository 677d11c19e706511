use Rattle.std.proofs.Common.{◌≡◌, ◌≢◌, ℕ, subst, arith}
use Rattle.std.proofs.lemmas.Bool.Decides.{nat_tests}
use Rattle.port_chain.specs.Link.{no_link}
use Rattle.port_chain.proofs.WalkLemmas.{walk_on}
use Rattle.sym_link.specs.Roots.{kind_of}
use Rattle.net_engine.specs.Delivery.{reached}
use Rattle.net_engine.specs.Readers.{driven_ports}
use Rattle.net_engine.specs.Parts.{Reaches}
use Rattle.net_engine.proofs.ReachLemmas.{walked-start, walked-there, walked-contains, walked-more, walked-all, fit-after}
use Rattle.net_engine.proofs.deliver.deliver.Goals as goal

pub inputs-init : goal.inputs-init
inputs-init g c =
    walked-start c.args.design.now c.args.change.now.old c.args.change.now.new c.args.item c.args.marks.now c.args.threads.now (g.A.Agenda.schedule c.args.agenda.now) c.first-link.result c.first-link.ensures.ports c.first-link.ensures.head

pub reach-requires-clause-item : goal.reach-requires-clause-item
reach-requires-clause-item g c =
    let more : c.inputs.link ≢ no_link = λ ends. grind (arith, nat_tests, c.inputs-test.ensures) in
    omega (arith, walked-there _ _ _ _ _ _ _ _ _ _ c.inputs.link c.inputs.invariant more, c.node.ensures)

pub reach-requires-clause-fits : goal.reach-requires-clause-fits
reach-requires-clause-fits g c =
    fit-after _ c.args.design.now c.args.marks.now c.inputs.marks c.args.threads.now c.inputs.threads (g.A.Agenda.schedule c.args.agenda.now) (g.A.Agenda.schedule c.inputs.agenda) c.requires.fits c.inputs.invariant.done

pub next-link-requires : goal.next-link-requires
next-link-requires g c =
    let more : c.inputs.link ≢ no_link = λ ends. grind (arith, nat_tests, c.inputs-test.ensures) in
    (c.args.item, c.requires.item, walked-contains _ _ _ _ _ _ _ _ _ _ c.inputs.link c.inputs.invariant more)

pub inputs-preserved : goal.inputs-preserved
inputs-preserved g c =
    let more : c.inputs.link ≢ no_link = λ ends. grind (arith, nat_tests, c.inputs-test.ensures) in
    walked-more c.args.design.now c.args.change.now.old c.args.change.now.new c.args.item c.args.marks.now c.inputs.marks c.reach.new.marks c.args.threads.now c.inputs.threads c.reach.new.threads
    (g.A.Agenda.schedule c.args.agenda.now) (g.A.Agenda.schedule c.inputs.agenda) (g.A.Agenda.schedule c.reach.new.agenda) c.inputs.link c.next-link.result c.inputs.invariant more
    (subst (λ (n : ℕ). Reaches (reached c.args.design.now c.args.change.now.old c.args.change.now.new n (kind_of c.args.design.now n)) c.args.design.now c.inputs.marks c.reach.new.marks c.inputs.threads c.reach.new.threads (g.A.Agenda.schedule c.inputs.agenda) (g.A.Agenda.schedule c.reach.new.agenda)) c.node.ensures c.reach.ensures)
    (c.next-link.ensures c.args.item c.requires.item)

pub inputs-smaller : goal.inputs-smaller
inputs-smaller g c =
    let more : c.inputs.link ≢ no_link = λ ends. grind (arith, nat_tests, c.inputs-test.ensures) in
    walk_on (driven_ports c.args.design.now c.args.item) c.inputs.invariant.place c.inputs.link c.next-link.result c.inputs.invariant.ports c.inputs.invariant.at more (c.next-link.ensures c.args.item c.requires.item)

pub returns : goal.returns
returns g c =
    let ends : c.inputs.link ≡ no_link = grind (arith, nat_tests, c.inputs-test.ensures) in
    walked-all _ _ _ _ _ _ _ _ _ _ c.inputs.link c.inputs.invariant ends
