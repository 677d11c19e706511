use Rattle.std.proofs.Common.{ℕ, ◌<◌, length, get_or, arith, sym, ◌∙◌, ap}
use Rattle.std.proofs.lemmas.List.{get_or_default, get_or_read}
use Rattle.port_chain.specs.Link.{no_link}
use Rattle.port_chain.proofs.ChainLemmas.{next_pair}
use Rattle.port_chain.proofs.chain.ChainFanoutFanout.next.Goals as goal

pub index-requires : goal.index-requires
index-requires c =
    let there = c.requires.2 in
    let link_is = sym there.2 ∙ get_or_default _ there.0 c.args.link no_link there.1 in
    let read = next_pair _ _ c.self.invariant c.args.self.now c.requires.0 there.0 c.args.link c.self.view_is c.requires.1 there.1 link_is in
    omega (arith, read.0, c.place.ensures.place)

pub returns : goal.returns
returns c node within k inside link_is =
    let read = next_pair _ _ c.self.invariant c.args.self.now node k c.args.link c.self.view_is within inside link_is in
    let ports = c.self.inside.ports.items in
    let there : c.place.result < length ports = omega (arith, read.0, c.place.ensures.place) in
    get_or_read ports c.place.result c.index.result.now there c.index.ensures no_link ∙ ap (λ (n : ℕ). get_or ports n no_link) c.place.ensures.place ∙ read.1
