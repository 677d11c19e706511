use Rattle.std.proofs.Common.{Some, sym, ap, ◌∙◌, subst}
use Rattle.net_engine.specs.Outputs.{IsToldByBits}
use Rattle.net_engine.proofs.LinkedLemmas.{node-of-kind}
use Rattle.net_engine.proofs.OutputLemmas.{gate-showing}
use Rattle.net_engine.proofs.outputs.is_told_by_bits.Goals as goal

pub is_by_bits-requires : goal.is_by_bits-requires
is_by_bits-requires g c =
    let found = node-of-kind c.args.design.now c.args.item _ (c.kind.ensures ∙ ap (λ k. Some k) c.in-Functor.is) in
    gate-showing c.args.design.now c.args.store.now.values c.args.item found.0 c.in-Functor.gate c.in-Functor.drive c.in-Functor.ports c.requires.linked c.requires.wide found.1 found.2

pub returns : goal.returns
returns g c = λ told.
    subst (IsToldByBits c.args.design.now c.args.store.now.values) (sym (c.kind.ensures ∙ ap (λ k. Some k) c.in-Functor.is)) (c.is_by_bits.ensures.strong told, c.is_by_bits.ensures.ports told)
