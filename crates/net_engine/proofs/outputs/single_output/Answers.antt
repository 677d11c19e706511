use Rattle.std.proofs.Common.{Some, sym, ap, ◌∙◌, subst}
use Rattle.std.proofs.lemmas.Option.{same_Some}
use Rattle.net_engine.specs.Inputs.{IsSingle}
use Rattle.net_engine.proofs.LinkedLemmas.{node-of-kind, kind-at}
use Rattle.net_engine.proofs.OutputLemmas.{gate-showing}
use Rattle.net_engine.proofs.SingleLemmas.{single-showing, single-wide, single-output}
use Rattle.net_engine.proofs.outputs.single_output.Goals as goal

pub bits-requires : goal.bits-requires
bits-requires g c =
    let found = node-of-kind c.args.design.now c.args.item _ (c.kind.ensures ∙ ap (λ k. Some k) c.in-Functor.is) in
    let single = subst (λ k. IsSingle c.args.design.now k c.args.input) (c.kind.ensures ∙ ap (λ k. Some k) c.in-Functor.is) c.requires.single in
    let showing = gate-showing c.args.design.now c.args.store.now.values c.args.item found.0 c.in-Functor.gate c.in-Functor._drive c.in-Functor._sources c.requires.linked c.requires.wide found.1 found.2 in
    single-showing c.args.design.now c.args.store.now.values c.in-Functor._sources c.args.input single.3 showing

pub returns-clause-value : goal.returns-clause-value
returns-clause-value g c = λ node at.
    let single = subst (λ k. IsSingle c.args.design.now k c.args.input) (c.kind.ensures ∙ ap (λ k. Some k) c.in-Functor.is) c.requires.single in
    single-output c.args.design.now c.args.store.now.values c.args.item node c.in-Functor.gate c.in-Functor._drive c.in-Functor._sources c.args.input c.sized_bits-bits.result c.eval_one.result single.3 c.requires.linked c.requires.wide at
    (same_Some _ _ (sym (kind-at c.args.design.now c.args.item node at) ∙ c.kind.ensures ∙ ap (λ k. Some k) c.in-Functor.is)) single.0 single.1 single.2
    (c.sized_bits-bits.ensures.value ∙ c.bits.ensures) c.sized_bits-bits.ensures.least c.eval_one.ensures.value

pub returns-clause-width : goal.returns-clause-width
returns-clause-width g c = λ node at.
    let single = subst (λ k. IsSingle c.args.design.now k c.args.input) (c.kind.ensures ∙ ap (λ k. Some k) c.in-Functor.is) c.requires.single in
    let is = same_Some _ _ (sym (kind-at c.args.design.now c.args.item node at) ∙ c.kind.ensures ∙ ap (λ k. Some k) c.in-Functor.is) in
    let sized = single-wide c.args.design.now c.args.store.now.values c.args.item node c.in-Functor.gate c.in-Functor._drive c.in-Functor._sources c.args.input c.sized_bits-bits.result single.3 c.requires.linked c.requires.wide at is single.0
    (c.sized_bits-bits.ensures.value ∙ c.bits.ensures) c.sized_bits-bits.ensures.least in
    c.eval_one.ensures.width ∙ sized
