use Rattle.std.proofs.Common.{Some, sym, ap, ◌∙◌, subst}
use Rattle.std.proofs.lemmas.Option.{same_Some}
use Rattle.net_engine.specs.Outputs.{IsToldByBits}
use Rattle.net_engine.proofs.LinkedLemmas.{node-of-kind, kind-at}
use Rattle.net_engine.proofs.StrongLemmas.{strong-at_six}
use Rattle.net_engine.proofs.OutputLemmas.{gate-showing, bits-evaluable, bits-output}
use Rattle.net_engine.proofs.outputs.bits_output.Goals as goal

pub put_all_bits-requires : goal.put_all_bits-requires
put_all_bits-requires g c =
    let found = node-of-kind c.args.design.now c.args.item _ (c.kind.ensures ∙ ap (λ k. Some k) c.in-Functor.is) in
    gate-showing c.args.design.now c.args.store.now.values c.args.item found.0 c.in-Functor.gate c.in-Functor._drive c.in-Functor.sources c.requires.linked c.requires.wide found.1 found.2

pub eval_strong-requires-clause-evaluable : goal.eval_strong-requires-clause-evaluable
eval_strong-requires-clause-evaluable g c =
    let found = node-of-kind c.args.design.now c.args.item _ (c.kind.ensures ∙ ap (λ k. Some k) c.in-Functor.is) in
    bits-evaluable c.args.design.now c.args.store.now.values c.args.item found.0 c.in-Functor.gate c.in-Functor._drive c.in-Functor.sources c.width-width.result c.put_all_bits.new.ports c.requires.linked c.requires.wide found.1 found.2 (c.width-width.ensures found.0 found.1)
    c.put_all_bits.ensures.value c.put_all_bits.ensures.least

pub eval_strong-requires-clause-strong : goal.eval_strong-requires-clause-strong
eval_strong-requires-clause-strong g c =
    let told = subst (IsToldByBits c.args.design.now c.args.store.now.values) (c.kind.ensures ∙ ap (λ k. Some k) c.in-Functor.is) c.requires.gate in
    strong-at_six c.in-Functor.gate c.in-Functor._drive.0 c.in-Functor._drive.1 told.0

pub returns-clause-value : goal.returns-clause-value
returns-clause-value g c = λ node at.
    let told = subst (IsToldByBits c.args.design.now c.args.store.now.values) (c.kind.ensures ∙ ap (λ k. Some k) c.in-Functor.is) c.requires.gate in
    bits-output c.args.design.now c.args.store.now.values node c.in-Functor.gate c.in-Functor._drive c.in-Functor.sources c.width-width.result c.put_all_bits.new.ports c.eval_strong.result
    (same_Some _ _ (sym (kind-at c.args.design.now c.args.item node at) ∙ c.kind.ensures ∙ ap (λ k. Some k) c.in-Functor.is)) (c.width-width.ensures node at) c.put_all_bits.ensures.value told.1
    (c.eval_strong.ensures.value c.in-Functor._drive.0 c.in-Functor._drive.1 told.0)
