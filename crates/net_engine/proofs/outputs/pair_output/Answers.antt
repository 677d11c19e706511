use Rattle.std.proofs.Common.{Some, sym, ap, ◌∙◌, subst}
use Rattle.std.proofs.lemmas.Option.{same_Some}
use Rattle.net_engine.specs.Pairs.{IsPair}
use Rattle.net_engine.proofs.LinkedLemmas.{node-of-kind, kind-at}
use Rattle.net_engine.proofs.OutputLemmas.{gate-showing}
use Rattle.net_engine.proofs.PairLemmas.{two-showing, two-wide, pair-output}
use Rattle.net_engine.proofs.outputs.pair_output.Goals as goal

pub bits-requires : goal.bits-requires
bits-requires g c =
    let found = node-of-kind c.args.design.now c.args.item _ (c.kind.ensures ∙ ap (λ k. Some k) c.in-Functor.is) in
    let pair = subst (λ k. IsPair c.args.design.now k c.args.left c.args.right) (c.kind.ensures ∙ ap (λ k. Some k) c.in-Functor.is) c.requires.pair in
    let showing = gate-showing c.args.design.now c.args.store.now.values c.args.item found.0 c.in-Functor.gate c.in-Functor._drive c.in-Functor._sources c.requires.linked c.requires.wide found.1 found.2 in
    (two-showing c.args.design.now c.args.store.now.values c.in-Functor.gate c.in-Functor._sources c.args.left c.args.right pair.3 showing).0

pub bits-requires-in-Functor : goal.bits-requires-in-Functor
bits-requires-in-Functor g c =
    let found = node-of-kind c.args.design.now c.args.item _ (c.kind.ensures ∙ ap (λ k. Some k) c.in-Functor.is) in
    let pair = subst (λ k. IsPair c.args.design.now k c.args.left c.args.right) (c.kind.ensures ∙ ap (λ k. Some k) c.in-Functor.is) c.requires.pair in
    let showing = gate-showing c.args.design.now c.args.store.now.values c.args.item found.0 c.in-Functor.gate c.in-Functor._drive c.in-Functor._sources c.requires.linked c.requires.wide found.1 found.2 in
    (two-showing c.args.design.now c.args.store.now.values c.in-Functor.gate c.in-Functor._sources c.args.left c.args.right pair.3 showing).1

pub eval_two-requires-clause-same_width : goal.eval_two-requires-clause-same_width
eval_two-requires-clause-same_width g c =
    let found = node-of-kind c.args.design.now c.args.item _ (c.kind.ensures ∙ ap (λ k. Some k) c.in-Functor.is) in
    let pair = subst (λ k. IsPair c.args.design.now k c.args.left c.args.right) (c.kind.ensures ∙ ap (λ k. Some k) c.in-Functor.is) c.requires.pair in
    let sized = two-wide c.args.design.now c.args.store.now.values c.args.item found.0 c.in-Functor.gate c.in-Functor._drive c.in-Functor._sources c.args.left c.args.right c.sized_bits-low.result c.sized_bits-high.result pair.3 c.requires.linked c.requires.wide found.1 found.2 pair.0
    (c.sized_bits-low.ensures.value ∙ c.bits.ensures) (c.sized_bits-high.ensures.value ∙ c.bits-in-Functor.ensures) c.sized_bits-low.ensures.least c.sized_bits-high.ensures.least in
    sized.0 ∙ sym sized.1

pub returns-clause-value : goal.returns-clause-value
returns-clause-value g c = λ node at.
    let pair = subst (λ k. IsPair c.args.design.now k c.args.left c.args.right) (c.kind.ensures ∙ ap (λ k. Some k) c.in-Functor.is) c.requires.pair in
    pair-output c.args.design.now c.args.store.now.values c.args.item node c.in-Functor.gate c.in-Functor._drive c.in-Functor._sources c.args.left c.args.right c.sized_bits-low.result c.sized_bits-high.result c.eval_two.result pair.3 c.requires.linked c.requires.wide at
    (same_Some _ _ (sym (kind-at c.args.design.now c.args.item node at) ∙ c.kind.ensures ∙ ap (λ k. Some k) c.in-Functor.is)) pair.0 pair.1 pair.2
    (c.sized_bits-low.ensures.value ∙ c.bits.ensures) (c.sized_bits-high.ensures.value ∙ c.bits-in-Functor.ensures) c.sized_bits-low.ensures.least c.sized_bits-high.ensures.least c.eval_two.ensures.value

pub returns-clause-width : goal.returns-clause-width
returns-clause-width g c = λ node at.
    let pair = subst (λ k. IsPair c.args.design.now k c.args.left c.args.right) (c.kind.ensures ∙ ap (λ k. Some k) c.in-Functor.is) c.requires.pair in
    let is = same_Some _ _ (sym (kind-at c.args.design.now c.args.item node at) ∙ c.kind.ensures ∙ ap (λ k. Some k) c.in-Functor.is) in
    let sized = two-wide c.args.design.now c.args.store.now.values c.args.item node c.in-Functor.gate c.in-Functor._drive c.in-Functor._sources c.args.left c.args.right c.sized_bits-low.result c.sized_bits-high.result pair.3 c.requires.linked c.requires.wide at is pair.0
    (c.sized_bits-low.ensures.value ∙ c.bits.ensures) (c.sized_bits-high.ensures.value ∙ c.bits-in-Functor.ensures) c.sized_bits-low.ensures.least c.sized_bits-high.ensures.least in
    c.eval_two.ensures.width ∙ sized.0
