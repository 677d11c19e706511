use Rattle.std.proofs.Common.{Some, sym, ap, ◌∙◌}
use Rattle.std.proofs.lemmas.Option.{same_Some}
use Rattle.net_engine.proofs.LinkedLemmas.{node-of-kind, kind-at}
use Rattle.net_engine.proofs.OutputLemmas.{gate-showing, gate-evaluable, gate-output}
use Rattle.net_engine.proofs.outputs.levels_output.Goals as goal

pub at_ports-levels-requires : goal.at_ports-levels-requires
at_ports-levels-requires g c =
    let found = node-of-kind c.args.design.now c.args.item _ (c.kind.ensures ∙ ap (λ k. Some k) c.in-Functor.is) in
    gate-showing c.args.design.now c.args.store.now.values c.args.item found.0 c.in-Functor.gate c.in-Functor.drive c.in-Functor.ports c.requires.linked c.requires.wide found.1 found.2

pub eval_gate-requires : goal.eval_gate-requires
eval_gate-requires g c =
    let found = node-of-kind c.args.design.now c.args.item _ (c.kind.ensures ∙ ap (λ k. Some k) c.in-Functor.is) in
    gate-evaluable c.args.design.now c.args.store.now.values c.args.item found.0 c.in-Functor.gate c.in-Functor.drive c.in-Functor.ports c.width-width.result c.at_ports-levels.result c.requires.linked c.requires.wide found.1 found.2 (c.width-width.ensures found.0 found.1)
    c.at_ports-levels.ensures.value c.at_ports-levels.ensures.least

pub returns-clause-value : goal.returns-clause-value
returns-clause-value g c = λ node at.
    gate-output c.args.design.now c.args.store.now.values node c.in-Functor.gate c.in-Functor.drive c.in-Functor.ports c.width-width.result c.at_ports-levels.result c.eval_gate.result
    (same_Some _ _ (sym (kind-at c.args.design.now c.args.item node at) ∙ c.kind.ensures ∙ ap (λ k. Some k) c.in-Functor.is)) (c.width-width.ensures node at) c.at_ports-levels.ensures.value c.eval_gate.ensures.value
