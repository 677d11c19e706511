use Rattle.std.proofs.Common.{◌≡◌, length, replicate, ap, ◌∙◌, arith}
use Rattle.std.proofs.lemmas.List.{length-replicate}
use Rattle.gate_rules.proofs.FoldLemmas.{folded-ports}
use Rattle.gate_rules.proofs.PortLemmas.{port_fits}
use Rattle.gate_rules.proofs.fold.Table.fold_any.Goals as goal

pub with_port-last-requires : goal.with_port-last-requires
with_port-last-requires c =
    let none : length c.splat-none.result ≡ c.args.width = ap length c.splat-none.ensures ∙ length-replicate _ _ in
    port_fits c.args.ports.now c.args.width 3 _ _ c.requires.same_width (omega arith) c.index-ports-3.is none

pub with_port-third-requires : goal.with_port-third-requires
with_port-third-requires c =
    let none : length c.splat-none.result ≡ c.args.width = ap length c.splat-none.ensures ∙ length-replicate _ _ in
    port_fits c.args.ports.now c.args.width 2 _ _ c.requires.same_width (omega arith) c.index-ports-2.is (c.with_port-last.ensures.width ∙ none)

pub with_port-second-requires : goal.with_port-second-requires
with_port-second-requires c =
    let none : length c.splat-none.result ≡ c.args.width = ap length c.splat-none.ensures ∙ length-replicate _ _ in
    port_fits c.args.ports.now c.args.width 1 _ _ c.requires.same_width (omega arith) c.index-ports-1.is (c.with_port-third.ensures.width ∙ c.with_port-last.ensures.width ∙ none)

pub with_port-requires : goal.with_port-requires
with_port-requires c =
    let none : length c.splat-none.result ≡ c.args.width = ap length c.splat-none.ensures ∙ length-replicate _ _ in
    port_fits c.args.ports.now c.args.width 0 _ _ c.requires.same_width (omega arith) c.index-ports-0.is (c.with_port-second.ensures.width ∙ c.with_port-third.ensures.width ∙ c.with_port-last.ensures.width ∙ none)

pub returns : goal.returns
returns c =
    c.with_port.ensures.value
    ∙ folded-ports _ _ c.args.width c.args.ports.now _ _ _ _ _ _ _ _ c.requires.four c.requires.same_width c.index-ports-0.is c.index-ports-1.is c.index-ports-2.is c.index-ports-3.is
    (c.splat-none.ensures ∙ ap (λ bit. replicate c.args.width bit) c.unit.ensures) c.with_port-last.ensures.value c.with_port-third.ensures.value c.with_port-second.ensures.value
