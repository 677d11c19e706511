use Rattle.std.proofs.Common.{◌∙◌, arith}
use Rattle.gate_rules.proofs.FoldLemmas.{two-widths, two-ports}
use Rattle.gate_rules.proofs.fold.Table.fold.Goals as goal

pub of_two-requires : goal.of_two-requires
of_two-requires c =
    let case = c.in-Some-Some-None-None in
    two-widths c.args.width c.args.ports.now _ _ case.left case.right c.requires.same_width (omega (arith, c.requires.four)) c.index-ports-0.is c.index-ports-1.is case.is-0 case.is-1

pub returns-in-Some-Some-None-None : goal.returns-in-Some-Some-None-None
returns-in-Some-Some-None-None c =
    let case = c.in-Some-Some-None-None in
    c.of_two.ensures
    ∙ two-ports c.args.self c.args.width c.args.ports.now _ _ _ _ case.left case.right c.requires.four c.requires.same_width c.index-ports-0.is c.index-ports-1.is c.index-ports-2.is c.index-ports-3.is case.is-0 case.is-1 case.is-2 case.is-3
