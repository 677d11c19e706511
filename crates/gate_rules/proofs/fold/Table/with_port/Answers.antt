use Rattle.std.proofs.Common.{◌≡◌, length, ap, ◌∙◌}
use Rattle.gate_rules.proofs.FoldLemmas.{length-at_each_place}
use Rattle.gate_rules.proofs.fold.Table.with_port.Goals as goal

pub returns-in-Some-clause-width : goal.returns-in-Some-clause-width
returns-in-Some-clause-width c =
    let same : length c.in-Some.bits ≡ length c.args.rest = rw c.in-Some.is at c.requires in
    ap length c.of_two.ensures ∙ length-at_each_place _ _ _ same ∙ same
