-- Each arm has the gate's own row, of two ports.
use Rattle.std.proofs.Common.{◌≡◌, map, length, Option, Some, List, [], ◌∷◌, sym, ap, ◌∙◌}
use Rattle.std.proofs.lemmas.List.{length-map}
use Rattle.four_state.specs.declared.bits.Bit.{Bit}
use Rattle.four_state.specs.declared.bits.Bit.TheVariants.{Zero, One}
use Rattle.four_state.specs.Bit.{and_bit, or_bit, xor_bit, not_bit}
use Rattle.strengths.specs.Level.{driven}
use Rattle.gate_rules.specs.Output.{output}
use Rattle.gate_rules.specs.Ports.{there}
use Rattle.gate_rules.specs.Rows.{folded}
use Rattle.gate_rules.specs.Tables.{IsAll}
use Rattle.gate_rules.specs.declared.fold.Table.TheVariants as table
use Rattle.gate_rules.proofs.FitLemmas.{both_six}
use Rattle.gate_rules.proofs.FoldLemmas.{two-idle, length-at_each_place}
use Rattle.gate_rules.proofs.StrongLemmas.{seen_ports-driven}
use Rattle.gate_rules.proofs.eval.eval_two.Goals as goal

pub returns-in-And-clause-value : goal.returns-in-And-clause-value
unfolding output
returns-in-And-clause-value c s0 s1 third fourth idle_third idle_fourth keeps =
    let strong : (s0 ≡ 6) × (s1 ≡ 6) = both_six s0 s1 (rw c.in-And.is at keeps) in
    let idle_3 : IsAll One (length c.args.left) third = rw c.in-And.is at idle_third in
    let idle_4 : IsAll One (length c.args.left) fourth = rw c.in-And.is at idle_fourth in
    rw c.in-And.is (rw (strong.0, strong.1) (ap (λ (ps : List (Option (List Bit))). map (driven 6 6) (folded and_bit One (length c.args.left) (there ps))) (seen_ports-driven (Some c.args.left ∷ Some c.args.right ∷ third ∷ fourth ∷ [])) ∙ ap (map (driven 6 6)) (sym (c.of_two.ensures ∙ two-idle table.And c.args.left c.args.right third fourth c.requires.same_width idle_3 idle_4))))

pub returns-in-And-clause-width : goal.returns-in-And-clause-width
returns-in-And-clause-width c = ap length c.of_two.ensures ∙ length-at_each_place and_bit c.args.left c.args.right c.requires.same_width

pub returns-in-Or-clause-value : goal.returns-in-Or-clause-value
unfolding output
returns-in-Or-clause-value c s0 s1 third fourth idle_third idle_fourth keeps =
    let strong : (s0 ≡ 6) × (s1 ≡ 6) = both_six s0 s1 (rw c.in-Or.is at keeps) in
    let idle_3 : IsAll Zero (length c.args.left) third = rw c.in-Or.is at idle_third in
    let idle_4 : IsAll Zero (length c.args.left) fourth = rw c.in-Or.is at idle_fourth in
    rw c.in-Or.is (rw (strong.0, strong.1) (ap (λ (ps : List (Option (List Bit))). map (driven 6 6) (folded or_bit Zero (length c.args.left) (there ps))) (seen_ports-driven (Some c.args.left ∷ Some c.args.right ∷ third ∷ fourth ∷ [])) ∙ ap (map (driven 6 6)) (sym (c.of_two-in-Or.ensures ∙ two-idle table.Or c.args.left c.args.right third fourth c.requires.same_width idle_3 idle_4))))

pub returns-in-Or-clause-width : goal.returns-in-Or-clause-width
returns-in-Or-clause-width c = ap length c.of_two-in-Or.ensures ∙ length-at_each_place or_bit c.args.left c.args.right c.requires.same_width

pub returns-in-Xor-clause-value : goal.returns-in-Xor-clause-value
unfolding output
returns-in-Xor-clause-value c s0 s1 third fourth idle_third idle_fourth keeps =
    let strong : (s0 ≡ 6) × (s1 ≡ 6) = both_six s0 s1 (rw c.in-Xor.is at keeps) in
    let idle_3 : IsAll Zero (length c.args.left) third = rw c.in-Xor.is at idle_third in
    let idle_4 : IsAll Zero (length c.args.left) fourth = rw c.in-Xor.is at idle_fourth in
    rw c.in-Xor.is (rw (strong.0, strong.1) (ap (λ (ps : List (Option (List Bit))). map (driven 6 6) (folded xor_bit Zero (length c.args.left) (there ps))) (seen_ports-driven (Some c.args.left ∷ Some c.args.right ∷ third ∷ fourth ∷ [])) ∙ ap (map (driven 6 6)) (sym (c.of_two-in-Xor.ensures ∙ two-idle table.Xor c.args.left c.args.right third fourth c.requires.same_width idle_3 idle_4))))

pub returns-in-Xor-clause-width : goal.returns-in-Xor-clause-width
returns-in-Xor-clause-width c = ap length c.of_two-in-Xor.ensures ∙ length-at_each_place xor_bit c.args.left c.args.right c.requires.same_width

pub returns-in-Nand-clause-value : goal.returns-in-Nand-clause-value
unfolding output
returns-in-Nand-clause-value c s0 s1 third fourth idle_third idle_fourth keeps =
    let strong : (s0 ≡ 6) × (s1 ≡ 6) = both_six s0 s1 (rw c.in-Nand.is at keeps) in
    let idle_3 : IsAll One (length c.args.left) third = rw c.in-Nand.is at idle_third in
    let idle_4 : IsAll One (length c.args.left) fourth = rw c.in-Nand.is at idle_fourth in
    rw c.in-Nand.is (rw (strong.0, strong.1) (ap (λ (ps : List (Option (List Bit))). map (driven 6 6) (map not_bit (folded and_bit One (length c.args.left) (there ps)))) (seen_ports-driven (Some c.args.left ∷ Some c.args.right ∷ third ∷ fourth ∷ [])) ∙ ap (map (driven 6 6)) (sym (c.not.ensures ∙ ap (map not_bit) (c.of_two-in-Nand.ensures ∙ two-idle table.And c.args.left c.args.right third fourth c.requires.same_width idle_3 idle_4)))))

pub returns-in-Nand-clause-width : goal.returns-in-Nand-clause-width
returns-in-Nand-clause-width c = ap length c.not.ensures ∙ length-map _ not_bit ∙ ap length c.of_two-in-Nand.ensures ∙ length-at_each_place and_bit c.args.left c.args.right c.requires.same_width

pub returns-in-Nor-clause-value : goal.returns-in-Nor-clause-value
unfolding output
returns-in-Nor-clause-value c s0 s1 third fourth idle_third idle_fourth keeps =
    let strong : (s0 ≡ 6) × (s1 ≡ 6) = both_six s0 s1 (rw c.in-Nor.is at keeps) in
    let idle_3 : IsAll Zero (length c.args.left) third = rw c.in-Nor.is at idle_third in
    let idle_4 : IsAll Zero (length c.args.left) fourth = rw c.in-Nor.is at idle_fourth in
    rw c.in-Nor.is (rw (strong.0, strong.1) (ap (λ (ps : List (Option (List Bit))). map (driven 6 6) (map not_bit (folded or_bit Zero (length c.args.left) (there ps)))) (seen_ports-driven (Some c.args.left ∷ Some c.args.right ∷ third ∷ fourth ∷ [])) ∙ ap (map (driven 6 6)) (sym (c.not-in-Nor.ensures ∙ ap (map not_bit) (c.of_two-in-Nor.ensures ∙ two-idle table.Or c.args.left c.args.right third fourth c.requires.same_width idle_3 idle_4)))))

pub returns-in-Nor-clause-width : goal.returns-in-Nor-clause-width
returns-in-Nor-clause-width c = ap length c.not-in-Nor.ensures ∙ length-map _ not_bit ∙ ap length c.of_two-in-Nor.ensures ∙ length-at_each_place or_bit c.args.left c.args.right c.requires.same_width

pub returns-in-Xnor-clause-value : goal.returns-in-Xnor-clause-value
unfolding output
returns-in-Xnor-clause-value c s0 s1 third fourth idle_third idle_fourth keeps =
    let strong : (s0 ≡ 6) × (s1 ≡ 6) = both_six s0 s1 (rw c.in-Xnor.is at keeps) in
    let idle_3 : IsAll Zero (length c.args.left) third = rw c.in-Xnor.is at idle_third in
    let idle_4 : IsAll Zero (length c.args.left) fourth = rw c.in-Xnor.is at idle_fourth in
    rw c.in-Xnor.is (rw (strong.0, strong.1) (ap (λ (ps : List (Option (List Bit))). map (driven 6 6) (map not_bit (folded xor_bit Zero (length c.args.left) (there ps)))) (seen_ports-driven (Some c.args.left ∷ Some c.args.right ∷ third ∷ fourth ∷ [])) ∙ ap (map (driven 6 6)) (sym (c.not-in-Xnor.ensures ∙ ap (map not_bit) (c.of_two-in-Xnor.ensures ∙ two-idle table.Xor c.args.left c.args.right third fourth c.requires.same_width idle_3 idle_4)))))

pub returns-in-Xnor-clause-width : goal.returns-in-Xnor-clause-width
returns-in-Xnor-clause-width c = ap length c.not-in-Xnor.ensures ∙ length-map _ not_bit ∙ ap length c.of_two-in-Xnor.ensures ∙ length-at_each_place xor_bit c.args.left c.args.right c.requires.same_width
