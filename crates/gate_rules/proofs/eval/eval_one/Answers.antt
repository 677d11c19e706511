-- Each arm has the gate's own row, of its first port.
use Rattle.std.proofs.Common.{◌≡◌, map, length, Option, Some, List, ◌∷◌, sym, ap, ◌∙◌}
use Rattle.std.proofs.lemmas.List.{length-map}
use Rattle.four_state.specs.declared.bits.Bit.{Bit}
use Rattle.four_state.specs.Bit.{not_bit}
use Rattle.strengths.specs.Level.{driven}
use Rattle.gate_rules.specs.Output.{output}
use Rattle.gate_rules.specs.Ports.{vector_at}
use Rattle.gate_rules.specs.Rows.{buffered_bit}
use Rattle.gate_rules.proofs.FitLemmas.{both_six}
use Rattle.gate_rules.proofs.StrongLemmas.{seen_ports-driven}
use Rattle.gate_rules.proofs.eval.eval_one.Goals as goal

pub returns-in-Buf-clause-value : goal.returns-in-Buf-clause-value
unfolding output
returns-in-Buf-clause-value c width s0 s1 others keeps =
    let strong : (s0 ≡ 6) × (s1 ≡ 6) = both_six s0 s1 (rw c.in-Buf.is at keeps) in
    rw c.in-Buf.is (rw (strong.0, strong.1) (ap (λ (ps : List (Option (List Bit))). map (driven 6 6) (map buffered_bit (vector_at ps 0))) (seen_ports-driven (Some c.args.bits ∷ others)) ∙ ap (map (driven 6 6)) (sym c.buffered.ensures)))

pub returns-in-Buf-clause-width : goal.returns-in-Buf-clause-width
returns-in-Buf-clause-width c = ap length c.buffered.ensures ∙ length-map c.args.bits buffered_bit

pub returns-in-Not-clause-value : goal.returns-in-Not-clause-value
unfolding output
returns-in-Not-clause-value c width s0 s1 others keeps =
    let strong : (s0 ≡ 6) × (s1 ≡ 6) = both_six s0 s1 (rw c.in-Not.is at keeps) in
    rw c.in-Not.is (rw (strong.0, strong.1) (ap (λ (ps : List (Option (List Bit))). map (driven 6 6) (map not_bit (vector_at ps 0))) (seen_ports-driven (Some c.args.bits ∷ others)) ∙ ap (map (driven 6 6)) (sym c.not.ensures)))

pub returns-in-Not-clause-width : goal.returns-in-Not-clause-width
returns-in-Not-clause-width c = ap length c.not.ensures ∙ length-map c.args.bits not_bit

pub returns-in-Bufz-clause-value : goal.returns-in-Bufz-clause-value
unfolding output
returns-in-Bufz-clause-value c width s0 s1 others keeps =
    let strong : (s0 ≡ 6) × (s1 ≡ 6) = both_six s0 s1 (rw c.in-Bufz.is at keeps) in
    rw c.in-Bufz.is (rw (strong.0, strong.1) (ap (λ (ps : List (Option (List Bit))). map (driven 6 6) (vector_at ps 0)) (seen_ports-driven (Some c.args.bits ∷ others))))
