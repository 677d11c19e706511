-- Each arm has the gate's own row: what it requires stands in `Fits`, and its output is the row's.
use Rattle.std.proofs.Common.{map, sym, ap, ◌∙◌, ◌≡◌}
use Rattle.four_state.specs.Bit.{not_bit}
use Rattle.strengths.specs.Level.{driven}
use Rattle.gate_rules.specs.Evaluable.{Fits, Has, HaveWidth}
use Rattle.gate_rules.specs.Output.{output}
use Rattle.gate_rules.specs.Ports.{widths}
use Rattle.gate_rules.proofs.FitLemmas.{both_six}
use Rattle.gate_rules.proofs.LengthLemmas.{has_width}
use Rattle.gate_rules.proofs.PortLemmas.{has_is_there}
use Rattle.gate_rules.proofs.StrongLemmas.{seen_ports-driven}
use Rattle.gate_rules.proofs.eval.eval_strong.Goals as goal

pub fold-requires-clause-same_width : goal.fold-requires-clause-same_width
unfolding Fits
fold-requires-clause-same_width c =
    let fits : HaveWidth (widths c.args.ports.now) c.args.width = rw c.in-And.is at c.requires.evaluable.fits in
    fits.1

pub fold-requires-in-Or-clause-same_width : goal.fold-requires-in-Or-clause-same_width
unfolding Fits
fold-requires-in-Or-clause-same_width c =
    let fits : HaveWidth (widths c.args.ports.now) c.args.width = rw c.in-Or.is at c.requires.evaluable.fits in
    fits.1

pub fold-requires-in-Xor-clause-same_width : goal.fold-requires-in-Xor-clause-same_width
unfolding Fits
fold-requires-in-Xor-clause-same_width c =
    let fits : HaveWidth (widths c.args.ports.now) c.args.width = rw c.in-Xor.is at c.requires.evaluable.fits in
    fits.1

pub fold-requires-in-Nand-clause-same_width : goal.fold-requires-in-Nand-clause-same_width
unfolding Fits
fold-requires-in-Nand-clause-same_width c =
    let fits : HaveWidth (widths c.args.ports.now) c.args.width = rw c.in-Nand.is at c.requires.evaluable.fits in
    fits.1

pub fold-requires-in-Nor-clause-same_width : goal.fold-requires-in-Nor-clause-same_width
unfolding Fits
fold-requires-in-Nor-clause-same_width c =
    let fits : HaveWidth (widths c.args.ports.now) c.args.width = rw c.in-Nor.is at c.requires.evaluable.fits in
    fits.1

pub fold-requires-in-Xnor-clause-same_width : goal.fold-requires-in-Xnor-clause-same_width
unfolding Fits
fold-requires-in-Xnor-clause-same_width c =
    let fits : HaveWidth (widths c.args.ports.now) c.args.width = rw c.in-Xnor.is at c.requires.evaluable.fits in
    fits.1

pub bits_at-requires : goal.bits_at-requires
unfolding Fits
bits_at-requires c =
    let fits : Has (widths c.args.ports.now) 0 c.args.width = rw c.in-Not.is at c.requires.evaluable.fits in
    has_is_there _ _ fits

pub returns-in-And-clause-value : goal.returns-in-And-clause-value
unfolding output
returns-in-And-clause-value c s0 s1 keeps =
    let strong : (s0 ≡ 6) × (s1 ≡ 6) = both_six s0 s1 (rw c.in-And.is at keeps) in
    rw c.in-And.is (rw (seen_ports-driven c.args.ports.now, strong.0, strong.1) (ap (map (driven 6 6)) (sym c.fold.ensures)))

pub returns-in-And-clause-width : goal.returns-in-And-clause-width
returns-in-And-clause-width c = has_width c.args.gate.now _ _ c.args.ports.now c.requires.evaluable.fits (returns-in-And-clause-value c 6 6 c.requires.strong)

pub returns-in-Or-clause-value : goal.returns-in-Or-clause-value
unfolding output
returns-in-Or-clause-value c s0 s1 keeps =
    let strong : (s0 ≡ 6) × (s1 ≡ 6) = both_six s0 s1 (rw c.in-Or.is at keeps) in
    rw c.in-Or.is (rw (seen_ports-driven c.args.ports.now, strong.0, strong.1) (ap (map (driven 6 6)) (sym c.fold-in-Or.ensures)))

pub returns-in-Or-clause-width : goal.returns-in-Or-clause-width
returns-in-Or-clause-width c = has_width c.args.gate.now _ _ c.args.ports.now c.requires.evaluable.fits (returns-in-Or-clause-value c 6 6 c.requires.strong)

pub returns-in-Xor-clause-value : goal.returns-in-Xor-clause-value
unfolding output
returns-in-Xor-clause-value c s0 s1 keeps =
    let strong : (s0 ≡ 6) × (s1 ≡ 6) = both_six s0 s1 (rw c.in-Xor.is at keeps) in
    rw c.in-Xor.is (rw (seen_ports-driven c.args.ports.now, strong.0, strong.1) (ap (map (driven 6 6)) (sym c.fold-in-Xor.ensures)))

pub returns-in-Xor-clause-width : goal.returns-in-Xor-clause-width
returns-in-Xor-clause-width c = has_width c.args.gate.now _ _ c.args.ports.now c.requires.evaluable.fits (returns-in-Xor-clause-value c 6 6 c.requires.strong)

pub returns-in-Nand-clause-value : goal.returns-in-Nand-clause-value
unfolding output
returns-in-Nand-clause-value c s0 s1 keeps =
    let strong : (s0 ≡ 6) × (s1 ≡ 6) = both_six s0 s1 (rw c.in-Nand.is at keeps) in
    rw c.in-Nand.is (rw (seen_ports-driven c.args.ports.now, strong.0, strong.1) (ap (map (driven 6 6)) (sym (c.not.ensures ∙ ap (map not_bit) c.fold-in-Nand.ensures))))

pub returns-in-Nand-clause-width : goal.returns-in-Nand-clause-width
returns-in-Nand-clause-width c = has_width c.args.gate.now _ _ c.args.ports.now c.requires.evaluable.fits (returns-in-Nand-clause-value c 6 6 c.requires.strong)

pub returns-in-Nor-clause-value : goal.returns-in-Nor-clause-value
unfolding output
returns-in-Nor-clause-value c s0 s1 keeps =
    let strong : (s0 ≡ 6) × (s1 ≡ 6) = both_six s0 s1 (rw c.in-Nor.is at keeps) in
    rw c.in-Nor.is (rw (seen_ports-driven c.args.ports.now, strong.0, strong.1) (ap (map (driven 6 6)) (sym (c.not-in-Nor.ensures ∙ ap (map not_bit) c.fold-in-Nor.ensures))))

pub returns-in-Nor-clause-width : goal.returns-in-Nor-clause-width
returns-in-Nor-clause-width c = has_width c.args.gate.now _ _ c.args.ports.now c.requires.evaluable.fits (returns-in-Nor-clause-value c 6 6 c.requires.strong)

pub returns-in-Xnor-clause-value : goal.returns-in-Xnor-clause-value
unfolding output
returns-in-Xnor-clause-value c s0 s1 keeps =
    let strong : (s0 ≡ 6) × (s1 ≡ 6) = both_six s0 s1 (rw c.in-Xnor.is at keeps) in
    rw c.in-Xnor.is (rw (seen_ports-driven c.args.ports.now, strong.0, strong.1) (ap (map (driven 6 6)) (sym (c.not-in-Xnor.ensures ∙ ap (map not_bit) c.fold-in-Xnor.ensures))))

pub returns-in-Xnor-clause-width : goal.returns-in-Xnor-clause-width
returns-in-Xnor-clause-width c = has_width c.args.gate.now _ _ c.args.ports.now c.requires.evaluable.fits (returns-in-Xnor-clause-value c 6 6 c.requires.strong)

pub returns-in-Not-clause-value : goal.returns-in-Not-clause-value
unfolding output
returns-in-Not-clause-value c s0 s1 keeps =
    let strong : (s0 ≡ 6) × (s1 ≡ 6) = both_six s0 s1 (rw c.in-Not.is at keeps) in
    rw c.in-Not.is (rw (seen_ports-driven c.args.ports.now, strong.0, strong.1, c.bits_at.ensures.vector) (ap (map (driven 6 6)) (sym c.not-in-Not.ensures)))

pub returns-in-Not-clause-width : goal.returns-in-Not-clause-width
returns-in-Not-clause-width c = has_width c.args.gate.now _ _ c.args.ports.now c.requires.evaluable.fits (returns-in-Not-clause-value c 6 6 c.requires.strong)
