-- Each arm has the gate's own row: what it requires stands in `Fits`, and its output is the row's.
use Rattle.std.proofs.Common.{rules, ◌≡◌, ◌+◌, ◌*◌, ◌≤◌, IsSome, IsSomeAnd, IsTrue, pos, map, sum, sym, ap, ◌∙◌, refl}
use Rattle.four_state.specs.declared.bits.Bit.TheVariants.{Unknown, HighZ}
use Rattle.strengths.specs.Level.{driven}
use Rattle.strengths.specs.Moved.{part_or}
use Rattle.gate_rules.specs.Evaluable.{Fits, Has, HaveWidth, port_of_width}
use Rattle.gate_rules.specs.Output.{output}
use Rattle.gate_rules.specs.Passed.{top_or}
use Rattle.gate_rules.specs.Ports.{there, widths, width_at, driven_ports}
use Rattle.gate_rules.specs.Strong.{looks, strength_of}
use Rattle.gate_rules.proofs.FitLemmas.{and_is_there, and_at, sum_there, drives_strongly}
use Rattle.gate_rules.proofs.LengthLemmas.{has_width}
use Rattle.gate_rules.proofs.PortLemmas.{has_is_there, same_width}
use Rattle.gate_rules.proofs.StrongLemmas.{seen-driven, seen_ports-driven, vector_at-driven, part_or-mapped, part_from-mapped, copies-mapped, joined-mapped, top-mapped}
use Rattle.gate_rules.proofs.eval.eval_other.Goals as goal

pub bits_at-requires : goal.bits_at-requires
unfolding Fits
bits_at-requires c =
    let fits : Has (widths c.args.ports.now) 0 c.args.width = rw c.in-Buft.is at c.requires.evaluable.fits in
    has_is_there _ _ fits

pub resolve_bits-requires-clause-wide : goal.resolve_bits-requires-clause-wide
unfolding Fits
resolve_bits-requires-clause-wide c =
    let fits : HaveWidth (widths c.args.ports.now) c.args.width = rw c.in-Resolver.is at c.requires.evaluable.fits in
    fits

pub bits_at-requires-in-Part : goal.bits_at-requires-in-Part
unfolding Fits
bits_at-requires-in-Part c =
    let fits : IsSomeAnd (width_at (widths c.args.ports.now) 0) (λ source. c.in-Part.base + c.args.width ≤ source) = rw c.in-Part.is at c.requires.evaluable.fits in
    and_is_there _ _ fits

pub inner_bits-requires-clause-inside : goal.inner_bits-requires-clause-inside
unfolding Fits
inner_bits-requires-clause-inside c =
    let fits : IsSomeAnd (width_at (widths c.args.ports.now) 0) (λ source. c.in-Part.base + c.args.width ≤ source) = rw c.in-Part.is at c.requires.evaluable.fits in
    and_at _ (λ source. c.in-Part.base + c.args.width ≤ source) _ fits c.bits_at-in-Part.ensures.width

pub bits_at-requires-in-PartInto : goal.bits_at-requires-in-PartInto
unfolding Fits
bits_at-requires-in-PartInto c =
    let fits : Has (widths c.args.ports.now) 0 c.in-PartInto.width × (c.in-PartInto.base + c.in-PartInto.width ≤ c.args.width) = rw c.in-PartInto.is at c.requires.evaluable.fits in
    has_is_there _ _ fits.0

pub bits_put-requires-clause-inside : goal.bits_put-requires-clause-inside
unfolding Fits
bits_put-requires-clause-inside c =
    let fits : Has (widths c.args.ports.now) 0 c.in-PartInto.width × (c.in-PartInto.base + c.in-PartInto.width ≤ c.args.width) = rw c.in-PartInto.is at c.requires.evaluable.fits in
    rw (same_width _ _ _ c.bits_at-in-PartInto.ensures.width fits.0) fits.1

pub bits_at-requires-in-PartFrom : goal.bits_at-requires-in-PartFrom
unfolding Fits
bits_at-requires-in-PartFrom c =
    let fits : IsSome (width_at (widths c.args.ports.now) 0) × IsSome (width_at (widths c.args.ports.now) 1) = rw c.in-PartFrom.is at c.requires.evaluable.fits in
    fits.0

pub bits_at-requires-in-PartFrom-2 : goal.bits_at-requires-in-PartFrom-2
unfolding Fits
bits_at-requires-in-PartFrom-2 c =
    let fits : IsSome (width_at (widths c.args.ports.now) 0) × IsSome (width_at (widths c.args.ports.now) 1) = rw c.in-PartFrom.is at c.requires.evaluable.fits in
    fits.1

pub concat_bits-requires-clause-first : goal.concat_bits-requires-clause-first
unfolding Fits
concat_bits-requires-clause-first c =
    let fits : (widths c.args.ports.now ≡ map port_of_width c.in-Concat.widths) × (sum c.in-Concat.widths ≡ c.args.width) × IsSome (width_at (widths c.args.ports.now) 0) = rw c.in-Concat.is at c.requires.evaluable.fits in
    fits.2

pub concat_bits-requires-clause-most : goal.concat_bits-requires-clause-most
unfolding Fits
concat_bits-requires-clause-most c =
    let fits : (widths c.args.ports.now ≡ map port_of_width c.in-Concat.widths) × (sum c.in-Concat.widths ≡ c.args.width) × IsSome (width_at (widths c.args.ports.now) 0) = rw c.in-Concat.is at c.requires.evaluable.fits in
    let all : sum (there (widths c.args.ports.now)) ≡ c.args.width = ap (λ ports. sum (there ports)) fits.0 ∙ sum_there c.in-Concat.widths ∙ fits.1 in rw all c.requires.evaluable.most

pub bits_at-requires-in-Repeat : goal.bits_at-requires-in-Repeat
unfolding Fits
bits_at-requires-in-Repeat c =
    let fits : (1 ≤ c.in-Repeat.count) × IsSomeAnd (width_at (widths c.args.ports.now) 0) (λ copied. c.in-Repeat.count * copied ≡ c.args.width) = rw c.in-Repeat.is at c.requires.evaluable.fits in
    and_is_there _ _ fits.1

pub bits_repeated-requires-clause-least : goal.bits_repeated-requires-clause-least
unfolding Fits
bits_repeated-requires-clause-least c =
    let fits : (1 ≤ c.in-Repeat.count) × IsSomeAnd (width_at (widths c.args.ports.now) 0) (λ copied. c.in-Repeat.count * copied ≡ c.args.width) = rw c.in-Repeat.is at c.requires.evaluable.fits in
    fits.0

pub bits_repeated-requires-clause-most : goal.bits_repeated-requires-clause-most
unfolding Fits
bits_repeated-requires-clause-most c =
    let fits : (1 ≤ c.in-Repeat.count) × IsSomeAnd (width_at (widths c.args.ports.now) 0) (λ copied. c.in-Repeat.count * copied ≡ c.args.width) = rw c.in-Repeat.is at c.requires.evaluable.fits in
    rw (and_at _ (λ copied. c.in-Repeat.count * copied ≡ c.args.width) _ fits.1 c.bits_at-in-Repeat.ensures.width) c.requires.evaluable.most

pub bits_at-requires-in-Extend : goal.bits_at-requires-in-Extend
unfolding Fits
bits_at-requires-in-Extend c =
    let fits : IsSomeAnd (width_at (widths c.args.ports.now) 0) (λ extended. extended ≤ c.args.width) = rw c.in-Extend.is at c.requires.evaluable.fits in
    and_is_there _ _ fits

pub bits_extended-requires-clause-fits : goal.bits_extended-requires-clause-fits
unfolding Fits
bits_extended-requires-clause-fits c =
    let fits : IsSomeAnd (width_at (widths c.args.ports.now) 0) (λ extended. extended ≤ c.args.width) = rw c.in-Extend.is at c.requires.evaluable.fits in
    and_at _ (λ extended. extended ≤ c.args.width) _ fits c.bits_at-in-Extend.ensures.width

pub returns-in-Buft-clause-value : goal.returns-in-Buft-clause-value
unfolding output
returns-in-Buft-clause-value c s0 s1 keeps = rw c.in-Buft.is (vector_at-driven c.args.ports.now 0 ∙ ap (map (driven 6 6)) c.bits_at.ensures.vector)

pub returns-in-Buft-clause-width : goal.returns-in-Buft-clause-width
returns-in-Buft-clause-width c = has_width c.args.gate.now _ _ c.args.ports.now c.requires.evaluable.fits (returns-in-Buft-clause-value c 6 6 c.requires.strong)

pub returns-in-Resolver-clause-value : goal.returns-in-Resolver-clause-value
unfolding output
returns-in-Resolver-clause-value c s0 s1 keeps = rw c.in-Resolver.is (c.resolve_bits.ensures)

pub returns-in-Resolver-clause-width : goal.returns-in-Resolver-clause-width
returns-in-Resolver-clause-width c = has_width c.args.gate.now _ _ c.args.ports.now c.requires.evaluable.fits (returns-in-Resolver-clause-value c 6 6 c.requires.strong)

pub returns-in-Part-clause-value : goal.returns-in-Part-clause-value
unfolding output
returns-in-Part-clause-value c s0 s1 keeps = rw c.in-Part.is (rw (vector_at-driven c.args.ports.now 0, c.bits_at-in-Part.ensures.vector) (part_or-mapped (driven 6 6) _ _ _ Unknown ∙ ap (map (driven 6 6)) (sym c.inner_bits.ensures)))

pub returns-in-Part-clause-width : goal.returns-in-Part-clause-width
returns-in-Part-clause-width c = has_width c.args.gate.now _ _ c.args.ports.now c.requires.evaluable.fits (returns-in-Part-clause-value c 6 6 c.requires.strong)

pub returns-in-PartInto-clause-value : goal.returns-in-PartInto-clause-value
unfolding output
returns-in-PartInto-clause-value c s0 s1 keeps = rw c.in-PartInto.is (rw (vector_at-driven c.args.ports.now 0, c.bits_at-in-PartInto.ensures.vector) (part_or-mapped (driven 6 6) _ _ _ HighZ ∙ ap (map (driven 6 6)) (sym c.bits_put.ensures)))

pub returns-in-PartInto-clause-width : goal.returns-in-PartInto-clause-width
returns-in-PartInto-clause-width c = has_width c.args.gate.now _ _ c.args.ports.now c.requires.evaluable.fits (returns-in-PartInto-clause-value c 6 6 c.requires.strong)

pub returns-in-PartFrom-clause-value : goal.returns-in-PartFrom-clause-value
unfolding output
returns-in-PartFrom-clause-value c s0 s1 keeps = rw c.in-PartFrom.is (rw (vector_at-driven c.args.ports.now 0, vector_at-driven c.args.ports.now 1, c.bits_at-in-PartFrom.ensures.vector, c.bits_at-in-PartFrom-2.ensures.vector, seen-driven) (part_from-mapped (driven 6 6) _ _ _ Unknown ∙ ap (map (driven 6 6)) (sym c.bits_from.ensures)))

pub returns-in-PartFrom-clause-width : goal.returns-in-PartFrom-clause-width
returns-in-PartFrom-clause-width c = has_width c.args.gate.now _ _ c.args.ports.now c.requires.evaluable.fits (returns-in-PartFrom-clause-value c 6 6 c.requires.strong)

pub returns-in-Concat-clause-value : goal.returns-in-Concat-clause-value
unfolding output
returns-in-Concat-clause-value c s0 s1 keeps = rw c.in-Concat.is (joined-mapped c.args.ports.now ∙ ap (map (driven 6 6)) (sym c.concat_bits.ensures))

pub returns-in-Concat-clause-width : goal.returns-in-Concat-clause-width
returns-in-Concat-clause-width c = has_width c.args.gate.now _ _ c.args.ports.now c.requires.evaluable.fits (returns-in-Concat-clause-value c 6 6 c.requires.strong)

pub returns-in-Repeat-clause-value : goal.returns-in-Repeat-clause-value
unfolding output
returns-in-Repeat-clause-value c s0 s1 keeps = rw c.in-Repeat.is (rw (vector_at-driven c.args.ports.now 0, c.bits_at-in-Repeat.ensures.vector) (copies-mapped (driven 6 6) _ _ ∙ ap (map (driven 6 6)) (sym c.bits_repeated.ensures)))

pub returns-in-Repeat-clause-width : goal.returns-in-Repeat-clause-width
returns-in-Repeat-clause-width c = has_width c.args.gate.now _ _ c.args.ports.now c.requires.evaluable.fits (returns-in-Repeat-clause-value c 6 6 c.requires.strong)

pub returns-in-Extend-clause-value : goal.returns-in-Extend-clause-value
unfolding output
returns-in-Extend-clause-value c s0 s1 keeps = rw c.in-Extend.is (rw (vector_at-driven c.args.ports.now 0, c.bits_at-in-Extend.ensures.vector) (ap (λ top. part_or (map (driven 6 6) c.bits_at-in-Extend.result) (pos 0) c.args.width top) (top-mapped (driven 6 6) c.bits_at-in-Extend.result Unknown) ∙ part_or-mapped (driven 6 6) _ _ _ (top_or c.bits_at-in-Extend.result Unknown) ∙ ap (map (driven 6 6)) (sym c.bits_extended.ensures)))

pub returns-in-Extend-clause-width : goal.returns-in-Extend-clause-width
returns-in-Extend-clause-width c = has_width c.args.gate.now _ _ c.args.ports.now c.requires.evaluable.fits (returns-in-Extend-clause-value c 6 6 c.requires.strong)

pub returns-in_default-clause-value : goal.returns-in_default-clause-value
returns-in_default-clause-value c s0 s1 keeps =
    let looks : IsTrue (looks c.args.gate.now) = search rules in
    let strong : (strength_of c.args.gate.now s0 ≡ 6) × (strength_of c.args.gate.now s1 ≡ 6) = drives_strongly c.args.gate.now s0 s1 looks keeps in
    c.looked.ensures s0 s1 (driven_ports 6 6 c.args.ports.now) (seen_ports-driven c.args.ports.now) ∙ rw (strong.0, strong.1) refl

pub returns-in_default-clause-width : goal.returns-in_default-clause-width
returns-in_default-clause-width c = has_width c.args.gate.now _ _ c.args.ports.now c.requires.evaluable.fits (returns-in_default-clause-value c 6 6 c.requires.strong)
