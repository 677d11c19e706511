-- Gates, in a file whose statements break no rule.
use Rattle.std.proofs.Common.{◌≡◌, ℕ, ◌+◌, ◌≤◌, Bool, true, false, ◌&&◌, List, length, slice_get, Option, None, Some, refl, sym, ap, subst, ◌∙◌, arith}
use Rattle.std.proofs.lemmas.Bool.{and_parts, ltb-false}
use Rattle.std.proofs.lemmas.List.Elements.{All-contains}
use Rattle.std.proofs.lemmas.Option.{get_or_from_slice_get, slice_get_within}
use Rattle.std.specs.Prelude.{All}
use Rattle.std.specs.Option.{option_map_or}
use Rattle.vvp_forms.specs.declared.form.Form.{Form}
use Rattle.vvp_forms.specs.declared.form.Form.TheVariants as form
use Rattle.vvp_forms.specs.declared.form.Gate.{Gate}
use Rattle.vvp_forms.specs.declared.form.Gate.TheVariants as gate
use Rattle.vvp_forms.specs.declared.form.Port.{Port}
use Rattle.vvp_forms.specs.declared.form.Port.TheVariants as port
use Rattle.vvp_forms.specs.Checks.{is_used as is_port}
use Rattle.vvp_ops.specs.Ranges.{IsWidth}
use Rattle.sym_link.specs.declared.placed.Placed.{Placed}
use Rattle.sym_link.specs.declared.placed.What.TheVariants as what
use Rattle.sym_link.specs.declared.program.Source.{Source}
use Rattle.sym_link.specs.declared.sorts.Takes.TheVariants as takes
use Rattle.sym_link.specs.declared.walks.Step.TheVariants as step
use Rattle.sym_link.specs.declared.widths.Wanted.{Wanted}
use Rattle.sym_link.specs.declared.widths.Wanted.TheVariants as wants
use Rattle.sym_link.specs.LinkRules.{any_misfits, is_past, part_outside, width_mismatch}
use Rattle.sym_link.specs.Meaning.{drive_of, fitted, gate_of, items_of, source_of, sources_from, sources_of}
use Rattle.sym_link.specs.Sound.{IsFunctor, IsGate, port_takes, source_at, source_width}
use Rattle.sym_link.specs.Uses.{ports_of}
use Rattle.sym_link.specs.Sorts.{sort_of}
use Rattle.sym_link.specs.Widths.{declared_width, port_width, root_width, what_width, width_step, width_wanted}
use Rattle.sym_link.proofs.OperandLemmas.{IsVector}
use Rattle.sym_link.proofs.SoundForms.{HasNumbers, IsFormed, IsGateForm, is_type}
use Rattle.sym_link.proofs.SoundNets.{AllGiven}
use Rattle.sym_link.proofs.SoundPorts.{InRange, Uses, ports-there, sources-are, sources-length, want-range}
use Rattle.sym_link.proofs.SoundScopes.{AllKeep}
use Rattle.sym_link.proofs.SoundSymbols.{FormDeclares, form-declares}
use Rattle.sym_link.proofs.SoundWidths.{HasValue, has-value}

-- the symbols at the ports of a form are declared
pub port-uses : (file : List ℕ) (all : List Placed) (keep : AllKeep file all) (given : AllGiven all) (place : ℕ) (f : Form) → FormDeclares file all place f → (k : ℕ) (p : Port) → slice_get (ports_of f) k ≡ Some p → Uses file all keep given place p
port-uses file all keep given place f d k port.Unused there = tt
port-uses file all keep given place f d k (port.Sym symbol) there = d.ports k (port.Sym symbol) there (record { symbol = symbol; takes = takes.Signal }) refl
port-uses file all keep given place f d k (port.Fixed bits) there = tt

pub vector-at : (ports : List Port) → All IsVector ports → (k : ℕ) (p : Port) → slice_get ports k ≡ Some p → IsVector p
vector-at ports vectors k p there = All-contains IsVector ports p vectors (k, slice_get_within ports k p there, get_or_from_slice_get ports k p p there)

-- what the rules say of a part
abbrev pub PartsFit : List ℕ → List Placed → Gate → ℕ → List Source → Type 0
PartsFit file all (gate.Part base) width sources = base + width ≤ source_width (items_of file all) (source_at sources 0)
PartsFit file all (gate.PartInto base part) width sources = base + part ≤ width
PartsFit file all _ width sources = Unit {0}

is-gate : (file : List ℕ) (all : List Placed) (is : Gate) (width : ℕ) (sources : List Source) → HasNumbers is width → PartsFit file all is width sources → IsGate (items_of file all) is width sources
is-gate file all gate.And width sources numbers parts = tt
is-gate file all gate.Or width sources numbers parts = tt
is-gate file all gate.Xor width sources numbers parts = tt
is-gate file all gate.Nand width sources numbers parts = tt
is-gate file all gate.Nor width sources numbers parts = tt
is-gate file all gate.Xnor width sources numbers parts = tt
is-gate file all gate.Buf width sources numbers parts = tt
is-gate file all gate.Not width sources numbers parts = tt
is-gate file all gate.Bufz width sources numbers parts = tt
is-gate file all gate.Buft width sources numbers parts = tt
is-gate file all gate.Muxz width sources numbers parts = tt
is-gate file all (gate.Resolver resolution) width sources numbers parts = tt
is-gate file all (gate.Part base) width sources numbers parts = parts
is-gate file all (gate.PartInto base part) width sources numbers parts = (numbers, parts)
is-gate file all (gate.PartFrom signed) width sources numbers parts = tt
is-gate file all (gate.Concat widths) width sources numbers parts = numbers
is-gate file all (gate.Arithmetic operation) width sources numbers parts = tt
is-gate file all (gate.Compare operation compared) width sources numbers parts = numbers
is-gate file all (gate.Shift operation) width sources numbers parts = tt
is-gate file all (gate.Reduce operation) width sources numbers parts = numbers
is-gate file all (gate.Repeat count) width sources numbers parts = numbers
is-gate file all gate.Extend width sources numbers parts = tt

pub gate-functor : (file : List ℕ) (all : List Placed) (keep : AllKeep file all) (given : AllGiven all) (place : ℕ) (f : Form) (is : Gate) (width : ℕ) → IsGateForm f is width → FormDeclares file all place f → any_misfits file all (width_wanted f (Some width)) 0 (ports_of f) ≡ false → PartsFit file all is width (sources_of file all f (Some width)) → IsFunctor (items_of file all) width is (drive_of f) (sources_of file all f (Some width))
unfolding sources_of
gate-functor file all keep given place f is width g d misfits parts = record {
  in_range = g.in_range;
  zero_strength = g.zero_strength;
  one_strength = g.one_strength;
  four = sources-length file all (width_wanted f (Some width)) 0 (ports_of f) ∙ g.four;
  there = ports-there file all (width_wanted f (Some width)) is 0 (ports_of f) ∙ g.fit;
  each_port = sources-are file all keep given place (width_wanted f (Some width)) (port_takes is width) 0 (ports_of f)
      (vector-at (ports_of f) g.vectors)
      (port-uses file all keep given place f d)
      (λ k p there used. let from : k ≡ 0 + k = omega arith in subst (InRangeAt f width) from (range k p there used))
      g.wanted misfits;
  numbers = is-gate file all is width (sources_from file all (width_wanted f (Some width)) 0 (ports_of f)) g.numbers parts;
}
  where
    InRangeAt : Form → ℕ → ℕ → Type 0
    InRangeAt h w k = InRange (width_wanted h (Some w) k)

    range : (k : ℕ) (p : Port) → slice_get (ports_of f) k ≡ Some p → is_port p ≡ true → InRangeAt f width k
    range k p there used = subst InRange (sym (g.wanted k)) (want-range is width (ports_of f) k p g.in_range g.numbers g.fit there used)

-- The parts

past-false : (base width whole : ℕ) → is_past base width whole ≡ false → base + width ≤ whole
past-false base width whole is = ltb-false whole (base + width) is

part-fits : (file : List ℕ) (all : List Placed) (keep : AllKeep file all) (given : AllGiven all) (place : ℕ) (first : Port) (base width : ℕ) (want : Wanted) → want ≡ wants.Any → is_port first ≡ true → Uses file all keep given place first → option_map_or (is_past base width) (port_width file all first) false ≡ false → base + width ≤ source_width (items_of file all) (source_of file all want first)
part-fits file all keep given place port.Unused base width want any used uses inside = absurd (cc)
part-fits file all keep given place (port.Sym symbol) base width want any used uses inside =
    let v : HasValue file all symbol = has-value file all keep given place symbol uses in
    let le : base + width ≤ v.width = past-false base width v.width (sym (ap (λ o. option_map_or (is_past base width) o false) v.known) ∙ inside) in
    subst (λ n. base + width ≤ n) (sym v.is) le
part-fits file all keep given place (port.Fixed bits) base width want any used uses inside =
    let same : length (fitted want bits) ≡ length bits = ap (λ w. length (fitted w bits)) any in
    subst (λ n. base + width ≤ n) (sym same) (past-false base width (length bits) inside)

first-used : (p : Port) (rest : Bool) → (is_port p && rest) ≡ true → is_port p ≡ true
first-used p rest is = (and_parts (is_port p) rest is).0

-- the form of a gate, whose value has this width
abbrev pub GateAt : List ℕ → List Placed → Form → Option Gate → ℕ → Type 0
GateAt file all f None width = Unit {0}
GateAt file all f (Some is) width = IsFunctor (items_of file all) width is (drive_of f) (sources_of file all f (Some width))

some-gate : (file : List ℕ) (all : List Placed) (keep : AllKeep file all) (given : AllGiven all) (place : ℕ) (s : Placed) (f : Form) (is : Gate) (width : ℕ) → slice_get all place ≡ Some s → s.what ≡ what.Form f → root_width file all place ≡ Some width → IsGateForm f is width → any_misfits file all (width_wanted f (root_width file all place)) 0 (ports_of f) ≡ false → PartsFit file all is width (sources_of file all f (Some width)) → IsFunctor (items_of file all) width is (drive_of f) (sources_of file all f (Some width))
some-gate file all keep given place s f is width there same known g misfits parts =
    gate-functor file all keep given place f is width g (form-declares file all place s f (keep place s there) same)
    (ap (λ o. any_misfits file all (width_wanted f o) 0 (ports_of f)) (sym known) ∙ misfits) parts

not-parts : (file : List ℕ) (all : List Placed) (is : Gate) (width : ℕ) (sources : List Source) → is_type is ≡ true → PartsFit file all is width sources
not-parts file all gate.And width sources type = tt
not-parts file all gate.Or width sources type = tt
not-parts file all gate.Xor width sources type = tt
not-parts file all gate.Nand width sources type = tt
not-parts file all gate.Nor width sources type = tt
not-parts file all gate.Xnor width sources type = tt
not-parts file all gate.Buf width sources type = tt
not-parts file all gate.Not width sources type = tt
not-parts file all gate.Bufz width sources type = tt
not-parts file all gate.Buft width sources type = tt
not-parts file all gate.Muxz width sources type = tt
not-parts file all (gate.Resolver resolution) width sources type = tt
not-parts file all (gate.Part base) width sources type = absurd (cc)
not-parts file all (gate.PartInto base part) width sources type = absurd (cc)
not-parts file all (gate.PartFrom signed) width sources type = tt
not-parts file all (gate.Concat widths) width sources type = tt
not-parts file all (gate.Arithmetic operation) width sources type = tt
not-parts file all (gate.Compare operation compared) width sources type = tt
not-parts file all (gate.Shift operation) width sources type = tt
not-parts file all (gate.Reduce operation) width sources type = tt
not-parts file all (gate.Repeat count) width sources type = tt
not-parts file all gate.Extend width sources type = tt

part-first : (file : List ℕ) (all : List Placed) (keep : AllKeep file all) (given : AllGiven all) (place : ℕ) (s : Placed) (first : Port) (base width own : ℕ) → slice_get all place ≡ Some s → s.what ≡ what.Form (form.Part first base width) → IsGateForm (form.Part first base width) (gate.Part base) width → base + width ≤ source_width (items_of file all) (source_at (sources_of file all (form.Part first base width) (Some own)) 0)
unfolding sources_of ports_of width_wanted
part-first file all keep given place s first base width own there same g =
    part-fits file all keep given place first base width wants.Any refl (first-used first _ g.fit)
    (port-uses file all keep given place (form.Part first base width) (form-declares file all place s (form.Part first base width) (keep place s there) same) 0 first refl)
    (sym (ap (part_outside file all) same) ∙ (keep place s there).parts)

pub is-gate-item : (file : List ℕ) (all : List Placed) (keep : AllKeep file all) (given : AllGiven all) (place : ℕ) (s : Placed) (f : Form) (width : ℕ) → slice_get all place ≡ Some s → s.what ≡ what.Form f → IsFormed f → root_width file all place ≡ Some width → IsWidth width → (width_step file all (what.Form f) ≡ step.Stop → what_width (what.Form f) ≡ width) → GateAt file all f (gate_of f) width
unfolding gate_of sort_of declared_width
is-gate-item file all keep given place s form.Ignored n there same formed known fits wide = tt
is-gate-item file all keep given place s form.Parameter n there same formed known fits wide = tt
is-gate-item file all keep given place s (form.Precision power) n there same formed known fits wide = tt
is-gate-item file all keep given place s (form.Scope kind name source_module number line within) n there same formed known fits wide = tt
is-gate-item file all keep given place s (form.CurrentScope scope) n there same formed known fits wide = tt
is-gate-item file all keep given place s (form.TimeScale unit precision) n there same formed known fits wide = tt
is-gate-item file all keep given place s (form.Variable kind starred name range) n there same formed known fits wide = tt
is-gate-item file all keep given place s (form.Net signed starred name range source) n there same formed known fits wide = tt
is-gate-item file all keep given place s (form.Array kind name first last range) n there same formed known fits wide = tt
is-gate-item file all keep given place s (form.Functor kind width drives ports) n there same formed known fits wide = some-gate file all keep given place s (form.Functor kind width drives ports) kind n there same known (subst (IsGateForm (form.Functor kind width drives ports) kind) (wide refl) formed.0) (sym (ap (width_mismatch file all place) same) ∙ (keep place s there).widths) (not-parts file all kind n (sources_of file all (form.Functor kind width drives ports) (Some n)) formed.1)
is-gate-item file all keep given place s (form.Resolver kind ports) n there same formed known fits wide = some-gate file all keep given place s (form.Resolver kind ports) (gate.Resolver kind) n there same known (formed n fits) (sym (ap (width_mismatch file all place) same) ∙ (keep place s there).widths) tt
is-gate-item file all keep given place s (form.Part first base width) n there same formed known fits wide = some-gate file all keep given place s (form.Part first base width) (gate.Part base) n there same known (subst (IsGateForm (form.Part first base width) (gate.Part base)) (wide refl) formed) (sym (ap (width_mismatch file all place) same) ∙ (keep place s there).widths)
    (subst (λ m. base + m ≤ source_width (items_of file all) (source_at (sources_of file all (form.Part first base width) (Some n)) 0)) (wide refl)
    (part-first file all keep given place s first base width n there same formed))
is-gate-item file all keep given place s (form.PartInto first base width whole) n there same formed known fits wide = some-gate file all keep given place s (form.PartInto first base width whole) (gate.PartInto base width) n there same known (subst (IsGateForm (form.PartInto first base width whole) (gate.PartInto base width)) (wide refl) formed) (sym (ap (width_mismatch file all place) same) ∙ (keep place s there).widths) (subst (λ m. base + width ≤ m) (wide refl) (past-false base width whole (sym (ap (part_outside file all) same) ∙ (keep place s there).parts)))
is-gate-item file all keep given place s (form.PartFrom signed first base width) n there same formed known fits wide = some-gate file all keep given place s (form.PartFrom signed first base width) (gate.PartFrom signed) n there same known (subst (IsGateForm (form.PartFrom signed first base width) (gate.PartFrom signed)) (wide refl) formed) (sym (ap (width_mismatch file all place) same) ∙ (keep place s there).widths) tt
is-gate-item file all keep given place s (form.Concat widths ports) n there same formed known fits wide = some-gate file all keep given place s (form.Concat widths ports) (gate.Concat widths) n there same known (subst (IsGateForm (form.Concat widths ports) (gate.Concat widths)) (wide refl) formed) (sym (ap (width_mismatch file all place) same) ∙ (keep place s there).widths) tt
is-gate-item file all keep given place s (form.Arithmetic kind width left right) n there same formed known fits wide = some-gate file all keep given place s (form.Arithmetic kind width left right) (gate.Arithmetic kind) n there same known (subst (IsGateForm (form.Arithmetic kind width left right) (gate.Arithmetic kind)) (wide refl) formed) (sym (ap (width_mismatch file all place) same) ∙ (keep place s there).widths) tt
is-gate-item file all keep given place s (form.Compare kind width left right) n there same formed known fits wide = some-gate file all keep given place s (form.Compare kind width left right) (gate.Compare kind width) n there same known (subst (IsGateForm (form.Compare kind width left right) (gate.Compare kind width)) (wide refl) formed) (sym (ap (width_mismatch file all place) same) ∙ (keep place s there).widths) tt
is-gate-item file all keep given place s (form.Shift kind width first amount) n there same formed known fits wide = some-gate file all keep given place s (form.Shift kind width first amount) (gate.Shift kind) n there same known (subst (IsGateForm (form.Shift kind width first amount) (gate.Shift kind)) (wide refl) formed) (sym (ap (width_mismatch file all place) same) ∙ (keep place s there).widths) tt
is-gate-item file all keep given place s (form.Reduce kind first) n there same formed known fits wide = some-gate file all keep given place s (form.Reduce kind first) (gate.Reduce kind) n there same known (subst (IsGateForm (form.Reduce kind first) (gate.Reduce kind)) (wide refl) formed) (sym (ap (width_mismatch file all place) same) ∙ (keep place s there).widths) tt
is-gate-item file all keep given place s (form.Repeat width count first) n there same formed known fits wide = some-gate file all keep given place s (form.Repeat width count first) (gate.Repeat count) n there same known (subst (IsGateForm (form.Repeat width count first) (gate.Repeat count)) (wide refl) formed) (sym (ap (width_mismatch file all place) same) ∙ (keep place s there).widths) tt
is-gate-item file all keep given place s (form.Extend width first) n there same formed known fits wide = some-gate file all keep given place s (form.Extend width first) gate.Extend n there same known (subst (IsGateForm (form.Extend width first) gate.Extend) (wide refl) formed) (sym (ap (width_mismatch file all place) same) ∙ (keep place s there).widths) tt
is-gate-item file all keep given place s (form.Delay width rise fall decay first) n there same formed known fits wide = tt
is-gate-item file all keep given place s (form.EdgeEvent kind ports) n there same formed known fits wide = tt
is-gate-item file all keep given place s (form.NamedEvent name) n there same formed known fits wide = tt
is-gate-item file all keep given place s (form.EventOr events) n there same formed known fits wide = tt
is-gate-item file all keep given place s (form.Thread code start) n there same formed known fits wide = tt
is-gate-item file all keep given place s form.CodeLabel n there same formed known fits wide = tt
