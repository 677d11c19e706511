-- A gate of one input, the value of an item.
use Rattle.std.proofs.Common.{◌≡◌, ℕ, ◌≤◌, true, false, IsTrue, Option, Some, None, List, [], ◌∷◌, length, map, slice_get, refl, sym, ap, subst, ◌∙◌}
use Rattle.std.specs.Prelude.{IfSome}
use Rattle.std.specs.List.{All}
use Rattle.std.specs.Option.{option_map}
use Rattle.std.proofs.lemmas.List.Elements.{All-nil, All-cons, All-head}
use Rattle.std.proofs.lemmas.Option.{same_Some}
use Rattle.four_state.specs.declared.bits.Bit.{Bit}
use Rattle.vvp_forms.specs.declared.form.Gate.{Gate}
use Rattle.vvp_forms.specs.declared.form.Gate.TheVariants as gate
use Rattle.gate_rules.specs.Evaluable.{Fits}
use Rattle.gate_rules.specs.Output.{output}
use Rattle.gate_rules.specs.Ports.{widths, width_at, seen_ports, driven_ports}
use Rattle.gate_rules.specs.Strong.{looks, keeps_strong}
use Rattle.gate_rules.specs.Single.{has_one_input}
use Rattle.strengths.specs.Level.{driven}
use Rattle.sym_link.specs.declared.program.ItemKind.TheVariants.{Functor}
use Rattle.sym_link.specs.declared.program.Source.{Source}
use Rattle.sym_link.specs.declared.program.Source.TheVariants as source
use Rattle.sym_link.specs.Roots.{Node}
use Rattle.net_engine.specs.Net.{NetValues, at_source, driven_of, levels_of, seen, strongly, output_of}
use Rattle.net_engine.specs.Parts.{AreWide, IsShowing, AreShowing, IsLinked}
use Rattle.net_engine.specs.Inputs.{IsConstant, AreOne}
use Rattle.net_engine.proofs.StrongLemmas.{seen-driven}
use Rattle.net_engine.proofs.OutputLemmas.{bits-evaluable, bits-output}

-- what is known of a gate of one input
abbrev SingleFacts : Gate → Type 0
SingleFacts kind = (looks kind ≡ true) × IsTrue (keeps_strong kind 6 6) × ((width : ℕ) (ports : List (Option ℕ)) → Fits kind width ports → width_at ports 0 ≡ Some width)

single-facts : (kind : Gate) → IsTrue (has_one_input kind) → SingleFacts kind
unfolding Fits
single-facts gate.Buf one = (refl, refl, λ width ports fits. fits)
single-facts gate.Not one = (refl, refl, λ width ports fits. fits)
single-facts gate.Bufz one = (refl, refl, λ width ports fits. fits)
single-facts gate.And one = absurd (cc)
single-facts gate.Or one = absurd (cc)
single-facts gate.Xor one = absurd (cc)
single-facts gate.Nand one = absurd (cc)
single-facts gate.Nor one = absurd (cc)
single-facts gate.Xnor one = absurd (cc)
single-facts gate.Muxz one = absurd (cc)
single-facts gate.Buft one = absurd (cc)
single-facts (gate.Arithmetic kind) one = absurd (cc)
single-facts (gate.Compare kind bits) one = absurd (cc)
single-facts (gate.Shift kind) one = absurd (cc)
single-facts (gate.Reduce kind) one = absurd (cc)
single-facts (gate.Resolver kind) one = absurd (cc)
single-facts (gate.Part base) one = absurd (cc)
single-facts (gate.PartInto base bits) one = absurd (cc)
single-facts (gate.PartFrom sign) one = absurd (cc)
single-facts (gate.Concat ws) one = absurd (cc)
single-facts (gate.Repeat count) one = absurd (cc)
single-facts gate.Extend one = absurd (cc)

-- it is strong where it drives strongly
single-strong : (kind : Gate) (s0 s1 : ℕ) → IsTrue (has_one_input kind) → s0 ≡ 6 → s1 ≡ 6 → IsTrue (keeps_strong kind s0 s1)
single-strong kind s0 s1 one six0 six1 = rw (six0, six1) (single-facts kind one).1

-- the item shows a value
pub single-showing : (nodes : List Node) (values : NetValues) (sources : List Source) (item : ℕ) → AreOne nodes sources item → AreShowing nodes values sources → 1 ≤ length (driven_of values item)
single-showing nodes values sources item one showing =
    let rest : List Source = one.second ∷ one.third ∷ one.fourth ∷ [] in
    let shown : AreShowing nodes values (source.Item one.first ∷ rest) = subst (AreShowing nodes values) one.are showing in
    let first = All-head (IsShowing nodes values) (source.Item one.first) rest shown in
    subst (λ (n : ℕ). 1 ≤ length (driven_of values n)) (sym one.item_is) first.1

-- ---- the bits at the ports

-- the bits of a constant
abbrev constant_bits : Source → Option (List Bit)
constant_bits source.Unused = None
constant_bits (source.Item item) = None
constant_bits (source.Fixed bits) = Some bits

constant-seen : (nodes : List Node) (values : NetValues) (s : Source) → IsConstant s → constant_bits s ≡ option_map seen (at_source nodes values s)
constant-seen nodes values source.Unused constant = refl
constant-seen nodes values (source.Item item) constant = absurd constant
constant-seen nodes values (source.Fixed bits) constant = ap (λ (b : List Bit). Some b) (sym (seen-driven bits))

abbrev HasSome : Option (List Bit) → Type 0
HasSome port = IfSome port (λ bits. 1 ≤ length bits)

constant-least : (s : Source) → IsConstant s → HasSome (constant_bits s)
constant-least source.Unused constant = tt
constant-least (source.Item item) constant = absurd constant
constant-least (source.Fixed bits) constant = constant

-- the bits at the ports after the first, and at all four
abbrev other_bits : Source → Source → Source → List (Option (List Bit))
other_bits second third fourth = constant_bits second ∷ constant_bits third ∷ constant_bits fourth ∷ []

same-four : {X : Type 0} (a b c d p q r s : X) → a ≡ p → b ≡ q → c ≡ r → d ≡ s → a ∷ b ∷ c ∷ d ∷ [] ≡ p ∷ q ∷ r ∷ s ∷ []
same-four a b c d p q r s e f g h = cc

single-seen : (nodes : List Node) (values : NetValues) (sources : List Source) (item : ℕ) (bits : List Bit) (one : AreOne nodes sources item) → bits ≡ seen (levels_of values item)
    → Some bits ∷ other_bits one.second one.third one.fourth ≡ seen_ports (map (at_source nodes values) sources)
single-seen nodes values sources item bits one shown =
    same-four _ _ _ _ _ _ _ _
    (ap (λ (b : List Bit). Some b) (shown ∙ ap (λ (n : ℕ). seen (levels_of values n)) one.item_is))
    (constant-seen nodes values one.second one.second_constant)
    (constant-seen nodes values one.third one.third_constant)
    (constant-seen nodes values one.fourth one.fourth_constant)
    ∙ ap (λ (ss : List Source). seen_ports (map (at_source nodes values) ss)) (sym one.are)

single-least : (bits : List Bit) (second third fourth : Source) → 1 ≤ length bits → IsConstant second → IsConstant third → IsConstant fourth → All HasSome (Some bits ∷ other_bits second third fourth)
single-least bits second third fourth least constant_2 constant_3 constant_4 =
    All-cons HasSome (Some bits) (other_bits second third fourth) least
    (All-cons HasSome (constant_bits second) (constant_bits third ∷ constant_bits fourth ∷ []) (constant-least second constant_2)
    (All-cons HasSome (constant_bits third) (constant_bits fourth ∷ []) (constant-least third constant_3) (All-cons HasSome (constant_bits fourth) [] (constant-least fourth constant_4) (All-nil HasSome))))

-- the item is as wide as the gate
pub single-wide : (nodes : List Node) (values : NetValues) (k : ℕ) (node : Node) (kind : Gate) (drive : ℕ × ℕ) (sources : List Source) (item : ℕ) (bits : List Bit) → AreOne nodes sources item
    → IsLinked nodes → AreWide nodes values → slice_get nodes k ≡ Some node → node.what ≡ Functor kind drive sources → IsTrue (has_one_input kind) → bits ≡ seen (levels_of values item) → 1 ≤ length bits
    → length bits ≡ node.width
single-wide nodes values k node kind drive sources item bits one linked wide at is single shown least =
    let ports : List (Option (List Bit)) = Some bits ∷ other_bits one.second one.third one.fourth in
    let can = bits-evaluable nodes values k node kind drive sources node.width ports linked wide at is refl (single-seen nodes values sources item bits one shown)
    (single-least bits one.second one.third one.fourth least one.second_constant one.third_constant one.fourth_constant) in
    same_Some _ _ ((single-facts kind single).2 node.width (widths ports) can.fits)

-- what the gate drives
pub single-output : (nodes : List Node) (values : NetValues) (k : ℕ) (node : Node) (kind : Gate) (drive : ℕ × ℕ) (sources : List Source) (item : ℕ) (bits result : List Bit) → AreOne nodes sources item
    → IsLinked nodes → AreWide nodes values → slice_get nodes k ≡ Some node → node.what ≡ Functor kind drive sources → IsTrue (has_one_input kind) → drive.0 ≡ 6 → drive.1 ≡ 6
    → bits ≡ seen (levels_of values item) → 1 ≤ length bits
    → ((width s0 s1 : ℕ) (others : List (Option (List Bit))) → IsTrue (keeps_strong kind s0 s1) → output kind width s0 s1 (driven_ports 6 6 (Some bits ∷ others)) ≡ map (driven 6 6) result)
    → strongly result ≡ output_of nodes values node
single-output nodes values k node kind drive sources item bits result one linked wide at is single six0 six1 shown least gives =
    let sized = single-wide nodes values k node kind drive sources item bits one linked wide at is single shown least in
    let others : List (Option (List Bit)) = other_bits one.second one.third one.fourth in
    let look : looks kind ≡ true = (single-facts kind single).0 in
    bits-output nodes values node kind drive sources (length bits) (Some bits ∷ others) result is sized (single-seen nodes values sources item bits one shown) (λ no. absurd (cc))
    (gives (length bits) drive.0 drive.1 others (single-strong kind drive.0 drive.1 single six0 six1))
