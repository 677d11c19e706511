-- A gate whose table joins the values of two items.
use Rattle.std.proofs.Common.{◌≡◌, ℕ, ◌≤◌, true, false, IsTrue, Option, Some, None, List, [], ◌∷◌, length, map, slice_get, refl, sym, ap, subst, ◌∙◌}
use Rattle.std.specs.Prelude.{IfSome}
use Rattle.std.specs.List.{All}
use Rattle.std.specs.Option.{option_map}
use Rattle.std.proofs.lemmas.List.Elements.{All-nil, All-cons, All-head, All-tail}
use Rattle.four_state.specs.declared.bits.Bit.{Bit}
use Rattle.vvp_forms.specs.declared.form.Gate.{Gate}
use Rattle.vvp_forms.specs.declared.form.Gate.TheVariants as gate
use Rattle.gate_rules.specs.Evaluable.{Fits, HaveWidth}
use Rattle.gate_rules.specs.Output.{output}
use Rattle.gate_rules.specs.Ports.{there, widths, seen_ports, driven_ports}
use Rattle.gate_rules.specs.Strong.{looks, keeps_strong}
use Rattle.gate_rules.specs.Tables.{has_table, IsIdle}
use Rattle.strengths.specs.Level.{driven}
use Rattle.sym_link.specs.declared.program.ItemKind.TheVariants.{Functor}
use Rattle.sym_link.specs.declared.program.Source.{Source}
use Rattle.sym_link.specs.declared.program.Source.TheVariants as source
use Rattle.sym_link.specs.Roots.{Node}
use Rattle.net_engine.specs.Net.{NetValues, at_source, driven_of, levels_of, value_of, seen, strongly, output_of}
use Rattle.net_engine.specs.Parts.{AreWide, IsShowing, AreShowing, IsLinked}
use Rattle.net_engine.specs.Pairs.{IsIdleSource, AreTwo}
use Rattle.net_engine.proofs.StrongLemmas.{seen-driven}
use Rattle.net_engine.proofs.OutputLemmas.{bits-evaluable, bits-output}

-- what is known of a gate with a table
abbrev TableFacts : Gate → Type 0
TableFacts kind = (looks kind ≡ true) × IsTrue (keeps_strong kind 6 6) × ((width : ℕ) (ports : List (Option ℕ)) → Fits kind width ports → HaveWidth ports width)

table-facts : (kind : Gate) → IsTrue (has_table kind) → TableFacts kind
unfolding Fits
table-facts gate.And table = (refl, refl, λ width ports fits. fits)
table-facts gate.Or table = (refl, refl, λ width ports fits. fits)
table-facts gate.Xor table = (refl, refl, λ width ports fits. fits)
table-facts gate.Nand table = (refl, refl, λ width ports fits. fits)
table-facts gate.Nor table = (refl, refl, λ width ports fits. fits)
table-facts gate.Xnor table = (refl, refl, λ width ports fits. fits)
table-facts gate.Buf table = absurd (cc)
table-facts gate.Not table = absurd (cc)
table-facts gate.Bufz table = absurd (cc)
table-facts gate.Muxz table = absurd (cc)
table-facts gate.Buft table = absurd (cc)
table-facts (gate.Arithmetic kind) table = absurd (cc)
table-facts (gate.Compare kind bits) table = absurd (cc)
table-facts (gate.Shift kind) table = absurd (cc)
table-facts (gate.Reduce kind) table = absurd (cc)
table-facts (gate.Resolver kind) table = absurd (cc)
table-facts (gate.Part base) table = absurd (cc)
table-facts (gate.PartInto base bits) table = absurd (cc)
table-facts (gate.PartFrom sign) table = absurd (cc)
table-facts (gate.Concat ws) table = absurd (cc)
table-facts (gate.Repeat count) table = absurd (cc)
table-facts gate.Extend table = absurd (cc)

-- a gate with a table is strong where it drives strongly
pub table-strong : (kind : Gate) (s0 s1 : ℕ) → IsTrue (has_table kind) → s0 ≡ 6 → s1 ≡ 6 → IsTrue (keeps_strong kind s0 s1)
table-strong kind s0 s1 table six0 six1 = rw (six0, six1) (table-facts kind table).1

-- ---- the items

-- both items show a value
pub two-showing : (nodes : List Node) (values : NetValues) (kind : Gate) (sources : List Source) (left right : ℕ) → AreTwo nodes kind sources left right → AreShowing nodes values sources
    → (1 ≤ length (driven_of values left)) × (1 ≤ length (driven_of values right))
two-showing nodes values kind sources left right two showing =
    let rest : List Source = two.third ∷ two.fourth ∷ [] in
    let shown : AreShowing nodes values (source.Item two.first ∷ source.Item two.second ∷ rest) = subst (AreShowing nodes values) two.are showing in
    let first = All-head (IsShowing nodes values) (source.Item two.first) (source.Item two.second ∷ rest) shown in
    let second = All-head (IsShowing nodes values) (source.Item two.second) rest (All-tail (IsShowing nodes values) (source.Item two.first) (source.Item two.second ∷ rest) shown) in
    (subst (λ (n : ℕ). 1 ≤ length (driven_of values n)) (sym two.left_is) first.1, subst (λ (n : ℕ). 1 ≤ length (driven_of values n)) (sym two.right_is) second.1)

-- ---- the bits at the ports

-- the bits of a source that adds nothing
abbrev idle_bits : Source → Option (List Bit)
idle_bits source.Unused = None
idle_bits (source.Item item) = None
idle_bits (source.Fixed bits) = Some bits

idle-seen : (nodes : List Node) (values : NetValues) (kind : Gate) (s : Source) → IsIdleSource kind s → idle_bits s ≡ option_map seen (at_source nodes values s)
idle-seen nodes values kind source.Unused idle = refl
idle-seen nodes values kind (source.Item item) idle = absurd idle
idle-seen nodes values kind (source.Fixed bits) idle = ap (λ (b : List Bit). Some b) (sym (seen-driven bits))

abbrev HasSome : Option (List Bit) → Type 0
HasSome port = IfSome port (λ bits. 1 ≤ length bits)

idle-least : (kind : Gate) (s : Source) → IsIdleSource kind s → HasSome (idle_bits s)
idle-least kind source.Unused idle = tt
idle-least kind (source.Item item) idle = absurd idle
idle-least kind (source.Fixed bits) idle = idle.0

-- a constant that adds nothing is as wide as the gate
idle-wide : (kind : Gate) (width : ℕ) (s : Source) (ports : List (Option ℕ)) → IsIdleSource kind s → All (λ n. n ≡ width) (there (option_map length (idle_bits s) ∷ ports))
    → IsIdle kind width (idle_bits s) × All (λ n. n ≡ width) (there ports)
idle-wide kind width source.Unused ports idle all = (tt, all)
idle-wide kind width (source.Item item) ports idle all = absurd idle
idle-wide kind width (source.Fixed bits) ports idle all =
    (subst (λ (n : ℕ). IsIdle kind n (Some bits)) (All-head (λ n. n ≡ width) (length bits) (there ports) all) idle.1, All-tail (λ n. n ≡ width) (length bits) (there ports) all)

-- the bits at the four ports
abbrev port_bits : List Bit → List Bit → Source → Source → List (Option (List Bit))
port_bits low high third fourth = Some low ∷ Some high ∷ idle_bits third ∷ idle_bits fourth ∷ []

same-four : {X : Type 0} (a b c d p q r s : X) → a ≡ p → b ≡ q → c ≡ r → d ≡ s → a ∷ b ∷ c ∷ d ∷ [] ≡ p ∷ q ∷ r ∷ s ∷ []
same-four a b c d p q r s e f g h = cc

two-seen : (nodes : List Node) (values : NetValues) (kind : Gate) (sources : List Source) (left right : ℕ) (low high : List Bit) (two : AreTwo nodes kind sources left right)
    → low ≡ seen (levels_of values left) → high ≡ seen (levels_of values right) → port_bits low high two.third two.fourth ≡ seen_ports (map (at_source nodes values) sources)
two-seen nodes values kind sources left right low high two lows highs =
    same-four _ _ _ _ _ _ _ _
    (ap (λ (b : List Bit). Some b) (lows ∙ ap (λ (n : ℕ). seen (levels_of values n)) two.left_is))
    (ap (λ (b : List Bit). Some b) (highs ∙ ap (λ (n : ℕ). seen (levels_of values n)) two.right_is))
    (idle-seen nodes values kind two.third two.third_idle)
    (idle-seen nodes values kind two.fourth two.fourth_idle)
    ∙ ap (λ (ss : List Source). seen_ports (map (at_source nodes values) ss)) (sym two.are)

some-least : (kind : Gate) (low high : List Bit) (third fourth : Source) → IsIdleSource kind third → IsIdleSource kind fourth → 1 ≤ length low → 1 ≤ length high → All HasSome (port_bits low high third fourth)
some-least kind low high third fourth idle_third idle_fourth l h =
    All-cons HasSome (Some low) (Some high ∷ idle_bits third ∷ idle_bits fourth ∷ []) l
    (All-cons HasSome (Some high) (idle_bits third ∷ idle_bits fourth ∷ []) h
    (All-cons HasSome (idle_bits third) (idle_bits fourth ∷ []) (idle-least kind third idle_third) (All-cons HasSome (idle_bits fourth) [] (idle-least kind fourth idle_fourth) (All-nil HasSome))))

-- the items are as wide as the gate, and so are the constants that add nothing
pub two-wide : (nodes : List Node) (values : NetValues) (k : ℕ) (node : Node) (kind : Gate) (drive : ℕ × ℕ) (sources : List Source) (left right : ℕ) (low high : List Bit) (two : AreTwo nodes kind sources left right)
    → IsLinked nodes → AreWide nodes values → slice_get nodes k ≡ Some node → node.what ≡ Functor kind drive sources → IsTrue (has_table kind) → low ≡ seen (levels_of values left) → high ≡ seen (levels_of values right)
    → 1 ≤ length low → 1 ≤ length high
    → (length low ≡ node.width) × (length high ≡ node.width) × IsIdle kind node.width (idle_bits two.third) × IsIdle kind node.width (idle_bits two.fourth)
two-wide nodes values k node kind drive sources left right low high two linked wide at is table lows highs l h =
    let bits : List (Option (List Bit)) = port_bits low high two.third two.fourth in
    let can = bits-evaluable nodes values k node kind drive sources node.width bits linked wide at is refl (two-seen nodes values kind sources left right low high two lows highs)
    (some-least kind low high two.third two.fourth two.third_idle two.fourth_idle l h) in
    let have : HaveWidth (widths bits) node.width = (table-facts kind table).2 node.width (widths bits) can.fits in
    let last : List (Option ℕ) = option_map length (idle_bits two.fourth) ∷ [] in
    let others : List (Option ℕ) = option_map length (idle_bits two.third) ∷ last in
    let tail = All-tail (λ n. n ≡ node.width) (length low) (length high ∷ there others) have.1 in
    let third = idle-wide kind node.width two.third last two.third_idle (All-tail (λ n. n ≡ node.width) (length high) (there others) tail) in
    let fourth = idle-wide kind node.width two.fourth [] two.fourth_idle third.1 in
    (All-head (λ n. n ≡ node.width) (length low) (length high ∷ there others) have.1, All-head (λ n. n ≡ node.width) (length high) (there others) tail, third.0, fourth.0)

-- what the gate drives
pub pair-output : (nodes : List Node) (values : NetValues) (k : ℕ) (node : Node) (kind : Gate) (drive : ℕ × ℕ) (sources : List Source) (left right : ℕ) (low high result : List Bit) → AreTwo nodes kind sources left right
    → IsLinked nodes → AreWide nodes values → slice_get nodes k ≡ Some node → node.what ≡ Functor kind drive sources → IsTrue (has_table kind) → drive.0 ≡ 6 → drive.1 ≡ 6
    → low ≡ seen (levels_of values left) → high ≡ seen (levels_of values right) → 1 ≤ length low → 1 ≤ length high
    → ((s0 s1 : ℕ) (third fourth : Option (List Bit)) → IsIdle kind (length low) third → IsIdle kind (length low) fourth → IsTrue (keeps_strong kind s0 s1)
    → output kind (length low) s0 s1 (driven_ports 6 6 (Some low ∷ Some high ∷ third ∷ fourth ∷ [])) ≡ map (driven 6 6) result)
    → strongly result ≡ output_of nodes values node
pair-output nodes values k node kind drive sources left right low high result two linked wide at is table six0 six1 lows highs l h gives =
    let sized = two-wide nodes values k node kind drive sources left right low high two linked wide at is table lows highs l h in
    let third : IsIdle kind (length low) (idle_bits two.third) = subst (λ (n : ℕ). IsIdle kind n (idle_bits two.third)) (sym sized.0) sized.2 in
    let fourth : IsIdle kind (length low) (idle_bits two.fourth) = subst (λ (n : ℕ). IsIdle kind n (idle_bits two.fourth)) (sym sized.0) sized.3 in
    let look : looks kind ≡ true = (table-facts kind table).0 in
    bits-output nodes values node kind drive sources (length low) (port_bits low high two.third two.fourth) result is sized.0 (two-seen nodes values kind sources left right low high two lows highs) (λ no. absurd (cc))
    (gives drive.0 drive.1 (idle_bits two.third) (idle_bits two.fourth) third fourth (table-strong kind drive.0 drive.1 table six0 six1))
