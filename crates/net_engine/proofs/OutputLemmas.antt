-- What a gate of the design drives.
use Rattle.std.proofs.Common.{◌≡◌, ℕ, ◌≤◌, Bool, true, false, Option, Some, None, List, [], ◌∷◌, length, map, slice_get, refl, sym, ap, subst, ◌∙◌, arith}
use Rattle.std.specs.Prelude.{IfSome}
use Rattle.std.specs.List.{All}
use Rattle.std.specs.Option.{option_map}
use Rattle.std.proofs.lemmas.List.Elements.{All-nil, All-cons, All-head, All-tail}
use Rattle.vvp_forms.specs.declared.form.Gate.{Gate}
use Rattle.four_state.specs.declared.bits.Bit.{Bit}
use Rattle.gate_rules.specs.Ports.{widths, seen_ports, driven_ports}
use Rattle.gate_rules.specs.Evaluable.{IsEvaluable}
use Rattle.gate_rules.specs.Output.{output}
use Rattle.gate_rules.specs.Strong.{looks}
use Rattle.strengths.specs.Interval.{Interval}
use Rattle.strengths.specs.Level.{driven}
use Rattle.sym_link.specs.declared.program.Program.{Program}
use Rattle.sym_link.specs.declared.program.Item.{Item}
use Rattle.sym_link.specs.declared.program.ItemKind.{ItemKind}
use Rattle.sym_link.specs.declared.program.ItemKind.TheVariants.{Functor}
use Rattle.sym_link.specs.declared.program.Source.{Source}
use Rattle.sym_link.specs.Roots.{Node, nodes_of}
use Rattle.sym_link.specs.Sound.{IsProgram, IsKind}
use Rattle.net_engine.specs.Net.{NetValues, at_source, strongly, output_of}
use Rattle.net_engine.specs.Parts.{AreWide, AreShowing, IsLinked}
use Rattle.net_engine.proofs.LinkedLemmas.{item-at, item-sound}
use Rattle.net_engine.proofs.StrongLemmas.{widths-seen, looks-output}
use Rattle.net_engine.proofs.GateLemmas.{offered, Least, evaluable, ports-showing}

-- each port that has places has one at least
least-widths : {X : Type 0} (ports : List (Option (List X))) → All (λ port. IfSome port (λ places. 1 ≤ length places)) ports → All Least (map (option_map length) ports)
least-widths {X} [] h = All-nil Least
least-widths {X} (None ∷ ports) h = All-cons Least None (map (option_map length) ports) tt (least-widths ports (All-tail (λ (port : Option (List X)). IfSome port (λ places. 1 ≤ length places)) None ports h))
least-widths {X} (Some places ∷ ports) h =
    All-cons Least (Some (length places)) (map (option_map length) ports) (All-head (λ (port : Option (List X)). IfSome port (λ ps. 1 ≤ length ps)) (Some places) ports h)
    (least-widths ports (All-tail (λ (port : Option (List X)). IfSome port (λ ps. 1 ≤ length ps)) (Some places) ports h))

-- a gate's item of a program
gate-item : (program : Program) (k : ℕ) (node : Node) (kind : Gate) (drive : ℕ × ℕ) (ports : List Source) → IsProgram program → slice_get (nodes_of program) k ≡ Some node → node.what ≡ Functor kind drive ports
    → (item : Item) × IsKind program item (Functor kind drive ports) × (item.width ≡ node.width)
gate-item program k node kind drive ports linked at is =
    let found = item-at program.items k node at in
    let what : found.0.what ≡ Functor kind drive ports = ap (λ (n : Node). n.what) (sym found.2) ∙ is in
    (found.0, subst (IsKind program found.0) what (item-sound program k found.0 linked found.1), ap (λ (n : Node). n.width) (sym found.2))

pub gate-showing : (nodes : List Node) (values : NetValues) (k : ℕ) (node : Node) (kind : Gate) (drive : ℕ × ℕ) (ports : List Source) → IsLinked nodes → AreWide nodes values → slice_get nodes k ≡ Some node → node.what ≡ Functor kind drive ports
    → AreShowing nodes values ports
gate-showing nodes values k node kind drive ports linked wide at is =
    let program = linked.program in
    let found = gate-item program k node kind drive ports linked.linked (ap (λ (ns : List Node). slice_get ns k) linked.same ∙ at) is in
    let showing = ports-showing program values found.0 kind drive ports linked.linked (subst (λ (ns : List Node). AreWide ns values) (sym linked.same) wide) found.1 in
    subst (λ (ns : List Node). AreShowing ns values ports) linked.same showing.0

gate-fits : (nodes : List Node) (values : NetValues) (k : ℕ) (node : Node) (kind : Gate) (drive : ℕ × ℕ) (ports : List Source) (width : ℕ) (wide : List (Option ℕ)) → IsLinked nodes → AreWide nodes values
    → slice_get nodes k ≡ Some node → node.what ≡ Functor kind drive ports → width ≡ node.width → wide ≡ widths (map (at_source nodes values) ports) → All Least wide → IsEvaluable kind width drive.0 drive.1 wide
gate-fits nodes values k node kind drive ports width wide linked sized at is wide_as shown least =
    let program = linked.program in
    let found = gate-item program k node kind drive ports linked.linked (ap (λ (ns : List Node). slice_get ns k) linked.same ∙ at) is in
    let showing = ports-showing program values found.0 kind drive ports linked.linked (subst (λ (ns : List Node). AreWide ns values) (sym linked.same) sized) found.1 in
    let same : wide ≡ map (offered program.items) ports =
    shown ∙ ap (λ (ns : List Node). widths (map (at_source ns values) ports)) (sym linked.same) ∙ showing.1 in
    let can = evaluable program found.0 kind drive ports found.1 (subst (All Least) same least) in
    subst (λ (ws : List (Option ℕ)). IsEvaluable kind width drive.0 drive.1 ws) (sym same) (subst (λ (w : ℕ). IsEvaluable kind w drive.0 drive.1 (map (offered program.items) ports)) (found.2 ∙ sym wide_as) can)

pub gate-evaluable : (nodes : List Node) (values : NetValues) (k : ℕ) (node : Node) (kind : Gate) (drive : ℕ × ℕ) (ports : List Source) (width : ℕ) (levels : List (Option (List Interval))) → IsLinked nodes → AreWide nodes values
    → slice_get nodes k ≡ Some node → node.what ≡ Functor kind drive ports → width ≡ node.width → levels ≡ map (at_source nodes values) ports → All (λ port. IfSome port (λ ls. 1 ≤ length ls)) levels
    → IsEvaluable kind width drive.0 drive.1 (widths levels)
gate-evaluable nodes values k node kind drive ports width levels linked wide at is wide_as shown least =
    gate-fits nodes values k node kind drive ports width (widths levels) linked wide at is wide_as (ap widths shown) (least-widths levels least)

-- the same by bits, for strong drivers
pub bits-evaluable : (nodes : List Node) (values : NetValues) (k : ℕ) (node : Node) (kind : Gate) (drive : ℕ × ℕ) (ports : List Source) (width : ℕ) (bits : List (Option (List Bit))) → IsLinked nodes → AreWide nodes values
    → slice_get nodes k ≡ Some node → node.what ≡ Functor kind drive ports → width ≡ node.width → bits ≡ seen_ports (map (at_source nodes values) ports) → All (λ port. IfSome port (λ bs. 1 ≤ length bs)) bits
    → IsEvaluable kind width 6 6 (widths bits)
bits-evaluable nodes values k node kind drive ports width bits linked wide at is wide_as shown least =
    let can = gate-fits nodes values k node kind drive ports width (widths bits) linked wide at is wide_as (ap widths shown ∙ widths-seen (map (at_source nodes values) ports)) (least-widths bits least) in
    record { least = can.least; most = can.most; zero_strength = omega arith; one_strength = omega arith; four = can.four; fits = can.fits }

pub gate-output : (nodes : List Node) (values : NetValues) (node : Node) (kind : Gate) (drive : ℕ × ℕ) (ports : List Source) (width : ℕ) (levels : List (Option (List Interval))) (result : List Interval) → node.what ≡ Functor kind drive ports → width ≡ node.width
    → levels ≡ map (at_source nodes values) ports → result ≡ output kind width drive.0 drive.1 levels → result ≡ output_of nodes values node
unfolding output_of
gate-output nodes values node kind drive ports width levels result is wide_as shown gives =
    gives ∙ ap (λ (w : ℕ). output kind w drive.0 drive.1 levels) wide_as ∙ ap (λ (ls : List (Option (List Interval))). output kind node.width drive.0 drive.1 ls) shown
    ∙ ap (λ (what : ItemKind). output_of nodes values (record node { what = what })) (sym is)

-- what a gate gives by the bits at its ports: it looks at no more, or they are driven strongly
by-bits : (kind : Gate) (width s0 s1 : ℕ) (levels : List (Option (List Interval))) (bits : List (Option (List Bit))) (result : List Bit) → (looks kind ≡ false → driven_ports 6 6 (seen_ports levels) ≡ levels) → bits ≡ seen_ports levels
    → output kind width s0 s1 (driven_ports 6 6 bits) ≡ map (driven 6 6) result → strongly result ≡ output kind width s0 s1 levels
by-bits kind width s0 s1 levels bits result strong shown gives = by (looks kind) refl where
  by : (look : Bool) → looks kind ≡ look → strongly result ≡ output kind width s0 s1 levels
  by true is = looks-output kind width s0 s1 levels bits result is shown gives
  by false is = sym gives ∙ ap (λ (p : List (Option (List Bit))). output kind width s0 s1 (driven_ports 6 6 p)) shown ∙ ap (λ (p : List (Option (List Interval))). output kind width s0 s1 p) (strong is)

-- the same for a gate of the design
pub bits-output : (nodes : List Node) (values : NetValues) (node : Node) (kind : Gate) (drive : ℕ × ℕ) (ports : List Source) (width : ℕ) (bits : List (Option (List Bit))) (result : List Bit) → node.what ≡ Functor kind drive ports → width ≡ node.width
    → bits ≡ seen_ports (map (at_source nodes values) ports) → (looks kind ≡ false → driven_ports 6 6 (seen_ports (map (at_source nodes values) ports)) ≡ map (at_source nodes values) ports)
    → output kind width drive.0 drive.1 (driven_ports 6 6 bits) ≡ map (driven 6 6) result → strongly result ≡ output_of nodes values node
bits-output nodes values node kind drive ports width bits result is wide_as shown strong gives =
    gate-output nodes values node kind drive ports width (map (at_source nodes values) ports) (strongly result) is wide_as refl
    (by-bits kind width drive.0 drive.1 (map (at_source nodes values) ports) bits result strong shown gives)
