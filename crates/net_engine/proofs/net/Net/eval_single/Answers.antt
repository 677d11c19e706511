use Rattle.std.proofs.Common.{◌≡◌, Some, slice_get, refl, sym, subst}
use Rattle.sym_link.specs.Roots.{Node, kind_of}
use Rattle.net_engine.specs.Net.{output_of, strongly}
use Rattle.net_engine.specs.Kept.{NetNow}
use Rattle.net_engine.specs.Inputs.{IsSingle}
use Rattle.net_engine.proofs.CallLemmas.{gate-done}
use Rattle.net_engine.proofs.net.Net.eval_single.Goals as goal

pub single_output-bits-requires-clause-single : goal.single_output-bits-requires-clause-single
single_output-bits-requires-clause-single g c = subst (λ (n : NetNow). IsSingle n.nodes (kind_of n.nodes c.args.item) c.args.input) (sym c.self.view_is) c.requires.single

pub returns-clause-state : goal.returns-clause-state
returns-clause-state g c =
    gate-done c.args.self.now c.change_bits.new.self c.args.self.now.nodes c.args.self.now.values c.args.self.now.marks c.args.item (strongly c.single_output-bits.result) c.args.threads.now c.change_bits.new.threads
    (g.A.Agenda.schedule c.args.agenda.now) (g.A.Agenda.schedule c.change_bits.new.agenda) refl c.requires.gate
    (subst (λ (n : NetNow). (node : Node) → slice_get n.nodes c.args.item ≡ Some node → strongly c.single_output-bits.result ≡ output_of n.nodes n.values node) c.self.view_is c.single_output-bits.ensures.value) c.change_bits.ensures.state
