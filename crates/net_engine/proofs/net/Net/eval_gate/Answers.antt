use Rattle.std.proofs.Common.{◌≡◌, Some, slice_get, refl, subst}
use Rattle.sym_link.specs.Roots.{Node}
use Rattle.net_engine.specs.Net.{output_of, strongly}
use Rattle.net_engine.specs.Kept.{NetNow}
use Rattle.net_engine.proofs.CallLemmas.{gate-done}
use Rattle.net_engine.proofs.net.Net.eval_gate.Goals as goal

pub returns-in-Pair-clause-state : goal.returns-in-Pair-clause-state
returns-in-Pair-clause-state g c =
    gate-done c.args.self.now c.change_bits.new.self c.args.self.now.nodes c.args.self.now.values c.args.self.now.marks c.args.item (strongly c.pair_output-bits.result) c.args.threads.now c.change_bits.new.threads
    (g.A.Agenda.schedule c.args.agenda.now) (g.A.Agenda.schedule c.change_bits.new.agenda) refl c.requires.gate
    (subst (λ (n : NetNow). (node : Node) → slice_get n.nodes c.args.item ≡ Some node → strongly c.pair_output-bits.result ≡ output_of n.nodes n.values node) c.self.view_is c.pair_output-bits.ensures.value) c.change_bits.ensures.state
