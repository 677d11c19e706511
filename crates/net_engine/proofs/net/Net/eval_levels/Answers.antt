use Rattle.std.proofs.Common.{◌≡◌, Some, slice_get, refl, sym, subst}
use Rattle.sym_link.specs.Roots.{Node, kind_of}
use Rattle.net_engine.specs.Net.{output_of}
use Rattle.net_engine.specs.Kept.{NetNow}
use Rattle.net_engine.specs.Parts.{IsGateKind}
use Rattle.net_engine.proofs.CallLemmas.{gate-done}
use Rattle.net_engine.proofs.net.Net.eval_levels.Goals as goal

pub levels_output-levels-requires-clause-gate : goal.levels_output-levels-requires-clause-gate
levels_output-levels-requires-clause-gate g c = subst (λ (n : NetNow). IsGateKind (kind_of n.nodes c.args.item)) (sym c.self.view_is) c.requires.gate

pub returns-clause-state : goal.returns-clause-state
returns-clause-state g c =
    gate-done c.args.self.now c.change_levels.new.self c.args.self.now.nodes c.args.self.now.values c.args.self.now.marks c.args.item c.levels_output-levels.result c.args.threads.now c.change_levels.new.threads
    (g.A.Agenda.schedule c.args.agenda.now) (g.A.Agenda.schedule c.change_levels.new.agenda) refl c.requires.gate
    (subst (λ (n : NetNow). (node : Node) → slice_get n.nodes c.args.item ≡ Some node → c.levels_output-levels.result ≡ output_of n.nodes n.values node) c.self.view_is c.levels_output-levels.ensures.value) c.change_levels.ensures.state
