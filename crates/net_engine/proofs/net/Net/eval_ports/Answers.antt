use Rattle.std.proofs.Common.{sym, subst}
use Rattle.sym_link.specs.Roots.{kind_of}
use Rattle.net_engine.specs.Net.{strongly}
use Rattle.net_engine.specs.Kept.{NetNow}
use Rattle.net_engine.specs.Parts.{IsGateKind}
use Rattle.net_engine.proofs.CallLemmas.{gate-done}
use Rattle.net_engine.proofs.net.Net.eval_ports.Goals as goal

pub is_told_by_bits-requires-clause-gate : goal.is_told_by_bits-requires-clause-gate
is_told_by_bits-requires-clause-gate g c = subst (λ (n : NetNow). IsGateKind (kind_of n.nodes c.args.item)) (sym c.self.view_is) c.requires.gate

pub returns-then-is_told_by_bits-clause-state : goal.returns-then-is_told_by_bits-clause-state
returns-then-is_told_by_bits-clause-state g c =
    gate-done c.args.self.now c.change_bits.new.self c.self.inside.design c.self.inside.store.values c.self.inside.marks.items c.args.item (strongly c.bits_output-bits.result) c.args.threads.now c.change_bits.new.threads
    (g.A.Agenda.schedule c.args.agenda.now) (g.A.Agenda.schedule c.change_bits.new.agenda) c.self.view_is c.requires.gate c.bits_output-bits.ensures.value c.change_bits.ensures.state
