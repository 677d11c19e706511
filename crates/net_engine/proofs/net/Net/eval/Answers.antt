use Rattle.std.proofs.Common.{ap, ◌∙◌}
use Rattle.net_engine.specs.Kept.{NetNow}
use Rattle.net_engine.proofs.CallLemmas.{eval-call}
use Rattle.net_engine.proofs.SoundLemmas.{asks-same}
use Rattle.net_engine.proofs.net.Net.eval.Goals as goal

pub returns-in-Delay-clause-state : goal.returns-in-Delay-clause-state
returns-in-Delay-clause-state g c =
    eval-call c.args.self.now c.eval_delay.new.self c.self.inside.design c.self.inside.store.values c.self.inside.marks.items _ c.args.item c.args.threads.now c.eval_delay.new.threads
    (g.A.Agenda.schedule c.args.agenda.now) (g.A.Agenda.schedule c.eval_delay.new.agenda) c.self.view_is c.eval_delay.ensures.state

pub returns-in_default : goal.returns-in_default
returns-in_default g c = record {
  state = eval-call c.args.self.now c.eval_gate.new.self c.self.inside.design c.self.inside.store.values c.self.inside.marks.items _ c.args.item c.args.threads.now c.eval_gate.new.threads
      (g.A.Agenda.schedule c.args.agenda.now) (g.A.Agenda.schedule c.eval_gate.new.agenda) c.self.view_is c.eval_gate.ensures.state;
  requests = asks-same c.args.self.now.values c.eval_gate.new.self.values (c.eval_gate.ensures.requests ∙ ap (λ (n : NetNow). n.values.requests) c.self.view_is);
}
