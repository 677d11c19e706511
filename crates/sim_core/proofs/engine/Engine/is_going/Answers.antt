use Rattle.std.proofs.Common.{◌≡◌, false, sym, ap, ◌∙◌}
use Rattle.sim_core.specs.Engine.{Shown}
use Rattle.sim_core.proofs.GoLemmas.{running-there}
use Rattle.sim_core.proofs.engine.Engine.is_going.Goals as goal

pub returns-clause-at : goal.returns-clause-at
returns-clause-at g c = λ some.
    let fine : c.self.inside.failed ≡ false = c.if-self.false in
    running-there c.args.self.now c.self.inside.threads (g.A.Agenda.schedule c.self.inside.agenda) c.self.inside.running (ap (λ (s : Shown). s.failed) (sym c.self.view_is) ∙ fine)
    (ap (λ (s : Shown). s.machine.running) (sym c.self.view_is)) (ap (λ (s : Shown). s.machine.state.threads) (sym c.self.view_is)) (sym c.is_some-2.ensures ∙ some) (c.self.invariant.sound fine).runs
