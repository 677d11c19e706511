use Rattle.sim_core.proofs.WholeLemmas.{placed-sound, whole}
use Rattle.sim_core.proofs.SoundLemmas.{lasts}
use Rattle.sim_core.specs.Engine.{Shown}
use Rattle.std.proofs.Common.{ap, ◌∙◌}
use Rattle.sim_core.proofs.engine.Engine.go_to.Goals as goal

pub invariant_of-self : goal.invariant_of-self
invariant_of-self g c =
    let w = whole c.self.inside.program c.self.inside.scope_parents.items c.self.inside.outputs c.self.inside.order c.self.inside.net c.self.inside.threads (g.A.Agenda.schedule c.self.inside.agenda) c.self.inside.tasks c.self.inside.running c.self.inside.steps c.self.inside.peak c.self.inside.taken c.self.inside.ending c.self.inside.failed in
    lasts _ _ (ap (λ (s : Shown). s.failed) c.self.view_is ∙ c.requires.at.2.fine)
    (placed-sound w c.args.self.now c.requires.at.0 c.requires.at.1 c.unwrap-running.result c.args.place c.go_to.new.threads c.self.view_is c.self.invariant.sound c.requires.at.2 c.unwrap-running.ensures (c.go_to.ensures c.requires.at.0 c.requires.at.1))
