use Rattle.std.proofs.Common.{refl, ap, ◌∙◌}
use Rattle.sim_core.proofs.ReadyLemmas.{advance-shown, later-keyed, sound-advanced}
use Rattle.sim_core.proofs.SoundLemmas.{lasts}
use Rattle.sim_core.specs.Engine.{Shown}
use Rattle.sim_core.proofs.engine.Engine.advance.Goals as goal

pub advance-requires-clause-later : goal.advance-requires-clause-later
advance-requires-clause-later g c =
    let s = g.A.Agenda.schedule c.self.inside.agenda in
    later-keyed s.now s.dues (rw (← c.self.view_is) at c.requires.later)

pub invariant_of-self : goal.invariant_of-self
invariant_of-self g c = lasts _ _ (ap (λ (s : Shown). s.failed) c.self.view_is ∙ c.requires.fine)
    (λ fine. sound-advanced _ _ c.advance.ensures (c.self.invariant.sound fine))

pub returns-clause-follows : goal.returns-clause-follows
returns-clause-follows g c = rw (← c.self.view_is) (advance-shown _ (g.A.Agenda.schedule c.self.inside.agenda) (g.A.Agenda.schedule c.advance.new.self) c.advance.ensures refl)
