use Rattle.std.proofs.Common.{refl, ap, ◌∙◌}
use Rattle.sim_core.specs.Parts.{is_ready_state}
use Rattle.sim_core.proofs.ReadyLemmas.{later-unkeyed, settle-shown, sound-settled, state-ready}
use Rattle.sim_core.proofs.SoundLemmas.{lasts}
use Rattle.sim_core.specs.Engine.{Shown}
use Rattle.sim_core.proofs.engine.Engine.settle.Goals as goal

pub invariant_of-self : goal.invariant_of-self
invariant_of-self g c = lasts _ _ (ap (λ (s : Shown). s.failed) c.self.view_is ∙ c.requires)
    (λ fine. sound-settled _ _ c.settle.ensures.schedule (c.self.invariant.sound fine))

pub returns-clause-follows : goal.returns-clause-follows
returns-clause-follows g c = rw (← c.self.view_is) (settle-shown _ (g.A.Agenda.schedule c.self.inside.agenda) (g.A.Agenda.schedule c.settle.new.self) c.settle.ensures.schedule refl)

pub returns-clause-answer : goal.returns-clause-answer
returns-clause-answer g c =
    let s = g.A.Agenda.schedule c.settle.new.self in
    ap is_ready_state c.settle.ensures.answer ∙ state-ready s.now s.dues

pub returns-clause-later : goal.returns-clause-later
returns-clause-later g c = λ e. (let s = g.A.Agenda.schedule c.settle.new.self in later-unkeyed s.now s.dues (c.settle.ensures.later e))
