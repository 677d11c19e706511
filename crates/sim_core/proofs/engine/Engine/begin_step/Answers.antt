use Rattle.std.proofs.Common.{◌<◌, ◌+◌, length, ap, subst, ◌∙◌, arith}
use Rattle.sim_core.specs.Engine.{Shown}
use Rattle.sim_core.specs.Parts.{stepped}
use Rattle.sim_core.proofs.SoundLemmas.{sound-stepped}
use Rattle.sim_core.proofs.WholeLemmas.{whole}
use Rattle.sim_core.proofs.engine.Engine.begin_step.Goals as goal

pub invariant_of-self : goal.invariant_of-self
invariant_of-self g c = record {
  sound = λ fine.
      let w = whole c.self.inside.program c.self.inside.scope_parents.items c.self.inside.outputs c.self.inside.order c.self.inside.net c.self.inside.threads (g.A.Agenda.schedule c.self.inside.agenda) c.self.inside.tasks c.self.inside.running c.self.inside.steps c.self.inside.peak c.self.inside.taken c.self.inside.ending c.self.inside.failed in
      sound-stepped w.held (c.self.invariant.sound fine);
  stands = c.self.invariant.stands;
}

pub returns-clause-stepped : goal.returns-clause-stepped
returns-clause-stepped g c = ap (λ (s : Shown). record s { machine = stepped s.machine }) c.self.view_is

pub returns-clause-drawn : goal.returns-clause-drawn
returns-clause-drawn g c = λ fine.
    let w = whole c.self.inside.program c.self.inside.scope_parents.items c.self.inside.outputs c.self.inside.order c.self.inside.net c.self.inside.threads (g.A.Agenda.schedule c.self.inside.agenda) c.self.inside.tasks c.self.inside.running c.self.inside.steps c.self.inside.peak c.self.inside.taken c.self.inside.ending c.self.inside.failed in
    let few = (c.self.invariant.sound (ap (λ (s : Shown). s.failed) c.self.view_is ∙ fine)).few_serials in
    subst (λ (s : Shown). length s.machine.state.threads.threads < s.machine.steps + 1 + length s.program.threads) c.self.view_is (omega (arith, few))
