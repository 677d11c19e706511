use Rattle.std.proofs.Common.{ℕ, ◌+◌, sym, subst}
use Rattle.sim_core.specs.Kept.{IsSound}
use Rattle.sim_core.proofs.StretchLemmas.{sound-counted}
use Rattle.sim_core.proofs.WholeLemmas.{whole}
use Rattle.sim_core.proofs.engine.Engine.count_steps.Goals as goal

pub invariant_of-self : goal.invariant_of-self
invariant_of-self g c =
    let w = whole c.self.inside.program c.self.inside.scope_parents.items c.self.inside.outputs c.self.inside.order c.self.inside.net c.self.inside.threads (g.A.Agenda.schedule c.self.inside.agenda) c.self.inside.tasks c.self.inside.running c.self.inside.steps c.self.inside.peak c.self.inside.taken c.self.inside.ending c.self.inside.failed in
    record {
      sound = λ fine. subst (λ (n : ℕ). IsSound (record w.held { steps = w.held.steps + n })) (sym c.from.ensures) (sound-counted w.held c.args.count (c.self.invariant.sound fine));
      stands = c.self.invariant.stands;
    }
