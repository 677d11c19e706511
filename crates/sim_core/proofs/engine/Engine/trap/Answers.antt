use Rattle.sim_core.proofs.EffectLemmas.{trapped-is}
use Rattle.sim_core.proofs.WholeLemmas.{runs-at, whole}
use Rattle.sim_core.proofs.engine.Engine.trap.Goals as goal

pub returns : goal.returns
returns g c = λ serial thread runs.
    let w = whole c.self.inside.program c.self.inside.scope_parents.items c.self.inside.outputs c.self.inside.order c.self.inside.net c.self.inside.threads (g.A.Agenda.schedule c.self.inside.agenda) c.self.inside.tasks c.self.inside.running c.self.inside.steps c.self.inside.peak c.self.inside.taken c.self.inside.ending c.self.inside.failed in
    let a = runs-at w c.args.self.now serial thread c.unwrap-running.result c.self.view_is c.self.invariant.sound runs c.unwrap-running.ensures in
    trapped-is w c.args.self.now c.args.kind serial thread c.place_of-address.result c.self.view_is runs (c.place_of-address.ensures serial thread a.key a.live)
