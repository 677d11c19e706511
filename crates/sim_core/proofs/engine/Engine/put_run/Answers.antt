use Rattle.std.proofs.Common.{None, sym, subst, ap, ◌∙◌}
use Rattle.sim_core.specs.Kept.{IsSound}
use Rattle.event_pool.specs.Schedule.{Schedule}
use Rattle.sim_core.proofs.EffectLemmas.{put-run-shown, put-run-sound}
use Rattle.sim_core.proofs.WholeLemmas.{whole}
use Rattle.sim_core.proofs.SoundLemmas.{lasts}
use Rattle.sim_core.specs.Engine.{Shown}
use Rattle.sim_core.proofs.engine.Engine.put_run.Goals as goal

pub put-requires-clause-room : goal.put-requires-clause-room
put-requires-clause-room g c =
    let w = whole c.self.inside.program c.self.inside.scope_parents.items c.self.inside.outputs c.self.inside.order c.self.inside.net c.self.inside.threads (g.A.Agenda.schedule c.self.inside.agenda) c.self.inside.tasks c.self.inside.running c.self.inside.steps c.self.inside.peak c.self.inside.taken c.self.inside.ending c.self.inside.failed in
    (put-run-sound w c.args.self.now c.requires.at.0 c.requires.at.1 c.unwrap-running.result c.args.time c.region_after.result c.self.view_is c.self.invariant.sound c.requires.at.2 c.unwrap-running.ensures).0

pub invariant_of-self : goal.invariant_of-self
invariant_of-self g c =
    let w = whole c.self.inside.program c.self.inside.scope_parents.items c.self.inside.outputs c.self.inside.order c.self.inside.net c.self.inside.threads (g.A.Agenda.schedule c.self.inside.agenda) c.self.inside.tasks c.self.inside.running c.self.inside.steps c.self.inside.peak c.self.inside.taken c.self.inside.ending c.self.inside.failed in
    lasts _ _ (ap (λ (s : Shown). s.failed) c.self.view_is ∙ c.requires.at.2.fine)
    (λ fine.
    subst (λ (s : Schedule). IsSound (record w.held { schedule = s; running = None })) (sym c.put.ensures)
    (put-run-sound w c.args.self.now c.requires.at.0 c.requires.at.1 c.unwrap-running.result c.args.time c.region_after.result c.self.view_is c.self.invariant.sound c.requires.at.2 c.unwrap-running.ensures).1)

pub returns : goal.returns
returns g c = λ serial thread runs.
    let w = whole c.self.inside.program c.self.inside.scope_parents.items c.self.inside.outputs c.self.inside.order c.self.inside.net c.self.inside.threads (g.A.Agenda.schedule c.self.inside.agenda) c.self.inside.tasks c.self.inside.running c.self.inside.steps c.self.inside.peak c.self.inside.taken c.self.inside.ending c.self.inside.failed in
    put-run-shown w c.args.self.now serial thread c.unwrap-running.result c.args.time c.args.ticks c.region_after.result (g.A.Agenda.schedule c.put.new.self) c.self.view_is c.self.invariant.sound runs c.unwrap-running.ensures c.requires.time c.region_after.ensures c.put.ensures
