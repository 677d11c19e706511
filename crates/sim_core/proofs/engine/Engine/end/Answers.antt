use Rattle.sim_core.proofs.EffectLemmas.{end-shown, end-sound}
use Rattle.sim_core.proofs.RoomLemmas.{runs-fewer}
use Rattle.sim_core.proofs.WholeLemmas.{runs-at, whole}
use Rattle.net_engine.specs.Kept.{evals_lacking}
use Rattle.sim_core.proofs.SoundLemmas.{lasts}
use Rattle.sim_core.specs.Engine.{Shown}
use Rattle.std.proofs.Common.{ap, ◌∙◌}
use Rattle.sim_core.proofs.engine.Engine.end.Goals as goal

pub end-requires-clause-live : goal.end-requires-clause-live
end-requires-clause-live g c =
    let w = whole c.self.inside.program c.self.inside.scope_parents.items c.self.inside.outputs c.self.inside.order c.self.inside.net c.self.inside.threads (g.A.Agenda.schedule c.self.inside.agenda) c.self.inside.tasks c.self.inside.running c.self.inside.steps c.self.inside.peak c.self.inside.taken c.self.inside.ending c.self.inside.failed in
    let a = runs-at w c.args.self.now c.requires.at.0 c.requires.at.1 c.unwrap-running.result c.self.view_is c.self.invariant.sound c.requires.at.2 c.unwrap-running.ensures in
    (c.requires.at.0, a.key)

pub end-requires-clause-runs : goal.end-requires-clause-runs
end-requires-clause-runs g c =
    let w = whole c.self.inside.program c.self.inside.scope_parents.items c.self.inside.outputs c.self.inside.order c.self.inside.net c.self.inside.threads (g.A.Agenda.schedule c.self.inside.agenda) c.self.inside.tasks c.self.inside.running c.self.inside.steps c.self.inside.peak c.self.inside.taken c.self.inside.ending c.self.inside.failed in
    let a = runs-at w c.args.self.now c.requires.at.0 c.requires.at.1 c.unwrap-running.result c.self.view_is c.self.invariant.sound c.requires.at.2 c.unwrap-running.ensures in
    runs-fewer w.held.threads (evals_lacking w.held.net.nodes w.held.schedule.dues) w.held.schedule a.sound.fits.runs

pub invariant_of-self : goal.invariant_of-self
invariant_of-self g c =
    let w = whole c.self.inside.program c.self.inside.scope_parents.items c.self.inside.outputs c.self.inside.order c.self.inside.net c.self.inside.threads (g.A.Agenda.schedule c.self.inside.agenda) c.self.inside.tasks c.self.inside.running c.self.inside.steps c.self.inside.peak c.self.inside.taken c.self.inside.ending c.self.inside.failed in
    lasts _ _ (ap (λ (s : Shown). s.failed) c.self.view_is ∙ c.requires.at.2.fine)
    (λ fine.
    let a = runs-at w c.args.self.now c.requires.at.0 c.requires.at.1 c.unwrap-running.result c.self.view_is c.self.invariant.sound c.requires.at.2 c.unwrap-running.ensures in
    end-sound w c.requires.at.0 c.requires.at.1 c.unwrap-running.result c.end.new.self (g.A.Agenda.schedule c.end.new.agenda) a c.end.ensures.threads c.end.ensures.agenda c.end.ensures.runs)

pub returns : goal.returns
returns g c = λ serial thread runs.
    let w = whole c.self.inside.program c.self.inside.scope_parents.items c.self.inside.outputs c.self.inside.order c.self.inside.net c.self.inside.threads (g.A.Agenda.schedule c.self.inside.agenda) c.self.inside.tasks c.self.inside.running c.self.inside.steps c.self.inside.peak c.self.inside.taken c.self.inside.ending c.self.inside.failed in
    let a = runs-at w c.args.self.now serial thread c.unwrap-running.result c.self.view_is c.self.invariant.sound runs c.unwrap-running.ensures in
    end-shown w c.args.self.now serial c.end.new.self (g.A.Agenda.schedule c.end.new.agenda) c.self.view_is (c.end.ensures.threads serial a.key) (c.end.ensures.agenda serial a.key)
