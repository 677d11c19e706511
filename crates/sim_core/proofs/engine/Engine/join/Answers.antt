use Rattle.std.proofs.Common.{◌+◌}
use Rattle.vvp_threads.specs.Table.{with_frame}
use Rattle.sim_core.proofs.EffectLemmas.{join-shown, join-sound, joined-parent}
use Rattle.sim_core.proofs.WholeLemmas.{next-at, next-runs, runs-some, whole, next-fine}
use Rattle.sim_core.proofs.SoundLemmas.{lasts}
use Rattle.sim_core.proofs.engine.Engine.join.Goals as goal

pub unwrap-running-requires : goal.unwrap-running-requires
unwrap-running-requires g c =
    let w = whole c.self.inside.program c.self.inside.scope_parents.items c.self.inside.outputs c.self.inside.order c.self.inside.net c.self.inside.threads (g.A.Agenda.schedule c.self.inside.agenda) c.self.inside.tasks c.self.inside.running c.self.inside.steps c.self.inside.peak c.self.inside.taken c.self.inside.ending c.self.inside.failed in
    runs-some w c.go_next.new.self c.requires.at.0 (with_frame (record c.requires.at.1.frame { pc = c.requires.at.1.frame.pc + 1 }) c.requires.at.1) c.self.view_is (next-runs c.args.self.now c.go_next.new.self c.requires.at.0 c.requires.at.1 c.requires.at.2 (c.go_next.ensures c.requires.at.0 c.requires.at.1 c.requires.at.2))

pub join_on-rests-requires : goal.join_on-rests-requires
join_on-rests-requires g c =
    let w = whole c.self.inside.program c.self.inside.scope_parents.items c.self.inside.outputs c.self.inside.order c.self.inside.net c.self.inside.threads (g.A.Agenda.schedule c.self.inside.agenda) c.self.inside.tasks c.self.inside.running c.self.inside.steps c.self.inside.peak c.self.inside.taken c.self.inside.ending c.self.inside.failed in
    let a = next-at w c.args.self.now c.go_next.new.self c.requires.at.0 c.requires.at.1 c.unwrap-running.result c.self.view_is c.self.invariant.sound c.requires.at.2 (c.go_next.ensures c.requires.at.0 c.requires.at.1 c.requires.at.2) c.unwrap-running.ensures in
    record { ready = (c.requires.at.0, a.key, a.ready, joined-parent w c.args.self.now c.go_next.new.self c.requires.at.0 c.args.child c.requires.at.1 c.self.view_is c.requires.at.2 (c.go_next.ensures c.requires.at.0 c.requires.at.1 c.requires.at.2) c.requires.at.3) }

pub invariant_of-self : goal.invariant_of-self
invariant_of-self g c =
    let w = whole c.self.inside.program c.self.inside.scope_parents.items c.self.inside.outputs c.self.inside.order c.self.inside.net c.self.inside.threads (g.A.Agenda.schedule c.self.inside.agenda) c.self.inside.tasks c.self.inside.running c.self.inside.steps c.self.inside.peak c.self.inside.taken c.self.inside.ending c.self.inside.failed in
    lasts _ _ (next-fine w c.args.self.now c.go_next.new.self c.requires.at.0 c.requires.at.1 c.self.view_is c.requires.at.2 (c.go_next.ensures c.requires.at.0 c.requires.at.1 c.requires.at.2))
    (λ fine.
    let a = next-at w c.args.self.now c.go_next.new.self c.requires.at.0 c.requires.at.1 c.unwrap-running.result c.self.view_is c.self.invariant.sound c.requires.at.2 (c.go_next.ensures c.requires.at.0 c.requires.at.1 c.requires.at.2) c.unwrap-running.ensures in
    join-sound w c.requires.at.0 c.args.child (with_frame (record c.requires.at.1.frame { pc = c.requires.at.1.frame.pc + 1 }) c.requires.at.1) c.unwrap-running.result c.join_on-rests.result c.join_on-rests.new.threads c.unless-self-inside.result a c.unwrap-running.ensures c.join_on-rests.ensures.live c.join_on-rests.ensures.table c.join_on-rests.ensures.runs c.unless-self-inside.ensures)

pub returns : goal.returns
returns g c = λ serial thread can.
    let w = whole c.self.inside.program c.self.inside.scope_parents.items c.self.inside.outputs c.self.inside.order c.self.inside.net c.self.inside.threads (g.A.Agenda.schedule c.self.inside.agenda) c.self.inside.tasks c.self.inside.running c.self.inside.steps c.self.inside.peak c.self.inside.taken c.self.inside.ending c.self.inside.failed in
    let goes = c.go_next.ensures serial thread can in
    let a = next-at w c.args.self.now c.go_next.new.self serial thread c.unwrap-running.result c.self.view_is c.self.invariant.sound can goes c.unwrap-running.ensures in
    join-shown w c.args.self.now c.go_next.new.self serial c.args.child thread c.unwrap-running.result c.join_on-rests.result c.join_on-rests.new.threads c.unless-self-inside.result c.self.view_is can goes c.unwrap-running.ensures c.join_on-rests.ensures.live (c.join_on-rests.ensures.table serial a.key) c.unless-self-inside.ensures
