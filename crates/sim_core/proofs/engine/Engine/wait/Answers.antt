use Rattle.std.proofs.Common.{◌+◌, arith}
use Rattle.vvp_threads.specs.Table.{with_frame}
use Rattle.sim_core.proofs.EffectLemmas.{wait-shown, wait-sound}
use Rattle.sim_core.proofs.WholeLemmas.{event-there, next-at, next-fine, next-runs, runs-some, whole}
use Rattle.sim_core.proofs.SoundLemmas.{lasts}
use Rattle.sim_core.proofs.engine.Engine.wait.Goals as goal

pub unwrap-running-requires : goal.unwrap-running-requires
unwrap-running-requires g c =
    let w = whole c.self.inside.program c.self.inside.scope_parents.items c.self.inside.outputs c.self.inside.order c.self.inside.net c.self.inside.threads (g.A.Agenda.schedule c.self.inside.agenda) c.self.inside.tasks c.self.inside.running c.self.inside.steps c.self.inside.peak c.self.inside.taken c.self.inside.ending c.self.inside.failed in
    runs-some w c.go_next.new.self c.requires.at.0 (with_frame (record c.requires.at.1.frame { pc = c.requires.at.1.frame.pc + 1 }) c.requires.at.1) c.self.view_is (next-runs c.args.self.now c.go_next.new.self c.requires.at.0 c.requires.at.1 c.requires.at.2 (c.go_next.ensures c.requires.at.0 c.requires.at.1 c.requires.at.2))

pub wait_on-requires-clause-ready : goal.wait_on-requires-clause-ready
wait_on-requires-clause-ready g c =
    let w = whole c.self.inside.program c.self.inside.scope_parents.items c.self.inside.outputs c.self.inside.order c.self.inside.net c.self.inside.threads (g.A.Agenda.schedule c.self.inside.agenda) c.self.inside.tasks c.self.inside.running c.self.inside.steps c.self.inside.peak c.self.inside.taken c.self.inside.ending c.self.inside.failed in
    let a = next-at w c.args.self.now c.go_next.new.self c.requires.at.0 c.requires.at.1 c.unwrap-running.result c.self.view_is c.self.invariant.sound c.requires.at.2 (c.go_next.ensures c.requires.at.0 c.requires.at.1 c.requires.at.2) c.unwrap-running.ensures in
    (c.requires.at.0, a.key, a.ready)

pub wait_on-requires-clause-event : goal.wait_on-requires-clause-event
wait_on-requires-clause-event g c =
    let w = whole c.self.inside.program c.self.inside.scope_parents.items c.self.inside.outputs c.self.inside.order c.self.inside.net c.self.inside.threads (g.A.Agenda.schedule c.self.inside.agenda) c.self.inside.tasks c.self.inside.running c.self.inside.steps c.self.inside.peak c.self.inside.taken c.self.inside.ending c.self.inside.failed in
    let there = event-there w c.args.self.now c.go_next.new.self c.requires.at.0 c.requires.at.1 c.args.event c.self.view_is c.self.invariant.sound c.requires.at.2 (c.go_next.ensures c.requires.at.0 c.requires.at.1 c.requires.at.2) c.requires.at.3 in
    let fine = next-fine w c.args.self.now c.go_next.new.self c.requires.at.0 c.requires.at.1 c.self.view_is c.requires.at.2 (c.go_next.ensures c.requires.at.0 c.requires.at.1 c.requires.at.2) in
    let events = (c.self.invariant.sound fine).fits.events in
    omega (arith, there, events)

pub invariant_of-self : goal.invariant_of-self
invariant_of-self g c =
    let w = whole c.self.inside.program c.self.inside.scope_parents.items c.self.inside.outputs c.self.inside.order c.self.inside.net c.self.inside.threads (g.A.Agenda.schedule c.self.inside.agenda) c.self.inside.tasks c.self.inside.running c.self.inside.steps c.self.inside.peak c.self.inside.taken c.self.inside.ending c.self.inside.failed in
    lasts _ _ (next-fine w c.args.self.now c.go_next.new.self c.requires.at.0 c.requires.at.1 c.self.view_is c.requires.at.2 (c.go_next.ensures c.requires.at.0 c.requires.at.1 c.requires.at.2))
    (λ fine.
    let a = next-at w c.args.self.now c.go_next.new.self c.requires.at.0 c.requires.at.1 c.unwrap-running.result c.self.view_is c.self.invariant.sound c.requires.at.2 (c.go_next.ensures c.requires.at.0 c.requires.at.1 c.requires.at.2) c.unwrap-running.ensures in
    wait-sound w c.requires.at.0 c.args.event (with_frame (record c.requires.at.1.frame { pc = c.requires.at.1.frame.pc + 1 }) c.requires.at.1) c.unwrap-running.result c.wait_on.new.self a c.wait_on.ensures.table c.wait_on.ensures.runs)

pub returns : goal.returns
returns g c = λ serial thread can.
    let w = whole c.self.inside.program c.self.inside.scope_parents.items c.self.inside.outputs c.self.inside.order c.self.inside.net c.self.inside.threads (g.A.Agenda.schedule c.self.inside.agenda) c.self.inside.tasks c.self.inside.running c.self.inside.steps c.self.inside.peak c.self.inside.taken c.self.inside.ending c.self.inside.failed in
    let goes = c.go_next.ensures serial thread can in
    let a = next-at w c.args.self.now c.go_next.new.self serial thread c.unwrap-running.result c.self.view_is c.self.invariant.sound can goes c.unwrap-running.ensures in
    wait-shown w c.args.self.now c.go_next.new.self serial c.args.event thread.frame c.wait_on.new.self c.self.view_is goes (c.wait_on.ensures.table serial a.key)
