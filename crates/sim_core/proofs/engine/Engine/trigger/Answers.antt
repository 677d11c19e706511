use Rattle.std.proofs.Common.{ap}
use Rattle.net_engine.specs.Net.{NetValues}
use Rattle.net_engine.specs.Delivery.{trigger}
use Rattle.sim_core.proofs.WakeLemmas.{wakes-trigger}
use Rattle.sim_core.proofs.WholeLemmas.{event-there, net-shown, net-sound, next-fine, whole}
use Rattle.sim_core.proofs.SoundLemmas.{lasts}
use Rattle.sim_core.proofs.engine.Engine.trigger.Goals as goal

pub trigger-requires-clause-fits : goal.trigger-requires-clause-fits
trigger-requires-clause-fits g c =
    let w = whole c.self.inside.program c.self.inside.scope_parents.items c.self.inside.outputs c.self.inside.order c.self.inside.net c.self.inside.threads (g.A.Agenda.schedule c.self.inside.agenda) c.self.inside.tasks c.self.inside.running c.self.inside.steps c.self.inside.peak c.self.inside.taken c.self.inside.ending c.self.inside.failed in
    (c.self.invariant.sound (next-fine w c.args.self.now c.go_next.new.self c.requires.at.0 c.requires.at.1 c.self.view_is c.requires.at.2 (c.go_next.ensures c.requires.at.0 c.requires.at.1 c.requires.at.2))).fits

pub trigger-requires-clause-event : goal.trigger-requires-clause-event
trigger-requires-clause-event g c =
    let w = whole c.self.inside.program c.self.inside.scope_parents.items c.self.inside.outputs c.self.inside.order c.self.inside.net c.self.inside.threads (g.A.Agenda.schedule c.self.inside.agenda) c.self.inside.tasks c.self.inside.running c.self.inside.steps c.self.inside.peak c.self.inside.taken c.self.inside.ending c.self.inside.failed in
    event-there w c.args.self.now c.go_next.new.self c.requires.at.0 c.requires.at.1 c.args.event c.self.view_is c.self.invariant.sound c.requires.at.2 (c.go_next.ensures c.requires.at.0 c.requires.at.1 c.requires.at.2) c.requires.at.3

pub invariant_of-self : goal.invariant_of-self
invariant_of-self g c =
    let w = whole c.self.inside.program c.self.inside.scope_parents.items c.self.inside.outputs c.self.inside.order c.self.inside.net c.self.inside.threads (g.A.Agenda.schedule c.self.inside.agenda) c.self.inside.tasks c.self.inside.running c.self.inside.steps c.self.inside.peak c.self.inside.taken c.self.inside.ending c.self.inside.failed in
    lasts _ _ (next-fine w c.args.self.now c.go_next.new.self c.requires.at.0 c.requires.at.1 c.self.view_is c.requires.at.2 (c.go_next.ensures c.requires.at.0 c.requires.at.1 c.requires.at.2))
    (net-sound (λ nodes. trigger nodes c.args.event) w c.trigger.new.self c.trigger.new.threads (g.A.Agenda.schedule c.trigger.new.agenda) c.self.invariant.sound
    c.trigger.ensures.state (λ state. wakes-trigger c.self.inside.net.nodes c.args.event state) (ap (λ (v : NetValues). v.requests) c.trigger.ensures.values))

pub returns : goal.returns
returns g c = λ serial thread can.
    let w = whole c.self.inside.program c.self.inside.scope_parents.items c.self.inside.outputs c.self.inside.order c.self.inside.net c.self.inside.threads (g.A.Agenda.schedule c.self.inside.agenda) c.self.inside.tasks c.self.inside.running c.self.inside.steps c.self.inside.peak c.self.inside.taken c.self.inside.ending c.self.inside.failed in
    net-shown (λ nodes. trigger nodes c.args.event) w c.args.self.now c.go_next.new.self c.trigger.new.self c.trigger.new.threads (g.A.Agenda.schedule c.trigger.new.agenda) serial thread c.self.view_is c.self.invariant.sound can (c.go_next.ensures serial thread can)
    (c.trigger.ensures.state).state
