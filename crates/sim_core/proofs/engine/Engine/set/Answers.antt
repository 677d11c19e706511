use Rattle.std.proofs.Common.{ℤ, subst, w64}
use Rattle.std.proofs.lemmas.Int.{to_z-of_z}
use Rattle.sym_link.specs.Roots.{kind_of}
use Rattle.net_engine.specs.Kept.{Delivers, IsWritable}
use Rattle.net_engine.specs.Delivery.{write}
use Rattle.sim_core.proofs.WakeLemmas.{wakes-write}
use Rattle.sim_core.proofs.WholeLemmas.{net-shown, net-sound, next-fine, next-holds, whole}
use Rattle.sim_core.proofs.SoundLemmas.{lasts}
use Rattle.sim_core.proofs.engine.Engine.set.Goals as goal

pub write-requires-clause-fits : goal.write-requires-clause-fits
write-requires-clause-fits g c =
    let w = whole c.self.inside.program c.self.inside.scope_parents.items c.self.inside.outputs c.self.inside.order c.self.inside.net c.self.inside.threads (g.A.Agenda.schedule c.self.inside.agenda) c.self.inside.tasks c.self.inside.running c.self.inside.steps c.self.inside.peak c.self.inside.taken c.self.inside.ending c.self.inside.failed in
    (c.self.invariant.sound (next-fine w c.args.self.now c.go_next.new.self c.requires.at.0 c.requires.at.1 c.self.view_is c.requires.at.2 (c.go_next.ensures c.requires.at.0 c.requires.at.1 c.requires.at.2))).fits

pub write-requires-clause-item : goal.write-requires-clause-item
write-requires-clause-item g c =
    let w = whole c.self.inside.program c.self.inside.scope_parents.items c.self.inside.outputs c.self.inside.order c.self.inside.net c.self.inside.threads (g.A.Agenda.schedule c.self.inside.agenda) c.self.inside.tasks c.self.inside.running c.self.inside.steps c.self.inside.peak c.self.inside.taken c.self.inside.ending c.self.inside.failed in
    next-holds (λ nodes values. IsWritable values c.args.item c.args.word (kind_of nodes c.args.item)) w c.args.self.now c.go_next.new.self c.requires.at.0 c.requires.at.1 c.self.view_is c.self.invariant.sound c.requires.at.2 (c.go_next.ensures c.requires.at.0 c.requires.at.1 c.requires.at.2) c.requires.at.3

pub invariant_of-self : goal.invariant_of-self
invariant_of-self g c =
    let w = whole c.self.inside.program c.self.inside.scope_parents.items c.self.inside.outputs c.self.inside.order c.self.inside.net c.self.inside.threads (g.A.Agenda.schedule c.self.inside.agenda) c.self.inside.tasks c.self.inside.running c.self.inside.steps c.self.inside.peak c.self.inside.taken c.self.inside.ending c.self.inside.failed in
    lasts _ _ (next-fine w c.args.self.now c.go_next.new.self c.requires.at.0 c.requires.at.1 c.self.view_is c.requires.at.2 (c.go_next.ensures c.requires.at.0 c.requires.at.1 c.requires.at.2))
    (net-sound (λ nodes. write nodes c.args.item c.args.word c.args.offset c.args.value) w c.write.new.self c.write.new.threads (g.A.Agenda.schedule c.write.new.agenda) c.self.invariant.sound
    (subst (λ (z : ℤ). Delivers (write c.self.inside.net.nodes c.args.item c.args.word z c.args.value) c.self.inside.net c.write.new.self c.self.inside.threads c.write.new.threads (g.A.Agenda.schedule c.self.inside.agenda) (g.A.Agenda.schedule c.write.new.agenda))
    (to_z-of_z w64 c.args.offset c.ranges.offset) c.write.ensures.state) (λ state. wakes-write c.self.inside.net.nodes c.args.item c.args.word c.args.offset c.args.value state) c.write.ensures.requests)

pub returns : goal.returns
returns g c = λ serial thread can.
    let w = whole c.self.inside.program c.self.inside.scope_parents.items c.self.inside.outputs c.self.inside.order c.self.inside.net c.self.inside.threads (g.A.Agenda.schedule c.self.inside.agenda) c.self.inside.tasks c.self.inside.running c.self.inside.steps c.self.inside.peak c.self.inside.taken c.self.inside.ending c.self.inside.failed in
    net-shown (λ nodes. write nodes c.args.item c.args.word c.args.offset c.args.value) w c.args.self.now c.go_next.new.self c.write.new.self c.write.new.threads (g.A.Agenda.schedule c.write.new.agenda) serial thread c.self.view_is c.self.invariant.sound can (c.go_next.ensures serial thread can)
    ((subst (λ (z : ℤ). Delivers (write c.self.inside.net.nodes c.args.item c.args.word z c.args.value) c.self.inside.net c.write.new.self c.self.inside.threads c.write.new.threads (g.A.Agenda.schedule c.self.inside.agenda) (g.A.Agenda.schedule c.write.new.agenda))
    (to_z-of_z w64 c.args.offset c.ranges.offset) c.write.ensures.state)).state
