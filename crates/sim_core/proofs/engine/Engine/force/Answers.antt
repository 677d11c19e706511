use Rattle.std.proofs.Common.{◌≡◌, [], length}
use Rattle.std.specs.Prelude.{slice_index_or}
use Rattle.sym_link.specs.Roots.{kind_of}
use Rattle.net_engine.specs.Net.{words_of}
use Rattle.net_engine.specs.Parts.{HasLevels}
use Rattle.net_engine.specs.Delivery.{force}
use Rattle.sim_core.proofs.WakeLemmas.{wakes-force}
use Rattle.sim_core.proofs.WholeLemmas.{net-shown, net-sound, next-fine, next-holds, whole}
use Rattle.sim_core.proofs.SoundLemmas.{lasts}
use Rattle.sim_core.proofs.engine.Engine.force.Goals as goal

pub force-requires-clause-fits : goal.force-requires-clause-fits
force-requires-clause-fits g c =
    let w = whole c.self.inside.program c.self.inside.scope_parents.items c.self.inside.outputs c.self.inside.order c.self.inside.net c.self.inside.threads (g.A.Agenda.schedule c.self.inside.agenda) c.self.inside.tasks c.self.inside.running c.self.inside.steps c.self.inside.peak c.self.inside.taken c.self.inside.ending c.self.inside.failed in
    (c.self.invariant.sound (next-fine w c.args.self.now c.go_next.new.self c.requires.at.0 c.requires.at.1 c.self.view_is c.requires.at.2 (c.go_next.ensures c.requires.at.0 c.requires.at.1 c.requires.at.2))).fits

pub force-requires-clause-item : goal.force-requires-clause-item
force-requires-clause-item g c =
    let w = whole c.self.inside.program c.self.inside.scope_parents.items c.self.inside.outputs c.self.inside.order c.self.inside.net c.self.inside.threads (g.A.Agenda.schedule c.self.inside.agenda) c.self.inside.tasks c.self.inside.running c.self.inside.steps c.self.inside.peak c.self.inside.taken c.self.inside.ending c.self.inside.failed in
    next-holds (λ nodes values. HasLevels (kind_of nodes c.args.item)) w c.args.self.now c.go_next.new.self c.requires.at.0 c.requires.at.1 c.self.view_is c.self.invariant.sound c.requires.at.2 (c.go_next.ensures c.requires.at.0 c.requires.at.1 c.requires.at.2) c.requires.at.3.0

pub force-requires-clause-width : goal.force-requires-clause-width
force-requires-clause-width g c =
    let w = whole c.self.inside.program c.self.inside.scope_parents.items c.self.inside.outputs c.self.inside.order c.self.inside.net c.self.inside.threads (g.A.Agenda.schedule c.self.inside.agenda) c.self.inside.tasks c.self.inside.running c.self.inside.steps c.self.inside.peak c.self.inside.taken c.self.inside.ending c.self.inside.failed in
    next-holds (λ nodes values. length c.args.value ≡ length (slice_index_or (words_of nodes values c.args.item) 0 [])) w c.args.self.now c.go_next.new.self c.requires.at.0 c.requires.at.1 c.self.view_is c.self.invariant.sound c.requires.at.2 (c.go_next.ensures c.requires.at.0 c.requires.at.1 c.requires.at.2) c.requires.at.3.1

pub invariant_of-self : goal.invariant_of-self
invariant_of-self g c =
    let w = whole c.self.inside.program c.self.inside.scope_parents.items c.self.inside.outputs c.self.inside.order c.self.inside.net c.self.inside.threads (g.A.Agenda.schedule c.self.inside.agenda) c.self.inside.tasks c.self.inside.running c.self.inside.steps c.self.inside.peak c.self.inside.taken c.self.inside.ending c.self.inside.failed in
    lasts _ _ (next-fine w c.args.self.now c.go_next.new.self c.requires.at.0 c.requires.at.1 c.self.view_is c.requires.at.2 (c.go_next.ensures c.requires.at.0 c.requires.at.1 c.requires.at.2))
    (net-sound (λ nodes. force nodes c.args.item c.args.value) w c.force.new.self c.force.new.threads (g.A.Agenda.schedule c.force.new.agenda) c.self.invariant.sound
    c.force.ensures.state (λ state. wakes-force c.self.inside.net.nodes c.args.item c.args.value state) c.force.ensures.requests)

pub returns : goal.returns
returns g c = λ serial thread can.
    let w = whole c.self.inside.program c.self.inside.scope_parents.items c.self.inside.outputs c.self.inside.order c.self.inside.net c.self.inside.threads (g.A.Agenda.schedule c.self.inside.agenda) c.self.inside.tasks c.self.inside.running c.self.inside.steps c.self.inside.peak c.self.inside.taken c.self.inside.ending c.self.inside.failed in
    net-shown (λ nodes. force nodes c.args.item c.args.value) w c.args.self.now c.go_next.new.self c.force.new.self c.force.new.threads (g.A.Agenda.schedule c.force.new.agenda) serial thread c.self.view_is c.self.invariant.sound can (c.go_next.ensures serial thread can)
    (c.force.ensures.state).state
