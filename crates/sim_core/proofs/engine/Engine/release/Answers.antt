use Rattle.std.proofs.Common.{◌≤◌, ◌+◌, [], length}
use Rattle.std.specs.Prelude.{slice_index_or}
use Rattle.sym_link.specs.Roots.{kind_of}
use Rattle.net_engine.specs.Net.{words_of}
use Rattle.net_engine.specs.Parts.{HasLevels}
use Rattle.net_engine.specs.Delivery.{release}
use Rattle.sim_core.proofs.WakeLemmas.{wakes-release}
use Rattle.sim_core.proofs.WholeLemmas.{net-shown, net-sound, next-fine, next-holds, whole}
use Rattle.sim_core.proofs.SoundLemmas.{lasts}
use Rattle.sim_core.proofs.engine.Engine.release.Goals as goal

pub release-requires-clause-fits : goal.release-requires-clause-fits
release-requires-clause-fits g c =
    let w = whole c.self.inside.program c.self.inside.scope_parents.items c.self.inside.outputs c.self.inside.order c.self.inside.net c.self.inside.threads (g.A.Agenda.schedule c.self.inside.agenda) c.self.inside.tasks c.self.inside.running c.self.inside.steps c.self.inside.peak c.self.inside.taken c.self.inside.ending c.self.inside.failed in
    (c.self.invariant.sound (next-fine w c.args.self.now c.go_next.new.self c.requires.at.0 c.requires.at.1 c.self.view_is c.requires.at.2 (c.go_next.ensures c.requires.at.0 c.requires.at.1 c.requires.at.2))).fits

pub release-requires-clause-item : goal.release-requires-clause-item
release-requires-clause-item g c =
    let w = whole c.self.inside.program c.self.inside.scope_parents.items c.self.inside.outputs c.self.inside.order c.self.inside.net c.self.inside.threads (g.A.Agenda.schedule c.self.inside.agenda) c.self.inside.tasks c.self.inside.running c.self.inside.steps c.self.inside.peak c.self.inside.taken c.self.inside.ending c.self.inside.failed in
    next-holds (λ nodes values. HasLevels (kind_of nodes c.args.item)) w c.args.self.now c.go_next.new.self c.requires.at.0 c.requires.at.1 c.self.view_is c.self.invariant.sound c.requires.at.2 (c.go_next.ensures c.requires.at.0 c.requires.at.1 c.requires.at.2) c.requires.at.3.0

pub release-requires-clause-within : goal.release-requires-clause-within
release-requires-clause-within g c =
    let w = whole c.self.inside.program c.self.inside.scope_parents.items c.self.inside.outputs c.self.inside.order c.self.inside.net c.self.inside.threads (g.A.Agenda.schedule c.self.inside.agenda) c.self.inside.tasks c.self.inside.running c.self.inside.steps c.self.inside.peak c.self.inside.taken c.self.inside.ending c.self.inside.failed in
    next-holds (λ nodes values. c.args.base + c.args.width ≤ length (slice_index_or (words_of nodes values c.args.item) 0 [])) w c.args.self.now c.go_next.new.self c.requires.at.0 c.requires.at.1 c.self.view_is c.self.invariant.sound c.requires.at.2 (c.go_next.ensures c.requires.at.0 c.requires.at.1 c.requires.at.2) c.requires.at.3.1

pub invariant_of-self : goal.invariant_of-self
invariant_of-self g c =
    let w = whole c.self.inside.program c.self.inside.scope_parents.items c.self.inside.outputs c.self.inside.order c.self.inside.net c.self.inside.threads (g.A.Agenda.schedule c.self.inside.agenda) c.self.inside.tasks c.self.inside.running c.self.inside.steps c.self.inside.peak c.self.inside.taken c.self.inside.ending c.self.inside.failed in
    lasts _ _ (next-fine w c.args.self.now c.go_next.new.self c.requires.at.0 c.requires.at.1 c.self.view_is c.requires.at.2 (c.go_next.ensures c.requires.at.0 c.requires.at.1 c.requires.at.2))
    (net-sound (λ nodes. release nodes c.args.item c.args.base c.args.width c.args.keep) w c.release.new.self c.release.new.threads (g.A.Agenda.schedule c.release.new.agenda) c.self.invariant.sound
    c.release.ensures.state (λ state. wakes-release c.self.inside.net.nodes c.args.item c.args.base c.args.width c.args.keep state) c.release.ensures.requests)

pub returns : goal.returns
returns g c = λ serial thread can.
    let w = whole c.self.inside.program c.self.inside.scope_parents.items c.self.inside.outputs c.self.inside.order c.self.inside.net c.self.inside.threads (g.A.Agenda.schedule c.self.inside.agenda) c.self.inside.tasks c.self.inside.running c.self.inside.steps c.self.inside.peak c.self.inside.taken c.self.inside.ending c.self.inside.failed in
    net-shown (λ nodes. release nodes c.args.item c.args.base c.args.width c.args.keep) w c.args.self.now c.go_next.new.self c.release.new.self c.release.new.threads (g.A.Agenda.schedule c.release.new.agenda) serial thread c.self.view_is c.self.invariant.sound can (c.go_next.ensures serial thread can)
    (c.release.ensures.state).state
