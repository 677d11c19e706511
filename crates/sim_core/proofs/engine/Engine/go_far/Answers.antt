use Rattle.std.proofs.Common.{ap, ◌∙◌}
use Rattle.net_engine.specs.Net.{words_of}
use Rattle.sim_core.specs.Engine.{Shown}
use Rattle.sim_core.proofs.MethodLemmas.{opcodes-fit}
use Rattle.sim_core.proofs.SoundLemmas.{lasts}
use Rattle.sim_core.proofs.StretchLemmas.{ran-leaves, ran-sound}
use Rattle.sim_core.proofs.WholeLemmas.{runs-at, whole}
use Rattle.sim_core.proofs.engine.Engine.go_far.Goals as goal

pub go_far_at-requires-clause-fits : goal.go_far_at-requires-clause-fits
go_far_at-requires-clause-fits g c =
    let w = whole c.self.inside.program c.self.inside.scope_parents.items c.self.inside.outputs c.self.inside.order c.self.inside.net c.self.inside.threads (g.A.Agenda.schedule c.self.inside.agenda) c.self.inside.tasks c.self.inside.running c.self.inside.steps c.self.inside.peak c.self.inside.taken c.self.inside.ending c.self.inside.failed in
    let a = runs-at w c.args.self.now c.requires.at.0 c.requires.at.1 c.unwrap-running.result c.self.view_is c.self.invariant.sound c.requires.at.2 c.unwrap-running.ensures in
    opcodes-fit w.held c.as_slice-code.result.now a.sound c.widths.ensures c.as_slice-code.ensures

pub invariant_of-self : goal.invariant_of-self
invariant_of-self g c =
    let w = whole c.self.inside.program c.self.inside.scope_parents.items c.self.inside.outputs c.self.inside.order c.self.inside.net c.self.inside.threads (g.A.Agenda.schedule c.self.inside.agenda) c.self.inside.tasks c.self.inside.running c.self.inside.steps c.self.inside.peak c.self.inside.taken c.self.inside.ending c.self.inside.failed in
    lasts _ _ (ap (λ (s : Shown). s.failed) c.self.view_is ∙ c.requires.at.2.fine)
    (λ fine.
    let a = runs-at w c.args.self.now c.requires.at.0 c.requires.at.1 c.unwrap-running.result c.self.view_is c.self.invariant.sound c.requires.at.2 c.unwrap-running.ensures in
    ran-sound w.held c.as_slice-code.result.now (words_of w.held.net.nodes w.held.net.values) c.go_far_at.result c.requires.at.0 c.requires.at.1 c.go_far_at.new.threads a.live (c.go_far_at.ensures.ran c.requires.at.0 c.requires.at.1 a.key a.live) a.sound)

pub returns-clause-ran : goal.returns-clause-ran
returns-clause-ran g c = λ serial thread runs.
    let w = whole c.self.inside.program c.self.inside.scope_parents.items c.self.inside.outputs c.self.inside.order c.self.inside.net c.self.inside.threads (g.A.Agenda.schedule c.self.inside.agenda) c.self.inside.tasks c.self.inside.running c.self.inside.steps c.self.inside.peak c.self.inside.taken c.self.inside.ending c.self.inside.failed in
    let a = runs-at w c.args.self.now serial thread c.unwrap-running.result c.self.view_is c.self.invariant.sound runs c.unwrap-running.ensures in
    ran-leaves w c.args.self.now c.as_slice-code.result.now c.go_far_at.result serial thread c.go_far_at.new.threads c.self.view_is a.sound c.as_slice-code.ensures (c.go_far_at.ensures.ran serial thread a.key a.live)
