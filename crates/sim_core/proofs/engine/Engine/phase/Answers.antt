use Rattle.std.proofs.Common.{ℕ, ap, refl, subst, ◌∙◌}
use Rattle.sys_tasks.specs.Phase.{IsPartOf, read_only}
use Rattle.sim_core.specs.Engine.{Shown}
use Rattle.sim_core.proofs.MethodLemmas.{tasks-answer, tasks-hold}
use Rattle.sim_core.proofs.TaskLemmas.{phase-cut, phase-shown, phase-sound}
use Rattle.sim_core.proofs.WholeLemmas.{whole}
use Rattle.net_engine.specs.Net.{words_of}
use Rattle.sim_core.proofs.SoundLemmas.{lasts, lasts-failed}
use Rattle.sim_core.proofs.engine.Engine.phase.Goals as goal

pub do_phase-requires-clause-answers : goal.do_phase-requires-clause-answers
do_phase-requires-clause-answers g c =
    let w = whole c.self.inside.program c.self.inside.scope_parents.items c.self.inside.outputs c.self.inside.order c.self.inside.net c.self.inside.threads (g.A.Agenda.schedule c.self.inside.agenda) c.self.inside.tasks c.self.inside.running c.self.inside.steps c.self.inside.peak c.self.inside.taken c.self.inside.ending c.self.inside.failed in
    tasks-answer w.held (c.self.invariant.sound (ap (λ (s : Shown). s.failed) c.self.view_is ∙ c.requires)) c.widths.ensures

pub do_phase-requires-clause-plane : goal.do_phase-requires-clause-plane
do_phase-requires-clause-plane g c =
    let w = whole c.self.inside.program c.self.inside.scope_parents.items c.self.inside.outputs c.self.inside.order c.self.inside.net c.self.inside.threads (g.A.Agenda.schedule c.self.inside.agenda) c.self.inside.tasks c.self.inside.running c.self.inside.steps c.self.inside.peak c.self.inside.taken c.self.inside.ending c.self.inside.failed in
    tasks-hold w.held (c.self.invariant.sound (ap (λ (s : Shown). s.failed) c.self.view_is ∙ c.requires))

pub invariant_of-self : goal.invariant_of-self
invariant_of-self g c =
    let w = whole c.self.inside.program c.self.inside.scope_parents.items c.self.inside.outputs c.self.inside.order c.self.inside.net c.self.inside.threads (g.A.Agenda.schedule c.self.inside.agenda) c.self.inside.tasks c.self.inside.running c.self.inside.steps c.self.inside.peak c.self.inside.taken c.self.inside.ending c.self.inside.failed in
    lasts _ _ (ap (λ (s : Shown). s.failed) c.self.view_is ∙ c.requires)
    (λ fine.
    phase-sound w.held w.tasks c.do_phase.new.tasks c.now.result (words_of w.held.net.nodes w.held.net.values) refl c.in-Ok.ensures.ok (c.self.invariant.sound (ap (λ (s : Shown). s.failed) c.self.view_is ∙ c.requires)))

pub invariant_of-self-in-Err : goal.invariant_of-self-in-Err
invariant_of-self-in-Err g c = lasts-failed _ c.self.invariant.stands

pub returns-in-Ok-clause-ok : goal.returns-in-Ok-clause-ok
returns-in-Ok-clause-ok g c =
    let w = whole c.self.inside.program c.self.inside.scope_parents.items c.self.inside.outputs c.self.inside.order c.self.inside.net c.self.inside.threads (g.A.Agenda.schedule c.self.inside.agenda) c.self.inside.tasks c.self.inside.running c.self.inside.steps c.self.inside.peak c.self.inside.taken c.self.inside.ending c.self.inside.failed in
    phase-shown w c.args.self.now c.do_phase.new.tasks c.self.view_is (c.self.invariant.sound (ap (λ (s : Shown). s.failed) c.self.view_is ∙ c.requires)).nodes (c.in-Ok.ensures.ok ∙ ap (λ (n : ℕ). read_only n (words_of w.held.net.nodes w.held.net.values) w.tasks) c.now.ensures)

pub returns-in-Err-clause-err : goal.returns-in-Err-clause-err
returns-in-Err-clause-err g c =
    let w = whole c.self.inside.program c.self.inside.scope_parents.items c.self.inside.outputs c.self.inside.order c.self.inside.net c.self.inside.threads (g.A.Agenda.schedule c.self.inside.agenda) c.self.inside.tasks c.self.inside.running c.self.inside.steps c.self.inside.peak c.self.inside.taken c.self.inside.ending c.self.inside.failed in
    phase-cut w c.args.self.now c.do_phase.new.tasks c.self.view_is (c.self.invariant.sound (ap (λ (s : Shown). s.failed) c.self.view_is ∙ c.requires)).nodes
    (subst (λ (n : ℕ). IsPartOf w.tasks (read_only n (words_of w.held.net.nodes w.held.net.values) w.tasks) c.do_phase.new.tasks) c.now.ensures c.in-Err.ensures.part)
