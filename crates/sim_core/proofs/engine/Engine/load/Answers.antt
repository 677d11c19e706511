use Rattle.std.proofs.Common.{List, ap, ◌∙◌, refl}
use Rattle.sym_link.specs.declared.program.Item.{Item}
use Rattle.sys_tasks.specs.Design.{design_of}
use Rattle.sys_tasks.specs.Tasks.{TasksNow}
use Rattle.sim_core.specs.Kept.{outputs_in}
use Rattle.sim_core.proofs.StartedLemmas.{first-design, sound-start, start-shown}
use Rattle.sim_core.proofs.SoundLemmas.{lasts}
use Rattle.sim_core.proofs.engine.Engine.load.Goals as goal

pub invariant_of-result : goal.invariant_of-result
invariant_of-result g c = lasts _ _ (refl)
    (λ fine.
    let started = c.in_ok-started.started in
    let did = c.in_ok-started.ensures in
    sound-start c.args.program started.scope_parents.items c.outputs_of-outputs.result started.net started.threads started.tasks.design (g.A.Agenda.schedule c.begin_run.new.agenda) c.requires.program did.parents
    (c.outputs_of-outputs.ensures ∙ ap (λ (items : List Item). outputs_in items) c.as_slice.ensures) did.nodes did.values did.marks
    (ap (λ (tasks : TasksNow). tasks.design) did.tasks ∙ first-design (design_of c.args.program)) (record { table = did.table; dues = did.dues; runs = did.runs }))

pub returns-clause-start : goal.returns-clause-start
returns-clause-start g c =
    let started = c.in_ok-started.started in
    let did = c.in_ok-started.ensures in
    start-shown c.args.program started.net started.threads (g.A.Agenda.schedule c.begin_run.new.agenda) started.tasks c.pending-peak.result did.values did.tasks did.time (record { table = did.table; dues = did.dues; runs = did.runs }) c.pending-peak.ensures
