use Rattle.std.proofs.Common.{◌≡◌, ℕ, Some, List, slice_get, refl, ap, subst, ◌∙◌}
use Rattle.std.specs.Prelude.{slice_index}
use Rattle.std.proofs.lemmas.Result.{IfOk-weaker}
use Rattle.vvp_threads.specs.Keyed.{IsKeyOf, KeyedTable}
use Rattle.vvp_threads.specs.Table.{thread_of}
use Rattle.vvp_ops.specs.declared.op.Op.{Op}
use Rattle.net_engine.specs.Net.{words_of}
use Rattle.sys_tasks.specs.Tasks.{TasksNow, called, said_of}
use Rattle.sim_core.specs.Machine.{framed}
use Rattle.sim_core.specs.Effects.{items_of}
use Rattle.sys_tasks.specs.declared.names.Said.{Said}
use Rattle.sim_core.specs.Engine.{Shown}
use Rattle.vvp_threads.specs.declared.thread.Thread.{Thread}
use Rattle.sim_core.specs.Parts.{CanGoOn, task_done}
use Rattle.sim_core.proofs.MethodLemmas.{err-both, ok-both, op-at, place-there, same-op, scope-there-at, task-kept, task-ready, tasks-answer}
use Rattle.sim_core.proofs.TaskLemmas.{popped_frame, task-shown}
use Rattle.sim_core.proofs.WholeLemmas.{runs-at, shown_of, whole}
use Rattle.sim_core.proofs.SoundLemmas.{lasts}
use Rattle.sim_core.proofs.engine.Engine.do_task.Goals as goal

pub place_of-place-requires : goal.place_of-place-requires
place_of-place-requires g c =
    let w = whole c.self.inside.program c.self.inside.scope_parents.items c.self.inside.outputs c.self.inside.order c.self.inside.net c.self.inside.threads (g.A.Agenda.schedule c.self.inside.agenda) c.self.inside.tasks c.self.inside.running c.self.inside.steps c.self.inside.peak c.self.inside.taken c.self.inside.ending c.self.inside.failed in
    let a = runs-at w c.args.self.now c.requires.at.0 c.requires.at.1 c.unwrap-running.result c.self.view_is c.self.invariant.sound c.requires.at.2.runs c.unwrap-running.ensures in
    (c.requires.at.0, c.requires.at.1, a.key, a.live)

pub op_there-op-requires : goal.op_there-op-requires
op_there-op-requires g c =
    let w = whole c.self.inside.program c.self.inside.scope_parents.items c.self.inside.outputs c.self.inside.order c.self.inside.net c.self.inside.threads (g.A.Agenda.schedule c.self.inside.agenda) c.self.inside.tasks c.self.inside.running c.self.inside.steps c.self.inside.peak c.self.inside.taken c.self.inside.ending c.self.inside.failed in
    let a = runs-at w c.args.self.now c.requires.at.0 c.requires.at.1 c.unwrap-running.result c.self.view_is c.self.invariant.sound c.requires.at.2.runs c.unwrap-running.ensures in
    place-there w c.args.self.now c.requires.at.0 c.requires.at.1 c.place_of-place.result c.as_slice.result.now c.self.view_is c.requires.at.2 (c.place_of-place.ensures c.requires.at.0 c.requires.at.1 a.key a.live) c.as_slice.ensures

pub scope_there-scope-requires : goal.scope_there-scope-requires
scope_there-scope-requires g c =
    let w = whole c.self.inside.program c.self.inside.scope_parents.items c.self.inside.outputs c.self.inside.order c.self.inside.net c.self.inside.threads (g.A.Agenda.schedule c.self.inside.agenda) c.self.inside.tasks c.self.inside.running c.self.inside.steps c.self.inside.peak c.self.inside.taken c.self.inside.ending c.self.inside.failed in
    let a = runs-at w c.args.self.now c.requires.at.0 c.requires.at.1 c.unwrap-running.result c.self.view_is c.self.invariant.sound c.requires.at.2.runs c.unwrap-running.ensures in
    scope-there-at w c.args.self.now c.requires.at.0 c.requires.at.1 c.place_of-place.result c.as_slice-2.result.now c.self.view_is a.sound c.requires.at.2 (c.place_of-place.ensures c.requires.at.0 c.requires.at.1 a.key a.live) c.as_slice-2.ensures

pub call_task_at-requires-clause-answers : goal.call_task_at-requires-clause-answers
call_task_at-requires-clause-answers g c =
    let w = whole c.self.inside.program c.self.inside.scope_parents.items c.self.inside.outputs c.self.inside.order c.self.inside.net c.self.inside.threads (g.A.Agenda.schedule c.self.inside.agenda) c.self.inside.tasks c.self.inside.running c.self.inside.steps c.self.inside.peak c.self.inside.taken c.self.inside.ending c.self.inside.failed in
    let a = runs-at w c.args.self.now c.requires.at.0 c.requires.at.1 c.unwrap-running.result c.self.view_is c.self.invariant.sound c.requires.at.2.runs c.unwrap-running.ensures in
    tasks-answer w.held a.sound c.widths.ensures

pub call_task_at-requires-clause-live : goal.call_task_at-requires-clause-live
call_task_at-requires-clause-live g c =
    let w = whole c.self.inside.program c.self.inside.scope_parents.items c.self.inside.outputs c.self.inside.order c.self.inside.net c.self.inside.threads (g.A.Agenda.schedule c.self.inside.agenda) c.self.inside.tasks c.self.inside.running c.self.inside.steps c.self.inside.peak c.self.inside.taken c.self.inside.ending c.self.inside.failed in
    let a = runs-at w c.args.self.now c.requires.at.0 c.requires.at.1 c.unwrap-running.result c.self.view_is c.self.invariant.sound c.requires.at.2.runs c.unwrap-running.ensures in
    let ready = task-ready w c.args.self.now c.requires.at.0 c.requires.at.1 c.unwrap-running.result c.op_there-op.result.now c.scope_there-scope.result c.self.view_is c.self.invariant.sound c.requires.at.2 c.unwrap-running.ensures c.requires.at.3
    (op-at c.as_slice.result.now w.held.program c.place_of-place.result c.requires.at.1.frame.pc c.op_there-op.result.now c.op_there-op.ensures c.as_slice.ensures (c.place_of-place.ensures c.requires.at.0 c.requires.at.1 a.key a.live))
    (c.scope_there-scope.ensures ∙ ap (λ (xs : List ℕ). slice_index xs c.place_of-place.result) c.as_slice-2.ensures ∙ ap (λ (k : ℕ). slice_index w.held.program.code_scopes k) (c.place_of-place.ensures c.requires.at.0 c.requires.at.1 a.key a.live)) in
    (c.requires.at.0, c.requires.at.1, ready.0, ready.1, ready.2, ready.3, ready.4)

pub invariant_of-self : goal.invariant_of-self
invariant_of-self g c =
    let w = whole c.self.inside.program c.self.inside.scope_parents.items c.self.inside.outputs c.self.inside.order c.self.inside.net c.self.inside.threads (g.A.Agenda.schedule c.self.inside.agenda) c.self.inside.tasks c.self.inside.running c.self.inside.steps c.self.inside.peak c.self.inside.taken c.self.inside.ending c.self.inside.failed in
    lasts _ _ (ap (λ (s : Shown). s.failed) c.self.view_is ∙ c.requires.at.2.runs.fine)
    (λ fine.
    let a = runs-at w c.args.self.now c.requires.at.0 c.requires.at.1 c.unwrap-running.result c.self.view_is c.self.invariant.sound c.requires.at.2.runs c.unwrap-running.ensures in
    task-kept w c.op_there-op.result.now c.scope_there-scope.result c.now-now.result (words_of w.held.net.nodes w.held.net.values) c.requires.at.0 c.requires.at.1 c.unwrap-running.result c.call_task_at.new.tasks c.call_task_at.new.threads c.call_task_at.result a refl
    c.call_task_at.ensures.tasks c.call_task_at.ensures.threads c.call_task_at.ensures.kept c.call_task_at.ensures.still)

pub returns-clause-ok : goal.returns-clause-ok
returns-clause-ok g c =
    let w = whole c.self.inside.program c.self.inside.scope_parents.items c.self.inside.outputs c.self.inside.order c.self.inside.net c.self.inside.threads (g.A.Agenda.schedule c.self.inside.agenda) c.self.inside.tasks c.self.inside.running c.self.inside.steps c.self.inside.peak c.self.inside.taken c.self.inside.ending c.self.inside.failed in
    ok-both c.call_task_at.result c.call_task_at.ensures.tasks c.call_task_at.ensures.threads (λ (tasks : (s : ℕ) (t : Thread) → IsKeyOf w.held.threads s c.unwrap-running.result.key → thread_of w.held.threads.table s ≡ Some t
    → c.call_task_at.new.tasks ≡ called c.op_there-op.result.now c.scope_there-scope.result (items_of c.op_there-op.result.now t.frame) c.now-now.result (words_of w.held.net.nodes w.held.net.values) w.tasks)
    (threads : (s : ℕ) (t : Thread) → IsKeyOf w.held.threads s c.unwrap-running.result.key → thread_of w.held.threads.table s ≡ Some t
    → c.call_task_at.new.threads ≡ record w.held.threads { table = framed s (popped_frame c.op_there-op.result.now t.frame) w.held.threads.table }). λ serial thread op can at.
    let a = runs-at w c.args.self.now serial thread c.unwrap-running.result c.self.view_is c.self.invariant.sound can.runs c.unwrap-running.ensures in
    let here = c.place_of-place.ensures serial thread a.key a.live in
    let stands = op-at c.as_slice.result.now w.held.program c.place_of-place.result thread.frame.pc c.op_there-op.result.now c.op_there-op.ensures c.as_slice.ensures here in
    let same = same-op w.held.program thread.frame.pc c.op_there-op.result.now op stands (ap (λ (s : Shown). slice_get s.program.code thread.frame.pc) c.self.view_is ∙ at) in
    let after = shown_of (record w { tasks = c.call_task_at.new.tasks; held = record w.held { threads = c.call_task_at.new.threads; design = c.call_task_at.new.tasks.design } }) in
    subst (λ (o : Op ℕ). after ≡ record c.args.self.now { machine = task_done c.args.self.now.program o serial thread.frame c.args.self.now.machine }) same
    (task-shown w c.args.self.now c.op_there-op.result.now c.scope_there-scope.result c.now-now.result serial thread c.call_task_at.new.tasks c.call_task_at.new.threads c.self.view_is a.sound.nodes
    (c.scope_there-scope.ensures ∙ ap (λ (xs : List ℕ). slice_index xs c.place_of-place.result) c.as_slice-2.ensures ∙ ap (λ (k : ℕ). slice_index w.held.program.code_scopes k) here) c.now-now.ensures
    (tasks serial thread a.key a.live) (threads serial thread a.key a.live)))

pub returns-clause-said : goal.returns-clause-said
returns-clause-said g c =
    let w = whole c.self.inside.program c.self.inside.scope_parents.items c.self.inside.outputs c.self.inside.order c.self.inside.net c.self.inside.threads (g.A.Agenda.schedule c.self.inside.agenda) c.self.inside.tasks c.self.inside.running c.self.inside.steps c.self.inside.peak c.self.inside.taken c.self.inside.ending c.self.inside.failed in
    IfOk-weaker c.call_task_at.result (λ (s : Said). s ≡ said_of c.op_there-op.result.now) (λ (s : Said). (serial : ℕ) (thread : Thread) (op : Op ℕ) → CanGoOn c.args.self.now serial thread → slice_get c.args.self.now.program.code thread.frame.pc ≡ Some op → s ≡ said_of op) (λ s is. λ serial thread op can at.
    let a = runs-at w c.args.self.now serial thread c.unwrap-running.result c.self.view_is c.self.invariant.sound can.runs c.unwrap-running.ensures in
    let here = c.place_of-place.ensures serial thread a.key a.live in
    let stands = op-at c.as_slice.result.now w.held.program c.place_of-place.result thread.frame.pc c.op_there-op.result.now c.op_there-op.ensures c.as_slice.ensures here in
    is ∙ ap said_of (same-op w.held.program thread.frame.pc c.op_there-op.result.now op stands (ap (λ (s : Shown). slice_get s.program.code thread.frame.pc) c.self.view_is ∙ at))) c.call_task_at.ensures.said

pub returns-clause-err : goal.returns-clause-err
returns-clause-err g c =
    let w = whole c.self.inside.program c.self.inside.scope_parents.items c.self.inside.outputs c.self.inside.order c.self.inside.net c.self.inside.threads (g.A.Agenda.schedule c.self.inside.agenda) c.self.inside.tasks c.self.inside.running c.self.inside.steps c.self.inside.peak c.self.inside.taken c.self.inside.ending c.self.inside.failed in
    err-both c.call_task_at.result c.call_task_at.ensures.kept c.call_task_at.ensures.still (λ (kept : c.call_task_at.new.tasks ≡ c.self.inside.tasks) (still : c.call_task_at.new.threads ≡ c.self.inside.threads).
    ap (λ (t : TasksNow). shown_of (record w { tasks = t; held = record w.held { threads = c.call_task_at.new.threads } })) kept ∙ ap (λ (t : KeyedTable). shown_of (record w { held = record w.held { threads = t } })) still ∙ c.self.view_is)
