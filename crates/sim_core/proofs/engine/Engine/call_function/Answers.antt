use Rattle.std.proofs.Common.{◌≡◌, ℕ, Some, List, slice_get, ap, subst, ◌∙◌}
use Rattle.std.specs.Prelude.{slice_index}
use Rattle.std.proofs.lemmas.Result.{on_err_weaker, on_ok_weaker}
use Rattle.vvp_threads.specs.declared.thread.Thread.{Thread}
use Rattle.vvp_threads.specs.Keyed.{IsKeyOf, KeyedTable}
use Rattle.vvp_threads.specs.Table.{thread_of}
use Rattle.vvp_ops.specs.declared.op.Op.{Op}
use Rattle.net_engine.specs.Net.{words_of}
use Rattle.sys_tasks.specs.Tasks.{answered}
use Rattle.sim_core.specs.Machine.{framed}
use Rattle.sim_core.specs.Effects.{function_called, items_of}
use Rattle.sim_core.specs.Engine.{Shown}
use Rattle.sim_core.proofs.MethodLemmas.{function-kept, function-ready, op-at, place-there, same-op, scope-there-at, tasks-answer}
use Rattle.sim_core.proofs.TaskLemmas.{answered_frame, function-shown}
use Rattle.sim_core.proofs.WholeLemmas.{runs-at, shown_of, whole}
use Rattle.sim_core.proofs.SoundLemmas.{lasts}
use Rattle.sim_core.proofs.engine.Engine.call_function.Goals as goal

pub place_of-place-requires : goal.place_of-place-requires
place_of-place-requires g c =
    let w = whole c.self.inside.program c.self.inside.scope_parents.items c.self.inside.outputs c.self.inside.order c.self.inside.net c.self.inside.threads (g.A.Agenda.schedule c.self.inside.agenda) c.self.inside.tasks c.self.inside.running c.self.inside.steps c.self.inside.peak c.self.inside.taken c.self.inside.ending c.self.inside.failed in
    let a = runs-at w c.args.self.now c.requires.at.0 c.requires.at.1 c.unwrap-running.result c.self.view_is c.self.invariant.sound c.requires.at.2.runs c.unwrap-running.ensures in
    (c.requires.at.0, c.requires.at.1, a.key, a.live)

pub op_there-op-requires : goal.op_there-op-requires
op_there-op-requires g c =
    let w = whole c.self.inside.program c.self.inside.scope_parents.items c.self.inside.outputs c.self.inside.order c.self.inside.net c.self.inside.threads (g.A.Agenda.schedule c.self.inside.agenda) c.self.inside.tasks c.self.inside.running c.self.inside.steps c.self.inside.peak c.self.inside.taken c.self.inside.ending c.self.inside.failed in
    let a = runs-at w c.args.self.now c.requires.at.0 c.requires.at.1 c.unwrap-running.result c.self.view_is c.self.invariant.sound c.requires.at.2.runs c.unwrap-running.ensures in
    place-there w c.args.self.now c.requires.at.0 c.requires.at.1 c.place_of-place.result c.as_slice.result.now c.self.view_is c.requires.at.2 (c.place_of-place.ensures c.requires.at.0 c.requires.at.1 a.key a.live) c.as_slice.ensures

pub scope_there-scope-requires : goal.scope_there-scope-requires
scope_there-scope-requires g c =
    let w = whole c.self.inside.program c.self.inside.scope_parents.items c.self.inside.outputs c.self.inside.order c.self.inside.net c.self.inside.threads (g.A.Agenda.schedule c.self.inside.agenda) c.self.inside.tasks c.self.inside.running c.self.inside.steps c.self.inside.peak c.self.inside.taken c.self.inside.ending c.self.inside.failed in
    let a = runs-at w c.args.self.now c.requires.at.0 c.requires.at.1 c.unwrap-running.result c.self.view_is c.self.invariant.sound c.requires.at.2.runs c.unwrap-running.ensures in
    scope-there-at w c.args.self.now c.requires.at.0 c.requires.at.1 c.place_of-place.result c.as_slice-2.result.now c.self.view_is a.sound c.requires.at.2 (c.place_of-place.ensures c.requires.at.0 c.requires.at.1 a.key a.live) c.as_slice-2.ensures

pub call_function_at-requires-clause-answers : goal.call_function_at-requires-clause-answers
call_function_at-requires-clause-answers g c =
    let w = whole c.self.inside.program c.self.inside.scope_parents.items c.self.inside.outputs c.self.inside.order c.self.inside.net c.self.inside.threads (g.A.Agenda.schedule c.self.inside.agenda) c.self.inside.tasks c.self.inside.running c.self.inside.steps c.self.inside.peak c.self.inside.taken c.self.inside.ending c.self.inside.failed in
    let a = runs-at w c.args.self.now c.requires.at.0 c.requires.at.1 c.unwrap-running.result c.self.view_is c.self.invariant.sound c.requires.at.2.runs c.unwrap-running.ensures in
    tasks-answer w.held a.sound c.widths.ensures

pub call_function_at-requires-clause-live : goal.call_function_at-requires-clause-live
call_function_at-requires-clause-live g c =
    let w = whole c.self.inside.program c.self.inside.scope_parents.items c.self.inside.outputs c.self.inside.order c.self.inside.net c.self.inside.threads (g.A.Agenda.schedule c.self.inside.agenda) c.self.inside.tasks c.self.inside.running c.self.inside.steps c.self.inside.peak c.self.inside.taken c.self.inside.ending c.self.inside.failed in
    let a = runs-at w c.args.self.now c.requires.at.0 c.requires.at.1 c.unwrap-running.result c.self.view_is c.self.invariant.sound c.requires.at.2.runs c.unwrap-running.ensures in
    let ready = function-ready w c.args.self.now c.requires.at.0 c.requires.at.1 c.unwrap-running.result c.op_there-op.result.now c.scope_there-scope.result c.self.view_is c.self.invariant.sound c.requires.at.2 c.unwrap-running.ensures c.requires.at.3
    (op-at c.as_slice.result.now w.held.program c.place_of-place.result c.requires.at.1.frame.pc c.op_there-op.result.now c.op_there-op.ensures c.as_slice.ensures (c.place_of-place.ensures c.requires.at.0 c.requires.at.1 a.key a.live))
    (c.scope_there-scope.ensures ∙ ap (λ (xs : List ℕ). slice_index xs c.place_of-place.result) c.as_slice-2.ensures ∙ ap (λ (k : ℕ). slice_index w.held.program.code_scopes k) (c.place_of-place.ensures c.requires.at.0 c.requires.at.1 a.key a.live)) in
    (c.requires.at.0, c.requires.at.1, ready.0, ready.1, ready.2, ready.3, ready.4)

pub invariant_of-self : goal.invariant_of-self
invariant_of-self g c =
    let w = whole c.self.inside.program c.self.inside.scope_parents.items c.self.inside.outputs c.self.inside.order c.self.inside.net c.self.inside.threads (g.A.Agenda.schedule c.self.inside.agenda) c.self.inside.tasks c.self.inside.running c.self.inside.steps c.self.inside.peak c.self.inside.taken c.self.inside.ending c.self.inside.failed in
    lasts _ _ (ap (λ (s : Shown). s.failed) c.self.view_is ∙ c.requires.at.2.runs.fine)
    (λ fine.
    let a = runs-at w c.args.self.now c.requires.at.0 c.requires.at.1 c.unwrap-running.result c.self.view_is c.self.invariant.sound c.requires.at.2.runs c.unwrap-running.ensures in
    function-kept w c.op_there-op.result.now (λ t. answered c.op_there-op.result.now c.scope_there-scope.result (items_of c.op_there-op.result.now t.frame) c.now-now.result (words_of w.held.net.nodes w.held.net.values) w.tasks.design) c.requires.at.0 c.requires.at.1 c.unwrap-running.result c.call_function_at.new.threads c.call_function_at.result a
    c.call_function_at.ensures.ok c.call_function_at.ensures.err)

pub returns-clause-ok : goal.returns-clause-ok
returns-clause-ok g c =
    let w = whole c.self.inside.program c.self.inside.scope_parents.items c.self.inside.outputs c.self.inside.order c.self.inside.net c.self.inside.threads (g.A.Agenda.schedule c.self.inside.agenda) c.self.inside.tasks c.self.inside.running c.self.inside.steps c.self.inside.peak c.self.inside.taken c.self.inside.ending c.self.inside.failed in
    on_ok_weaker c.call_function_at.result
    (λ (goes : (s : ℕ) (t : Thread) → IsKeyOf w.held.threads s c.unwrap-running.result.key → thread_of w.held.threads.table s ≡ Some t
    → c.call_function_at.new.threads ≡ record w.held.threads { table = framed s (answered_frame c.op_there-op.result.now (answered c.op_there-op.result.now c.scope_there-scope.result (items_of c.op_there-op.result.now t.frame) c.now-now.result (words_of w.held.net.nodes w.held.net.values) w.tasks.design) t.frame) w.held.threads.table }). λ serial thread op can at.
    let a = runs-at w c.args.self.now serial thread c.unwrap-running.result c.self.view_is c.self.invariant.sound can.runs c.unwrap-running.ensures in
    let here = c.place_of-place.ensures serial thread a.key a.live in
    let stands = op-at c.as_slice.result.now w.held.program c.place_of-place.result thread.frame.pc c.op_there-op.result.now c.op_there-op.ensures c.as_slice.ensures here in
    let same = same-op w.held.program thread.frame.pc c.op_there-op.result.now op stands (ap (λ (s : Shown). slice_get s.program.code thread.frame.pc) c.self.view_is ∙ at) in
    let after = shown_of (record w { held = record w.held { threads = c.call_function_at.new.threads } }) in
    subst (λ (o : Op ℕ). after ≡ record c.args.self.now { machine = function_called c.args.self.now.program o serial thread.frame c.args.self.now.machine }) same
    (function-shown w c.args.self.now c.op_there-op.result.now c.scope_there-scope.result c.now-now.result serial thread c.call_function_at.new.threads c.self.view_is a.sound.nodes
    (c.scope_there-scope.ensures ∙ ap (λ (xs : List ℕ). slice_index xs c.place_of-place.result) c.as_slice-2.ensures ∙ ap (λ (k : ℕ). slice_index w.held.program.code_scopes k) here) c.now-now.ensures
    (goes serial thread a.key a.live))) c.call_function_at.ensures.ok

pub returns-clause-err : goal.returns-clause-err
returns-clause-err g c =
    let w = whole c.self.inside.program c.self.inside.scope_parents.items c.self.inside.outputs c.self.inside.order c.self.inside.net c.self.inside.threads (g.A.Agenda.schedule c.self.inside.agenda) c.self.inside.tasks c.self.inside.running c.self.inside.steps c.self.inside.peak c.self.inside.taken c.self.inside.ending c.self.inside.failed in
    on_err_weaker c.call_function_at.result (λ (still : c.call_function_at.new.threads ≡ c.self.inside.threads). ap (λ (t : KeyedTable). shown_of (record w { held = record w.held { threads = t } })) still ∙ c.self.view_is) c.call_function_at.ensures.err
