use Rattle.std.proofs.Common.{◌∙◌, sym, ap}
use Rattle.std.proofs.lemmas.Result.{err_from_is_err_and, on_ok_weaker}
use Rattle.sys_tasks.specs.Tasks.{TasksNow}
use Rattle.sys_tasks.proofs.PhaseLemmas.{begun-holds, begun-widths, headed, headed-part, later-part, none-part, on_err_both, undumped, unheaded}
use Rattle.sys_tasks.proofs.WriterLemmas.{writes-on}
use Rattle.sys_tasks.proofs.tasks.Tasks.write_dump.Goals as goal

pub returns-then-self-eq0-clause-ok : goal.returns-then-self-eq0-clause-ok
returns-then-self-eq0-clause-ok c = λ words holds. undumped c.args.now words c.args.self.now (ap (λ (t : TasksNow). t.state.dumping) (sym c.self.view_is) ∙ c.if-self-eq0.true)

pub returns-in_err-write_header-clause-part : goal.returns-in_err-write_header-clause-part
returns-in_err-write_header-clause-part c =
    let p = err_from_is_err_and c.from_residual.result c.from_residual.ensures.1 in
    rw p.1 (λ words holds. none-part c.args.now words c.args.self.now _ c.in_err-write_header.ensures.err)

pub write_phase-requires-clause-widths : goal.write_phase-requires-clause-widths
write_phase-requires-clause-widths c = begun-widths c.args.self.now _ c.args.plane.now c.in_ok-write_header.ensures.ok c.requires

pub returns-then-self-eq1-clause-ok : goal.returns-then-self-eq1-clause-ok
returns-then-self-eq1-clause-ok c =
    let one = ap (λ (t : TasksNow). t.state.dumping) (sym c.self.view_is) ∙ c.if-self-eq1.true in
    on_ok_weaker c.write_phase.result
    (λ told words holds. headed c.args.now words c.args.self.now c.write_header.new.self c.write_phase.new.self one c.in_ok-write_header.ensures.ok (told words (begun-holds words c.args.self.now _ c.args.plane.now c.in_ok-write_header.ensures.ok holds)))
    c.write_phase.ensures.ok

pub returns-then-self-eq1-clause-part : goal.returns-then-self-eq1-clause-part
returns-then-self-eq1-clause-part c =
    let one = ap (λ (t : TasksNow). t.state.dumping) (sym c.self.view_is) ∙ c.if-self-eq1.true in
    on_err_both c.write_phase.result c.write_phase.ensures.part c.write_phase.ensures.kept
    (λ told kept words holds.
    headed-part c.args.now words c.args.self.now c.write_header.new.self c.write_phase.new.self one c.in_ok-write_header.ensures.ok (told words (begun-holds words c.args.self.now _ c.args.plane.now c.in_ok-write_header.ensures.ok holds)) kept)

pub write_phase-requires-2-clause-dumping : goal.write_phase-requires-2-clause-dumping
write_phase-requires-2-clause-dumping c = ap (λ (t : TasksNow). t.state.dumping) (sym c.self.view_is) ∙ writes-on _ c.self.inside.state c.self.inside.writer c.self.invariant.writing c.if-self-eq0.false c.if-self-eq1.false

pub returns-clause-ok : goal.returns-clause-ok
returns-clause-ok c =
    let two = ap (λ (t : TasksNow). t.state.dumping) (sym c.self.view_is) ∙ writes-on _ c.self.inside.state c.self.inside.writer c.self.invariant.writing c.if-self-eq0.false c.if-self-eq1.false in
    on_ok_weaker c.write_phase-2.result (λ told words holds. unheaded c.args.now words c.args.self.now c.write_phase-2.new.self two (told words holds)) c.write_phase-2.ensures.ok

pub returns-clause-part : goal.returns-clause-part
returns-clause-part c =
    let two = ap (λ (t : TasksNow). t.state.dumping) (sym c.self.view_is) ∙ writes-on _ c.self.inside.state c.self.inside.writer c.self.invariant.writing c.if-self-eq0.false c.if-self-eq1.false in
    on_err_both c.write_phase-2.result c.write_phase-2.ensures.part c.write_phase-2.ensures.kept (λ told kept words holds. later-part c.args.now words c.args.self.now c.write_phase-2.new.self two (told words holds) kept)
