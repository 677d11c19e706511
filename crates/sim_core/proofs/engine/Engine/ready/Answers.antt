use Rattle.std.proofs.Common.{◌≡◌, refl, sym, ap, subst, ◌∙◌}
use Rattle.std.proofs.lemmas.Result.{err_from_is_err_and}
use Rattle.sym_link.specs.declared.program.Program.{Program}
use Rattle.sim_core.specs.Machine.{phase}
use Rattle.sim_core.specs.Step.{idle}
use Rattle.sim_core.specs.Engine.{Shown}
use Rattle.sim_core.proofs.ReadyLemmas.{found-later, found-never, found-now, phase-fails}
use Rattle.sim_core.proofs.RefusedLemmas.{pending-unwritten, phase-unwritten, unwritten-by, unwritten-then}
use Rattle.sim_core.proofs.engine.Engine.ready.Goals as goal

pub returns-in-Ready-clause-ok : goal.returns-in-Ready-clause-ok
returns-in-Ready-clause-ok g c = found-now c.args.self.now.program c.args.self.now c.settle.new.self c.settle.ensures.follows (sym c.in-Ready.ensures.answer)

pub returns-in_err-phase-in-TimeEnds-clause-err : goal.returns-in_err-phase-in-TimeEnds-clause-err
returns-in_err-phase-in-TimeEnds-clause-err g c =
    let p = err_from_is_err_and c.from_residual.result c.from_residual.ensures.1 in
    rw p.1 (phase-fails c.args.self.now.program c.args.self.now c.settle.new.self c.phase.new.self c.settle.ensures.follows c.settle.ensures.rest (sym c.in-TimeEnds.ensures.answer) refl c.in_err-phase-in-TimeEnds.ensures.err)

pub returns-in_ok-phase-in-TimeEnds-clause-ok : goal.returns-in_ok-phase-in-TimeEnds-clause-ok
returns-in_ok-phase-in-TimeEnds-clause-ok g c =
    let mid = c.settle.new.self in
    found-later c.args.self.now.program c.args.self.now mid c.phase.new.self c.advance.new.self c.settle-in-TimeEnds.new.self c.settle.ensures.follows (sym c.in-TimeEnds.ensures.answer) (c.in-TimeEnds.ensures.some refl)
    (subst (λ (p : Program). c.phase.new.self ≡ record mid { machine = phase p mid.machine }) c.settle.ensures.follows.program c.in_ok-phase-in-TimeEnds.ensures.ok)
    c.advance.ensures.follows c.settle-in-TimeEnds.ensures.follows

pub returns-in_ok-phase-in-TimeEnds-clause-running : goal.returns-in_ok-phase-in-TimeEnds-clause-running
returns-in_ok-phase-in-TimeEnds-clause-running g c =
    ap (λ (s : Shown). s.machine.running) c.settle-in-TimeEnds.ensures.rest ∙ ap (λ (s : Shown). s.machine.running) c.advance.ensures.rest
    ∙ ap (λ (s : Shown). s.machine.running) c.in_ok-phase-in-TimeEnds.ensures.ok ∙ ap (λ (s : Shown). s.machine.running) c.settle.ensures.rest

pub returns-in_err-finish-in-Empty-clause-err : goal.returns-in_err-finish-in-Empty-clause-err
returns-in_err-finish-in-Empty-clause-err g c =
    let p = err_from_is_err_and c.from_residual-in_err-finish-in-Empty.result c.from_residual-in_err-finish-in-Empty.ensures.1 in
    rw p.1 (phase-fails c.args.self.now.program c.args.self.now c.settle.new.self c.finish.new.self c.settle.ensures.follows c.settle.ensures.rest (sym c.in-Empty.ensures.answer) refl c.in_err-finish-in-Empty.ensures.err)

pub returns-in_ok-finish-in-Empty-clause-ok : goal.returns-in_ok-finish-in-Empty-clause-ok
returns-in_ok-finish-in-Empty-clause-ok g c =
    let mid = c.settle.new.self in
    found-never c.args.self.now.program c.args.self.now mid c.finish.new.self c.settle.ensures.follows (c.in-Empty.ensures.none refl)
    (subst (λ (p : Program). c.finish.new.self ≡ record mid { machine = idle (phase p mid.machine) }) c.settle.ensures.follows.program c.in_ok-finish-in-Empty.ensures.ok)

pub returns-in-Ready-clause-still : goal.returns-in-Ready-clause-still
returns-in-Ready-clause-still g c = λ found. pending-unwritten c.args.self.now c.settle.new.self _ c.settle.ensures.rest

pub returns-in_ok-phase-in-TimeEnds-clause-still : goal.returns-in_ok-phase-in-TimeEnds-clause-still
returns-in_ok-phase-in-TimeEnds-clause-still g c = λ found.
    unwritten-by c.args.self.now.machine c.settle.new.self.machine c.settle-in-TimeEnds.new.self.machine (pending-unwritten c.args.self.now c.settle.new.self _ c.settle.ensures.rest)
    (unwritten-by c.settle.new.self.machine c.phase.new.self.machine c.settle-in-TimeEnds.new.self.machine (phase-unwritten c.settle.new.self c.phase.new.self c.in_ok-phase-in-TimeEnds.ensures.ok)
    (unwritten-by c.phase.new.self.machine c.advance.new.self.machine c.settle-in-TimeEnds.new.self.machine (pending-unwritten c.phase.new.self c.advance.new.self _ c.advance.ensures.rest)
    (pending-unwritten c.advance.new.self c.settle-in-TimeEnds.new.self _ c.settle-in-TimeEnds.ensures.rest)))

pub returns-in_err-phase-in-TimeEnds-clause-kept : goal.returns-in_err-phase-in-TimeEnds-clause-kept
returns-in_err-phase-in-TimeEnds-clause-kept g c =
    let p = err_from_is_err_and c.from_residual.result c.from_residual.ensures.1 in
    rw p.1 (unwritten-then c.args.self.now.machine c.settle.new.self.machine c.phase.new.self.machine (pending-unwritten c.args.self.now c.settle.new.self _ c.settle.ensures.rest) c.in_err-phase-in-TimeEnds.ensures.err.kept)

pub returns-in_err-finish-in-Empty-clause-kept : goal.returns-in_err-finish-in-Empty-clause-kept
returns-in_err-finish-in-Empty-clause-kept g c =
    let p = err_from_is_err_and c.from_residual-in_err-finish-in-Empty.result c.from_residual-in_err-finish-in-Empty.ensures.1 in
    rw p.1 (unwritten-then c.args.self.now.machine c.settle.new.self.machine c.finish.new.self.machine (pending-unwritten c.args.self.now c.settle.new.self _ c.settle.ensures.rest) c.in_err-finish-in-Empty.ensures.err.kept)
