use Rattle.std.proofs.Common.{Some, ap, ◌∙◌}
use Rattle.std.proofs.lemmas.Result.{err_from_is_err_and}
use Rattle.sim_core.specs.Engine.{Shown}
use Rattle.sim_core.proofs.engine.Engine.finish.Goals as goal

pub returns-in_err-phase-clause-err : goal.returns-in_err-phase-clause-err
returns-in_err-phase-clause-err g c =
    let p = err_from_is_err_and c.from_residual.result c.from_residual.ensures.1 in
    rw p.1 c.in_err-phase.ensures.err

pub returns-clause-ok : goal.returns-clause-ok
returns-clause-ok g c = ap (λ (s : Shown). record s { machine = record s.machine { ending = Some c.args.ending } }) (c.self.view_is ∙ c.in_ok-phase.ensures.ok)
