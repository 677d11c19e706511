use Rattle.std.proofs.Common.{sym, ◌∙◌}
use Rattle.sim_core.proofs.RunsLemmas.{engine-none, run-idle, run-spent}
use Rattle.vvp_top.proofs.delivery.end_budget.Goals as goal

pub returns-in-Ok-clause-shown : goal.returns-in-Ok-clause-shown
returns-in-Ok-clause-shown g c =
    let engine = c.args.engine.now in
    run-idle engine.program engine.order 0 engine engine c.step.new.self (engine-none engine.program engine.order engine) (sym c.idle.ensures ∙ c.if-idle.true) c.in-Ok.ensures.ok

pub returns-clause-shown : goal.returns-clause-shown
returns-clause-shown g c =
    let engine = c.args.engine.now in
    run-spent engine.program engine.order 0 engine engine (engine-none engine.program engine.order engine) (sym c.idle.ensures ∙ c.if-idle.false)
