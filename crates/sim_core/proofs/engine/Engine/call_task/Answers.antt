use Rattle.std.proofs.Common.{◌≡◌, ap, ◌∙◌}
use Rattle.std.proofs.lemmas.Result.{err_from_is_err_and, on_err_weaker, on_ok_weaker}
use Rattle.sim_core.specs.Effects.{told}
use Rattle.sys_tasks.specs.declared.names.Said.TheVariants.{Going}
use Rattle.sim_core.specs.Engine.{Shown}
use Rattle.sim_core.specs.Parts.{PhaseCut}
use Rattle.sim_core.proofs.MethodLemmas.{err-both, opcode-there}
use Rattle.sim_core.proofs.TaskLemmas.{call-fails, call-follows, told-fails}
use Rattle.sim_core.proofs.RefusedLemmas.{task-untouched, untouched-same, untouched-then}
use Rattle.sim_core.proofs.engine.Engine.call_task.Goals as goal

pub do_task-requires : goal.do_task-requires
do_task-requires g c = record { at = c.requires.at }

pub told-requires : goal.told-requires
told-requires g c =
    let there = opcode-there c.args.self.now c.requires.at.0 c.requires.at.1 c.requires.at.2 in
    ap (λ (s : Shown). s.failed) (c.in_ok-said.ensures.ok c.requires.at.0 c.requires.at.1 there.0 c.requires.at.2 there.1) ∙ c.requires.at.2.runs.fine

pub returns-in_err-said-clause-err : goal.returns-in_err-said-clause-err
returns-in_err-said-clause-err g c =
    let p = err_from_is_err_and c.from_residual.result c.from_residual.ensures.1 in
    rw p.1 (λ serial thread op can at. call-fails c.args.self.now c.do_task.new.self op serial thread.frame c.in_err-said.ensures.err)

pub returns-clause-ok : goal.returns-clause-ok
returns-clause-ok g c = on_ok_weaker c.told.result
    (λ (goes : c.told.new.self ≡ record c.do_task.new.self { machine = told c.do_task.new.self.program c.in_ok-said.said c.do_task.new.self.machine }). λ serial thread op can at.
    call-follows c.args.self.now c.do_task.new.self c.told.new.self op c.in_ok-said.said serial thread.frame (c.in_ok-said.ensures.ok serial thread op can at) (c.in_ok-said.ensures.said serial thread op can at) goes) c.told.ensures.ok

pub returns-clause-err : goal.returns-clause-err
returns-clause-err g c = err-both c.told.result c.told.ensures.err c.told.ensures.ends
    (λ (cut : PhaseCut c.do_task.new.self c.told.new.self) (ends : c.in_ok-said.said ≡ Going → ⊥). λ serial thread op can at.
    told-fails c.args.self.now c.do_task.new.self c.told.new.self op c.in_ok-said.said serial thread.frame (c.in_ok-said.ensures.ok serial thread op can at) (c.in_ok-said.ensures.said serial thread op can at) ends cut)

pub returns-in_err-said-clause-kept : goal.returns-in_err-said-clause-kept
returns-in_err-said-clause-kept g c =
    let p = err_from_is_err_and c.from_residual.result c.from_residual.ensures.1 in
    rw p.1 (untouched-same c.args.self.now c.do_task.new.self c.in_err-said.ensures.err)

pub returns-clause-kept : goal.returns-clause-kept
returns-clause-kept g c =
    let there = opcode-there c.args.self.now c.requires.at.0 c.requires.at.1 c.requires.at.2 in
    on_err_weaker c.told.result
    (λ (cut : PhaseCut c.do_task.new.self c.told.new.self).
    untouched-then c.args.self.now.machine c.do_task.new.self.machine c.told.new.self.machine
    (task-untouched c.args.self.now c.do_task.new.self there.0 c.requires.at.0 c.requires.at.1.frame (c.in_ok-said.ensures.ok c.requires.at.0 c.requires.at.1 there.0 c.requires.at.2 there.1)) cut.kept) c.told.ensures.err
