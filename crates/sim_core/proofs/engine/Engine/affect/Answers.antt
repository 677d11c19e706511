use Rattle.std.proofs.Common.{◌≡◌, ℕ, ℤ, Some, refl, ap, subst, rules, to_z, of_z, w64, FitsSigned}
use Rattle.std.specs.List.{slice_get}
use Rattle.std.proofs.lemmas.Int.{to_z-of_z}
use Rattle.std.proofs.lemmas.Result.{on_err_weaker, on_ok_weaker}
use Rattle.sym_link.specs.Roots.{nodes_of}
use Rattle.net_engine.specs.Delivery.{write}
use Rattle.sim_core.specs.Machine.{at_next, on_state}
use Rattle.op_exec.specs.declared.effect.Effect.{Effect}
use Rattle.vvp_threads.specs.declared.thread.Thread.{Thread}
use Rattle.vvp_ops.specs.declared.op.Op.{Op}
use Rattle.sim_core.specs.Effects.{assigned_later, forked, function_called}
use Rattle.sim_core.specs.Engine.{Shown}
use Rattle.sim_core.specs.Parts.{CanGoOn, EffectFits, ShownFails, ShownFollows}
use Rattle.sim_core.proofs.EffectLemmas.{func-exact, join-exact, next-exact, place-exact, shown-same, trap-shown, wait-exact}
use Rattle.sim_core.proofs.RefusedLemmas.{untouched-same}
use Rattle.sim_core.proofs.engine.Engine.affect.Goals as goal

pub go_next-requires : goal.go_next-requires
go_next-requires g c = record { at = (c.requires.at.0, c.requires.at.1, c.requires.at.2) }

pub returns-in-Next-clause-ok : goal.returns-in-Next-clause-ok
returns-in-Next-clause-ok g c = rw c.in-Next.is (λ serial thread op can at. next-exact serial thread.frame c.args.self.now c.go_next.new.self (c.go_next.ensures serial thread can))

pub go_to-requires : goal.go_to-requires
go_to-requires g c = record { at = (c.requires.at.0, c.requires.at.1, c.requires.at.2.runs) }

pub returns-in-Goto-clause-ok : goal.returns-in-Goto-clause-ok
returns-in-Goto-clause-ok g c = rw c.in-Goto.is (λ serial thread op can at. place-exact serial _ thread.frame c.args.self.now c.go_to.new.self (c.go_to.ensures serial thread can.runs))

pub set-requires : goal.set-requires
set-requires g c = record { at = (c.requires.at.0, c.requires.at.1, c.requires.at.2, subst (λ (e : Effect). EffectFits c.args.self.now c.requires.at.0 c.requires.at.1.frame e) c.in-Set.is c.requires.at.3) }

pub returns-in-Set-clause-ok : goal.returns-in-Set-clause-ok
returns-in-Set-clause-ok g c =
    let fits : FitsSigned w64 c.in-Set.offset = search rules in
    rw c.in-Set.is (λ serial thread op can at.
    subst (λ (z : ℤ). ShownFollows (λ machine. on_state (write (nodes_of c.args.self.now.program) c.in-Set.item c.in-Set.word z c.in-Set.value) (at_next serial thread.frame machine)) c.args.self.now c.set.new.self)
    (to_z-of_z w64 c.in-Set.offset fits) (c.set.ensures serial thread can))

pub delay-requires : goal.delay-requires
delay-requires g c = record { at = (c.requires.at.0, c.requires.at.1, c.requires.at.2) }

pub returns-in-Delay-clause-ok : goal.returns-in-Delay-clause-ok
returns-in-Delay-clause-ok g c = rw c.in-Delay.is (λ serial thread op can at. c.delay.ensures serial thread can)

pub wait-requires : goal.wait-requires
wait-requires g c = record { at = (c.requires.at.0, c.requires.at.1, c.requires.at.2, subst (λ (e : Effect). EffectFits c.args.self.now c.requires.at.0 c.requires.at.1.frame e) c.in-Wait.is c.requires.at.3) }

pub returns-in-Wait-clause-ok : goal.returns-in-Wait-clause-ok
returns-in-Wait-clause-ok g c = rw c.in-Wait.is (λ serial thread op can at. wait-exact _ serial thread.frame c.args.self.now c.wait.new.self (c.wait.ensures serial thread can))

pub join-requires : goal.join-requires
join-requires g c = record { at = (c.requires.at.0, c.requires.at.1, c.requires.at.2, subst (λ (e : Effect). EffectFits c.args.self.now c.requires.at.0 c.requires.at.1.frame e) c.in-Join.is c.requires.at.3) }

pub returns-in-Join-clause-ok : goal.returns-in-Join-clause-ok
returns-in-Join-clause-ok g c = rw c.in-Join.is (λ serial thread op can at. join-exact _ serial thread.frame c.args.self.now c.join.new.self (c.join.ensures serial thread can))

pub disable-requires : goal.disable-requires
disable-requires g c = record { at = (c.requires.at.0, c.requires.at.1, c.requires.at.2, subst (λ (e : Effect). EffectFits c.args.self.now c.requires.at.0 c.requires.at.1.frame e) c.in-Disable.is c.requires.at.3) }

pub returns-in-Disable-clause-ok : goal.returns-in-Disable-clause-ok
returns-in-Disable-clause-ok g c = rw c.in-Disable.is (λ serial thread op can at. c.disable.ensures serial thread can)

pub trigger-requires : goal.trigger-requires
trigger-requires g c = record { at = (c.requires.at.0, c.requires.at.1, c.requires.at.2, subst (λ (e : Effect). EffectFits c.args.self.now c.requires.at.0 c.requires.at.1.frame e) c.in-Trigger.is c.requires.at.3) }

pub returns-in-Trigger-clause-ok : goal.returns-in-Trigger-clause-ok
returns-in-Trigger-clause-ok g c = rw c.in-Trigger.is (λ serial thread op can at. c.trigger.ensures serial thread can)

pub force-requires : goal.force-requires
force-requires g c = record { at = (c.requires.at.0, c.requires.at.1, c.requires.at.2, subst (λ (e : Effect). EffectFits c.args.self.now c.requires.at.0 c.requires.at.1.frame e) c.in-Force.is c.requires.at.3) }

pub returns-in-Force-clause-ok : goal.returns-in-Force-clause-ok
returns-in-Force-clause-ok g c = rw c.in-Force.is (λ serial thread op can at. c.force.ensures serial thread can)

pub release-requires : goal.release-requires
release-requires g c = record { at = (c.requires.at.0, c.requires.at.1, c.requires.at.2, subst (λ (e : Effect). EffectFits c.args.self.now c.requires.at.0 c.requires.at.1.frame e) c.in-Release.is c.requires.at.3) }

pub returns-in-Release-clause-ok : goal.returns-in-Release-clause-ok
returns-in-Release-clause-ok g c = rw c.in-Release.is (λ serial thread op can at. c.release.ensures serial thread can)

pub end-requires : goal.end-requires
end-requires g c = record { at = (c.requires.at.0, c.requires.at.1, c.requires.at.2.runs) }

pub returns-in-End-clause-ok : goal.returns-in-End-clause-ok
returns-in-End-clause-ok g c = rw c.in-End.is (λ serial thread op can at. c.end.ensures serial thread can.runs)

pub trap-requires : goal.trap-requires
trap-requires g c = record { at = (c.requires.at.0, c.requires.at.1, c.requires.at.2.runs) }

pub returns-in-Trap-clause-ok : goal.returns-in-Trap-clause-ok
returns-in-Trap-clause-ok g c = rw c.in-Trap.is (λ serial thread op can at. trap-shown _ serial thread.frame c.args.self.now c.trap.new.self (c.trap.ensures serial thread can.runs))

pub assign-requires : goal.assign-requires
assign-requires g c = record { at = (c.requires.at.0, c.requires.at.1, c.requires.at.2, subst (λ (e : Effect). EffectFits c.args.self.now c.requires.at.0 c.requires.at.1.frame e) c.in-Assign.is c.requires.at.3) }

pub call_task-requires : goal.call_task-requires
call_task-requires g c = record { at = (c.requires.at.0, c.requires.at.1, c.requires.at.2, subst (λ (e : Effect). EffectFits c.args.self.now c.requires.at.0 c.requires.at.1.frame e) c.in-Task.is c.requires.at.3) }

pub call_function-requires : goal.call_function-requires
call_function-requires g c = record { at = (c.requires.at.0, c.requires.at.1, c.requires.at.2, subst (λ (e : Effect). EffectFits c.args.self.now c.requires.at.0 c.requires.at.1.frame e) c.in-Func.is c.requires.at.3) }

pub fork-requires-clause-at : goal.fork-requires-clause-at
fork-requires-clause-at g c = (c.requires.at.0, c.requires.at.1, c.requires.at.2, subst (λ (e : Effect). EffectFits c.args.self.now c.requires.at.0 c.requires.at.1.frame e) c.in-Fork.is c.requires.at.3)

pub returns-in-Assign-clause-ok : goal.returns-in-Assign-clause-ok
returns-in-Assign-clause-ok g c =
    let fits : FitsSigned w64 c.in-Assign.offset = search rules in
    rw c.in-Assign.is (on_ok_weaker c.assign.result
    (λ (k : (serial : ℕ) (thread : Thread) → CanGoOn c.args.self.now serial thread
    → ShownFollows (assigned_later c.in-Assign.item c.in-Assign.word (to_z w64 (of_z w64 c.in-Assign.offset)) c.in-Assign.value c.in-Assign.delay serial thread.frame) c.args.self.now c.assign.new.self). λ serial thread op can at.
    subst (λ (z : ℤ). ShownFollows (assigned_later c.in-Assign.item c.in-Assign.word z c.in-Assign.value c.in-Assign.delay serial thread.frame) c.args.self.now c.assign.new.self)
    (to_z-of_z w64 c.in-Assign.offset fits) (k serial thread can)) c.assign.ensures.ok)

pub returns-in-Assign-clause-err : goal.returns-in-Assign-clause-err
returns-in-Assign-clause-err g c =
    let fits : FitsSigned w64 c.in-Assign.offset = search rules in
    rw c.in-Assign.is (on_err_weaker c.assign.result
    (λ (k : (serial : ℕ) (thread : Thread) → CanGoOn c.args.self.now serial thread
    → ShownFails (assigned_later c.in-Assign.item c.in-Assign.word (to_z w64 (of_z w64 c.in-Assign.offset)) c.in-Assign.value c.in-Assign.delay serial thread.frame) c.args.self.now c.assign.new.self). λ serial thread op can at.
    subst (λ (z : ℤ). ShownFails (assigned_later c.in-Assign.item c.in-Assign.word z c.in-Assign.value c.in-Assign.delay serial thread.frame) c.args.self.now c.assign.new.self)
    (to_z-of_z w64 c.in-Assign.offset fits) (k serial thread can)) c.assign.ensures.err)

pub returns-in-Fork-clause-ok : goal.returns-in-Fork-clause-ok
returns-in-Fork-clause-ok g c = rw c.in-Fork.is (on_ok_weaker c.fork.result
    (λ (k : (serial : ℕ) (thread : Thread) → CanGoOn c.args.self.now serial thread → ShownFollows (forked c.in-Fork.code c.in-Fork.scope serial thread.frame) c.args.self.now c.fork.new.self). λ serial thread op can at. k serial thread can) c.fork.ensures.ok)

pub returns-in-Fork-clause-err : goal.returns-in-Fork-clause-err
returns-in-Fork-clause-err g c = rw c.in-Fork.is (on_err_weaker c.fork.result
    (λ (k : (serial : ℕ) (thread : Thread) → CanGoOn c.args.self.now serial thread → ShownFails (forked c.in-Fork.code c.in-Fork.scope serial thread.frame) c.args.self.now c.fork.new.self). λ serial thread op can at. k serial thread can) c.fork.ensures.err)

pub returns-in-Task-clause-ok : goal.returns-in-Task-clause-ok
returns-in-Task-clause-ok g c = rw c.in-Task.is c.call_task.ensures.ok

pub returns-in-Task-clause-err : goal.returns-in-Task-clause-err
returns-in-Task-clause-err g c = rw c.in-Task.is c.call_task.ensures.err

pub returns-in-Func-clause-ok : goal.returns-in-Func-clause-ok
returns-in-Func-clause-ok g c = rw c.in-Func.is (on_ok_weaker c.call_function.result
    (λ (k : (serial : ℕ) (thread : Thread) (op : Op ℕ) → CanGoOn c.args.self.now serial thread → slice_get c.args.self.now.program.code thread.frame.pc ≡ Some op
    → c.call_function.new.self ≡ record c.args.self.now { machine = function_called c.args.self.now.program op serial thread.frame c.args.self.now.machine }). λ serial thread op can at.
    func-exact c.args.self.now.program op serial thread.frame c.args.self.now c.call_function.new.self (k serial thread op can at)) c.call_function.ensures.ok)

pub returns-in-Func-clause-err : goal.returns-in-Func-clause-err
returns-in-Func-clause-err g c = rw c.in-Func.is (on_err_weaker c.call_function.result
    (λ (k : c.call_function.new.self ≡ c.args.self.now). λ serial thread op can at.
    shown-same (function_called c.args.self.now.program op serial thread.frame) c.args.self.now c.call_function.new.self (λ m. refl) (ap (λ (s : Shown). s.machine.tasks) k) (ap (λ (s : Shown). s.program) k) (ap (λ (s : Shown). s.order) k)) c.call_function.ensures.err)

pub returns-in-Func-clause-kept : goal.returns-in-Func-clause-kept
returns-in-Func-clause-kept g c = on_err_weaker c.call_function.result
    (λ (k : c.call_function.new.self ≡ c.args.self.now). untouched-same c.args.self.now c.call_function.new.self k) c.call_function.ensures.err
