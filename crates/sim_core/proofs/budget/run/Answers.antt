use Rattle.std.proofs.Common.{◌≡◌, ◌+◌, ◌≤◌, ◌∙◌, ℕ, refl, sym, subst, arith}
use Rattle.std.proofs.lemmas.Result.{err_from_is_err_and, on_err_weaker, on_ok_weaker}
use Rattle.sym_link.specs.declared.program.Program.{Program}
use Rattle.sim_core.specs.Engine.{EngineFails, EngineFollows, Shown}
use Rattle.sim_core.specs.Step.{after, step}
use Rattle.sim_core.proofs.RunsLemmas.{engine-more, engine-none, run-ended, run-fails, run-idle, run-idle-fails}
use Rattle.sim_core.proofs.budget.run.Goals as goal

-- a step of the engine as it stands is one of the engine as it was
follows-first : (p q : Program) (o r : ℕ) (old new : Shown) → p ≡ q → o ≡ r → EngineFollows (step p o) old new → EngineFollows (step q r) old new
follows-first p q o r old new e f k = subst (λ (x : Program). EngineFollows (step x r) old new) e (subst (λ (n : ℕ). EngineFollows (step p n) old new) f k)

fails-first : (p q : Program) (o r : ℕ) (old new : Shown) → p ≡ q → o ≡ r → EngineFails (step p o) old new → EngineFails (step q r) old new
fails-first p q o r old new e f k = subst (λ (x : Program). EngineFails (step x r) old new) e (subst (λ (n : ℕ). EngineFails (step p n) old new) f k)

pub loop-done-init : goal.loop-done-init
loop-done-init g c = record { counted = omega arith; going = c.requires.going; program = refl; order = refl; follows = engine-none c.args.engine.now.program c.args.engine.now.order c.args.engine.now }

pub loop-done-preserved : goal.loop-done-preserved
loop-done-preserved g c =
    let program = c.args.engine.now.program in
    let order = c.args.engine.now.order in
    let did = follows-first c.loop-done.engine.program program c.loop-done.engine.order order c.loop-done.engine c.step.new.self c.loop-done.invariant.program c.loop-done.invariant.order c.in_ok-ending.ensures.ok in
    record {
      counted = omega (arith, c.in_ok-ending.ensures.counted, c.loop-done.invariant.counted);
      going = sym c.in_ok-ending.ensures.answer ∙ c.in_default.is;
      program = did.program ∙ c.loop-done.invariant.program;
      order = did.order ∙ c.loop-done.invariant.order;
      follows = engine-more program order c.loop-done._done c.args.engine.now c.loop-done.engine c.step.new.self c.loop-done.invariant.follows did;
    }

pub returns-in-Some-clause-run : goal.returns-in-Some-clause-run
returns-in-Some-clause-run g c =
    let program = c.args.engine.now.program in
    let order = c.args.engine.now.order in
    let did = follows-first c.loop-done.engine.program program c.loop-done.engine.order order c.loop-done.engine c.step.new.self c.loop-done.invariant.program c.loop-done.invariant.order c.in_ok-ending.ensures.ok in
    let within : c.loop-done._done + 1 ≤ c.args.budget = omega arith in
    run-ended program order (c.loop-done._done + 1) c.args.budget c.in-Some.ending c.args.engine.now c.step.new.self within
    (engine-more program order c.loop-done._done c.args.engine.now c.loop-done.engine c.step.new.self c.loop-done.invariant.follows did)
    (sym c.in_ok-ending.ensures.answer ∙ c.in-Some.is)

pub returns-then-idle-clause-run : goal.returns-then-idle-clause-run
returns-then-idle-clause-run g c =
    let program = c.args.engine.now.program in
    let order = c.args.engine.now.order in
    let all : c.loop-done._done ≡ c.args.budget = omega arith in
    let so_far = subst (λ (n : ℕ). EngineFollows (after program order n) c.args.engine.now c.loop-done.engine) all c.loop-done.invariant.follows in
    on_ok_weaker c.step-then-idle.result
    (λ (k : EngineFollows (step c.loop-done.engine.program c.loop-done.engine.order) c.loop-done.engine c.step-then-idle.new.self).
    run-idle program order c.args.budget c.args.engine.now c.loop-done.engine c.step-then-idle.new.self so_far (sym c.idle.ensures ∙ c.if-idle.true)
    (follows-first c.loop-done.engine.program program c.loop-done.engine.order order c.loop-done.engine c.step-then-idle.new.self c.loop-done.invariant.program c.loop-done.invariant.order k))
    c.step-then-idle.ensures.ok

pub returns-then-idle-clause-err : goal.returns-then-idle-clause-err
returns-then-idle-clause-err g c =
    let program = c.args.engine.now.program in
    let order = c.args.engine.now.order in
    let all : c.loop-done._done ≡ c.args.budget = omega arith in
    let so_far = subst (λ (n : ℕ). EngineFollows (after program order n) c.args.engine.now c.loop-done.engine) all c.loop-done.invariant.follows in
    on_err_weaker c.step-then-idle.result
    (λ (k : EngineFails (step c.loop-done.engine.program c.loop-done.engine.order) c.loop-done.engine c.step-then-idle.new.self).
    run-idle-fails program order c.args.budget c.args.engine.now c.loop-done.engine c.step-then-idle.new.self so_far (sym c.idle.ensures ∙ c.if-idle.true)
    (fails-first c.loop-done.engine.program program c.loop-done.engine.order order c.loop-done.engine c.step-then-idle.new.self c.loop-done.invariant.program c.loop-done.invariant.order k))
    c.step-then-idle.ensures.err

pub returns-in_err-ending-clause-err : goal.returns-in_err-ending-clause-err
returns-in_err-ending-clause-err g c =
    let p = err_from_is_err_and c.from_residual.result c.from_residual.ensures.1 in
    let program = c.args.engine.now.program in
    let order = c.args.engine.now.order in
    let did = fails-first c.loop-done.engine.program program c.loop-done.engine.order order c.loop-done.engine c.step.new.self c.loop-done.invariant.program c.loop-done.invariant.order c.in_err-ending.ensures.err in
    let within : c.loop-done._done + 1 ≤ c.args.budget = omega arith in
    rw p.1 (run-fails program order c.loop-done._done c.args.budget c.args.engine.now c.loop-done.engine c.step.new.self within c.loop-done.invariant.follows did)
