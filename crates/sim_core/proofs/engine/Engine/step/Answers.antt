use Rattle.std.proofs.Common.{sym, subst}
use Rattle.sim_core.specs.Engine.{EngineFails, Shown}
use Rattle.sim_core.specs.Step.{step}
use Rattle.sim_core.proofs.FailLemmas.{engine-fails, engine-follows}
use Rattle.sim_core.proofs.SoundLemmas.{lasts-failed}
use Rattle.sim_core.proofs.SentLemmas.{step-after}
use Rattle.sim_core.proofs.TurnLemmas.{step-refused}
use Rattle.sim_core.proofs.engine.Engine.step.Goals as goal

pub returns-then-self-clause-err : goal.returns-then-self-clause-err
returns-then-self-clause-err g c = step-refused c.args.self.now.program c.args.self.now.order c.args.self.now

pub returns-in-Ok-clause-ok : goal.returns-in-Ok-clause-ok
returns-in-Ok-clause-ok g c =
    engine-follows (step c.args.self.now.program c.args.self.now.order) c.args.self.now c.go_on.new.self (step-after c.args.self.now.program c.args.self.now.order) c.in-Ok.ensures.ok

pub returns-in-Err-clause-err : goal.returns-in-Err-clause-err
returns-in-Err-clause-err g c =
    let k = subst (λ (s : Shown). EngineFails (step c.args.self.now.program c.args.self.now.order) c.args.self.now s) (sym c.self-2.view_is)
    (engine-fails (step c.args.self.now.program c.args.self.now.order) c.args.self.now c.go_on.new.self (step-after c.args.self.now.program c.args.self.now.order) c.in-Err.ensures.err) in
    record { out = k.out; dump = k.dump; program = k.program; order = k.order }

pub invariant_of-self : goal.invariant_of-self
invariant_of-self g c = lasts-failed _ c.self-2.invariant.stands
