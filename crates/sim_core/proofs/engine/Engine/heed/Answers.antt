use Rattle.std.proofs.Common.{◌≡◌, ℕ, Option, Some, subst}
use Rattle.std.specs.List.{slice_get}
use Rattle.std.proofs.lemmas.Result.{on_err_weaker, on_ok_weaker}
use Rattle.vvp_threads.specs.declared.thread.Thread.{Thread}
use Rattle.vvp_ops.specs.declared.op.Op.{Op}
use Rattle.op_exec.specs.declared.effect.Effect.{Effect}
use Rattle.op_exec.specs.declared.effect.TrapKind.TheVariants.{OffEnd}
use Rattle.sim_core.specs.Effects.{affect}
use Rattle.sim_core.specs.Parts.{CanGoOn, MayAffect, ShownFails, ShownFollows}
use Rattle.sim_core.proofs.EffectLemmas.{trap-shown}
use Rattle.sim_core.proofs.MethodLemmas.{can-affect}
use Rattle.sim_core.proofs.engine.Engine.heed.Goals as goal

pub affect-requires-clause-at : goal.affect-requires-clause-at
affect-requires-clause-at g c =
    let may = subst (λ (o : Option Effect). MayAffect c.args.self.now c.requires.at.0 c.requires.at.1 o) c.in-Some.is c.requires.at.3 in
    (c.requires.at.0, c.requires.at.1, may.0, may.1)

pub returns-in-Some-clause-ok : goal.returns-in-Some-clause-ok
returns-in-Some-clause-ok g c = rw c.in-Some.is (on_ok_weaker c.affect.result
    (λ (k : (serial : ℕ) (thread : Thread) (op : Op ℕ) → CanGoOn c.args.self.now serial thread → slice_get c.args.self.now.program.code thread.frame.pc ≡ Some op
    → ShownFollows (affect c.args.self.now.program op c.in-Some.effect serial thread.frame) c.args.self.now c.affect.new.self).
    λ serial thread runs op at. k serial thread op (can-affect c.args.self.now serial thread op runs at) at) c.affect.ensures.ok)

pub returns-in-Some-clause-err : goal.returns-in-Some-clause-err
returns-in-Some-clause-err g c = rw c.in-Some.is (on_err_weaker c.affect.result
    (λ (k : (serial : ℕ) (thread : Thread) (op : Op ℕ) → CanGoOn c.args.self.now serial thread → slice_get c.args.self.now.program.code thread.frame.pc ≡ Some op
    → ShownFails (affect c.args.self.now.program op c.in-Some.effect serial thread.frame) c.args.self.now c.affect.new.self).
    λ serial thread runs op at. k serial thread op (can-affect c.args.self.now serial thread op runs at) at) c.affect.ensures.err)

pub returns-in-None-clause-ok : goal.returns-in-None-clause-ok
returns-in-None-clause-ok g c = rw c.in-None.is (λ serial thread runs. trap-shown OffEnd serial thread.frame c.args.self.now c.trap.new.self (c.trap.ensures serial thread runs))
