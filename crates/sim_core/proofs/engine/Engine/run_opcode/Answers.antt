use Rattle.std.proofs.Common.{◌≡◌, ℕ}
use Rattle.std.proofs.lemmas.Result.{on_err_weaker, on_ok_weaker}
use Rattle.vvp_threads.specs.declared.thread.Thread.{Thread}
use Rattle.sim_core.specs.Engine.{Shown}
use Rattle.sim_core.specs.Parts.{Begun, ShownFails, ShownSteps, Untouched}
use Rattle.sim_core.specs.Step.{proceed}
use Rattle.sim_core.proofs.OpcodeLemmas.{has-begun}
use Rattle.sim_core.proofs.engine.Engine.run_opcode.Goals as goal

pub do_next-requires : goal.do_next-requires
do_next-requires g c = record {
  at = (
    c.args.self.now,
    c.requires.at.0,
    c.requires.at.1,
    has-begun c.args.self.now c.begin_step.new.self c.requires.at.0 c.requires.at.1 c.requires.at.2 c.begin_step.ensures.stepped c.begin_step.ensures.drawn c.requires.steps,
  );
}

pub returns-clause-ok : goal.returns-clause-ok
returns-clause-ok g c = on_ok_weaker c.do_next.result
    (λ (k : (old : Shown) (serial : ℕ) (thread : Thread) → Begun old c.begin_step.new.self serial thread → ShownSteps (proceed old.program serial) old c.do_next.new.self).
    λ serial thread runs. k c.args.self.now serial thread
    (has-begun c.args.self.now c.begin_step.new.self serial thread runs c.begin_step.ensures.stepped c.begin_step.ensures.drawn c.requires.steps))
    c.do_next.ensures.ok

pub returns-clause-err : goal.returns-clause-err
returns-clause-err g c = on_err_weaker c.do_next.result
    (λ (k : (old : Shown) (serial : ℕ) (thread : Thread) → Begun old c.begin_step.new.self serial thread → ShownFails (proceed old.program serial) old c.do_next.new.self).
    λ serial thread runs. k c.args.self.now serial thread
    (has-begun c.args.self.now c.begin_step.new.self serial thread runs c.begin_step.ensures.stepped c.begin_step.ensures.drawn c.requires.steps))
    c.do_next.ensures.err

pub returns-clause-kept : goal.returns-clause-kept
returns-clause-kept g c = on_err_weaker c.do_next.result
    (λ (k : (old : Shown) (serial : ℕ) (thread : Thread) → Begun old c.begin_step.new.self serial thread → Untouched old.machine c.do_next.new.self.machine).
    k c.args.self.now c.requires.at.0 c.requires.at.1
    (has-begun c.args.self.now c.begin_step.new.self c.requires.at.0 c.requires.at.1 c.requires.at.2 c.begin_step.ensures.stepped c.begin_step.ensures.drawn c.requires.steps))
    c.do_next.ensures.kept
