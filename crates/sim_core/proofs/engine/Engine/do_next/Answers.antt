use Rattle.std.proofs.Common.{arith, ◌∙◌}
use Rattle.std.proofs.lemmas.Result.{err_from_is_err_and}
use Rattle.vvp_threads.specs.Table.{with_frame}
use Rattle.sim_core.proofs.OpcodeLemmas.{begun-runs, left-drawn, left-steps, opcode-fails, opcode-steps, opcode-unprinted}
use Rattle.sim_core.proofs.RefusedLemmas.{left-untouched, stepped-untouched, untouched-then}
use Rattle.sim_core.proofs.engine.Engine.do_next.Goals as goal

pub do_opcode-requires : goal.do_opcode-requires
do_opcode-requires g c = record { at = (c.requires.at.1, c.requires.at.2, (begun-runs c.requires.at.0 c.args.self.now c.requires.at.1 c.requires.at.2 c.requires.at.3.begins c.requires.at.3.runs)) }

pub returns-in_err-effect-clause-err : goal.returns-in_err-effect-clause-err
returns-in_err-effect-clause-err g c =
    let p = err_from_is_err_and c.from_residual.result c.from_residual.ensures.1 in
    rw p.1 (λ old serial thread b. opcode-unprinted old c.args.self.now c.do_opcode.new.self serial b.begins c.in_err-effect.ensures.err)

pub heed-requires-clause-at : goal.heed-requires-clause-at
heed-requires-clause-at g c =
    let l = (c.in_ok-effect.ensures.done c.requires.at.1 c.requires.at.2 (begun-runs c.requires.at.0 c.args.self.now c.requires.at.1 c.requires.at.2 c.requires.at.3.begins c.requires.at.3.runs)) in
    (c.requires.at.1, with_frame l.frame c.requires.at.2, l.runs, l.fits)

pub heed-requires-clause-drawn : goal.heed-requires-clause-drawn
heed-requires-clause-drawn g c =
    let l = (c.in_ok-effect.ensures.done c.requires.at.1 c.requires.at.2 (begun-runs c.requires.at.0 c.args.self.now c.requires.at.1 c.requires.at.2 c.requires.at.3.begins c.requires.at.3.runs)) in
    left-drawn c.requires.at.0 c.args.self.now c.do_opcode.new.self _ c.requires.at.1 c.requires.at.2 c.requires.at.3.begins l c.requires.at.3.drawn

pub heed-requires-clause-steps : goal.heed-requires-clause-steps
heed-requires-clause-steps g c =
    let l = (c.in_ok-effect.ensures.done c.requires.at.1 c.requires.at.2 (begun-runs c.requires.at.0 c.args.self.now c.requires.at.1 c.requires.at.2 c.requires.at.3.begins c.requires.at.3.runs)) in
    let steps = left-steps c.requires.at.0 c.args.self.now c.do_opcode.new.self _ c.requires.at.1 c.requires.at.2 c.requires.at.3.begins l in
    let few = c.requires.at.3.few in
    omega (arith, steps, few)

pub returns-in_err-heed-clause-err : goal.returns-in_err-heed-clause-err
returns-in_err-heed-clause-err g c =
    let p = err_from_is_err_and c.from_residual-in_err-heed.result c.from_residual-in_err-heed.ensures.1 in
    rw p.1 (λ old serial thread b.
    let l = c.in_ok-effect.ensures.done serial thread (begun-runs old c.args.self.now serial thread b.begins b.runs) in
    opcode-fails old c.args.self.now c.do_opcode.new.self c.heed.new.self _ serial thread b.runs b.begins l (c.in_err-heed.ensures.err serial (with_frame l.frame thread) l.runs))

pub returns-clause-ok : goal.returns-clause-ok
returns-clause-ok g c = λ old serial thread b.
    let l = c.in_ok-effect.ensures.done serial thread (begun-runs old c.args.self.now serial thread b.begins b.runs) in
    opcode-steps old c.args.self.now c.do_opcode.new.self c.heed.new.self c.see_peak.new.self _ serial thread b.runs b.begins l (c.in_ok-heed.ensures.ok serial (with_frame l.frame thread) l.runs) c.see_peak.ensures

pub returns-in_err-effect-clause-kept : goal.returns-in_err-effect-clause-kept
returns-in_err-effect-clause-kept g c =
    let p = err_from_is_err_and c.from_residual.result c.from_residual.ensures.1 in
    rw p.1 (λ old serial thread b. stepped-untouched old c.do_opcode.new.self (c.in_err-effect.ensures.err ∙ b.begins))

pub returns-in_err-heed-clause-kept : goal.returns-in_err-heed-clause-kept
returns-in_err-heed-clause-kept g c =
    let p = err_from_is_err_and c.from_residual-in_err-heed.result c.from_residual-in_err-heed.ensures.1 in
    rw p.1 (λ old serial thread b.
    let l = c.in_ok-effect.ensures.done serial thread (begun-runs old c.args.self.now serial thread b.begins b.runs) in
    untouched-then old.machine c.do_opcode.new.self.machine c.heed.new.self.machine
    (left-untouched old c.args.self.now c.do_opcode.new.self _ serial thread b.begins l) c.in_err-heed.ensures.kept)
