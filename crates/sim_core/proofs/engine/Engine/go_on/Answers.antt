use Rattle.std.proofs.Common.{◌≡◌, ℕ, false, None, refl, sym, ap, ◌∙◌}
use Rattle.std.proofs.lemmas.Result.{err_from_is_err_and, on_err_weaker, on_ok_weaker}
use Rattle.vvp_threads.specs.declared.thread.Thread.{Thread}
use Rattle.sim_core.specs.Engine.{Shown}
use Rattle.sim_core.specs.Parts.{Runs, ShownFails, ShownSteps, Untouched}
use Rattle.sim_core.specs.Step.{proceed}
use Rattle.sim_core.proofs.GoLemmas.{running-none, running-there, taken-shown}
use Rattle.sim_core.proofs.TurnLemmas.{idle-steps, ready-fails, running-fails, running-steps, take-fails}
use Rattle.sim_core.proofs.RefusedLemmas.{running-keeps, unwritten-by, waiting-keeps}
use Rattle.sim_core.proofs.engine.Engine.go_on.Goals as goal

pub run_opcode-requires-clause-at : goal.run_opcode-requires-clause-at
run_opcode-requires-clause-at g c =
    let fine : c.self.inside.failed ≡ false = ap (λ (s : Shown). s.failed) c.self.view_is ∙ c.requires.fine in
    running-there c.args.self.now c.self.inside.threads (g.A.Agenda.schedule c.self.inside.agenda) c.self.inside.running c.requires.fine
    (ap (λ (s : Shown). s.machine.running) (sym c.self.view_is)) (ap (λ (s : Shown). s.machine.state.threads) (sym c.self.view_is)) (sym c.is_some.ensures ∙ c.if-is_some.true) (c.self.invariant.sound fine).runs

pub returns-then-is_some-clause-ok : goal.returns-then-is_some-clause-ok
returns-then-is_some-clause-ok g c =
    let fine : c.self.inside.failed ≡ false = ap (λ (s : Shown). s.failed) c.self.view_is ∙ c.requires.fine in
    let at = running-there c.args.self.now c.self.inside.threads (g.A.Agenda.schedule c.self.inside.agenda) c.self.inside.running c.requires.fine
    (ap (λ (s : Shown). s.machine.running) (sym c.self.view_is)) (ap (λ (s : Shown). s.machine.state.threads) (sym c.self.view_is)) (sym c.is_some.ensures ∙ c.if-is_some.true) (c.self.invariant.sound fine).runs in
    on_ok_weaker c.run_opcode.result
    (λ (k : (serial : ℕ) (thread : Thread) → Runs c.args.self.now serial thread → ShownSteps (proceed c.args.self.now.program serial) c.args.self.now c.run_opcode.new.self).
    running-steps c.args.self.now.program c.args.self.now.order at.0 c.args.self.now c.run_opcode.new.self c.requires.going at.2.running (k at.0 at.1 at.2))
    c.run_opcode.ensures.ok

pub returns-then-is_some-clause-err : goal.returns-then-is_some-clause-err
returns-then-is_some-clause-err g c =
    let fine : c.self.inside.failed ≡ false = ap (λ (s : Shown). s.failed) c.self.view_is ∙ c.requires.fine in
    let at = running-there c.args.self.now c.self.inside.threads (g.A.Agenda.schedule c.self.inside.agenda) c.self.inside.running c.requires.fine
    (ap (λ (s : Shown). s.machine.running) (sym c.self.view_is)) (ap (λ (s : Shown). s.machine.state.threads) (sym c.self.view_is)) (sym c.is_some.ensures ∙ c.if-is_some.true) (c.self.invariant.sound fine).runs in
    on_err_weaker c.run_opcode.result
    (λ (k : (serial : ℕ) (thread : Thread) → Runs c.args.self.now serial thread → ShownFails (proceed c.args.self.now.program serial) c.args.self.now c.run_opcode.new.self).
    running-fails c.args.self.now.program c.args.self.now.order at.0 c.args.self.now c.run_opcode.new.self c.requires.going at.2.running (k at.0 at.1 at.2))
    c.run_opcode.ensures.err

pub returns-in_err-ready-clause-err : goal.returns-in_err-ready-clause-err
returns-in_err-ready-clause-err g c =
    let p = err_from_is_err_and c.from_residual.result c.from_residual.ensures.1 in
    let rests : c.args.self.now.machine.running ≡ None = ap (λ (s : Shown). s.machine.running) (sym c.self.view_is) ∙ running-none c.self.inside.running (sym c.is_some.ensures ∙ c.if-is_some.false) in
    rw p.1 (ready-fails c.args.self.now.program c.args.self.now.order c.args.self.now c.ready.new.self c.requires.going rests c.in_err-ready.ensures.err)

pub returns-in_err-take_due-clause-err : goal.returns-in_err-take_due-clause-err
returns-in_err-take_due-clause-err g c =
    let p = err_from_is_err_and c.from_residual-in_err-take_due.result c.from_residual-in_err-take_due.ensures.1 in
    let rests : c.args.self.now.machine.running ≡ None = ap (λ (s : Shown). s.machine.running) (sym c.self.view_is) ∙ running-none c.self.inside.running (sym c.is_some.ensures ∙ c.if-is_some.false) in
    rw p.1 (take-fails c.args.self.now.program c.args.self.now.order c.args.self.now c.ready.new.self c.take_due.new.self c.requires.going rests c.in_ok-ready.ensures.ok c.in_err-take_due.ensures.err)

pub returns-in_ok-take_due-clause-ok : goal.returns-in_ok-take_due-clause-ok
returns-in_ok-take_due-clause-ok g c =
    let rests : c.args.self.now.machine.running ≡ None = ap (λ (s : Shown). s.machine.running) (sym c.self.view_is) ∙ running-none c.self.inside.running (sym c.is_some.ensures ∙ c.if-is_some.false) in
    taken-shown c.args.self.now.program c.args.self.now.order c.args.self.now c.ready.new.self c.take_due.new.self c.see_peak.new.self c.requires.going rests c.in_ok-ready.ensures.ok
    (sym c.in_ok-ready.ensures.answer ∙ c.if-branch.true) refl refl c.in_ok-take_due.ensures.ok c.see_peak.ensures

pub returns-else-branch-clause-ok : goal.returns-else-branch-clause-ok
returns-else-branch-clause-ok g c =
    let rests : c.args.self.now.machine.running ≡ None = ap (λ (s : Shown). s.machine.running) (sym c.self.view_is) ∙ running-none c.self.inside.running (sym c.is_some.ensures ∙ c.if-is_some.false) in
    idle-steps c.args.self.now.program c.args.self.now.order c.args.self.now c.ready.new.self c.requires.going rests c.in_ok-ready.ensures.ok (sym c.in_ok-ready.ensures.answer ∙ c.if-branch.false)

pub returns-then-is_some-clause-kept : goal.returns-then-is_some-clause-kept
returns-then-is_some-clause-kept g c = on_err_weaker c.run_opcode.result
    (λ (stays : Untouched c.args.self.now.machine c.run_opcode.new.self.machine). running-keeps c.args.self.now.machine c.run_opcode.new.self.machine stays) c.run_opcode.ensures.kept

pub returns-in_err-ready-clause-kept : goal.returns-in_err-ready-clause-kept
returns-in_err-ready-clause-kept g c =
    let p = err_from_is_err_and c.from_residual.result c.from_residual.ensures.1 in
    let rests : c.args.self.now.machine.running ≡ None = ap (λ (s : Shown). s.machine.running) (sym c.self.view_is) ∙ running-none c.self.inside.running (sym c.is_some.ensures ∙ c.if-is_some.false) in
    rw p.1 (waiting-keeps c.args.self.now.machine c.ready.new.self.machine rests c.in_err-ready.ensures.kept)

pub returns-in_err-take_due-clause-kept : goal.returns-in_err-take_due-clause-kept
returns-in_err-take_due-clause-kept g c =
    let p = err_from_is_err_and c.from_residual-in_err-take_due.result c.from_residual-in_err-take_due.ensures.1 in
    let rests : c.args.self.now.machine.running ≡ None = ap (λ (s : Shown). s.machine.running) (sym c.self.view_is) ∙ running-none c.self.inside.running (sym c.is_some.ensures ∙ c.if-is_some.false) in
    rw p.1 (waiting-keeps c.args.self.now.machine c.take_due.new.self.machine rests
    (unwritten-by c.args.self.now.machine c.ready.new.self.machine c.take_due.new.self.machine (c.in_ok-ready.ensures.still c.if-branch.true) c.in_err-take_due.ensures.kept))
