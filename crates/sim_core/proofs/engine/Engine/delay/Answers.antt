use Rattle.std.proofs.Common.{◌≡◌, ◌+◌, ◌<◌, ◌≤◌, ◌^◌, ℕ, sym, ap, subst, ◌∙◌}
use Rattle.vvp_threads.specs.Table.{with_frame}
use Rattle.sim_core.specs.Engine.{Shown}
use Rattle.sim_core.proofs.EffectLemmas.{delayed-past, delayed-then, not-below}
use Rattle.sim_core.proofs.WholeLemmas.{next-runs}
use Rattle.sim_core.proofs.engine.Engine.delay.Goals as goal

pub put_run-requires-clause-at : goal.put_run-requires-clause-at
put_run-requires-clause-at g c =
    let serial = c.requires.at.0 in
    let thread = c.requires.at.1 in
    let can = c.requires.at.2 in
    (serial, with_frame (record thread.frame { pc = thread.frame.pc + 1 }) thread, next-runs c.args.self.now c.go_next.new.self serial thread can (c.go_next.ensures serial thread can))

pub put_run-requires-clause-time : goal.put_run-requires-clause-time
put_run-requires-clause-time g c =
    c.in-Some.ensures.1 ∙ ap (λ (n : ℕ). n + c.args.ticks) (c.now.ensures ∙ ap (λ (s : Shown). s.machine.state.pending.now) c.self.view_is)
    ∙ ap (λ (s : Shown). s.machine.state.pending.now + c.args.ticks) (sym (c.go_next.ensures c.requires.at.0 c.requires.at.1 c.requires.at.2))

pub returns-in-None : goal.returns-in-None
returns-in-None g c = λ serial thread can.
    let now : c.now.result ≡ c.args.self.now.machine.state.pending.now = c.now.ensures ∙ ap (λ (s : Shown). s.machine.state.pending.now) c.self.view_is in
    delayed-past c.args.ticks serial thread.frame c.args.self.now c.trap.new.self (subst (λ (n : ℕ). 2 ^ 64 ≤ n + c.args.ticks) now (not-below (c.now.result + c.args.ticks) (2 ^ 64) c.in-None.ensures)) (c.trap.ensures serial thread can.runs)

pub returns-in-Some : goal.returns-in-Some
returns-in-Some g c = λ serial thread can.
    let now : c.now.result ≡ c.args.self.now.machine.state.pending.now = c.now.ensures ∙ ap (λ (s : Shown). s.machine.state.pending.now) c.self.view_is in
    let goes = c.go_next.ensures serial thread can in
    delayed-then c.args.ticks serial thread.frame c.args.self.now c.go_next.new.self c.put_run.new.self (subst (λ (n : ℕ). n + c.args.ticks < 2 ^ 64) now c.in-Some.ensures.0) goes
    (c.put_run.ensures serial (with_frame (record thread.frame { pc = thread.frame.pc + 1 }) thread) (next-runs c.args.self.now c.go_next.new.self serial thread can goes))
