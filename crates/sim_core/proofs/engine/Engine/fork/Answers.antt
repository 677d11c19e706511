use Rattle.std.proofs.Common.{◌≡◌, ◌<◌, ◌≤◌, ◌+◌, ◌*◌, ◌^◌, ℕ, option_map, length, sym, ap, subst, ◌∙◌, arith}
use Rattle.std.proofs.lemmas.Result.{on_err_weaker, on_ok_weaker}
use Rattle.std.proofs.lemmas.List.{length-set}
use Rattle.vvp_threads.specs.declared.thread.Thread.{Thread}
use Rattle.vvp_threads.specs.Table.{live_count, slot_at, with_frame}
use Rattle.sim_core.specs.Effects.{forked}
use Rattle.sim_core.specs.Engine.{Shown}
use Rattle.sim_core.specs.Parts.{Runs, ShownFollows, child_put}
use Rattle.sim_core.proofs.EffectLemmas.{forked-past, forked-tasks, forked-then, shown-same}
use Rattle.sim_core.proofs.FrameLemmas.{framed-count}
use Rattle.sim_core.proofs.WholeLemmas.{next-runs}
use Rattle.sim_core.proofs.RefusedLemmas.{next-untouched}
use Rattle.sim_core.proofs.engine.Engine.fork.Goals as goal

pub returns-then-live-ge-THREADS-clause-ok : goal.returns-then-live-ge-THREADS-clause-ok
returns-then-live-ge-THREADS-clause-ok g c = λ serial thread can.
    let live : c.live.result ≡ live_count c.args.self.now.machine.state.threads = c.live.ensures ∙ ap (λ (s : Shown). live_count s.machine.state.threads) c.self.view_is in
    forked-past c.args.code c.args.scope serial thread.frame c.args.self.now c.trap.new.self (let full = c.if-live-ge-THREADS.true in omega (arith, live, full)) (c.trap.ensures serial thread can.runs)

pub start_child-requires-clause-at : goal.start_child-requires-clause-at
start_child-requires-clause-at g c =
    (c.requires.at.0, with_frame (record c.requires.at.1.frame { pc = c.requires.at.1.frame.pc + 1 }) c.requires.at.1, next-runs c.args.self.now c.go_next.new.self c.requires.at.0 c.requires.at.1 c.requires.at.2 (c.go_next.ensures c.requires.at.0 c.requires.at.1 c.requires.at.2))

pub start_child-requires-clause-few : goal.start_child-requires-clause-few
start_child-requires-clause-few g c =
    let live : c.live.result ≡ live_count c.args.self.now.machine.state.threads = c.live.ensures ∙ ap (λ (s : Shown). live_count s.machine.state.threads) c.self.view_is in
    let same = ap (λ (s : Shown). live_count s.machine.state.threads) (c.go_next.ensures c.requires.at.0 c.requires.at.1 c.requires.at.2) ∙ framed-count c.requires.at.0 (record c.requires.at.1.frame { pc = c.requires.at.1.frame.pc + 1 }) c.args.self.now.machine.state.threads c.requires.at.1 c.requires.at.2.runs.live in
    let some = c.if-live-ge-THREADS.false in
    omega (arith, live, same, some)

pub start_child-requires-clause-drawn : goal.start_child-requires-clause-drawn
start_child-requires-clause-drawn g c =
    let few = c.requires.drawn in
    subst (λ (s : Shown). length s.machine.state.threads.threads < s.machine.steps + length s.program.threads) (sym (c.go_next.ensures c.requires.at.0 c.requires.at.1 c.requires.at.2))
    (omega (arith, few, length-set c.args.self.now.machine.state.threads.threads c.requires.at.0 (option_map (with_frame (record c.requires.at.1.frame { pc = c.requires.at.1.frame.pc + 1 })) (slot_at c.args.self.now.machine.state.threads.threads c.requires.at.0))))

pub start_child-requires-clause-scope : goal.start_child-requires-clause-scope
start_child-requires-clause-scope g c = subst (λ (s : Shown). c.args.scope < length s.program.scopes) (sym (c.go_next.ensures c.requires.at.0 c.requires.at.1 c.requires.at.2)) c.requires.at.3

pub start_child-requires-clause-steps : goal.start_child-requires-clause-steps
start_child-requires-clause-steps g c = subst (λ (s : Shown). s.machine.steps ≤ 3 * 2 ^ 62) (sym (c.go_next.ensures c.requires.at.0 c.requires.at.1 c.requires.at.2)) c.requires.steps

pub returns-clause-ok : goal.returns-clause-ok
returns-clause-ok g c = on_ok_weaker c.start_child.result
    (λ (k : (serial : ℕ) (thread : Thread) → Runs c.go_next.new.self serial thread → ShownFollows (child_put c.args.code c.args.scope serial) c.go_next.new.self c.start_child.new.self). λ serial thread can.
    let goes = c.go_next.ensures serial thread can in
    let live : c.live.result ≡ live_count c.args.self.now.machine.state.threads = c.live.ensures ∙ ap (λ (s : Shown). live_count s.machine.state.threads) c.self.view_is in
    forked-then c.args.code c.args.scope serial thread.frame c.args.self.now c.go_next.new.self c.start_child.new.self (let some = c.if-live-ge-THREADS.false in omega (arith, live, some)) goes
    (k serial (with_frame (record thread.frame { pc = thread.frame.pc + 1 }) thread) (next-runs c.args.self.now c.go_next.new.self serial thread can goes))) c.start_child.ensures.ok

pub returns-clause-err : goal.returns-clause-err
returns-clause-err g c = on_err_weaker c.start_child.result
    (λ (still : c.start_child.new.self ≡ c.go_next.new.self). λ serial thread can.
    let same = still ∙ c.go_next.ensures serial thread can in
    shown-same (forked c.args.code c.args.scope serial thread.frame) c.args.self.now c.start_child.new.self (forked-tasks c.args.code c.args.scope serial thread.frame)
    (ap (λ (s : Shown). s.machine.tasks) same) (ap (λ (s : Shown). s.program) same) (ap (λ (s : Shown). s.order) same)) c.start_child.ensures.err

pub returns-clause-kept : goal.returns-clause-kept
returns-clause-kept g c = on_err_weaker c.start_child.result
    (λ (still : c.start_child.new.self ≡ c.go_next.new.self).
    next-untouched c.args.self.now c.start_child.new.self c.requires.at.0 c.requires.at.1.frame (still ∙ c.go_next.ensures c.requires.at.0 c.requires.at.1 c.requires.at.2)) c.start_child.ensures.err
