use Rattle.std.proofs.Common.{ℕ, sym, ap, subst, arith}
use Rattle.sim_core.specs.Engine.{EngineFollows, Shown}
use Rattle.sim_core.specs.Step.{after}
use Rattle.sim_core.specs.Stretch.{RanOn}
use Rattle.sim_core.proofs.RunsLemmas.{engine-none}
use Rattle.sim_core.proofs.StretchLemmas.{going-none, none-only, ran-only, ran-shown, some-steps, stretch-engine, stretch-none}
use Rattle.sim_core.proofs.engine.Engine.run_far.Goals as goal

pub returns-then-done-eq0-clause-follows : goal.returns-then-done-eq0-clause-follows
returns-then-done-eq0-clause-follows g c =
    let at = c.requires.at in
    let ran = subst (λ (n : ℕ). RanOn n c.args.self.now c.go_far-done.new.self at.0 at.1) c.if-done-eq0.true (c.go_far-done.ensures.ran at.0 at.1 at.2) in
    let same = stretch-none c.args.self.now c.go_far-done.new.self at.0 at.1 at.2 ran in
    subst (λ (s : Shown). EngineFollows (after c.args.self.now.program c.args.self.now.order 0) c.args.self.now s) (sym same) (engine-none c.args.self.now.program c.args.self.now.order c.args.self.now)

pub returns-then-done-eq0-clause-only : goal.returns-then-done-eq0-clause-only
returns-then-done-eq0-clause-only g c =
    let at = c.requires.at in
    let ran = subst (λ (n : ℕ). RanOn n c.args.self.now c.go_far-done.new.self at.0 at.1) c.if-done-eq0.true (c.go_far-done.ensures.ran at.0 at.1 at.2) in
    none-only c.args.self.now c.go_far-done.new.self (stretch-none c.args.self.now c.go_far-done.new.self at.0 at.1 at.2 ran)

pub returns-then-done-eq0-clause-none : goal.returns-then-done-eq0-clause-none
returns-then-done-eq0-clause-none g c = λ none.
    let at = c.requires.at in
    let ran = subst (λ (n : ℕ). RanOn n c.args.self.now c.go_far-done.new.self at.0 at.1) c.if-done-eq0.true (c.go_far-done.ensures.ran at.0 at.1 at.2) in
    stretch-none c.args.self.now c.go_far-done.new.self at.0 at.1 at.2 ran

pub count_steps-requires : goal.count_steps-requires
count_steps-requires g c =
    let at = c.requires.at in
    let ran = c.go_far-done.ensures.ran at.0 at.1 at.2 in
    let same = ap (λ (s : Shown). s.machine.steps) ran.shown in
    omega (arith, same, c.go_far-done.ensures.most, c.requires.steps)

pub returns-clause-follows : goal.returns-clause-follows
returns-clause-follows g c =
    let at = c.requires.at in
    let ran = c.go_far-done.ensures.ran at.0 at.1 at.2 in
    let some = some-steps c.go_far-done.result c.if-done-eq0.false in
    stretch-engine c.args.self.now c.go_far-done.new.self c.see_peak.new.self c.go_far-done.result at.0 at.1 some at.2 (going-none c.args.self.now c.requires.going) ran
    (ran-shown c.args.self.now c.go_far-done.new.self c.count_steps.new.self c.see_peak.new.self c.go_far-done.result at.0 at.1 ran c.count_steps.ensures c.see_peak.ensures)

pub returns-clause-only : goal.returns-clause-only
returns-clause-only g c =
    let at = c.requires.at in
    let ran = c.go_far-done.ensures.ran at.0 at.1 at.2 in
    ran-only c.args.self.now c.see_peak.new.self c.go_far-done.result at.0 ran.frame
    (ran-shown c.args.self.now c.go_far-done.new.self c.count_steps.new.self c.see_peak.new.self c.go_far-done.result at.0 at.1 ran c.count_steps.ensures c.see_peak.ensures)
