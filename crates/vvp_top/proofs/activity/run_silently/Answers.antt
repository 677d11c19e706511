use Rattle.std.proofs.Common.{◌≡◌, ◌≤◌, ◌+◌, refl, sym, ◌∙◌, arith}
use Rattle.sim_core.specs.Step.{budgeted}
use Rattle.vvp_edge.specs.declared.store.TheConstants.{MOST_SOURCE}
use Rattle.vvp_top.proofs.ActivityLemmas.{keeps-early, keeps-last, keeps-next, keeps-start, larger-run, moves-follows}
use Rattle.vvp_top.proofs.activity.run_silently.Goals as goal

pub loop-done-init : goal.loop-done-init
loop-done-init g c = record {
  kept = λ machine is. keeps-start machine _ is;
  going = c.requires.going;
  steps = omega (arith, c.requires.steps);
  program = refl;
  order = refl;
}

pub loop-done-preserved : goal.loop-done-preserved
loop-done-preserved g c =
    let moves = c.in-Ok.ensures.moves in
    record {
      kept = λ machine is. keeps-next c.args.engine.now.program c.loop-done.engine.program c.args.engine.now.order c.loop-done.engine.order c.loop-done._done machine _ _ c.loop-done.invariant.program c.loop-done.invariant.order (c.loop-done.invariant.kept machine is) moves;
      going = sym c.in-Ok.ensures.answer ∙ c.in-None.is;
      steps = omega (arith, c.in-Ok.ensures.counted, c.loop-done.invariant.steps);
      program = moves.program ∙ c.loop-done.invariant.program;
      order = moves.order ∙ c.loop-done.invariant.order;
    }

pub returns-then-is_too_large-clause-large : goal.returns-then-is_too_large-clause-large
returns-then-is_too_large-clause-large g c = λ _ machine is.
    let within : c.loop-done._done + 1 ≤ c.args.budget = omega arith in
    larger-run MOST_SOURCE c.args.engine.now.program c.args.engine.now.order (c.loop-done._done + 1) c.args.budget machine _ within
    (keeps-next c.args.engine.now.program c.loop-done.engine.program c.args.engine.now.order c.loop-done.engine.order c.loop-done._done machine _ _ c.loop-done.invariant.program c.loop-done.invariant.order (c.loop-done.invariant.kept machine is) c.in-Ok.ensures.moves)
    (sym c.is_too_large.ensures ∙ c.if-is_too_large.true)

pub returns-in-Some-clause-kept : goal.returns-in-Some-clause-kept
returns-in-Some-clause-kept g c = λ machine is.
    let within : c.loop-done._done + 1 ≤ c.args.budget = omega arith in
    keeps-early c.args.engine.now.program c.args.engine.now.order (c.loop-done._done + 1) c.args.budget c.in-Some.ending machine _ within (sym c.in-Ok.ensures.answer ∙ c.in-Some.is)
    (keeps-next c.args.engine.now.program c.loop-done.engine.program c.args.engine.now.order c.loop-done.engine.order c.loop-done._done machine _ _ c.loop-done.invariant.program c.loop-done.invariant.order (c.loop-done.invariant.kept machine is) c.in-Ok.ensures.moves)

pub returns-in-Ok-end_budget-clause-kept : goal.returns-in-Ok-end_budget-clause-kept
returns-in-Ok-end_budget-clause-kept g c = λ machine is.
    let all : c.loop-done._done ≡ c.args.budget = omega arith in
    keeps-last c.args.engine.now.program c.loop-done.engine.program c.args.engine.now.order c.loop-done._done c.args.budget machine _ _ c.loop-done.invariant.program all (c.loop-done.invariant.kept machine is)
    (moves-follows (budgeted c.loop-done.engine.program) _ _ c.in-Ok-end_budget.ensures.shown)
