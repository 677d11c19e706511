use Rattle.std.proofs.Common.{◌≡◌, ◌≤◌, ◌+◌, refl, sym, ◌∙◌, arith}
use Rattle.vvp_top.proofs.ResultLemmas.{on_ok_both, on_err_one}
use Rattle.vvp_top.proofs.RunLemmas.{cut-early, cut-last, cut-next, done-early, done-last, stands-next, stands-start}
use Rattle.vvp_top.proofs.delivery.run_engine.Goals as goal

pub loop-done-init : goal.loop-done-init
loop-done-init g c = record {
  stands = λ machine is. stands-start machine _ refl is;
  ready = λ none. absurd (let never : ⊥ = cc in never);
  going = c.requires.going;
  within = omega arith;
  steps = omega (arith, c.requires.steps);
  program = refl;
  order = refl;
  store_later = omega arith;
  out_later = omega arith;
}

pub loop-done-preserved : goal.loop-done-preserved
loop-done-preserved g c =
    let turns = c.in-Ok.ensures.turns in
    let goes = turns.goes in
    record {
      stands = λ machine is. stands-next c.args.engine.now.program c.loop-done.engine.program c.args.engine.now.order c.loop-done.engine.order c.loop-done.done turns.count c.in-Ok.turned.0 machine _ _ _
          c.loop-done.invariant.program c.loop-done.invariant.order turns.told (c.loop-done.invariant.stands machine is) goes.moved;
      ready = goes.ready;
      going = sym c.in-Ok.ensures.answer ∙ c.in-None.is;
      within = omega (arith, turns.told, turns.within);
      steps = omega (arith, c.in-Ok.ensures.counted, c.loop-done.invariant.steps);
      program = goes.program ∙ c.loop-done.invariant.program;
      order = goes.order ∙ c.loop-done.invariant.order;
      store_later = omega (arith, goes.store_later, c.loop-done.invariant.store_later);
      out_later = omega (arith, goes.out_later, c.loop-done.invariant.out_later);
    }

pub returns-in-Err-clause-cut : goal.returns-in-Err-clause-cut
returns-in-Err-clause-cut g c = λ machine is.
    let turns = c.in-Err.ensures.turns in
    let within : c.loop-done.done + turns.count ≤ c.args.budget = omega (arith, turns.within) in
    cut-next c.args.engine.now.program c.loop-done.engine.program c.args.engine.now.order c.loop-done.engine.order c.loop-done.done turns.count c.args.budget machine _ _ _ c.loop-done.invariant.program c.loop-done.invariant.order within
    (c.loop-done.invariant.stands machine is) turns.goes.cut

pub returns-in-Some-clause-done : goal.returns-in-Some-clause-done
returns-in-Some-clause-done g c =
    let turns = c.in-Ok.ensures.turns in
    let within : c.loop-done.done + c.in-Ok.turned.0 ≤ c.args.budget = omega (arith, turns.told, turns.within) in
    on_ok_both c.close.result (λ moved done. λ machine is.
    let there = stands-next c.args.engine.now.program c.loop-done.engine.program c.args.engine.now.order c.loop-done.engine.order c.loop-done.done turns.count c.in-Ok.turned.0 machine _ _ _
    c.loop-done.invariant.program c.loop-done.invariant.order turns.told (c.loop-done.invariant.stands machine is) turns.goes.moved in
    done-early c.args.engine.now.program c.args.engine.now.order (c.loop-done.done + c.in-Ok.turned.0) c.args.budget c.in-Some.ending machine _ _ _ within (sym c.in-Ok.ensures.answer ∙ c.in-Some.is) there (moved _ _ there) (done _ _ there))
    c.close.ensures.goes.moved c.close.ensures.done

pub returns-in-Some-clause-cut : goal.returns-in-Some-clause-cut
returns-in-Some-clause-cut g c =
    let turns = c.in-Ok.ensures.turns in
    let within : c.loop-done.done + c.in-Ok.turned.0 ≤ c.args.budget = omega (arith, turns.told, turns.within) in
    on_err_one c.close.result (λ cut. λ machine is.
    let there = stands-next c.args.engine.now.program c.loop-done.engine.program c.args.engine.now.order c.loop-done.engine.order c.loop-done.done turns.count c.in-Ok.turned.0 machine _ _ _
    c.loop-done.invariant.program c.loop-done.invariant.order turns.told (c.loop-done.invariant.stands machine is) turns.goes.moved in
    cut-early c.args.engine.now.program c.args.engine.now.order (c.loop-done.done + c.in-Ok.turned.0) c.args.budget machine _ _ within (cut _ _ there)) c.close.ensures.goes.cut

pub returns-clause-done : goal.returns-clause-done
returns-clause-done g c =
    let all : c.loop-done.done ≡ c.args.budget = omega arith in
    on_ok_both c.end_run.result (λ moved done. λ machine is.
    done-last c.args.engine.now.program c.loop-done.engine.program c.args.engine.now.order c.loop-done.done c.args.budget machine _ _ _ c.loop-done.invariant.program all (c.loop-done.invariant.stands machine is) moved done)
    c.end_run.ensures.goes.moved c.end_run.ensures.done

pub returns-clause-cut : goal.returns-clause-cut
returns-clause-cut g c =
    let all : c.loop-done.done ≡ c.args.budget = omega arith in
    on_err_one c.end_run.result (λ cut. λ machine is.
    cut-last c.args.engine.now.program c.loop-done.engine.program c.args.engine.now.order c.loop-done.done c.args.budget machine _ _ _ c.loop-done.invariant.program all (c.loop-done.invariant.stands machine is) cut)
    c.end_run.ensures.goes.cut
