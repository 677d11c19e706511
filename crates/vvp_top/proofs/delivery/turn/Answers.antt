use Rattle.std.proofs.Common.{◌≡◌, ◌+◌, ◌∙◌, ℕ, refl, ap, subst, arith}
use Rattle.sym_link.specs.declared.program.Program.{Program}
use Rattle.sim_core.specs.Engine.{EngineFollows, Shown}
use Rattle.sim_core.specs.Machine.{Machine}
use Rattle.sim_core.specs.Step.{after, step}
use Rattle.sim_core.proofs.RunsLemmas.{engine-more}
use Rattle.vvp_top.specs.Delivery.{Moment, moment}
use Rattle.vvp_top.proofs.RunLemmas.{after-grows}
use Rattle.vvp_top.proofs.GoesLemmas.{IsStepped, goes-then, goes-then_failed, goes-wanting}
use Rattle.vvp_top.proofs.delivery.turn.Goals as goal

-- opcodes in a row and then a step
ran-more : (program now : Program) (order now_order count : ℕ) (old mid new : Shown) → now ≡ program → now_order ≡ order → EngineFollows (after program order count) old mid → EngineFollows (step now now_order) mid new
    → EngineFollows (after program order (count + 1)) old new
ran-more program now order now_order count old mid new programs orders ran did =
    engine-more program order count old mid new ran
    (subst (λ (p : Program). EngineFollows (step p order) mid new) programs (subst (λ (o : ℕ). EngineFollows (step now o) mid new) orders did))

pub step-requires : goal.step-requires
step-requires g c =
    let steps = ap (λ (m : Machine). m.steps) c.run_on-ran.ensures.only in
    omega (arith, steps, c.run_on-ran.ensures.most)

-- memory was wanting
pub returns-in-Err-clause-turns : goal.returns-in-Err-clause-turns
returns-in-Err-clause-turns g c =
    let old : Moment = (moment c.args.made.now c.args.engine.now (g.K.Sink.held c.args.out.now) (g.K.Sink.faults c.args.out.now) (g.S.Store.files c.args.store.now) (g.S.Store.target c.args.store.now) (g.S.Store.writing c.args.store.now) (g.S.Store.faults c.args.store.now)) in
    let mid : Moment = (moment c.args.made.now c.step.new.self (g.K.Sink.held c.args.out.now) (g.K.Sink.faults c.args.out.now) (g.S.Store.files c.args.store.now) (g.S.Store.target c.args.store.now) (g.S.Store.writing c.args.store.now) (g.S.Store.faults c.args.store.now)) in
    let still : IsStepped old mid = record { held = refl; made = refl; files = refl; target = refl; writing = refl; store_faults = refl; out_faults = refl } in
    let count : ℕ = c.run_on-ran.result + 1 in
    record {
      count = count;
      some = omega arith;
      within = omega (arith, c.run_on-ran.ensures.most);
      told = tt;
      goes = goes-wanting (after c.args.engine.now.program c.args.engine.now.order count) old mid (after-grows c.args.engine.now.program c.args.engine.now.order count) still;
    }

-- handing over fails after the step
pub returns-in-Err-hand_over_if_full-clause-turns : goal.returns-in-Err-hand_over_if_full-clause-turns
returns-in-Err-hand_over_if_full-clause-turns g c =
    let old : Moment = (moment c.args.made.now c.args.engine.now (g.K.Sink.held c.args.out.now) (g.K.Sink.faults c.args.out.now) (g.S.Store.files c.args.store.now) (g.S.Store.target c.args.store.now) (g.S.Store.writing c.args.store.now) (g.S.Store.faults c.args.store.now)) in
    let mid : Moment = (moment c.args.made.now c.step.new.self (g.K.Sink.held c.args.out.now) (g.K.Sink.faults c.args.out.now) (g.S.Store.files c.args.store.now) (g.S.Store.target c.args.store.now) (g.S.Store.writing c.args.store.now) (g.S.Store.faults c.args.store.now)) in
    let still : IsStepped old mid = record { held = refl; made = refl; files = refl; target = refl; writing = refl; store_faults = refl; out_faults = refl } in
    let count : ℕ = c.run_on-ran.result + 1 in
    let ran = c.run_on-ran.ensures.follows in
    let did = ran-more c.args.engine.now.program c.run_on-ran.new.self.program c.args.engine.now.order c.run_on-ran.new.self.order c.run_on-ran.result c.args.engine.now c.run_on-ran.new.self c.step.new.self ran.program ran.order ran c.in-Ok.ensures.ok in
    record {
      count = count;
      some = omega arith;
      within = omega (arith, c.run_on-ran.ensures.most);
      told = tt;
      goes = goes-then_failed (after c.args.engine.now.program c.args.engine.now.order count) c.in-Err-hand_over_if_full.fault old mid _ (after-grows c.args.engine.now.program c.args.engine.now.order count) did still c.in-Err-hand_over_if_full.ensures.goes;
    }

pub returns-in-Ok-hand_over_if_full-clause-turns : goal.returns-in-Ok-hand_over_if_full-clause-turns
returns-in-Ok-hand_over_if_full-clause-turns g c =
    let old : Moment = (moment c.args.made.now c.args.engine.now (g.K.Sink.held c.args.out.now) (g.K.Sink.faults c.args.out.now) (g.S.Store.files c.args.store.now) (g.S.Store.target c.args.store.now) (g.S.Store.writing c.args.store.now) (g.S.Store.faults c.args.store.now)) in
    let mid : Moment = (moment c.args.made.now c.step.new.self (g.K.Sink.held c.args.out.now) (g.K.Sink.faults c.args.out.now) (g.S.Store.files c.args.store.now) (g.S.Store.target c.args.store.now) (g.S.Store.writing c.args.store.now) (g.S.Store.faults c.args.store.now)) in
    let still : IsStepped old mid = record { held = refl; made = refl; files = refl; target = refl; writing = refl; store_faults = refl; out_faults = refl } in
    let count : ℕ = c.run_on-ran.result + 1 in
    let ran = c.run_on-ran.ensures.follows in
    let did = ran-more c.args.engine.now.program c.run_on-ran.new.self.program c.args.engine.now.order c.run_on-ran.new.self.order c.run_on-ran.result c.args.engine.now c.run_on-ran.new.self c.step.new.self ran.program ran.order ran c.in-Ok.ensures.ok in
    record {
      count = count;
      some = omega arith;
      within = omega (arith, c.run_on-ran.ensures.most);
      told = refl;
      goes = goes-then (after c.args.engine.now.program c.args.engine.now.order count) _ (count, c.in-Ok.ending) old mid _ (after-grows c.args.engine.now.program c.args.engine.now.order count) did still c.in-Ok-hand_over_if_full.ensures.goes tt;
    }
