use Rattle.std.proofs.Common.{refl, sym, subst}
use Rattle.std.specs.Prelude.{Option, Result, Err}
use Rattle.sim_core.specs.declared.ending.Ending.{Ending}
use Rattle.sim_core.specs.Step.{budgeted}
use Rattle.vvp_top.specs.declared.fault.Fault.{Fault}
use Rattle.vvp_top.specs.Delivery.{Goes, Moment, moment}
use Rattle.vvp_top.proofs.GrowLemmas.{budgeted-grows}
use Rattle.vvp_top.proofs.GoesLemmas.{IsStepped, done-then, goes-then, goes-then_failed, goes-wanting}
use Rattle.vvp_top.proofs.delivery.end_run.Goals as goal

-- memory was wanting
pub returns-in-Err-clause-goes : goal.returns-in-Err-clause-goes
returns-in-Err-clause-goes g c =
    let old : Moment = (moment c.args.made.now c.args.engine.now (g.K.Sink.held c.args.out.now) (g.K.Sink.faults c.args.out.now) (g.S.Store.files c.args.store.now) (g.S.Store.target c.args.store.now) (g.S.Store.writing c.args.store.now) (g.S.Store.faults c.args.store.now)) in
    let mid : Moment = (moment c.args.made.now c.end_budget.new.engine (g.K.Sink.held c.args.out.now) (g.K.Sink.faults c.args.out.now) (g.S.Store.files c.args.store.now) (g.S.Store.target c.args.store.now) (g.S.Store.writing c.args.store.now) (g.S.Store.faults c.args.store.now)) in
    let still : IsStepped old mid = record { held = refl; made = refl; files = refl; target = refl; writing = refl; store_faults = refl; out_faults = refl } in
    subst (λ (why : Fault). Goes (budgeted c.args.engine.now.program) (let answer : Result (Option Ending) Fault = Err why in answer) old mid) (sym c.in-Err.ensures.stop)
    (goes-wanting (budgeted c.args.engine.now.program) old mid (budgeted-grows c.args.engine.now.program) still)

pub returns-in-Err-hand_over-clause-goes : goal.returns-in-Err-hand_over-clause-goes
returns-in-Err-hand_over-clause-goes g c =
    let old : Moment = (moment c.args.made.now c.args.engine.now (g.K.Sink.held c.args.out.now) (g.K.Sink.faults c.args.out.now) (g.S.Store.files c.args.store.now) (g.S.Store.target c.args.store.now) (g.S.Store.writing c.args.store.now) (g.S.Store.faults c.args.store.now)) in
    let mid : Moment = (moment c.args.made.now c.end_budget.new.engine (g.K.Sink.held c.args.out.now) (g.K.Sink.faults c.args.out.now) (g.S.Store.files c.args.store.now) (g.S.Store.target c.args.store.now) (g.S.Store.writing c.args.store.now) (g.S.Store.faults c.args.store.now)) in
    let still : IsStepped old mid = record { held = refl; made = refl; files = refl; target = refl; writing = refl; store_faults = refl; out_faults = refl } in
    goes-then_failed (budgeted c.args.engine.now.program) c.in-Err-hand_over.fault old mid _ (budgeted-grows c.args.engine.now.program) c.in-Ok.ensures.shown still c.in-Err-hand_over.ensures.goes

pub returns-in-Ok-hand_over-clause-goes : goal.returns-in-Ok-hand_over-clause-goes
returns-in-Ok-hand_over-clause-goes g c =
    let old : Moment = (moment c.args.made.now c.args.engine.now (g.K.Sink.held c.args.out.now) (g.K.Sink.faults c.args.out.now) (g.S.Store.files c.args.store.now) (g.S.Store.target c.args.store.now) (g.S.Store.writing c.args.store.now) (g.S.Store.faults c.args.store.now)) in
    let mid : Moment = (moment c.args.made.now c.end_budget.new.engine (g.K.Sink.held c.args.out.now) (g.K.Sink.faults c.args.out.now) (g.S.Store.files c.args.store.now) (g.S.Store.target c.args.store.now) (g.S.Store.writing c.args.store.now) (g.S.Store.faults c.args.store.now)) in
    let still : IsStepped old mid = record { held = refl; made = refl; files = refl; target = refl; writing = refl; store_faults = refl; out_faults = refl } in
    goes-then (budgeted c.args.engine.now.program) _ c.in-Ok.ending old mid _ (budgeted-grows c.args.engine.now.program) c.in-Ok.ensures.shown still c.in-Ok-hand_over.ensures.goes tt

pub returns-in-Ok-hand_over-clause-done : goal.returns-in-Ok-hand_over-clause-done
returns-in-Ok-hand_over-clause-done g c =
    let old : Moment = (moment c.args.made.now c.args.engine.now (g.K.Sink.held c.args.out.now) (g.K.Sink.faults c.args.out.now) (g.S.Store.files c.args.store.now) (g.S.Store.target c.args.store.now) (g.S.Store.writing c.args.store.now) (g.S.Store.faults c.args.store.now)) in
    let mid : Moment = (moment c.args.made.now c.end_budget.new.engine (g.K.Sink.held c.args.out.now) (g.K.Sink.faults c.args.out.now) (g.S.Store.files c.args.store.now) (g.S.Store.target c.args.store.now) (g.S.Store.writing c.args.store.now) (g.S.Store.faults c.args.store.now)) in
    let still : IsStepped old mid = record { held = refl; made = refl; files = refl; target = refl; writing = refl; store_faults = refl; out_faults = refl } in
    done-then (budgeted c.args.engine.now.program) old mid _ (budgeted-grows c.args.engine.now.program) c.in-Ok.ensures.shown still c.in-Ok-hand_over.ensures.done
