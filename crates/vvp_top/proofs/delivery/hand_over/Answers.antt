use Rattle.std.proofs.Common.{List, ℕ, refl, ap, subst, ◌∙◌}
use Rattle.std.specs.Io.KnownBytes.{append_known}
use Rattle.vvp_edge.specs.Bytes.{IsPrefix}
use Rattle.vvp_top.specs.Delivery.{Moment, moment}
use Rattle.vvp_top.proofs.GoesLemmas.{IsDumped, IsOut, done-all, given-ending, given-steps, goes-all, goes-dump_failed, goes-out_failed}
use Rattle.vvp_top.proofs.delivery.hand_over.Goals as goal

-- the output fails
pub returns-in-Err-clause-goes : goal.returns-in-Err-clause-goes
returns-in-Err-clause-goes g c =
    let cut = c.in-Err.ensures.err in
    goes-out_failed _ _ cut.0 (subst (λ (bytes : List ℕ). IsPrefix cut.0 bytes) c.out.ensures cut.1) cut.2 refl refl c.in-Err.ensures.cause.failed c.in-Err.ensures.cause.later

-- Output and dump are handed over: the same parts at each goal.
pub returns-in-Ok-send_dump-clause-goes : goal.returns-in-Ok-send_dump-clause-goes
returns-in-Ok-send_dump-clause-goes g c =
    let old : Moment = (moment c.args.made.now c.args.engine.now (g.K.Sink.held c.args.out.now) (g.K.Sink.faults c.args.out.now) (g.S.Store.files c.args.store.now) (g.S.Store.target c.args.store.now) (g.S.Store.writing c.args.store.now) (g.S.Store.faults c.args.store.now)) in
    let mid : Moment = (moment c.args.made.now c.clear_out.new.self (g.K.Sink.held c.send_pieces.new.sink) (g.K.Sink.faults c.send_pieces.new.sink) (g.S.Store.files c.args.store.now) (g.S.Store.target c.args.store.now) (g.S.Store.writing c.args.store.now) (g.S.Store.faults c.args.store.now)) in
    let new : Moment = (moment c.send_dump.new.made c.send_dump.new.engine (g.K.Sink.held c.send_pieces.new.sink) (g.K.Sink.faults c.send_pieces.new.sink) (g.S.Store.files c.send_dump.new.store) (g.S.Store.target c.send_dump.new.store) (g.S.Store.writing c.send_dump.new.store) (g.S.Store.faults c.send_dump.new.store)) in
    let out : IsOut old mid = record {
      shown = c.clear_out.ensures;
      held = c.in-Ok.ensures.ok ∙ ap (append_known (g.K.Sink.held c.args.out.now)) c.out.ensures;
      made = refl;
      files = refl;
      target = refl;
      store_faults = refl;
      out_faults = c.in-Ok.ensures.cause.later;
    } in
    let dumped : IsDumped mid new = record {
      shown = c.in-Ok-send_dump.ensures.engine;
      held = refl;
      named = c.in-Ok-send_dump.ensures.made;
      stands = c.in-Ok-send_dump.ensures.ok;
      ready = c.in-Ok-send_dump.ensures.writing;
      store_later = c.in-Ok-send_dump.ensures.cause.later;
      out_faults = refl;
    } in
    goes-all tt old mid new out dumped

pub returns-in-Ok-send_dump-clause-done : goal.returns-in-Ok-send_dump-clause-done
returns-in-Ok-send_dump-clause-done g c =
    let old : Moment = (moment c.args.made.now c.args.engine.now (g.K.Sink.held c.args.out.now) (g.K.Sink.faults c.args.out.now) (g.S.Store.files c.args.store.now) (g.S.Store.target c.args.store.now) (g.S.Store.writing c.args.store.now) (g.S.Store.faults c.args.store.now)) in
    let mid : Moment = (moment c.args.made.now c.clear_out.new.self (g.K.Sink.held c.send_pieces.new.sink) (g.K.Sink.faults c.send_pieces.new.sink) (g.S.Store.files c.args.store.now) (g.S.Store.target c.args.store.now) (g.S.Store.writing c.args.store.now) (g.S.Store.faults c.args.store.now)) in
    let new : Moment = (moment c.send_dump.new.made c.send_dump.new.engine (g.K.Sink.held c.send_pieces.new.sink) (g.K.Sink.faults c.send_pieces.new.sink) (g.S.Store.files c.send_dump.new.store) (g.S.Store.target c.send_dump.new.store) (g.S.Store.writing c.send_dump.new.store) (g.S.Store.faults c.send_dump.new.store)) in
    let out : IsOut old mid = record {
      shown = c.clear_out.ensures;
      held = c.in-Ok.ensures.ok ∙ ap (append_known (g.K.Sink.held c.args.out.now)) c.out.ensures;
      made = refl;
      files = refl;
      target = refl;
      store_faults = refl;
      out_faults = c.in-Ok.ensures.cause.later;
    } in
    let dumped : IsDumped mid new = record {
      shown = c.in-Ok-send_dump.ensures.engine;
      held = refl;
      named = c.in-Ok-send_dump.ensures.made;
      stands = c.in-Ok-send_dump.ensures.ok;
      ready = c.in-Ok-send_dump.ensures.writing;
      store_later = c.in-Ok-send_dump.ensures.cause.later;
      out_faults = refl;
    } in
    done-all old mid new out dumped

pub returns-in-Ok-send_dump-clause-steps : goal.returns-in-Ok-send_dump-clause-steps
returns-in-Ok-send_dump-clause-steps g c =
    let old : Moment = (moment c.args.made.now c.args.engine.now (g.K.Sink.held c.args.out.now) (g.K.Sink.faults c.args.out.now) (g.S.Store.files c.args.store.now) (g.S.Store.target c.args.store.now) (g.S.Store.writing c.args.store.now) (g.S.Store.faults c.args.store.now)) in
    let mid : Moment = (moment c.args.made.now c.clear_out.new.self (g.K.Sink.held c.send_pieces.new.sink) (g.K.Sink.faults c.send_pieces.new.sink) (g.S.Store.files c.args.store.now) (g.S.Store.target c.args.store.now) (g.S.Store.writing c.args.store.now) (g.S.Store.faults c.args.store.now)) in
    let new : Moment = (moment c.send_dump.new.made c.send_dump.new.engine (g.K.Sink.held c.send_pieces.new.sink) (g.K.Sink.faults c.send_pieces.new.sink) (g.S.Store.files c.send_dump.new.store) (g.S.Store.target c.send_dump.new.store) (g.S.Store.writing c.send_dump.new.store) (g.S.Store.faults c.send_dump.new.store)) in
    let out : IsOut old mid = record {
      shown = c.clear_out.ensures;
      held = c.in-Ok.ensures.ok ∙ ap (append_known (g.K.Sink.held c.args.out.now)) c.out.ensures;
      made = refl;
      files = refl;
      target = refl;
      store_faults = refl;
      out_faults = c.in-Ok.ensures.cause.later;
    } in
    let dumped : IsDumped mid new = record {
      shown = c.in-Ok-send_dump.ensures.engine;
      held = refl;
      named = c.in-Ok-send_dump.ensures.made;
      stands = c.in-Ok-send_dump.ensures.ok;
      ready = c.in-Ok-send_dump.ensures.writing;
      store_later = c.in-Ok-send_dump.ensures.cause.later;
      out_faults = refl;
    } in
    given-steps old mid new out dumped

pub returns-in-Ok-send_dump-clause-ending : goal.returns-in-Ok-send_dump-clause-ending
returns-in-Ok-send_dump-clause-ending g c =
    let old : Moment = (moment c.args.made.now c.args.engine.now (g.K.Sink.held c.args.out.now) (g.K.Sink.faults c.args.out.now) (g.S.Store.files c.args.store.now) (g.S.Store.target c.args.store.now) (g.S.Store.writing c.args.store.now) (g.S.Store.faults c.args.store.now)) in
    let mid : Moment = (moment c.args.made.now c.clear_out.new.self (g.K.Sink.held c.send_pieces.new.sink) (g.K.Sink.faults c.send_pieces.new.sink) (g.S.Store.files c.args.store.now) (g.S.Store.target c.args.store.now) (g.S.Store.writing c.args.store.now) (g.S.Store.faults c.args.store.now)) in
    let new : Moment = (moment c.send_dump.new.made c.send_dump.new.engine (g.K.Sink.held c.send_pieces.new.sink) (g.K.Sink.faults c.send_pieces.new.sink) (g.S.Store.files c.send_dump.new.store) (g.S.Store.target c.send_dump.new.store) (g.S.Store.writing c.send_dump.new.store) (g.S.Store.faults c.send_dump.new.store)) in
    let out : IsOut old mid = record {
      shown = c.clear_out.ensures;
      held = c.in-Ok.ensures.ok ∙ ap (append_known (g.K.Sink.held c.args.out.now)) c.out.ensures;
      made = refl;
      files = refl;
      target = refl;
      store_faults = refl;
      out_faults = c.in-Ok.ensures.cause.later;
    } in
    let dumped : IsDumped mid new = record {
      shown = c.in-Ok-send_dump.ensures.engine;
      held = refl;
      named = c.in-Ok-send_dump.ensures.made;
      stands = c.in-Ok-send_dump.ensures.ok;
      ready = c.in-Ok-send_dump.ensures.writing;
      store_later = c.in-Ok-send_dump.ensures.cause.later;
      out_faults = refl;
    } in
    given-ending old mid new out dumped

-- the store fails after all output was handed over
pub returns-in-Err-send_dump-clause-goes : goal.returns-in-Err-send_dump-clause-goes
returns-in-Err-send_dump-clause-goes g c =
    let old : Moment = (moment c.args.made.now c.args.engine.now (g.K.Sink.held c.args.out.now) (g.K.Sink.faults c.args.out.now) (g.S.Store.files c.args.store.now) (g.S.Store.target c.args.store.now) (g.S.Store.writing c.args.store.now) (g.S.Store.faults c.args.store.now)) in
    let mid : Moment = (moment c.args.made.now c.clear_out.new.self (g.K.Sink.held c.send_pieces.new.sink) (g.K.Sink.faults c.send_pieces.new.sink) (g.S.Store.files c.args.store.now) (g.S.Store.target c.args.store.now) (g.S.Store.writing c.args.store.now) (g.S.Store.faults c.args.store.now)) in
    let new : Moment = (moment c.send_dump.new.made c.send_dump.new.engine (g.K.Sink.held c.send_pieces.new.sink) (g.K.Sink.faults c.send_pieces.new.sink) (g.S.Store.files c.send_dump.new.store) (g.S.Store.target c.send_dump.new.store) (g.S.Store.writing c.send_dump.new.store) (g.S.Store.faults c.send_dump.new.store)) in
    let out : IsOut old mid = record {
      shown = c.clear_out.ensures;
      held = c.in-Ok.ensures.ok ∙ ap (append_known (g.K.Sink.held c.args.out.now)) c.out.ensures;
      made = refl;
      files = refl;
      target = refl;
      store_faults = refl;
      out_faults = c.in-Ok.ensures.cause.later;
    } in
    goes-dump_failed old mid new out refl c.in-Err-send_dump.ensures.err c.in-Err-send_dump.ensures.cause.failed c.in-Err-send_dump.ensures.cause.later refl

pub returns-in-Err-send_dump-clause-out_first : goal.returns-in-Err-send_dump-clause-out_first
returns-in-Err-send_dump-clause-out_first g c = λ _. c.in-Ok.ensures.ok ∙ ap (append_known (g.K.Sink.held c.args.out.now)) c.out.ensures
