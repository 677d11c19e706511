use Rattle.vvp_top.proofs.SayLemmas.{said-cut}
use Rattle.vvp_top.proofs.pieces.try_say.Goals as goal

pub returns-in-Err-clause-said : goal.returns-in-Err-clause-said
returns-in-Err-clause-said g c =
    said-cut c.args.texts.now c.loop-text.text-index _ (g.M.Sink.held c.args.errs.now) (g.M.Sink.held c.loop-text.errs) (g.M.Sink.held c.send_all.new.sink) (g.M.Sink.faults c.args.errs.now) (g.M.Sink.faults c.loop-text.errs) (g.M.Sink.faults c.send_all.new.sink) c.loop-text-test.true c.loop-text.invariant.held c.loop-text.invariant.later c.in-Err.ensures.err c.in-Err.ensures.cause.failed
