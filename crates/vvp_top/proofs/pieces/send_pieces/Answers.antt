use Rattle.std.proofs.Common.{rules}
use Rattle.std.proofs.lemmas.Result.{err_from_is_err_and}
use Rattle.vvp_top.proofs.PieceLemmas.{sent-none, sent-next, sent-cut}
use Rattle.vvp_top.proofs.pieces.send_pieces.Goals as goal

pub loop-sent-init : goal.loop-sent-init
loop-sent-init g c = record { within = search rules; held = sent-none _ c.args.bytes.now; later = search rules }

pub returns-in_err-send_all-clause-err : goal.returns-in_err-send_all-clause-err
returns-in_err-send_all-clause-err g c =
    let p = err_from_is_err_and c.from_residual.result c.from_residual.ensures.1 in
    rw p.1 (sent-cut _ _ _ c.args.bytes.now c.loop-sent.sent c.min-count.result c.in_err-send_all.ensures.err c.loop-sent.invariant.held)

pub loop-sent-preserved : goal.loop-sent-preserved
loop-sent-preserved g c = record {
  within = search rules;
  held = sent-next _ _ _ c.args.bytes.now c.loop-sent.sent c.min-count.result c.in_ok-send_all.ensures.ok c.loop-sent.invariant.held;
  later = search rules;
}
