use Rattle.std.proofs.Common.{rules}
use Rattle.std.proofs.lemmas.Result.{err_from_is_err_and}
use Rattle.vvp_top.proofs.PieceLemmas.{added-none, added-next, added-cut}
use Rattle.vvp_top.proofs.pieces.append_pieces.Goals as goal

pub loop-sent-init : goal.loop-sent-init
loop-sent-init g c = record {
  within = search rules;
  files = added-none _ _ c.args.bytes.now (λ told. g.met.S.Store.target_told _ told c.requires.writing);
  writing = search rules;
  target = search rules;
  later = search rules;
}

pub returns-in_err-append_all-clause-err : goal.returns-in_err-append_all-clause-err
returns-in_err-append_all-clause-err g c =
    let p = err_from_is_err_and c.from_residual.result c.from_residual.ensures.1 in
    rw p.1 (added-cut _ _ _ _ _ c.args.bytes.now c.loop-sent.sent c.min-count.result c.in_err-append_all.ensures.err c.loop-sent.invariant.files c.loop-sent.invariant.target)

pub loop-sent-preserved : goal.loop-sent-preserved
loop-sent-preserved g c = record {
  within = search rules;
  files = added-next _ _ _ _ _ c.args.bytes.now c.loop-sent.sent c.min-count.result c.in_ok-append_all.ensures.ok c.loop-sent.invariant.files c.loop-sent.invariant.target;
  writing = search rules;
  target = search rules;
  later = search rules;
}
