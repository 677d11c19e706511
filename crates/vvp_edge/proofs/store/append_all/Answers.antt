use Rattle.std.proofs.Common.{rules, ◌∙◌, take}
use Rattle.std.proofs.lemmas.Result.{err_from_is_err_and}
use Rattle.vvp_edge.proofs.Told.{appended_none, appended_more, front_is_prefix}
use Rattle.vvp_edge.proofs.store.append_all.Goals as goal

pub loop-sent-init : goal.loop-sent-init
loop-sent-init g c = record {
  within = search rules;
  files = appended_none _ _ c.args.bytes.now (λ told. g.met.S.Store.target_told _ told c.requires);
  reading = search rules;
  writing = search rules;
  target = search rules;
  no_fault = search rules;
}

pub returns-in_err-taken-clause-err : goal.returns-in_err-taken-clause-err
returns-in_err-taken-clause-err g c =
    let p = err_from_is_err_and c.from_residual.result c.from_residual.ensures.1 in
    rw p.1 (take c.loop-sent.sent c.args.bytes.now, front_is_prefix _ _, c.in_err-taken.ensures.files ∙ c.loop-sent.invariant.files)

pub loop-sent-preserved : goal.loop-sent-preserved
loop-sent-preserved g c = record {
  within = search rules;
  files = appended_more _ _ _ _ _ c.args.bytes.now c.loop-sent.sent c.in_ok-taken.taken c.in_ok-taken.ensures.files c.loop-sent.invariant.files c.loop-sent.invariant.target;
  reading = search rules;
  writing = search rules;
  target = search rules;
  no_fault = search rules;
}
