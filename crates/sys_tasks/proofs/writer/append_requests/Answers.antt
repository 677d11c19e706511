use Rattle.std.proofs.lemmas.Result.{err_from_is_err_and}
use Rattle.sys_tasks.proofs.WritingLemmas.{at_body, requests-part}
use Rattle.sys_tasks.proofs.writer.append_requests.Goals as goal

pub returns-in_err-is_on-clause-err : goal.returns-in_err-is_on-clause-err
returns-in_err-is_on-clause-err c =
    let p = err_from_is_err_and c.from_residual.result c.from_residual.ensures.1 in
    rw p.1 (requests-part c.args.values.now c.args.requests.now c.loop-kind.kind-index (at_body c.args.out.now.items c.args.on c.args.dump.now) (at_body c.loop-kind.out.items c.loop-kind.is_on c.loop-kind.dump) _ c.loop-kind.invariant.found c.in_err-is_on.ensures.err)
