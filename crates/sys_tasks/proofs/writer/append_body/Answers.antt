use Rattle.std.proofs.lemmas.Result.{err_from_is_err_and}
use Rattle.sys_tasks.proofs.WritingLemmas.{at_body, changes-wanting, first-wanting, request-wanting}
use Rattle.sys_tasks.proofs.writer.append_body.Goals as goal

pub returns-in_err-begun-clause-err : goal.returns-in_err-begun-clause-err
returns-in_err-begun-clause-err c =
    let p = err_from_is_err_and c.from_residual.result c.from_residual.ensures.1 in
    rw p.1 (first-wanting c.args.values.now c.args.header c.args.requests.now (at_body c.args.out.now.items c.args.on c.args.dump.now) _ c.in_err-begun.ensures.err)

pub returns-in_err-after-clause-err : goal.returns-in_err-after-clause-err
returns-in_err-after-clause-err c =
    let p = err_from_is_err_and c.from_residual-in_err-after.result c.from_residual-in_err-after.ensures.1 in
    rw p.1 (request-wanting c.args.values.now c.args.header c.args.requests.now (at_body c.args.out.now.items c.args.on c.args.dump.now) _ _ c.in_ok-begun.ensures.ok c.in_err-after.ensures.err)

pub returns-in_err-append_changes-clause-err : goal.returns-in_err-append_changes-clause-err
returns-in_err-append_changes-clause-err c =
    let p = err_from_is_err_and c.from_residual-in_err-append_changes.result c.from_residual-in_err-append_changes.ensures.1 in
    rw p.1 (changes-wanting c.args.values.now c.args.header c.args.requests.now (at_body c.args.out.now.items c.args.on c.args.dump.now) _ _ _ c.in_ok-begun.ensures.ok c.in_ok-after.ensures.ok c.in_err-append_changes.ensures.err)
