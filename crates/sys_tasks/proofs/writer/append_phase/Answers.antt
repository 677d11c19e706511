use Rattle.std.proofs.Common.{◌≡◌, length, arith}
use Rattle.std.proofs.lemmas.Result.{IfOk-weaker, err_from_is_err_and, on_err_weaker}
use Rattle.sys_tasks.proofs.WritingLemmas.{phase-cut, phase-done, unbegun}
use Rattle.sys_tasks.proofs.writer.append_phase.Goals as goal

pub returns-in_err-time_line-clause-err : goal.returns-in_err-time_line-clause-err
returns-in_err-time_line-clause-err c =
    let p = err_from_is_err_and c.from_residual.result c.from_residual.ensures.1 in
    rw p.1 (unbegun c.args.out.now.items _ c.time_line.new.out.items c.in_err-time_line.ensures.err)

pub returns-clause-ok : goal.returns-clause-ok
returns-clause-ok c =
    let before : c.len-before.result ≡ length c.args.out.now.items = omega (arith, c.len-before.ensures, c.args.out.now.ok) in
    let behind : c.len-after.result ≡ length c.time_line.new.out.items = omega (arith, c.len-after.ensures, c.time_line.new.out.ok) in
    IfOk-weaker c.append_body-result.result _ _
    (λ after told. phase-done c.args.values.now c.args.header c.args.requests.now c.args.on c.args.dump.now c.args.now c.args.out.now.items c.time_line.new.out.items c.append_body-result.new.out.items c.cut.new.out.items after c.append_body-result.new.dump
    c.len-before.result c.len-after.result before behind c.in_ok-time_line.ensures.ok told c.cut.ensures)
    c.append_body-result.ensures.ok

pub returns-clause-err : goal.returns-clause-err
returns-clause-err c =
    let before : c.len-before.result ≡ length c.args.out.now.items = omega (arith, c.len-before.ensures, c.args.out.now.ok) in
    let behind : c.len-after.result ≡ length c.time_line.new.out.items = omega (arith, c.len-after.ensures, c.time_line.new.out.ok) in
    on_err_weaker c.append_body-result.result
    (λ told. phase-cut c.args.values.now c.args.header c.args.requests.now c.args.on c.args.dump.now c.args.now c.args.out.now.items c.time_line.new.out.items c.append_body-result.new.out.items c.cut.new.out.items
    c.len-before.result c.len-after.result before behind c.in_ok-time_line.ensures.ok told c.cut.ensures)
    c.append_body-result.ensures.err
