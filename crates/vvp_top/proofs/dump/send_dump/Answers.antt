use Rattle.std.proofs.Common.{◌∙◌}
use Rattle.std.proofs.lemmas.Result.{err_from_is_err_and}
use Rattle.vvp_top.proofs.DumpLemmas.{none-made, none-shown, none-stands, some-cut, some-failed, some-shown, some-stands}
use Rattle.vvp_top.proofs.dump.send_dump.Goals as goal

-- no dump
pub returns-in-None-clause-engine : goal.returns-in-None-clause-engine
returns-in-None-clause-engine g c = none-shown c.args.engine.now c.in-None.ensures

pub returns-in-None-clause-made : goal.returns-in-None-clause-made
returns-in-None-clause-made g c = none-made _ _ c.in-None.ensures

pub returns-in-None-clause-ok : goal.returns-in-None-clause-ok
returns-in-None-clause-ok g c = λ front before stands. none-stands _ _ front _ before _ _ c.in-None.ensures stands

-- a dump
pub returns-in_err-make_file-clause-err : goal.returns-in_err-make_file-clause-err
returns-in_err-make_file-clause-err g c =
    let p = err_from_is_err_and c.from_residual.result c.from_residual.ensures.1 in
    rw p.1 (λ front before stands. some-failed c.args.made.now _ c.in-Some.name.now front _ before _ _ _ c.in-Some.ensures (c.in_err-make_file.ensures.err c.args.engine.now.machine.tasks.dump front before) stands)

pub returns-in_err-append_pieces-clause-err : goal.returns-in_err-append_pieces-clause-err
returns-in_err-append_pieces-clause-err g c =
    let p = err_from_is_err_and c.from_residual-in_err-append_pieces.result c.from_residual-in_err-append_pieces.ensures.1 in
    let cut = c.in_err-append_pieces.ensures.err in
    rw p.1 (λ front before stands. some-cut c.args.made.now _ c.in-Some.name.now front _ before _ _ _ _ _ c.in-Some.ensures (c.in_ok-make_file.ensures.ok front before) (rw c.dump.ensures at cut) stands)

pub returns-clause-engine : goal.returns-clause-engine
returns-clause-engine g c = c.clear_dump.ensures ∙ some-shown c.args.engine.now c.in-Some.name.now c.in-Some.ensures

pub returns-clause-ok : goal.returns-clause-ok
returns-clause-ok g c = λ front before stands.
    some-stands c.args.made.now _ _ c.in-Some.name.now front _ before _ _ _ _ _ _ c.in-Some.ensures c.in_ok-make_file.ensures.made (c.in_ok-make_file.ensures.ok front before)
    (rw c.dump.ensures at c.in_ok-append_pieces.ensures.ok) c.append_pieces.ensures.target stands
