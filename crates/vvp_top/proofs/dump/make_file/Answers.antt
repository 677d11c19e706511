use Rattle.std.proofs.lemmas.Result.{err_from_is_err_and}
use Rattle.vvp_top.proofs.DumpLemmas.{make-failed, make-new, make-none}
use Rattle.vvp_top.proofs.dump.make_file.Goals as goal

pub returns-then-made-clause-ok : goal.returns-then-made-clause-ok
returns-then-made-clause-ok g c = λ front before stands. make-none c.args.made.now c.args.name.now front before _ _ c.if-made.true stands

pub returns-in_err-create-clause-err : goal.returns-in_err-create-clause-err
returns-in_err-create-clause-err g c =
    let p = err_from_is_err_and c.from_residual.result c.from_residual.ensures.1 in
    rw p.1 (λ bytes front before stands. make-failed c.args.made.now c.args.name.now front bytes before _ _ _ c.in_err-create.ensures.err.0 stands)

pub returns-clause-ok : goal.returns-clause-ok
returns-clause-ok g c = λ front before stands. make-new c.args.made.now c.args.name.now front before _ _ _ _ c.if-made.false c.in_ok-create.ensures.files c.in_ok-create.ensures.target stands
