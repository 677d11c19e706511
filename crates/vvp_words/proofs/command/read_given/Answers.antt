use Rattle.std.proofs.Common.{sym, ◌∙◌}
use Rattle.clap.specs.Words.{app_of, found_of, rows_of}
use Rattle.vvp_words.proofs.GivenLemmas.{err_is, given_at, refused_by}
use Rattle.vvp_words.proofs.command.read_given.Goals as goal

pub returns-in-Err-clause-refused : goal.returns-in-Err-clause-refused
returns-in-Err-clause-refused c = λ refused.
    refused_by (app_of c.in_ok-command.command) _ c.in-Err.error c.in_ok-command.ensures (c.words_fault.ensures (err_is refused)) c.in-Err.ensures.kinds

pub returns-in-None-clause-refused : goal.returns-in-None-clause-refused
returns-in-None-clause-refused c = λ _.
    given_at (app_of c.in_ok-command.command) _ (rows_of (found_of c.in-Ok.matches)) c.in_ok-command.ensures c.in-Ok.ensures.kinds (λ simple. (c.in-Ok.ensures.matches simple).0)
    ∙ sym c.in-None.ensures

pub returns-clause-ok : goal.returns-clause-ok
returns-clause-ok c =
    given_at (app_of c.in_ok-command.command) _ (rows_of (found_of c.in-Ok.matches)) c.in_ok-command.ensures c.in-Ok.ensures.kinds (λ simple. (c.in-Ok.ensures.matches simple).0)
    ∙ sym c.in-Some.ensures
