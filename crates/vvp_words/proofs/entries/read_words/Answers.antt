use Rattle.std.proofs.Common.{sym, ◌∙◌}
use Rattle.vvp_words.specs.Seen.{seen_given}
use Rattle.vvp_words.proofs.EntriesLemmas.{nothing_said, said}
use Rattle.vvp_words.proofs.GivenLemmas.{same_err}
use Rattle.vvp_words.proofs.entries.read_words.Goals as goal

pub returns-in-Err-clause-refused : goal.returns-in-Err-clause-refused
returns-in-Err-clause-refused c = λ refused. nothing_said _ (c.in-Err.ensures.refused (same_err refused))

pub returns-in-None-clause-refused : goal.returns-in-None-clause-refused
returns-in-None-clause-refused c = λ _. said _ (seen_given c.in-Ok.given) c.in-Ok.ensures.ok ∙ sym c.in-None.ensures.entries

pub returns-in-Some-clause-ok : goal.returns-in-Some-clause-ok
returns-in-Some-clause-ok c = said _ (seen_given c.in-Ok.given) c.in-Ok.ensures.ok ∙ sym c.in-Some.ensures.entries
