-- The law is proved of runs; the test says that the names are plain.
use Rattle.std.proofs.Common.{sym, ◌∙◌}
use Rattle.dump_law.proofs.RunLemmas.{runs-own}
use Rattle.dump_law.proofs.plain.plain_names.Goals as goal

pub returns-clause-own : goal.returns-clause-own
returns-clause-own c = λ yes_ linked order budget. runs-own c.args.program.now order budget linked (sym c.are_plain.ensures ∙ yes_)
