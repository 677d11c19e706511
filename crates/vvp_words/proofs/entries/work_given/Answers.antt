use Rattle.std.proofs.Common.{true, false, ap, sym, ◌∙◌}
use Rattle.std.specs.Prelude.{option_map}
use Rattle.vvp_words.specs.Seen.{seen_given, seen_work}
use Rattle.vvp_words.proofs.EntriesLemmas.{given-none, given-some}
use Rattle.vvp_words.proofs.entries.work_given.Goals as goal

pub returns-in_err-work-clause-work : goal.returns-in_err-work-clause-work
returns-in_err-work-clause-work c = ap (option_map seen_work) c.from_residual.ensures ∙ given-none (seen_given c.args.given.now) c.in_err-work.ensures.work

pub returns-then-takes-clause-work : goal.returns-then-takes-clause-work
returns-then-takes-clause-work c = given-some (seen_given c.args.given.now) (seen_work c.in_ok-work.work) true c.in_ok-work.ensures.work (sym c.takes.ensures ∙ c.if-takes.true)

pub returns-else-takes-clause-work : goal.returns-else-takes-clause-work
returns-else-takes-clause-work c = given-some (seen_given c.args.given.now) (seen_work c.in_ok-work.work) false c.in_ok-work.ensures.work (sym c.takes.ensures ∙ c.if-takes.false)
