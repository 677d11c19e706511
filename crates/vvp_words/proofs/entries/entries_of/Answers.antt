use Rattle.std.proofs.Common.{ap, ◌∙◌}
use Rattle.std.specs.Prelude.{option_map}
use Rattle.vvp_words.specs.Seen.{seen, seen_given, seen_work}
use Rattle.vvp_words.proofs.EntriesLemmas.{entries-no_budget, entries-no_order, entries-no_work, entries-some}
use Rattle.vvp_words.proofs.entries.entries_of.Goals as goal

pub returns-in_err-work-clause-entries : goal.returns-in_err-work-clause-entries
returns-in_err-work-clause-entries c =
    ap (option_map seen) c.from_residual.ensures ∙ entries-no_work (seen_given c.args.given.now) c.in_err-work.ensures.work

pub returns-in_err-budget-clause-entries : goal.returns-in_err-budget-clause-entries
returns-in_err-budget-clause-entries c =
    ap (option_map seen) c.from_residual-in_err-budget.ensures
    ∙ entries-no_budget (seen_given c.args.given.now) (seen_work c.in_ok-work.work) c.in_ok-work.ensures.work c.in_err-budget.ensures

pub returns-in_err-order-clause-entries : goal.returns-in_err-order-clause-entries
returns-in_err-order-clause-entries c =
    ap (option_map seen) c.from_residual-in_err-order.ensures
    ∙ entries-no_order (seen_given c.args.given.now) (seen_work c.in_ok-work.work) c.in_ok-budget.budget c.in_ok-work.ensures.work c.in_ok-budget.ensures c.in_err-order.ensures

pub returns-clause-entries : goal.returns-clause-entries
returns-clause-entries c =
    entries-some (seen_given c.args.given.now) (seen_work c.in_ok-work.work) c.in_ok-budget.budget c.in_ok-order.order
    c.in_ok-work.ensures.work c.in_ok-budget.ensures c.in_ok-order.ensures
