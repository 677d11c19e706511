use Rattle.std.proofs.Common.{ap, ◌∙◌, rules}
use Rattle.std.proofs.lemmas.List.Sorted.{answers_always}
use Rattle.std.proofs.lemmas.Result.{on_ok_weaker}
use Rattle.event_pool.specs.Order.{turn_of, in_order}
use Rattle.event_pool.proofs.SortLemmas.{sorted-from_sort}
use Rattle.event_pool.proofs.dues.Dues.sort.Goals as goal

pub returns-clause-ok : goal.returns-clause-ok
returns-clause-ok c =
    let stable = c.sort_by_key.ensures.stable turn_of (answers_always _ _ _ (λ f a r g h. search rules)) in
    on_ok_weaker c.sort_by_key.result
    (λ sorted. sorted-from_sort turn_of _ _ (sorted turn_of (answers_always _ _ _ (λ f a r g h. search rules))) stable ∙ ap in_order c.self.view_is)
    c.sort_by_key.ensures.sorted
