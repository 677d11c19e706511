use Rattle.std.proofs.Common.{◌≡◌, ap, rules}
use Rattle.std.proofs.lemmas.Fn.{always_returns_same}
use Rattle.std.specs.Ordering.{is_lt}
use Rattle.sym_link.specs.Known.{label_order}
use Rattle.sym_link.proofs.IndexLemmas.{order-strict}
use Rattle.sym_link.proofs.labels.sort_places.Goals as goal

pub returns-clause-sorted : goal.returns-clause-sorted
returns-clause-sorted c = c.sort_unstable_by.ensures.sorted (λ x y. is_lt (label_order c.args.src.now c.args.placed.now x y)) (order-strict c.args.src.now c.args.placed.now)
    (always_returns_same _ (λ a r. is_lt r ≡ is_lt (label_order c.args.src.now c.args.placed.now a.0.now a.1.0.now)) _ (λ a r f k. search rules))
