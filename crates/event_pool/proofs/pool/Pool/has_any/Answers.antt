use Rattle.std.proofs.Common.{ap, sym, ◌∙◌, is_some, slice_get, arith}
use Rattle.event_pool.specs.Contents.{queue_at}
use Rattle.event_pool.specs.Chain.{items_of}
use Rattle.event_pool.proofs.ChainLemmas.{has_first, queue_there, queue_read, shown-at, shown-empty}
use Rattle.event_pool.proofs.pool.Pool.has_any.Goals as goal

pub returns-then-head : goal.returns-then-head
returns-then-head g c =
    let within = queue_there _ _ _ _ _ c.self.view_is c.requires in
    ap (λ es. is_some (slice_get es 0)) (sym (shown-empty _ _ _ _ _ _ _ (omega arith) c.self.invariant.1 within c.index.ensures c.if-head.true) ∙ ap (λ v. queue_at v c.args.q) c.self.view_is)

pub returns : goal.returns
returns g c =
    let within = queue_there _ _ _ _ _ c.self.view_is c.requires in
    let first = has_first _ _ _ (queue_read _ _ _ _ _ _ _ c.self.invariant.1 within c.index.ensures) c.if-head.false in
    ap (λ es. is_some (slice_get es 0)) (sym (shown-at _ _ _ _ _ _ (omega arith) c.self.invariant.1 within ∙ ap items_of first.is) ∙ ap (λ v. queue_at v c.args.q) c.self.view_is)
