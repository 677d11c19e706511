use Rattle.std.proofs.Common.{ap, sym, ◌∙◌, slice_get, arith}
use Rattle.event_pool.specs.Contents.{queue_at}
use Rattle.event_pool.proofs.ChainLemmas.{has_first, queue_there, queue_read, shown-empty}
use Rattle.event_pool.proofs.PoolLemmas.{first_is}
use Rattle.event_pool.proofs.pool.Pool.first.Goals as goal

pub returns-then-head : goal.returns-then-head
returns-then-head g c =
    let within = queue_there _ _ _ _ _ c.self.view_is c.requires in
    ap (λ es. slice_get es 0) (sym (shown-empty _ _ _ _ _ _ _ (omega arith) c.self.invariant.1 within c.index.ensures c.if-head.true) ∙ ap (λ v. queue_at v c.args.q) c.self.view_is)

pub index-requires-2 : goal.index-requires-2
index-requires-2 g c =
    let within = queue_there _ _ _ _ _ c.self.view_is c.requires in
    let first = has_first _ _ _ (queue_read _ _ _ _ _ _ _ c.self.invariant.1 within c.index.ensures) c.if-head.false in
    omega (arith, first.inside)

pub returns : goal.returns
returns g c =
    let within = queue_there _ _ _ _ _ c.self.view_is c.requires in
    first_is _ _ _ _ _ _ _ _ (omega arith) c.self.invariant.1 within c.index.ensures c.if-head.false c.index-2.ensures
    ∙ ap (λ v. slice_get (queue_at v c.args.q) 0) c.self.view_is
