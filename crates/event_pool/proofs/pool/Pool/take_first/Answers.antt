use Rattle.std.proofs.Common.{◌<◌, length, ap, sym, subst, ◌∙◌, slice_get, arith}
use Rattle.std.specs.List.{remove}
use Rattle.event_pool.specs.Contents.{queue_at, with_queue}
use Rattle.event_pool.proofs.ChainLemmas.{has_first, popped, queue_there, queue_read, some_head, item_kept}
use Rattle.event_pool.proofs.pool.Pool.take_first.Goals as goal

pub index_mut-slot-requires : goal.index_mut-slot-requires
index_mut-slot-requires g c =
    let within = queue_there _ _ _ _ _ c.self.view_is c.requires.queue in
    let there = subst (λ v. 0 < length (queue_at v c.args.q)) (sym c.self.view_is) c.requires.some in
    let head = some_head _ _ _ _ _ _ _ (omega arith) c.self.invariant.1 within c.index-ends.ensures there in
    let first = has_first _ _ _ (queue_read _ _ _ _ _ _ _ c.self.invariant.1 within c.index-ends.ensures) head in
    omega (arith, first.inside)

pub index-requires : goal.index-requires
index-requires g c =
    let within = queue_there _ _ _ _ _ c.self.view_is c.requires.queue in
    let there = subst (λ v. 0 < length (queue_at v c.args.q)) (sym c.self.view_is) c.requires.some in
    let head = some_head _ _ _ _ _ _ _ (omega arith) c.self.invariant.1 within c.index-ends.ensures there in
    let first = has_first _ _ _ (queue_read _ _ _ _ _ _ _ c.self.invariant.1 within c.index-ends.ensures) head in
    omega (arith, first.inside)

pub unreachable-requires : goal.unreachable-requires
unreachable-requires g c =
    let within = queue_there _ _ _ _ _ c.self.view_is c.requires.queue in
    let there = subst (λ v. 0 < length (queue_at v c.args.q)) (sym c.self.view_is) c.requires.some in
    let head = some_head _ _ _ _ _ _ _ (omega arith) c.self.invariant.1 within c.index-ends.ensures there in
    let first = has_first _ _ _ (queue_read _ _ _ _ _ _ _ c.self.invariant.1 within c.index-ends.ensures) head in
    let p = popped _ _ _ _ _ _ (omega arith) c.self.invariant.1 within _ _ c.index-ends.ensures head c.index_mut-slot.ensures.value in
    let kept = item_kept _ _ _ c.index_mut-slot.result.now _ first.inside c.index.ensures ∙ p.is in
    cc (c.in-None.is)

pub invariant_of-self : goal.invariant_of-self
invariant_of-self g c =
    let within = queue_there _ _ _ _ _ c.self.view_is c.requires.queue in
    let there = subst (λ v. 0 < length (queue_at v c.args.q)) (sym c.self.view_is) c.requires.some in
    let head = some_head _ _ _ _ _ _ _ (omega arith) c.self.invariant.1 within c.index-ends.ensures there in
    let p = popped _ _ _ _ _ _ (omega arith) c.self.invariant.1 within _ _ c.index-ends.ensures head c.index_mut-slot.ensures.value in
    (p.queues, p.linked)

pub returns-clause-item : goal.returns-clause-item
returns-clause-item g c =
    let within = queue_there _ _ _ _ _ c.self.view_is c.requires.queue in
    let there = subst (λ v. 0 < length (queue_at v c.args.q)) (sym c.self.view_is) c.requires.some in
    let head = some_head _ _ _ _ _ _ _ (omega arith) c.self.invariant.1 within c.index-ends.ensures there in
    let first = has_first _ _ _ (queue_read _ _ _ _ _ _ _ c.self.invariant.1 within c.index-ends.ensures) head in
    let p = popped _ _ _ _ _ _ (omega arith) c.self.invariant.1 within _ _ c.index-ends.ensures head c.index_mut-slot.ensures.value in
    let kept = item_kept _ _ _ c.index_mut-slot.result.now _ first.inside c.index.ensures in
    ap (λ v. slice_get (queue_at v c.args.q) 0) (sym c.self.view_is) ∙ ap (λ es. slice_get es 0) p.front ∙ sym p.is ∙ sym kept ∙ c.in-Some.is

pub returns-clause-queues : goal.returns-clause-queues
returns-clause-queues g c =
    let within = queue_there _ _ _ _ _ c.self.view_is c.requires.queue in
    let there = subst (λ v. 0 < length (queue_at v c.args.q)) (sym c.self.view_is) c.requires.some in
    let head = some_head _ _ _ _ _ _ _ (omega arith) c.self.invariant.1 within c.index-ends.ensures there in
    let p = popped _ _ _ _ _ _ (omega arith) c.self.invariant.1 within _ _ c.index-ends.ensures head c.index_mut-slot.ensures.value in
    p.shows ∙ ap (λ v. with_queue v c.args.q (remove (queue_at v c.args.q) 0)) c.self.view_is
