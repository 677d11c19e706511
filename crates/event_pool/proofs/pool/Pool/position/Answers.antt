use Rattle.std.proofs.Common.{sym, ap, ◌∙◌, arith}
use Rattle.std.specs.List.{position_from}
use Rattle.event_pool.specs.Contents.{queue_at}
use Rattle.event_pool.proofs.ChainLemmas.{queue_there, shown-at}
use Rattle.event_pool.proofs.PoolLemmas.{laid_out}
use Rattle.event_pool.proofs.pool.Pool.position.Goals as goal

pub find_item-requires : goal.find_item-requires
find_item-requires g c =
    let within = queue_there _ _ _ _ _ c.self.view_is c.requires in
    rw c.deref.ensures.value (_, laid_out _ _ _ _ _ _ _ c.self.invariant.1 within c.index.ensures)

pub returns : goal.returns
returns g c =
    let l = c.self.invariant.1 in
    let within = queue_there _ _ _ _ _ c.self.view_is c.requires in
    let laid = laid_out _ _ _ _ _ _ _ l within c.index.ensures in
    let answer = rw c.deref.ensures.value at c.find_item.ensures in
    let seen = sym (shown-at _ _ _ _ _ _ (omega arith) l within) ∙ ap (λ v. queue_at v c.args.q) c.self.view_is in
    answer _ laid ∙ ap (position_from (λ x. g.E.PartialEq.eq x c.args.e) 0) seen
