use Rattle.std.proofs.Common.{sym, ap, ◌∙◌, arith}
use Rattle.std.proofs.lemmas.Result.{IfOk-weaker}
use Rattle.event_pool.specs.Contents.{queue_at}
use Rattle.event_pool.proofs.ChainLemmas.{queue_there, shown-at}
use Rattle.event_pool.proofs.PoolLemmas.{laid_out}
use Rattle.event_pool.proofs.pool.Pool.items.Goals as goal

pub chain_items-requires : goal.chain_items-requires
chain_items-requires g c =
    let within = queue_there _ _ _ _ _ c.self.view_is c.requires in
    rw c.deref.ensures.value (_, laid_out _ _ _ _ _ _ _ c.self.invariant.1 within c.index.ensures)

pub returns : goal.returns
returns g c =
    let l = c.self.invariant.1 in
    let within = queue_there _ _ _ _ _ c.self.view_is c.requires in
    let laid = laid_out _ _ _ _ _ _ _ l within c.index.ensures in
    let answer = rw c.deref.ensures.value at c.chain_items.ensures in
    let seen = sym (shown-at _ _ _ _ _ _ (omega arith) l within) ∙ ap (λ v. queue_at v c.args.q) c.self.view_is in
    IfOk-weaker c.chain_items.result _ _ (λ items shows. shows _ laid ∙ seen) answer
