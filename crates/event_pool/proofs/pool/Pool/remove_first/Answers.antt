use Rattle.std.proofs.Common.{◌<◌, ◌+◌, length, sym, ◌∙◌, arith}
use Rattle.event_pool.specs.Contents.{queue_at}
use Rattle.event_pool.proofs.FindLemmas.{position-within}
use Rattle.event_pool.proofs.pool.Pool.remove_first.Goals as goal

pub take_at-requires-clause-within : goal.take_at-requires-clause-within
take_at-requires-clause-within g c =
    let queue = queue_at c.args.self.now c.args.q in
    let known = sym c.position.ensures ∙ c.in-Some.is in
    let inside : c.in-Some.k < 0 + length queue = position-within (λ x. g.E.PartialEq.eq x c.args.e) 0 c.in-Some.k queue known in
    omega arith
