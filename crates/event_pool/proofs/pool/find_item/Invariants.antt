use Rattle.std.proofs.Common.{◌≡◌, List, ℕ, ◌≤◌, length, drop}
use Rattle.std.specs.List.{position_from}
use Rattle.event_pool.specs.Chain.{IsChain, IsLaidOut, Stores, places_of, items_of}
use Rattle.event_pool.proofs.pool.find_item.Given as goal

-- the place starts the rest of the queue, which gives the answer
abbrev pub invariant-loop-k : goal.invariant-loop-k
invariant-loop-k g l = (queue : List (ℕ × g.row.E.Denot)) → IsLaidOut l.slots l.start queue →
    (l.k ≤ length queue) × IsChain l.slots l.place (places_of (drop l.k queue)) × Stores l.slots (drop l.k queue)
    × (position_from (λ x. g.E.PartialEq.eq x l.e) l.k (items_of (drop l.k queue)) ≡ position_from (λ x. g.E.PartialEq.eq x l.e) 0 (items_of queue))
