use Rattle.std.proofs.Common.{◌≡◌, ◌++◌, List, ℕ, ◌≤◌, length, drop}
use Rattle.event_pool.specs.Chain.{IsChain, IsLaidOut, Stores, places_of, items_of}
use Rattle.event_pool.proofs.pool.chain_items.Given as goal

-- the place starts the rest of the queue, whose items follow those so far
abbrev pub invariant-walk : goal.invariant-walk
invariant-walk g l = (queue : List (ℕ × g.row.E.Denot)) → IsLaidOut l.slots l.start queue →
    (l.counter ≤ length queue) × IsChain l.slots l.place (places_of (drop l.counter queue)) × Stores l.slots (drop l.counter queue)
    × (l.items.items ++ items_of (drop l.counter queue) ≡ items_of queue)
