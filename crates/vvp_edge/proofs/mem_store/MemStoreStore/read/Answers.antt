use Rattle.std.proofs.Common.{rules, ap, ◌∙◌, sym, Some}
use Rattle.vvp_edge.specs.MemoryStore.{StoreState}
use Rattle.vvp_edge.proofs.ListingLemmas.{read_from}
use Rattle.vvp_edge.proofs.mem_store.MemStoreStore.read.Goals as goal

pub returns-clause-bytes : goal.returns-clause-bytes
returns-clause-bytes c =
    ap (λ (s : StoreState). Some s.reading) (sym c.self.view_is)
    ∙ ap Some (read_from c.self.inside.reading.items c.deref.result.now _ c.self.inside.read c.copy_front-count.result c.deref.ensures.value (search rules) c.copy_front-count.ensures.front)
