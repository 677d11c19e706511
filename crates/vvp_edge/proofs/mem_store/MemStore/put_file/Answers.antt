use Rattle.std.proofs.Common.{rules, vec_capacity}
use Rattle.vvp_edge.proofs.ListingLemmas.{same_files_fit, target_fits}
use Rattle.vvp_edge.proofs.mem_store.MemStore.put_file.Goals as goal

pub invariant_of-self-2 : goal.invariant_of-self-2
invariant_of-self-2 c =
    let invariant = c.self.invariant in (
      search rules,
      search rules,
      c.keep.ensures.fits (vec_capacity c.self.inside.reading) (vec_capacity c.reserve.new.self) c.self.inside.room (search rules)
          (same_files_fit _ _ c.self.inside.room _ c.reserve-2.ensures.items invariant.2) (search rules),
      target_fits c.self.inside.target c.self.inside.room _ _ (search rules) invariant.3,
      invariant.4,
      search rules,
      search rules,
    )
