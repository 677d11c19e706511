use Rattle.std.proofs.Common.{arith, ◌-◌, ◌≤◌, length, vec_capacity}
use Rattle.vvp_edge.proofs.ListingLemmas.{less_fits, new_target_fits, same_target_fits, target_bound}
use Rattle.vvp_edge.proofs.mem_store.MemStoreStore.create.Goals as goal

pub invariant_of-self-in-Some : goal.invariant_of-self-in-Some
invariant_of-self-in-Some c =
    let invariant = c.self.invariant in
    let room = c.self.inside.room in
    let less = c.self.inside.room - length c.args.name.now in
    let most = vec_capacity c.self.inside.reading in
    let smaller : less ≤ room = omega arith in
    let kept = c.keep.ensures.fits most most room (omega arith) invariant.2
    (same_target_fits c.self.inside.target c.replace-done.result room most c.replace-done.ensures.value (target_bound c.self.inside.target room most invariant.3)) in (
      invariant.0,
      omega (arith, c.in-Some.ensures.left),
      less_fits c.keep.new.kept.items room less most smaller kept,
      new_target_fits c.replace-done.new.self c.in-Some.file room less most c.replace-done.ensures.after c.in-Some.ensures.room.0 c.in-Some.ensures.room.1 invariant.5 smaller,
      c.next_file.ensures.rest less smaller,
      omega arith,
      omega arith,
    )
