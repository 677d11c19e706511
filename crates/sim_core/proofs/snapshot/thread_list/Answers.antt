use Rattle.std.proofs.Common.{◌<◌, None, length, subst, ℕ}
use Rattle.std.proofs.lemmas.Option.{slice_get-get_or}
use Rattle.vvp_threads.specs.Table.{thread_of}
use Rattle.sim_core.proofs.SnapshotLemmas.{filter-more}
use Rattle.sim_core.proofs.snapshot.thread_list.Goals as goal

pub each-preserved : goal.each-preserved
each-preserved c =
    let table = c.args.threads.now.table in
    let within : c.each.serial < length table.threads = subst (λ (n : ℕ). c.each.serial < n) c.serials-serial-end.ensures c.each-test.true in
    filter-more (λ slot. slot) table.threads c.each.serial (thread_of table c.each.serial) c.each.list c.add_thread.new.list (slice_get-get_or table.threads c.each.serial None within) c.each.invariant c.in_ok-add_thread.ensures
