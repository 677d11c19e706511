use Rattle.std.proofs.Common.{◌≡◌, ◌-◌, ◌≤◌, vec_len}
use Rattle.std.specs.Io.KnownBytes.{prepend_known}
use Rattle.vvp_edge.proofs.store.read_at_most.Given as goal

abbrev pub invariant-loop-bytes : goal.invariant-loop-bytes
invariant-loop-bytes g l = record {
  within : vec_len l.bytes ≤ l.most;
  bytes : g.S.Store.reading l.fn.store ≡ prepend_known l.bytes.items (g.S.Store.reading l.store);
  no_fault : g.S.Store.faults l.store ≡ g.S.Store.faults l.fn.store;
  files : g.S.Store.files l.store ≡ g.S.Store.files l.fn.store;
  writing : g.S.Store.writing l.store ≡ g.S.Store.writing l.fn.store;
  target : g.S.Store.target l.store ≡ g.S.Store.target l.fn.store;
}

abbrev pub decreases-loop-bytes : goal.decreases-loop-bytes
decreases-loop-bytes g l = l.most - vec_len l.bytes
