use Rattle.std.proofs.Common.{◌≡◌, ◌-◌, ◌≤◌, length, take}
use Rattle.vvp_edge.specs.Files.{appended}
use Rattle.vvp_edge.proofs.store.append_all.Given as goal

abbrev pub invariant-loop-sent : goal.invariant-loop-sent
invariant-loop-sent g l = record {
  within : l.sent ≤ length l.bytes;
  files : g.S.Store.files l.store ≡ appended (g.S.Store.files l.fn.store) (g.S.Store.target l.fn.store) (take l.sent l.bytes);
  reading : g.S.Store.reading l.store ≡ g.S.Store.reading l.fn.store;
  writing : g.S.Store.writing l.store ≡ g.S.Store.writing l.fn.store;
  target : g.S.Store.target l.store ≡ g.S.Store.target l.fn.store;
  no_fault : g.S.Store.faults l.store ≡ g.S.Store.faults l.fn.store;
}

abbrev pub decreases-loop-sent : goal.decreases-loop-sent
decreases-loop-sent g l = length l.bytes - l.sent
