use Rattle.std.proofs.Common.{◌≡◌, ◌-◌, ◌≤◌, length, take}
use Rattle.vvp_edge.specs.Files.{appended}
use Rattle.vvp_top.proofs.pieces.append_pieces.Given as goal

abbrev pub invariant-loop-sent : goal.invariant-loop-sent
invariant-loop-sent g l = record {
  within : l.sent ≤ length l.bytes;
  files : g.S.Store.files l.store ≡ appended (g.S.Store.files l.fn.store) (g.S.Store.target l.fn.store) (take l.sent l.bytes);
  writing : g.S.Store.writing l.store ≡ g.S.Store.writing l.fn.store;
  target : g.S.Store.target l.store ≡ g.S.Store.target l.fn.store;
  later : g.S.Store.faults l.fn.store ≤ g.S.Store.faults l.store;
}

abbrev pub decreases-loop-sent : goal.decreases-loop-sent
decreases-loop-sent g l = length l.bytes - l.sent
