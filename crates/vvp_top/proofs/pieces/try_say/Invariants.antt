use Rattle.std.proofs.Common.{◌≡◌, ◌≤◌, take}
use Rattle.std.specs.Io.KnownBytes.{append_known}
use Rattle.std.specs.List.{flat_map}
use Rattle.vvp_top.proofs.pieces.try_say.Given as goal

abbrev pub invariant-loop-text : goal.invariant-loop-text
invariant-loop-text g l = record {
  held : g.M.Sink.held l.errs ≡ append_known (g.M.Sink.held l.fn.errs) (flat_map (λ text. text.now) (take l.text-index l.texts));
  later : g.M.Sink.faults l.fn.errs ≤ g.M.Sink.faults l.errs;
}
