use Rattle.std.proofs.Common.{◌≡◌, Some}
use Rattle.sim_core.specs.Stretch.{frame_after}
use Rattle.sim_core.proofs.stretch.go_far.Given as goal

abbrev pub invariant-loop-done : goal.invariant-loop-done
invariant-loop-done g l = record {
  after : frame_after l.fn.code (g.V.Values.words_of l.fn.values) l.done l.fn.frame ≡ Some l.frame;
}
