use Rattle.std.proofs.Common.{◌≡◌, take}
use Rattle.vvp_ops.proofs.args.Args+u32.copy.Given as goal

abbrev pub invariant-loop-arg : goal.invariant-loop-arg
invariant-loop-arg l = l.copied ≡ take l.arg-index l.args
