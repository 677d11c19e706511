use Rattle.std.proofs.Common.{◌≡◌, ◌++◌, take}
use Rattle.work_gen.specs.Workload.{filled}
use Rattle.work_gen.proofs.text.fill.Given as goal

abbrev pub invariant-loop-byte : goal.invariant-loop-byte
invariant-loop-byte l = l.text.items ≡ l.fn.text.items ++ filled (take l.byte-index l.template) l.digits
