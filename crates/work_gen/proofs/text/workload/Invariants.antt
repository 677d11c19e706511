use Rattle.std.proofs.Common.{◌≡◌, ◌++◌}
use Rattle.work_gen.specs.Workload.{counters_text, scope_text}
use Rattle.work_gen.proofs.text.workload.Given as goal

abbrev pub invariant-loop-number : goal.invariant-loop-number
invariant-loop-number l = l.text.items ≡ scope_text ++ counters_text l.number
