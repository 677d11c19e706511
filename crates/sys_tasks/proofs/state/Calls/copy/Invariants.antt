use Rattle.std.proofs.Common.{◌≡◌, take}
use Rattle.sys_tasks.proofs.state.Calls.copy.Given as goal

abbrev pub invariant-loop-call : goal.invariant-loop-call
invariant-loop-call l = l.copied ≡ take l.call-index l.calls
