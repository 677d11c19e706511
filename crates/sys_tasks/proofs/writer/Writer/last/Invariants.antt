use Rattle.std.proofs.Common.{◌≡◌, take}
use Rattle.sys_tasks.proofs.writer.Writer.last.Given as goal

abbrev pub invariant-loop-place : goal.invariant-loop-place
invariant-loop-place l = l.last ≡ take l.place l.plane
