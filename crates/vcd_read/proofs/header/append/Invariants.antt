use Rattle.std.proofs.Common.{◌≡◌, ◌++◌, take}
use Rattle.vcd_read.proofs.header.append.Given as goal

abbrev pub invariant-loop-byte : goal.invariant-loop-byte
invariant-loop-byte l = l.path ≡ l.fn.path ++ take l.byte-index l.more
