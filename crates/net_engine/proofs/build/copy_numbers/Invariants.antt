use Rattle.std.proofs.Common.{◌≡◌, take}
use Rattle.net_engine.proofs.build.copy_numbers.Given as goal

abbrev pub invariant-numbers : goal.invariant-numbers
invariant-numbers l = l.copy ≡ take l.i l.from
