use Rattle.std.proofs.Common.{◌≡◌, ℕ, ◌<◌, get_or, take}
use Rattle.vcd_write.specs.Value.{spelled}
use Rattle.vcd_write.proofs.value.put_bits.Given as goal

abbrev pub invariant-loop-done : goal.invariant-loop-done
invariant-loop-done l = (k : ℕ) → k < l.done → get_or l.room k 0 ≡ get_or (spelled (take l.count l.value)) k 0
