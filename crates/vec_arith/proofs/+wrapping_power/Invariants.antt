use Rattle.vec_arith.proofs.+wrapping_power.Given as goal

abbrev pub decreases-wrapping_power : goal.decreases-wrapping_power
decreases-wrapping_power l = l.exponent
