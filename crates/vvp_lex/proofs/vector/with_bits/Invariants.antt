use Rattle.std.proofs.Common.{◌≡◌, [], ◌∷◌, ◌++◌, map, reverse, take}
use Rattle.vvp_lex.specs.Vector.{bit_of}
use Rattle.vvp_lex.proofs.vector.with_bits.Given as goal

abbrev pub invariant-loop-byte : goal.invariant-loop-byte
invariant-loop-byte l = l.vector ≡ reverse (map bit_of (take l.byte-index l.bits)) ++ l.fn.top ∷ []
