-- The rows on comparisons: the stack and the flags after an opcode, or the first trap.
use Rattle.std.specs.Prelude.{ℕ, ℤ, if◌then◌else◌, List, Option, drop, Result, Ok, slice_set}
use Rattle.four_state.specs.declared.bits.Bit.{Bit}
use Rattle.four_state.specs.declared.bits.Bit.TheVariants.{Zero, One}
use Rattle.four_state.specs.Bit.{and_bit, not_bit, match_z_bit, match_x_bit}
use Rattle.four_state.specs.Planes.{places}
use Rattle.four_state.specs.Same.{is_same}
use Rattle.four_state.specs.Vector.{at_each_place, reduction, equality}
use Rattle.vec_arith.specs.Arith.{unsigned, signed, less}
use Rattle.vvp_ops.specs.declared.op.Op.{Op}
use Rattle.vvp_ops.specs.declared.op.Op.TheVariants.{CompareUnsigned, CompareSigned, CompareEqual, CompareNotEqual, CompareWildZ, CompareWildX, CompareUnsignedImmediate, CompareSignedImmediate, CompareEqualImmediate, CompareNotEqualImmediate}
use Rattle.op_exec.specs.declared.effect.TrapKind.{TrapKind}
use Rattle.op_exec.specs.Rows.{◌>>=◌, equal_two_of, top_of_width}

-- `===`: 1 where all places are identical, else 0 (IEEE 1364-2005, 5.1.8)
unfoldable pub identity : List Bit → List Bit → Bit
identity left right = if is_same left right then One else Zero

-- flag 4 is `==` and flag 6 is `===`
unfoldable pub with_equality : List Bit → List Bit → List Bit → List Bit
with_equality flags left right = slice_set (slice_set flags 4 (equality left right)) 6 (identity left right)

-- both inverted
unfoldable pub with_inequality : List Bit → List Bit → List Bit → List Bit
with_inequality flags left right = slice_set (slice_set flags 4 (not_bit (equality left right))) 6 (not_bit (identity left right))

-- and flag 5 is left below right
abbrev pub with_order : (List Bit → Option ℤ) → List Bit → List Bit → List Bit → List Bit
with_order read flags left right = slice_set (with_equality flags left right) 5 (less read left right)

-- flag 4 is 1 where a table of single bits gives 1 at each place, else 0
unfoldable pub with_match : (Bit → Bit → Bit) → List Bit → List Bit → List Bit → List Bit
with_match table flags left right = slice_set flags 4 (reduction and_bit One (at_each_place table left right))

-- left and right are popped, and what they give are the flags
abbrev pub compared : List (List Bit) → (List Bit → List Bit → List Bit) → Result (List (List Bit) × List Bit) TrapKind
compared stack give = do
  pair ← equal_two_of stack
  Ok (drop 2 stack, give pair.0 pair.1)

-- the same with the immediate, of this width, as the right one
abbrev pub compared_with : List (List Bit) → ℕ → List Bit → (List Bit → List Bit → List Bit) → Result (List (List Bit) × List Bit) TrapKind
compared_with stack width right give = do
  left ← top_of_width stack width
  Ok (drop 1 stack, give left right)

-- the stack and the flags after the row of an opcode
abbrev pub comparison_row : Op ℕ → List (List Bit) → List Bit → Result (List (List Bit) × List Bit) TrapKind
comparison_row CompareUnsigned stack flags = compared stack (with_order unsigned flags)
comparison_row CompareSigned stack flags = compared stack (with_order signed flags)
comparison_row CompareEqual stack flags = compared stack (with_equality flags)
comparison_row CompareNotEqual stack flags = compared stack (with_inequality flags)
comparison_row CompareWildZ stack flags = compared stack (with_match match_z_bit flags)
comparison_row CompareWildX stack flags = compared stack (with_match match_x_bit flags)
comparison_row (CompareUnsignedImmediate low high width) stack flags = compared_with stack width (places low high width) (with_order unsigned flags)
comparison_row (CompareSignedImmediate low high width) stack flags = compared_with stack width (places low high width) (with_order signed flags)
comparison_row (CompareEqualImmediate low high width) stack flags = compared_with stack width (places low high width) (with_equality flags)
comparison_row (CompareNotEqualImmediate low high width) stack flags = compared_with stack width (places low high width) (with_inequality flags)
comparison_row _ stack flags = Ok (stack, flags)
