-- What the kinds of gate compute from bits, lowest place first (IEEE 1364-2005, 5.1 and 7.2).
use Rattle.std.specs.Prelude.{ℕ, ◌+ℤ◌, ◌-ℤ◌, ◌*ℤ◌, int_div, int_rem, if◌then◌else◌, List, map, length, slice_index_or}
use Rattle.std.specs.List.{range_with_len}
use Rattle.std.specs.Option.{option_map_or}
use Rattle.four_state.specs.declared.bits.Bit.{Bit}
use Rattle.four_state.specs.declared.bits.Bit.TheVariants.{Zero, One, Unknown}
use Rattle.four_state.specs.Bit.{and_bit, or_bit, xor_bit, not_bit, blend_bit}
use Rattle.four_state.specs.Same.{is_same}
use Rattle.four_state.specs.Vector.{at_each_place, reduction, top_bit, equality, known_number}
use Rattle.vec_arith.specs.Arith.{unsigned, signed, all_unknown, computed, divided, less, moved_up, moved_down}
use Rattle.vvp_forms.specs.declared.form.ArithmeticKind.{ArithmeticKind}
use Rattle.vvp_forms.specs.declared.form.ArithmeticKind.TheVariants as arithmetic
use Rattle.vvp_forms.specs.declared.form.CompareKind.{CompareKind}
use Rattle.vvp_forms.specs.declared.form.CompareKind.TheVariants as compare
use Rattle.vvp_forms.specs.declared.form.ShiftKind.{ShiftKind}
use Rattle.vvp_forms.specs.declared.form.ShiftKind.TheVariants as shift
use Rattle.vvp_forms.specs.declared.form.ReduceKind.{ReduceKind}
use Rattle.vvp_forms.specs.declared.form.ReduceKind.TheVariants as reduce

-- the bits of some vectors at a place
abbrev pub bits_at : List (List Bit) → ℕ → List Bit
bits_at vectors i = map (λ v. slice_index_or v i Unknown) vectors

-- a table folded over some vectors, place by place
unfoldable pub folded : (Bit → Bit → Bit) → Bit → ℕ → List (List Bit) → List Bit
folded table unit width vectors = map (λ i. reduction table unit (bits_at vectors i)) (range_with_len 0 width)

-- BUF: x for z
abbrev pub buffered_bit : Bit → Bit
buffered_bit Zero = Zero
buffered_bit One = One
buffered_bit bit = Unknown

-- one vector where the bit is 0, another where it is 1; else the equal bits of both, and x where they differ
abbrev pub selected : Bit → List Bit → List Bit → List Bit
selected Zero low high = low
selected One low high = high
selected bit low high = at_each_place blend_bit low high

unfoldable pub arithmetic_of : ArithmeticKind → List Bit → List Bit → List Bit
arithmetic_of arithmetic.Sum left right = computed unsigned ◌+ℤ◌ left right
arithmetic_of arithmetic.Difference left right = computed unsigned ◌-ℤ◌ left right
arithmetic_of arithmetic.Product left right = computed unsigned ◌*ℤ◌ left right
arithmetic_of arithmetic.Quotient left right = divided unsigned int_div left right
arithmetic_of arithmetic.SignedQuotient left right = divided signed int_div left right
arithmetic_of arithmetic.Remainder left right = divided unsigned int_rem left right
arithmetic_of arithmetic.SignedRemainder left right = divided signed int_rem left right

-- `===`: 1 where all places are the same, else 0
abbrev pub identity : List Bit → List Bit → Bit
identity left right = if is_same left right then One else Zero

-- `a > b` is `b < a`, and `a >= b` is NOT of `a < b`
unfoldable pub comparison : CompareKind → List Bit → List Bit → Bit
comparison compare.Equal left right = equality left right
comparison compare.NotEqual left right = not_bit (equality left right)
comparison compare.CaseEqual left right = identity left right
comparison compare.CaseNotEqual left right = not_bit (identity left right)
comparison compare.Greater left right = less unsigned right left
comparison compare.SignedGreater left right = less signed right left
comparison compare.GreaterEqual left right = not_bit (less unsigned left right)
comparison compare.SignedGreaterEqual left right = not_bit (less signed left right)

abbrev pub moved : ShiftKind → List Bit → ℕ → List Bit
moved shift.Left bits count = moved_up bits count Zero
moved shift.Right bits count = moved_down bits count Zero
moved shift.SignedRight bits count = moved_down bits count (top_bit bits)

-- moved by the number of another vector; all x where that has x or z
unfoldable pub shifted : ShiftKind → List Bit → List Bit → List Bit
shifted kind bits amount = option_map_or (moved kind bits) (known_number amount) (all_unknown (length bits))

unfoldable pub reduced : ReduceKind → List Bit → Bit
reduced reduce.And bits = reduction and_bit One bits
reduced reduce.Or bits = reduction or_bit Zero bits
reduced reduce.Xor bits = reduction xor_bit Zero bits
reduced reduce.Nand bits = not_bit (reduction and_bit One bits)
reduced reduce.Nor bits = not_bit (reduction or_bit Zero bits)
reduced reduce.Xnor bits = not_bit (reduction xor_bit Zero bits)
