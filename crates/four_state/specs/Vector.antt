-- What the operations on vectors answer (IEEE 1364-2005, 5.1 and 5.2). A vector is a list of bits, lowest place first.
use Rattle.std.specs.Prelude.{ℕ, zero, suc, ◌-◌, ◌^◌, ℤ, pos, negsuc, ◌+ℤ◌, ◌-ℤ◌, Bool, true, false, if◌then◌else◌, ◌||◌, Option, Some, None, List, [], ◌∷◌, ◌++◌, length, map, take, replicate, slice_index_or}
use Rattle.std.specs.List.{range_with_len, enumerate_from, zip, list_any, sum_by}
use Rattle.four_state.specs.declared.bits.Bit.{Bit}
use Rattle.four_state.specs.declared.bits.Bit.TheVariants.{Zero, One, Unknown}

-- a table applied at each place
unfoldable pub at_each_place : {A B C : Type 0} → (A → B → C) → List A → List B → List C
at_each_place table [] rights = []
at_each_place table (left ∷ lefts) [] = []
at_each_place table (left ∷ lefts) (right ∷ rights) = table left right ∷ at_each_place table lefts rights

-- a table folded over the places
unfoldable pub reduction : (Bit → Bit → Bit) → Bit → List Bit → Bit
reduction table unit [] = unit
reduction table unit (bit ∷ bits) = table bit (reduction table unit bits)

-- the bit at a place, or another one where the list has no such place
abbrev pub place_or : List Bit → ℤ → Bit → Bit
place_or bits (pos i) other = slice_index_or bits i other
place_or bits (negsuc i) other = other

-- the places from `base` up; x outside
unfoldable pub part_of : List Bit → ℤ → ℕ → List Bit
part_of bits base width = map (λ i. place_or bits (pos i +ℤ base) Unknown) (range_with_len 0 width)

-- a piece laid over the bits at an offset; what lies outside is dropped
unfoldable pub overlaid : List Bit → ℤ → List Bit → List Bit
overlaid bits offset piece = map (λ p. place_or piece (pos p.0 -ℤ offset) p.1) (enumerate_from 0 bits)

-- cut, or extended by a bit
abbrev pub resized : List Bit → ℕ → Bit → List Bit
resized bits width fill = take width bits ++ replicate (width - length bits) fill

-- the bit at the highest place
abbrev pub top_bit : List Bit → Bit
top_bit bits = slice_index_or bits (length bits - 1) Unknown

-- a number of copies
unfoldable pub copies : ℕ → List Bit → List Bit
copies zero bits = []
copies (suc n) bits = bits ++ copies n bits

abbrev pub is_zero : Bit → Bool
is_zero Zero = true
is_zero bit = false

abbrev pub is_one : Bit → Bool
is_one One = true
is_one bit = false

-- x or z
abbrev pub is_unknown : Bit → Bool
is_unknown Zero = false
is_unknown One = false
is_unknown bit = true

-- two known bits that differ
abbrev pub is_difference : Bit → Bit → Bool
is_difference Zero One = true
is_difference One Zero = true
is_difference left right = false

-- `==`: 0 where two known bits differ in one place, else x where any bit is x or z, else 1
unfoldable pub equality : List Bit → List Bit → Bit
equality lefts rights =
    if list_any (λ p. is_difference p.0 p.1) (zip lefts rights) then Zero
    else if list_any is_unknown lefts || list_any is_unknown rights then Unknown
    else One

-- the sum of 2 ^ i over the places i that hold 1
unfoldable pub number : List Bit → ℕ
number bits = sum_by (λ p. if is_one p.1 then 2 ^ p.0 else 0) (enumerate_from 0 bits)

-- the number, where no bit is x or z
abbrev pub known_number : List Bit → Option ℕ
known_number bits = if list_any is_unknown bits then None else Some (number bits)

-- that number, less 2 ^ width where the top bit is 1
unfoldable pub signed_number : List Bit → ℤ
signed_number bits = pos (number bits) -ℤ pos (if is_one (top_bit bits) then 2 ^ length bits else 0)

-- the signed number, where no bit is x or z
abbrev pub known_signed_number : List Bit → Option ℤ
known_signed_number bits = if list_any is_unknown bits then None else Some (signed_number bits)
