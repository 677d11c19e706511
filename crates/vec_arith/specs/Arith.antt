-- Arithmetic, comparison and shifts of vectors, by the integers that they are read as.
use Rattle.std.specs.Prelude.{ℕ, ◌^◌, ℤ, pos, neg_ℤ, unsigned_abs, int_lt, Option, Some, None, List, ◌++◌, length, take, drop, min, replicate, if◌then◌else◌, nat_le, ◌==◌, unwrap_or, find}
use Rattle.std.specs.Int.{int_rem_euclid}
use Rattle.std.specs.List.{range_with_len}
use Rattle.std.specs.Option.{option_map, option_map_or}
use Rattle.four_state.specs.declared.bits.Bit.{Bit}
use Rattle.four_state.specs.declared.bits.Bit.TheVariants.{Zero, One, Unknown}
use Rattle.four_state.specs.Planes.{places}
use Rattle.four_state.specs.Vector.{known_number, known_signed_number}

-- ---- vectors as integers
-- the integer of a vector without x and z, read without a sign
abbrev pub unsigned : List Bit → Option ℤ
unsigned bits = option_map pos (known_number bits)

-- the same, read in two's complement
abbrev pub signed : List Bit → Option ℤ
signed bits = known_signed_number bits

-- the vector of a width without x and z whose number is z modulo 2 ^ width: place i holds digit i in base 2
unfoldable pub of_integer : ℤ → ℕ → List Bit
of_integer z width = places (unsigned_abs (int_rem_euclid z (pos (2 ^ width)))) 0 width

-- x at every place
abbrev pub all_unknown : ℕ → List Bit
all_unknown width = replicate width Unknown

-- ---- arithmetic
-- what two values give, where both are there, else the last argument
abbrev pub with_both : {N X : Type 0} → Option N → Option N → (N → N → X) → X → X
with_both (Some x) (Some y) give other = give x y
with_both (Some x) None give other = other
with_both None y give other = other

-- an operation on two integers, modulo 2 ^ width; all x where one isn't known
abbrev pub computed : (List Bit → Option ℤ) → (ℤ → ℤ → ℤ) → List Bit → List Bit → List Bit
computed read give left right =
    with_both (read left) (read right) (λ x y. of_integer (give x y) (length left)) (all_unknown (length left))

-- a division, which also gives all x where the right integer is 0
abbrev pub divided : (List Bit → Option ℤ) → (ℤ → ℤ → ℤ) → List Bit → List Bit → List Bit
divided read give left right =
    with_both (read left) (read right)
    (λ x y. if unsigned_abs y == 0 then all_unknown (length left) else of_integer (give x y) (length left))
    (all_unknown (length left))

-- the opposite of a number, modulo 2 ^ width; all x where it isn't known
abbrev pub negated : List Bit → List Bit
negated bits = option_map_or (λ x. of_integer (neg_ℤ (pos x)) (length bits)) (known_number bits) (all_unknown (length bits))

-- the left number to the power of the right one, modulo 2 ^ width of the left vector; all x where one isn't known
abbrev pub raised : List Bit → List Bit → List Bit
raised left right =
    with_both (known_number left) (known_number right) (λ x y. of_integer (pos (x ^ y)) (length left)) (all_unknown (length left))

-- the least n with 2 ^ n at least the value, for values up to 2 ^ 128
unfoldable pub ceil_log2 : ℕ → ℕ
ceil_log2 value = unwrap_or (find (λ n. nat_le value (2 ^ n)) (range_with_len 0 129)) 0

-- that of a number, 32 bits wide; all x where it isn't known
abbrev pub logarithm : List Bit → List Bit
logarithm bits = option_map_or (λ x. of_integer (pos (ceil_log2 x)) 32) (known_number bits) (all_unknown 32)

-- ---- comparison
-- whether the left integer is below the right one; x where one isn't known
abbrev pub less : (List Bit → Option ℤ) → List Bit → List Bit → Bit
less read left right = with_both (read left) (read right) (λ x y. if int_lt x y then One else Zero) Unknown

-- ---- shifts
-- moved up within its width, filled from below
unfoldable pub moved_up : List Bit → ℕ → Bit → List Bit
moved_up bits count fill = take (length bits) (replicate count fill ++ bits)

-- moved down, filled from above
unfoldable pub moved_down : List Bit → ℕ → Bit → List Bit
moved_down bits count fill = drop count bits ++ replicate (min count (length bits)) fill
