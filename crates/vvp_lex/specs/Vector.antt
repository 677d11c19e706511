-- The vector that bytes spell: one bit a byte, the highest first.
use Rattle.std.specs.Prelude.{ℕ, ◌||◌, ◌==◌, nat_lt, List, length, map, reverse, Option, None, Some, if◌then◌else◌}
use Rattle.four_state.specs.declared.bits.Bit.{Bit}
use Rattle.four_state.specs.declared.bits.Bit.TheVariants as bit

-- the bit that a byte spells
abbrev pub bit_of : ℕ → Bit
bit_of byte =
    if byte == 48 then bit.Zero
    else (if byte == 49 then bit.One
    else (if byte == 122 || byte == 90 then bit.HighZ
    else bit.Unknown))

-- the vector of 1 to 128 bits that are spelled highest first, as a list with the lowest first
unfoldable pub vector_of : List ℕ → Option (List Bit)
vector_of bits =
    if length bits == 0 then None
    else (if nat_lt 128 (length bits) then None
    else Some (reverse (map bit_of bits)))
