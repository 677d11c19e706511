-- The tables on single bits (IEEE 1364-2005, 5.1.10 and 7.2). As an input of AND, OR, XOR and NOT z is x.
use Rattle.four_state.specs.declared.bits.Bit.{Bit}
use Rattle.four_state.specs.declared.bits.Bit.TheVariants.{Zero, One, Unknown, HighZ}

-- 0 where one is 0, else 1 where both are 1, else x
abbrev pub and_bit : Bit → Bit → Bit
and_bit Zero right = Zero
and_bit left Zero = Zero
and_bit One One = One
and_bit left right = Unknown

-- 1 where one is 1, else 0 where both are 0, else x
abbrev pub or_bit : Bit → Bit → Bit
or_bit One right = One
or_bit left One = One
or_bit Zero Zero = Zero
or_bit left right = Unknown

-- x where one is x, else the parity
abbrev pub xor_bit : Bit → Bit → Bit
xor_bit Zero Zero = Zero
xor_bit Zero One = One
xor_bit One Zero = One
xor_bit One One = Zero
xor_bit left right = Unknown

-- 0 and 1 exchange, else x
abbrev pub not_bit : Bit → Bit
not_bit Zero = One
not_bit One = Zero
not_bit bit = Unknown

-- equal bits stay, z too; others are x
abbrev pub blend_bit : Bit → Bit → Bit
blend_bit Zero Zero = Zero
blend_bit One One = One
blend_bit HighZ HighZ = HighZ
blend_bit left right = Unknown

-- what two drivers of one strength make together: z yields, equal bits stay, others are x
abbrev pub resolve_bit : Bit → Bit → Bit
resolve_bit HighZ right = right
resolve_bit left HighZ = left
resolve_bit Zero Zero = Zero
resolve_bit One One = One
resolve_bit left right = Unknown

-- 1 where both are equal or one is z, as `casez` compares (IEEE 1364-2005, 9.5.1); else 0
abbrev pub match_z_bit : Bit → Bit → Bit
match_z_bit HighZ right = One
match_z_bit left HighZ = One
match_z_bit Zero Zero = One
match_z_bit One One = One
match_z_bit Unknown Unknown = One
match_z_bit left right = Zero

-- 1 where both are equal or one is x or z, as `casex` compares (IEEE 1364-2005, 9.5.1); else 0
abbrev pub match_x_bit : Bit → Bit → Bit
match_x_bit Zero One = Zero
match_x_bit One Zero = Zero
match_x_bit left right = One
