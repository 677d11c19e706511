-- Whether bits and vectors are the same, x and z too, as `===` compares them (IEEE 1364-2005, 5.1.8), with the law that the test decides it.
use Rattle.std.proofs.Common.{◌≡◌, Bool, true, false, List, refl}
use Rattle.std.specs.Bool.{Decides}
use Rattle.std.specs.Cmp.Lexicographic.{pointwise, pointwise_decides}
use Rattle.four_state.specs.declared.bits.Bit.{Bit}
use Rattle.four_state.specs.declared.bits.Bit.TheVariants.{Zero, One, Unknown, HighZ}

-- whether two bits are the same
abbrev pub same_bit : Bit → Bit → Bool
same_bit Zero Zero = true
same_bit One One = true
same_bit Unknown Unknown = true
same_bit HighZ HighZ = true
same_bit left right = false

-- whether two vectors are as wide and have the same bit at each place
abbrev pub is_same : List Bit → List Bit → Bool
is_same left right = pointwise same_bit left right

pub same_bit-Decides : (left right : Bit) → Decides (same_bit left right) (left ≡ right)
same_bit-Decides Zero Zero = (λ h. refl, λ e. refl)
same_bit-Decides Zero One = (λ h. absurd (cc), λ e. absurd (cc))
same_bit-Decides Zero Unknown = (λ h. absurd (cc), λ e. absurd (cc))
same_bit-Decides Zero HighZ = (λ h. absurd (cc), λ e. absurd (cc))
same_bit-Decides One Zero = (λ h. absurd (cc), λ e. absurd (cc))
same_bit-Decides One One = (λ h. refl, λ e. refl)
same_bit-Decides One Unknown = (λ h. absurd (cc), λ e. absurd (cc))
same_bit-Decides One HighZ = (λ h. absurd (cc), λ e. absurd (cc))
same_bit-Decides Unknown Zero = (λ h. absurd (cc), λ e. absurd (cc))
same_bit-Decides Unknown One = (λ h. absurd (cc), λ e. absurd (cc))
same_bit-Decides Unknown Unknown = (λ h. refl, λ e. refl)
same_bit-Decides Unknown HighZ = (λ h. absurd (cc), λ e. absurd (cc))
same_bit-Decides HighZ Zero = (λ h. absurd (cc), λ e. absurd (cc))
same_bit-Decides HighZ One = (λ h. absurd (cc), λ e. absurd (cc))
same_bit-Decides HighZ Unknown = (λ h. absurd (cc), λ e. absurd (cc))
same_bit-Decides HighZ HighZ = (λ h. refl, λ e. refl)

pub is_same-Decides : (left right : List Bit) → Decides (is_same left right) (left ≡ right)
is_same-Decides left right = pointwise_decides same_bit-Decides left right
