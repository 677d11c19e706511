-- Numbers that are spelled by decimal digits.
use Rattle.std.specs.Prelude.{ℕ, ◌+◌, ◌-◌, ◌*◌, Bool, nat_le, ◌&&◌, List, length, if◌then◌else◌, Option, Some, None}
use Rattle.std.specs.List.{fold, list_all}
use Rattle.std.specs.Char.{is_ascii_digit}

-- a number with one digit more at its end
abbrev pub with_digit : ℕ → ℕ → ℕ
with_digit number byte = number * 10 + (byte - 48)

-- the number that digits spell, the highest first
abbrev pub spelled : List ℕ → ℕ
spelled digits = fold with_digit 0 digits

-- whether a text is one to so many digits, and spells a number from `least` to `most`
abbrev pub is_within : ℕ → ℕ → ℕ → List ℕ → Bool
is_within places least most text =
    (nat_le 1 (length text) && nat_le (length text) places) && (list_all is_ascii_digit text && (nat_le least (spelled text) && nat_le (spelled text) most))

-- the number of such a text
unfoldable pub decimal_of : ℕ → ℕ → ℕ → List ℕ → Option ℕ
decimal_of places least most text = if is_within places least most text then Some (spelled text) else None
