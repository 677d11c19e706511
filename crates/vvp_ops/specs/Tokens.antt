-- What digits write.
use Rattle.std.specs.Prelude.{ℕ, ◌-◌, ◌^◌, List, min}
use Rattle.std.specs.Str.Parse.{digits_value}

-- the number that digits write; one over 2^64 - 1 counts as that
unfoldable pub decimal : List ℕ → ℕ
decimal digits = min (digits_value 10 digits) (2 ^ 64 - 1)
