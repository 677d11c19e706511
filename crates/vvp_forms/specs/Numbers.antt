-- Numbers with a sign. Marks are given by their codes: + is 43, - is 45.
use Rattle.std.specs.Prelude.{ℕ, ◌^◌, ℤ, pos, neg_ℤ, nat_lt, List, Option, None, Some, if◌then◌else◌}
use Rattle.vvp_lex.specs.declared.types.Spanned.{Spanned}
use Rattle.vvp_lex.specs.Place.{◌>>=◌, number_at, is_mark_at}

-- a number of at most 2^31 - 1
unfoldable pub size_at : List Spanned → ℕ → Option ℕ
size_at tokens place = number_at tokens place >>= λ value. if nat_lt value (2 ^ 31) then Some value else None

-- with a minus before it, or nothing; and how many tokens it has
unfoldable pub integer_at : List Spanned → Option (ℤ × ℕ)
integer_at tokens =
    if is_mark_at tokens 0 45 then (size_at tokens 1 >>= λ value. Some (neg_ℤ (pos value), 2))
    else (size_at tokens 0 >>= λ value. Some (pos value, 1))

-- with a plus or a minus before it, or nothing
unfoldable pub power_at : List Spanned → Option (ℤ × ℕ)
power_at tokens =
    if is_mark_at tokens 0 43 then (size_at tokens 1 >>= λ value. Some (pos value, 2)) else integer_at tokens
