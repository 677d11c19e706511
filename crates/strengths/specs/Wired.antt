-- Wired nets: what the bits of several drivers make together.
use Rattle.std.specs.Prelude.{◌≡◌, ℕ, zero, suc, ◌<◌, Bool, true, false, if◌then◌else◌, List, map, slice_index_or, pos}
use Rattle.std.specs.List.{list_all, list_any, range_with_len}
use Rattle.std.specs.Int.{bit_at}
use Rattle.four_state.specs.declared.bits.Bit.{Bit}
use Rattle.four_state.specs.declared.bits.Bit.TheVariants.{Zero, One, Unknown, HighZ}
use Rattle.four_state.specs.Vector.{is_zero, is_one}
use Rattle.strengths.specs.declared.places.Places.{Places}
use Rattle.strengths.specs.Interval.{Interval}
use Rattle.strengths.specs.Level.{seen_bit}
use Rattle.strengths.specs.Planes.{mark}

abbrev pub is_x : Bit → Bool
is_x Unknown = true
is_x bit = false

abbrev pub is_z : Bit → Bool
is_z HighZ = true
is_z bit = false

-- z where all are z; else over the others 0 where one is 0, else x where one is x, else 1
abbrev pub wired_and : List Bit → Bit
wired_and bits =
    if list_all is_z bits then HighZ
    else if list_any is_zero bits then Zero
    else if list_any is_x bits then Unknown
    else One

-- z where all are z; else over the others 1 where one is 1, else x where one is x, else 0
abbrev pub wired_or : List Bit → Bit
wired_or bits =
    if list_all is_z bits then HighZ
    else if list_any is_one bits then One
    else if list_any is_x bits then Unknown
    else Zero

-- neither strength
abbrev pub silent : Interval
silent = record { lo = pos 0; hi = pos 0 }

-- the bits that some vectors of levels are seen as at one place
abbrev pub seen_at : List (List Interval) → ℕ → List Bit
seen_at vectors i = map (λ v. seen_bit (slice_index_or v i silent)) vectors

-- a wired net of a width, at each place
unfoldable pub wired : (List Bit → Bit) → ℕ → List (List Interval) → List Bit
wired table width vectors = map (λ i. table (seen_at vectors i)) (range_with_len 0 width)

-- ---- the places by the bit that stands there

-- three planes, at each place of a width, say whether a 0, a 1 and an x are among some bits
pub record Shows (places : Places) (width : ℕ) (bits : ℕ → List Bit) : Type 0 where
  pub zeros : (i : ℕ) → i < width → bit_at places.zeros i ≡ mark (list_any is_zero (bits i))
  pub ones : (i : ℕ) → i < width → bit_at places.ones i ≡ mark (list_any is_one (bits i))
  pub unknowns : (i : ℕ) → i < width → bit_at places.unknowns i ≡ mark (list_any is_x (bits i))

-- the bit of three digits: 0 before x before 1, and z where there is none
abbrev pub zero_first : ℕ → ℕ → ℕ → Bit
zero_first (suc n) x o = Zero
zero_first zero (suc x) o = Unknown
zero_first zero zero (suc o) = One
zero_first zero zero zero = HighZ

-- 1 before x before 0
abbrev pub one_first : ℕ → ℕ → ℕ → Bit
one_first z x (suc o) = One
one_first z (suc x) zero = Unknown
one_first (suc z) zero zero = Zero
one_first zero zero zero = HighZ
