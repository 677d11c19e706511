-- How four planes spell a number from -7 to 7 at each place: a sign and three binary digits.
use Rattle.std.specs.Prelude.{◌≡◌, ℕ, zero, suc, ◌+◌, ◌*◌, ◌^◌, ◌<◌, ◌≤◌, ℤ, pos, negsuc, neg_ℤ, nat_abs, ◌≤ℤ◌, Bool, true, false, List, [], ◌∷◌, map}
use Rattle.std.specs.List.{range_with_len}
use Rattle.std.specs.Int.{bit_at}
use Rattle.strengths.specs.declared.planes.EndPlanes.{EndPlanes}
use Rattle.strengths.specs.Interval.{Interval}

-- a test as a digit
abbrev pub mark : Bool → ℕ
mark true = 1
mark false = 0

-- the first where a digit is 1, else the second
abbrev pub chosen : {X : Type 0} → ℕ → X → X → X
chosen zero inside outside = outside
chosen (suc digit) inside outside = inside

-- the number of a sign and three digits
abbrev pub signed : ℕ → ℕ → ℕ → ℕ → ℤ
signed negative fours twos ones = chosen negative (neg_ℤ (pos (4 * fours + 2 * twos + ones))) (pos (4 * fours + 2 * twos + ones))

-- the number that planes spell at a place
unfoldable pub end_at : EndPlanes → ℕ → ℤ
end_at ends i = signed (bit_at ends.negative i) (bit_at ends.fours i) (bit_at ends.twos i) (bit_at ends.ones i)

-- its size
unfoldable pub strength_at : EndPlanes → ℕ → ℕ
strength_at ends i = 4 * bit_at ends.fours i + 2 * bit_at ends.twos i + bit_at ends.ones i

-- minus the one strength where the first digit is 1, else the other where the second is
abbrev pub driven_end : ℕ → ℕ → ℕ → ℕ → ℤ
driven_end down up s0 s1 = chosen down (neg_ℤ (pos s0)) (chosen up (pos s1) (pos 0))

-- the level at a place, from one end to the other
abbrev pub level_at : EndPlanes → EndPlanes → ℕ → Interval
level_at lo hi i = record { lo = end_at lo i; hi = end_at hi i }

-- the levels of a width
unfoldable pub levels : EndPlanes → EndPlanes → ℕ → List Interval
levels lo hi width = map (level_at lo hi) (range_with_len 0 width)

-- ---- planes that a list of levels gives back

abbrev pub sign_digit : ℤ → ℕ
sign_digit (pos n) = 0
sign_digit (negsuc n) = 1

-- nothing stands from the width on, and no sign where the number is 0
pub record AreKept (ends : EndPlanes) (width : ℕ) : Type 0 where
  pub negative : ends.negative < 2 ^ width
  pub fours : ends.fours < 2 ^ width
  pub twos : ends.twos < 2 ^ width
  pub ones : ends.ones < 2 ^ width
  pub signs : (i : ℕ) → i < width → sign_digit (end_at ends i) ≡ bit_at ends.negative i

-- the planes of 1 to 128 levels
pub record AreLevels (lo hi : EndPlanes) (width : ℕ) : Type 0 where
  pub least : 1 ≤ width
  pub most : width ≤ 128
  pub lo_kept : AreKept lo width
  pub hi_kept : AreKept hi width
  pub ordered : (i : ℕ) → i < width → end_at lo i ≤ℤ end_at hi i

-- the plane of one digit
unfoldable pub plane_of : (Interval → ℕ) → List Interval → ℕ
plane_of digit [] = 0
plane_of digit (level ∷ rest) = digit level + 2 * plane_of digit rest

-- the planes of one end
abbrev pub planes_of : (Interval → ℤ) → List Interval → EndPlanes
planes_of end list = record {
  negative = plane_of (λ level. sign_digit (end level)) list;
  fours = plane_of (λ level. bit_at (nat_abs (end level)) 2) list;
  twos = plane_of (λ level. bit_at (nat_abs (end level)) 1) list;
  ones = plane_of (λ level. bit_at (nat_abs (end level)) 0) list;
}
