-- The bits that levels are seen as, on planes.
use Rattle.std.proofs.Common.{◌≡◌, ℕ, ◌+◌, ◌-◌, ◌%◌, ◌^◌, ◌<◌, ◌≤◌, max, eqb, ℤ, ◌≤ℤ◌, Bool, true, false, not, ◌&&◌, cond, List, [], ◌∷◌, length, get_or, map, refl, sym, ◌∙◌, arith, bit_or, bit_xor}
use Rattle.std.specs.Prelude.{int_lt}
use Rattle.std.specs.Int.{bit_at, bit_not, w128}
use Rattle.std.specs.List.{list_any}
use Rattle.std.proofs.lemmas.Bool.{eqb-true, eq-eqb}
use Rattle.std.proofs.lemmas.Int.{ints}
use Rattle.std.proofs.lemmas.List.{length-map, get_or-map}
use Rattle.std.proofs.lemmas.Nat.{or_lt}
use Rattle.std.proofs.lemmas.Nat.Bits.{bit_at_or, bit_at_xor, bit_at_not, bit_at-lt}
use Rattle.four_state.specs.declared.bits.Bit.{Bit}
use Rattle.four_state.specs.declared.bits.Bit.TheVariants.{Zero, One, Unknown, HighZ}
use Rattle.four_state.specs.Planes as four
use Rattle.four_state.specs.PlaneLemmas as four_lemmas
use Rattle.four_state.specs.PlaneLemmas.{at_digit}
use Rattle.four_state.specs.Vector.{is_zero, is_one}
use Rattle.strengths.specs.declared.planes.EndPlanes.{EndPlanes}
use Rattle.strengths.specs.declared.places.Places.{Places}
use Rattle.strengths.specs.DigitLemmas.{at_eight}
use Rattle.strengths.specs.Interval.{Interval}
use Rattle.strengths.specs.Level.{driven, seen_bit}
use Rattle.strengths.specs.Planes.{mark, signed, sign_digit, driven_end, end_at, levels, AreLevels}
use Rattle.strengths.specs.Wired.{is_x, silent, Shows, zero_first}
use Rattle.strengths.proofs.Spelled.{width_spelled, level_spelled}

-- ---- driven from places

pub three_digits : (P : ℕ → ℕ → ℕ → Type 0) → P 0 0 0 → P 0 0 1 → P 0 1 0 → P 0 1 1 → P 1 0 0 → P 1 0 1 → P 1 1 0 → P 1 1 1 → (a b c : ℕ) → a < 2 → b < 2 → c < 2 → P a b c
three_digits P p q r s t u v w a b c h k m =
    at_digit (λ a. P a b c)
    (at_digit (λ b. P 0 b c) (at_digit (λ c. P 0 0 c) p q c m) (at_digit (λ c. P 0 1 c) r s c m) b k)
    (at_digit (λ b. P 1 b c) (at_digit (λ c. P 1 0 c) t u c m) (at_digit (λ c. P 1 1 c) v w c m) b k)
    a h

pub driven_lo : (s0 s1 z x o : ℕ) → z < 2 → x < 2 → o < 2 → driven_end (max z x) o s0 s1 ≡ (driven s0 s1 (zero_first z x o)).lo
driven_lo s0 s1 z x o p q r = three_digits (λ z x o. driven_end (max z x) o s0 s1 ≡ (driven s0 s1 (zero_first z x o)).lo) refl refl refl refl refl refl refl refl z x o p q r

pub driven_hi : (s0 s1 z x o : ℕ) → z < 2 → x < 2 → o < 2 → driven_end z (max o x) s0 s1 ≡ (driven s0 s1 (zero_first z x o)).hi
driven_hi s0 s1 z x o p q r = three_digits (λ z x o. driven_end z (max o x) s0 s1 ≡ (driven s0 s1 (zero_first z x o)).hi) refl refl refl refl refl refl refl refl z x o p q r

pub driven_ordered : (s0 s1 : ℕ) (bit : Bit) → (driven s0 s1 bit).lo ≤ℤ (driven s0 s1 bit).hi
driven_ordered s0 s1 Zero = omega (arith, ints)
driven_ordered s0 s1 One = omega (arith, ints)
driven_ordered s0 s1 Unknown = omega (arith, ints)
driven_ordered s0 s1 HighZ = omega (arith, ints)

-- ---- seen from ends

and_true : (a b : Bool) → a ≡ true → b ≡ true → (a && b) ≡ true
and_true true b e f = f
and_true false b e f = absurd (cc)

when : (a b : Bool) → cond a b true ≡ true → a ≡ true → b ≡ true
when true b e f = e
when false b e f = absurd (cc)

-- digits that spell a level, with no sign where there is no strength
abbrev is_level : ℕ → ℕ → ℕ → ℕ → ℕ → ℕ → ℕ → ℕ → Bool
is_level n f t o m g u p = eqb (sign_digit (signed n f t o)) n && (eqb (sign_digit (signed m g u p)) m && not (int_lt (signed m g u p) (signed n f t o)))

abbrev spelled : ℕ → ℕ → ℕ → ℕ → ℕ → ℕ → ℕ → ℕ → Interval
spelled n f t o m g u p = record { lo = signed n f t o; hi = signed m g u p }

zero_digits : (n f t o m g u p : ℕ) → n < 2 → f < 2 → t < 2 → o < 2 → m < 2 → g < 2 → u < 2 → p < 2 → is_level n f t o m g u p ≡ true
    → m ≡ mark (list_any is_zero (seen_bit (spelled n f t o m g u p) ∷ []))
zero_digits n f t o m g u p a b c d e h i j l =
    eqb-true _ _ (when (is_level n f t o m g u p) _
    (at_eight (λ n f t o m g u p. cond (is_level n f t o m g u p) (eqb m (mark (list_any is_zero (seen_bit (spelled n f t o m g u p) ∷ [])))) true) refl n f t o m g u p a b c d e h i j) l)

one_digits : (n f t o m g u p : ℕ) → n < 2 → f < 2 → t < 2 → o < 2 → m < 2 → g < 2 → u < 2 → p < 2 → is_level n f t o m g u p ≡ true
    → (max (max f t) o + n) % 2 ≡ mark (list_any is_one (seen_bit (spelled n f t o m g u p) ∷ []))
one_digits n f t o m g u p a b c d e h i j l =
    eqb-true _ _ (when (is_level n f t o m g u p) _
    (at_eight (λ n f t o m g u p. cond (is_level n f t o m g u p) (eqb ((max (max f t) o + n) % 2) (mark (list_any is_one (seen_bit (spelled n f t o m g u p) ∷ [])))) true) refl n f t o m g u p a b c d e h i j) l)

x_digits : (n f t o m g u p : ℕ) → n < 2 → f < 2 → t < 2 → o < 2 → m < 2 → g < 2 → u < 2 → p < 2 → is_level n f t o m g u p ≡ true
    → (max (max (max f t) o) (max (max g u) p) + max m ((max (max f t) o + n) % 2)) % 2 ≡ mark (list_any is_x (seen_bit (spelled n f t o m g u p) ∷ []))
x_digits n f t o m g u p a b c d e h i j l =
    eqb-true _ _ (when (is_level n f t o m g u p) _
    (at_eight (λ n f t o m g u p. cond (is_level n f t o m g u p) (eqb ((max (max (max f t) o) (max (max g u) p) + max m ((max (max f t) o + n) % 2)) % 2) (mark (list_any is_x (seen_bit (spelled n f t o m g u p) ∷ [])))) true) refl n f t o m g u p a b c d e h i j) l)

not_below : (x y : ℤ) → x ≤ℤ y → not (int_lt y x) ≡ true
not_below x y h = grind (arith, ints)

level_digits : (lo hi : EndPlanes) (w i : ℕ) → AreLevels lo hi w → i < w
    → is_level (bit_at lo.negative i) (bit_at lo.fours i) (bit_at lo.twos i) (bit_at lo.ones i) (bit_at hi.negative i) (bit_at hi.fours i) (bit_at hi.twos i) (bit_at hi.ones i) ≡ true
unfolding end_at
level_digits lo hi w i p h =
    and_true _ _ (eq-eqb _ _ (p.lo_kept.signs i h)) (and_true _ _ (eq-eqb _ _ (p.hi_kept.signs i h)) (not_below _ _ (p.ordered i h)))

-- the planes of the places, from those of the ends
pub shows_ends : (lo hi : EndPlanes) (w : ℕ) (xs : List Interval) → levels lo hi w ≡ xs → AreLevels lo hi w
    → Shows (record {
      zeros = hi.negative;
      ones = bit_xor (bit_or (bit_or lo.fours lo.twos) lo.ones) lo.negative;
      unknowns = bit_xor (bit_or (bit_or (bit_or lo.fours lo.twos) lo.ones) (bit_or (bit_or hi.fours hi.twos) hi.ones)) (bit_or hi.negative (bit_xor (bit_or (bit_or lo.fours lo.twos) lo.ones) lo.negative));
    }) (length xs) (λ i. seen_bit (get_or xs i silent) ∷ [])
unfolding end_at
shows_ends lo hi w xs e p =
    let width : w ≡ length xs = width_spelled lo hi w xs e in
    record {
      zeros = λ i h.
          rw (level_spelled lo hi w xs i silent e h)
          (zero_digits _ _ _ _ _ _ _ _ (bit_at-lt lo.negative i) (bit_at-lt lo.fours i) (bit_at-lt lo.twos i) (bit_at-lt lo.ones i) (bit_at-lt hi.negative i) (bit_at-lt hi.fours i) (bit_at-lt hi.twos i) (bit_at-lt hi.ones i) (level_digits lo hi w i p (omega arith)));
      ones = λ i h.
          rw (level_spelled lo hi w xs i silent e h)
          (simp (bit_at_xor, bit_at_or)
          (one_digits _ _ _ _ _ _ _ _ (bit_at-lt lo.negative i) (bit_at-lt lo.fours i) (bit_at-lt lo.twos i) (bit_at-lt lo.ones i) (bit_at-lt hi.negative i) (bit_at-lt hi.fours i) (bit_at-lt hi.twos i) (bit_at-lt hi.ones i) (level_digits lo hi w i p (omega arith))));
      unknowns = λ i h.
          rw (level_spelled lo hi w xs i silent e h)
          (simp (bit_at_xor, bit_at_or)
          (x_digits _ _ _ _ _ _ _ _ (bit_at-lt lo.negative i) (bit_at-lt lo.fours i) (bit_at-lt lo.twos i) (bit_at-lt lo.ones i) (bit_at-lt hi.negative i) (bit_at-lt hi.fours i) (bit_at-lt hi.twos i) (bit_at-lt hi.ones i) (level_digits lo hi w i p (omega arith))));
    }

-- ---- the planes of what is seen

seen_plane : (bit : Bit) → four.plane_bit (max (mark (list_any is_one (bit ∷ []))) (mark (list_any is_x (bit ∷ [])))) (1 - max (mark (list_any is_zero (bit ∷ []))) (mark (list_any is_one (bit ∷ [])))) ≡ bit
seen_plane Zero = refl
seen_plane One = refl
seen_plane Unknown = refl
seen_plane HighZ = refl

pub places-seen : (places : Places) (w : ℕ) (xs : List Interval) → w ≡ length xs → w ≤ 128 → places.zeros < 2 ^ 128 → places.ones < 2 ^ 128
    → Shows places (length xs) (λ i. seen_bit (get_or xs i silent) ∷ [])
    → four.places (bit_or places.ones places.unknowns) (bit_not w128 (bit_or places.zeros places.ones)) w ≡ map seen_bit xs
places-seen places w xs e m z o p =
    four_lemmas.places_are _ _ w _ (length-map xs seen_bit ∙ sym e)
    (λ i d h.
    let within : i < length xs = omega arith in
    rw (bit_at_or, bit_at_not w128 (bit_or places.zeros places.ones) i (or_lt 128 places.zeros places.ones z o) (omega arith), bit_at_or, p.zeros i within, p.ones i within, p.unknowns i within)
    (seen_plane (seen_bit (get_or xs i silent)) ∙ sym (get_or-map seen_bit xs i silent d within)))
