-- The places of bits, joined.
use Rattle.std.proofs.Common.{◌≡◌, ℕ, zero-add, ◌-◌, ◌^◌, ◌<◌, ◌≤◌, min, max, Bool, true, false, not, ◌||◌, cond, List, [], ◌∷◌, ◌++◌, length, get_or, map, refl, sym, ap, ◌∙◌, arith, bit_and, bit_or}
use Rattle.std.specs.Int.{bit_at, bit_not, w128}
use Rattle.std.specs.List.{list_any, list_all, range_with_len}
use Rattle.std.proofs.lemmas.List.{same_lists, length-map, get_or-map}
use Rattle.std.proofs.lemmas.List.Folds.{list_any-append}
use Rattle.std.proofs.lemmas.List.FromFn.{length-map-range_with_len, get_or-map-range_with_len}
use Rattle.std.proofs.lemmas.Nat.Bits.{bit_at_and, bit_at_or, bit_at_not, bit_at-lt, bit_at-zero}
use Rattle.std.proofs.lemmas.Nat.{or_lt}
use Rattle.four_state.specs.declared.bits.Bit.{Bit}
use Rattle.four_state.specs.declared.bits.Bit.TheVariants.{Zero, One, Unknown, HighZ}
use Rattle.four_state.specs.Planes as four
use Rattle.four_state.specs.PlaneLemmas as four_lemmas
use Rattle.four_state.specs.PlaneLemmas.{at_digit}
use Rattle.four_state.specs.Vector.{is_zero, is_one}
use Rattle.strengths.specs.declared.places.Places.{Places}
use Rattle.strengths.specs.Interval.{Interval}
use Rattle.strengths.specs.Level.{driven}
use Rattle.strengths.specs.Planes.{mark}
use Rattle.strengths.specs.Wired.{is_x, is_z, seen_at, wired, Shows, zero_first, one_first, wired_and, wired_or}
use Rattle.strengths.proofs.Shown.{three_digits}

pub Shows-same : (places : Places) (w : ℕ) (bits more : ℕ → List Bit) → Shows places w bits → ((i : ℕ) → i < w → bits i ≡ more i) → Shows places w more
Shows-same places w bits more p each = record {
  zeros = λ i h. p.zeros i h ∙ ap (λ xs. mark (list_any is_zero xs)) (each i h);
  ones = λ i h. p.ones i h ∙ ap (λ xs. mark (list_any is_one xs)) (each i h);
  unknowns = λ i h. p.unknowns i h ∙ ap (λ xs. mark (list_any is_x xs)) (each i h);
}

pub Shows-narrow : (places : Places) (w v : ℕ) (bits : ℕ → List Bit) → v ≤ w → Shows places w bits → Shows places v bits
Shows-narrow places w v bits m p = record {
  zeros = λ i h. p.zeros i (omega arith);
  ones = λ i h. p.ones i (omega arith);
  unknowns = λ i h. p.unknowns i (omega arith);
}

pub Shows-none : (w : ℕ) (bits : ℕ → List Bit) → ((i : ℕ) → i < w → bits i ≡ []) → Shows (record { zeros = 0; ones = 0; unknowns = 0 }) w bits
Shows-none w bits each = record {
  zeros = λ i h. bit_at-zero i ∙ sym (ap (λ xs. mark (list_any is_zero xs)) (each i h));
  ones = λ i h. bit_at-zero i ∙ sym (ap (λ xs. mark (list_any is_one xs)) (each i h));
  unknowns = λ i h. bit_at-zero i ∙ sym (ap (λ xs. mark (list_any is_x xs)) (each i h));
}

-- ---- both
mark_or : (a b : Bool) → max (mark a) (mark b) ≡ mark (a || b)
mark_or true true = refl
mark_or true false = refl
mark_or false true = refl
mark_or false false = refl

mark_any : (test : Bit → Bool) (xs ys : List Bit) → max (mark (list_any test xs)) (mark (list_any test ys)) ≡ mark (list_any test (xs ++ ys))
mark_any test xs ys = mark_or (list_any test xs) (list_any test ys) ∙ sym (ap mark (list_any-append test xs ys))

pub Shows-with : (a b : Places) (w : ℕ) (bits more : ℕ → List Bit) → Shows a w bits → Shows b w more
    → Shows (record { zeros = bit_or a.zeros b.zeros; ones = bit_or a.ones b.ones; unknowns = bit_or a.unknowns b.unknowns }) w (λ i. bits i ++ more i)
Shows-with a b w bits more p q = record {
  zeros = λ i h. rw (bit_at_or, p.zeros i h, q.zeros i h) (mark_any is_zero (bits i) (more i));
  ones = λ i h. rw (bit_at_or, p.ones i h, q.ones i h) (mark_any is_one (bits i) (more i));
  unknowns = λ i h. rw (bit_at_or, p.unknowns i h, q.unknowns i h) (mark_any is_x (bits i) (more i));
}

-- ---- the bits of a vector

-- what holds of the four choices of two digits
at_two_digits : (P : ℕ → ℕ → Type 0) → P 0 0 → P 1 0 → P 0 1 → P 1 1 → (a b i : ℕ) → P (bit_at a i) (bit_at b i)
at_two_digits P p q r s a b i =
    at_digit (λ x. P x (bit_at b i)) (at_digit (λ y. P 0 y) p r _ (bit_at-lt b i)) (at_digit (λ y. P 1 y) q s _ (bit_at-lt b i)) _ (bit_at-lt a i)

pub Shows-planes : (a b : ℕ) (v : List Bit) → four.places a b (length v) ≡ v → length v ≤ 128 → a < 2 ^ 128 → b < 2 ^ 128
    → Shows (record { zeros = bit_not w128 (bit_or a b); ones = bit_and a (bit_not w128 b); unknowns = bit_and a b }) (length v) (λ i. get_or v i HighZ ∷ [])
Shows-planes a b v e m p q =
    let here = λ (i : ℕ) (h : i < length v). ap (λ u. get_or u i HighZ) (sym e) ∙ four_lemmas.get_or-places a b (length v) i HighZ h in
    record {
      zeros = λ i h.
          rw (here i h, bit_at_not w128 (bit_or a b) i (or_lt 128 a b p q) (omega arith), bit_at_or)
          (at_two_digits (λ x y. 1 - max x y ≡ mark (list_any is_zero (four.plane_bit x y ∷ []))) refl refl refl refl a b i);
      ones = λ i h.
          rw (here i h, bit_at_and, bit_at_not w128 b i q (omega arith))
          (at_two_digits (λ x y. min x (1 - y) ≡ mark (list_any is_one (four.plane_bit x y ∷ []))) refl refl refl refl a b i);
      unknowns = λ i h.
          rw (here i h, bit_at_and)
          (at_two_digits (λ x y. min x y ≡ mark (list_any is_x (four.plane_bit x y ∷ []))) refl refl refl refl a b i);
    }

-- ---- one bit a place
pub one_first-digits : (z x o : ℕ) → z < 2 → x < 2 → o < 2 → zero_first (min z (1 - max o x)) (min x (1 - o)) o ≡ one_first z x o
one_first-digits z x o p q r = three_digits (λ z x o. zero_first (min z (1 - max o x)) (min x (1 - o)) o ≡ one_first z x o) refl refl refl refl refl refl refl refl z x o p q r

zero_first-one : (bit : Bit) → zero_first (mark (list_any is_zero (bit ∷ []))) (mark (list_any is_x (bit ∷ []))) (mark (list_any is_one (bit ∷ []))) ≡ bit
zero_first-one Zero = refl
zero_first-one One = refl
zero_first-one Unknown = refl
zero_first-one HighZ = refl

pub map-shown : (s0 s1 : ℕ) (places : Places) (w : ℕ) (v : List Bit) → w ≡ length v → Shows places (length v) (λ i. get_or v i HighZ ∷ [])
    → map (λ i. driven s0 s1 (zero_first (bit_at places.zeros i) (bit_at places.unknowns i) (bit_at places.ones i))) (range_with_len 0 w) ≡ map (driven s0 s1) v
map-shown s0 s1 places w v e p =
    same_lists _ _ (length-map-range_with_len _ 0 w ∙ e ∙ sym (length-map v (driven s0 s1)))
    (λ i d h.
    let inside : i < w = rw length-map-range_with_len at h in
    let within : i < length v = omega arith in
    get_or-map-range_with_len _ 0 w i i d inside (zero-add i)
    ∙ ap (driven s0 s1) (rw (p.zeros i within, p.unknowns i within, p.ones i within) (zero_first-one (get_or v i HighZ)))
    ∙ sym (get_or-map (driven s0 s1) v i HighZ d within))

-- ---- wired nets
or_true : (a b : Bool) → not (a || (b || true)) ≡ false
or_true true b = refl
or_true false true = refl
or_true false false = refl

or_true_middle : (a : Bool) → not (a || true) ≡ false
or_true_middle true = refl
or_true_middle false = refl

all_z : (bits : List Bit) → list_all is_z bits ≡ not (list_any is_zero bits || (list_any is_x bits || list_any is_one bits))
all_z [] = refl
all_z (Zero ∷ bits) = refl
all_z (One ∷ bits) = sym (or_true (list_any is_zero bits) (list_any is_x bits))
all_z (Unknown ∷ bits) = sym (or_true_middle (list_any is_zero bits))
all_z (HighZ ∷ bits) = all_z bits

by_zero : (a b c : Bool) → zero_first (mark a) (mark b) (mark c) ≡ cond (not (a || (b || c))) HighZ (cond a Zero (cond b Unknown One))
by_zero true b c = refl
by_zero false true c = refl
by_zero false false true = refl
by_zero false false false = refl

by_one : (a b c : Bool) → one_first (mark a) (mark b) (mark c) ≡ cond (not (a || (b || c))) HighZ (cond c One (cond b Unknown Zero))
by_one true true true = refl
by_one true true false = refl
by_one true false true = refl
by_one true false false = refl
by_one false true true = refl
by_one false true false = refl
by_one false false true = refl
by_one false false false = refl

pub wired_and-shown : (bits : List Bit) → zero_first (mark (list_any is_zero bits)) (mark (list_any is_x bits)) (mark (list_any is_one bits)) ≡ wired_and bits
wired_and-shown bits = rw all_z (by_zero (list_any is_zero bits) (list_any is_x bits) (list_any is_one bits))

pub wired_or-shown : (bits : List Bit) → one_first (mark (list_any is_zero bits)) (mark (list_any is_x bits)) (mark (list_any is_one bits)) ≡ wired_or bits
wired_or-shown bits = rw all_z (by_one (list_any is_zero bits) (list_any is_x bits) (list_any is_one bits))

pub map-wired : (s0 s1 : ℕ) (f : ℕ → Bit) (table : List Bit → Bit) (w v : ℕ) (vectors : List (List Interval)) → w ≡ v → ((i : ℕ) → i < w → f i ≡ table (seen_at vectors i))
    → map (λ i. driven s0 s1 (f i)) (range_with_len 0 w) ≡ map (driven s0 s1) (wired table v vectors)
unfolding wired
map-wired s0 s1 f table w v vectors e each =
    same_lists _ _ (length-map-range_with_len _ 0 w ∙ e ∙ sym (length-map-range_with_len (λ i. table (seen_at vectors i)) 0 v) ∙ sym (length-map (map (λ i. table (seen_at vectors i)) (range_with_len 0 v)) (driven s0 s1)))
    (λ i d h.
    let inside : i < w = rw length-map-range_with_len at h in
    let inside' : i < v = omega arith in
    let within : i < length (map (λ i. table (seen_at vectors i)) (range_with_len 0 v)) = rw length-map-range_with_len inside' in
    get_or-map-range_with_len _ 0 w i i d inside (zero-add i)
    ∙ ap (driven s0 s1) (each i inside ∙ sym (get_or-map-range_with_len (λ i. table (seen_at vectors i)) 0 v i i HighZ inside' (zero-add i)))
    ∙ sym (get_or-map (driven s0 s1) (map (λ i. table (seen_at vectors i)) (range_with_len 0 v)) i HighZ d within))
