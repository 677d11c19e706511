-- The count over the lanes is the plain count.
use Rattle.std.proofs.Common.{◌≡◌, ℕ, ◌+◌, ◌-◌, ◌/◌, ◌%◌, ◌^◌, ◌≤◌, nat_lt, Bool, true, false, cond, List, [], ◌∷◌, length, map, refl, sym, ap, ◌∙◌, arith}
use Rattle.std.proofs.lemmas.Bool.{ltb-false}
use Rattle.std.specs.Int.RustNames.{count_ones}
use Rattle.std.proofs.lemmas.List.{length-map}
use Rattle.four_state.specs.declared.bits.Bit.{Bit}
use Rattle.four_state.specs.Planes.{low_plane, high_plane}
use Rattle.toggle_lanes.specs.declared.lanes.Moves.{Moves}
use Rattle.toggle_lanes.specs.Counts.{is_rise, is_fall, places_that, moves_from}
use Rattle.toggle_lanes.specs.Lanes.{gained, lane_rises, lane_falls, above_64, lanes_of, moves_of}
use Rattle.toggle_lanes.proofs.PairLemmas.{rises-are, fall-back, halves, low-half, high-half}
use Rattle.toggle_lanes.proofs.SumLemmas.{rises-none, falls-none, rises-cons, falls-cons}

abbrev pub a_low : List Bit → ℕ
a_low value = low_plane value % 2 ^ 64

abbrev pub a_high : List Bit → ℕ
a_high value = low_plane value / 2 ^ 64

abbrev pub b_low : List Bit → ℕ
b_low value = high_plane value % 2 ^ 64

abbrev pub b_high : List Bit → ℕ
b_high value = high_plane value / 2 ^ 64

-- all values have one width
abbrev pub AreWide : ℕ → List (List Bit) → Type 0
AreWide width [] = Unit {0}
AreWide width (value ∷ values) = (length value ≡ width) × AreWide width values

one-rise : (old new : List Bit) → length old ≡ length new → count_ones (gained (a_low new) (b_low new) (a_low old) (b_low old)) + count_ones (gained (a_high new) (b_high new) (a_high old) (b_high old)) ≡ places_that is_rise old new
one-rise old new same = halves (low_plane new) (high_plane new) (low_plane old) (high_plane old) ∙ rises-are old new same

one-fall : (old new : List Bit) → length old ≡ length new → count_ones (gained (a_low old) (b_low old) (a_low new) (b_low new)) + count_ones (gained (a_high old) (b_high old) (a_high new) (b_high new)) ≡ places_that is_fall old new
one-fall old new same = halves (low_plane old) (high_plane old) (low_plane new) (high_plane new) ∙ (rises-are new old (sym same) ∙ fall-back old new same)

rises-all : (width : ℕ) (old : List Bit) (values : List (List Bit)) → length old ≡ width → AreWide width values → lane_rises (map a_low (old ∷ values)) (map b_low (old ∷ values)) 0 (length values) + lane_rises (map a_high (old ∷ values)) (map b_high (old ∷ values)) 0 (length values) ≡ moves_from is_rise old values
rises-all width old [] first wide = rw (rises-none (a_low old ∷ []) (b_low old ∷ []) 0 0 refl, rises-none (a_high old ∷ []) (b_high old ∷ []) 0 0 refl) refl
rises-all width old (new ∷ values) first wide =
    let one = one-rise old new (first ∙ sym wide.0) in
    let more = rises-all width new values wide.0 wide.1 in
    let low = rises-cons (a_low old) (a_low new) (b_low old) (b_low new) (map a_low values) (map b_low values) (length values) in
    let high = rises-cons (a_high old) (a_high new) (b_high old) (b_high new) (map a_high values) (map b_high values) (length values) in
    rw (low, high) (omega (arith, one, more))

falls-all : (width : ℕ) (old : List Bit) (values : List (List Bit)) → length old ≡ width → AreWide width values → lane_falls (map a_low (old ∷ values)) (map b_low (old ∷ values)) 0 (length values) + lane_falls (map a_high (old ∷ values)) (map b_high (old ∷ values)) 0 (length values) ≡ moves_from is_fall old values
falls-all width old [] first wide = rw (falls-none (a_low old ∷ []) (b_low old ∷ []) 0 0 refl, falls-none (a_high old ∷ []) (b_high old ∷ []) 0 0 refl) refl
falls-all width old (new ∷ values) first wide =
    let one = one-fall old new (first ∙ sym wide.0) in
    let more = falls-all width new values wide.0 wide.1 in
    let low = falls-cons (a_low old) (a_low new) (b_low old) (b_low new) (map a_low values) (map b_low values) (length values) in
    let high = falls-cons (a_high old) (a_high new) (b_high old) (b_high new) (map a_high values) (map b_high values) (length values) in
    rw (low, high) (omega (arith, one, more))

-- how many pairs there are
pairs : (old : List Bit) (values : List (List Bit)) (f : List Bit → ℕ) → length (map f (old ∷ values)) - 1 ≡ length values
pairs old values f = rw length-map (omega arith)

-- ---- values of at most 64 places have no high half, in which nothing moves
still : (a b c d : ℕ) → a ≡ 0 → b ≡ 0 → c ≡ 0 → d ≡ 0 → count_ones (gained a b c d) ≡ 0
unfolding count_ones
still a b c d e f g h =
    ap (λ x. count_ones (gained x b c d)) e
    ∙ (ap (λ x. count_ones (gained 0 x c d)) f ∙ (ap (λ x. count_ones (gained 0 0 x d)) g ∙ ap (λ x. count_ones (gained 0 0 0 x)) h))

rises-still : (width : ℕ) (old : List Bit) (values : List (List Bit)) → width ≤ 64 → length old ≡ width → AreWide width values → lane_rises (map a_high (old ∷ values)) (map b_high (old ∷ values)) 0 (length values) ≡ 0
rises-still width old [] few first wide = rises-none (a_high old ∷ []) (b_high old ∷ []) 0 0 refl
rises-still width old (new ∷ values) few first wide =
    let more = rises-still width new values few wide.0 wide.1 in
    let one = still (a_high new) (b_high new) (a_high old) (b_high old) (low-half new (omega (arith, wide.0))) (high-half new (omega (arith, wide.0))) (low-half old (omega arith)) (high-half old (omega arith)) in
    rw (rises-cons (a_high old) (a_high new) (b_high old) (b_high new) (map a_high values) (map b_high values) (length values), one, more) refl

falls-still : (width : ℕ) (old : List Bit) (values : List (List Bit)) → width ≤ 64 → length old ≡ width → AreWide width values → lane_falls (map a_high (old ∷ values)) (map b_high (old ∷ values)) 0 (length values) ≡ 0
falls-still width old [] few first wide = falls-none (a_high old ∷ []) (b_high old ∷ []) 0 0 refl
falls-still width old (new ∷ values) few first wide =
    let more = falls-still width new values few wide.0 wide.1 in
    let one = still (a_high old) (b_high old) (a_high new) (b_high new) (low-half old (omega arith)) (high-half old (omega arith)) (low-half new (omega (arith, wide.0))) (high-half new (omega (arith, wide.0))) in
    rw (falls-cons (a_high old) (a_high new) (b_high old) (b_high new) (map a_high values) (map b_high values) (length values), one, more) refl

-- either all values have more than 64 places, or none has
above-all : (width : ℕ) (values : List (List Bit)) → nat_lt 64 width ≡ true → AreWide width values → above_64 values ≡ values
above-all width [] is wide = refl
above-all width (value ∷ values) is wide =
    ap (λ b. cond b (value ∷ above_64 values) (above_64 values)) (ap (nat_lt 64) wide.0 ∙ is)
    ∙ ap (λ xs. value ∷ xs) (above-all width values is wide.1)

above-none : (width : ℕ) (values : List (List Bit)) → nat_lt 64 width ≡ false → AreWide width values → above_64 values ≡ []
above-none width [] is wide = refl
above-none width (value ∷ values) is wide =
    ap (λ b. cond b (value ∷ above_64 values) (above_64 values)) (ap (nat_lt 64) wide.0 ∙ is)
    ∙ above-none width values is wide.1

-- the moves of values of which these have a high half
abbrev moves_with : List (List Bit) → List (List Bit) → Moves
moves_with values high = moves_of (record { a_low = map a_low values; a_high = map a_high high; b_low = map b_low values; b_high = map b_high high })

with-high : (width : ℕ) (old : List Bit) (values : List (List Bit)) → length old ≡ width → AreWide width values → moves_with (old ∷ values) (old ∷ values) ≡ record { rises = moves_from is_rise old values; falls = moves_from is_fall old values }
with-high width old values first wide =
    let rises = rises-all width old values first wide in
    let falls = falls-all width old values first wide in
    rw (pairs old values a_low, pairs old values a_high, rises, falls) refl

without-high : (width : ℕ) (old : List Bit) (values : List (List Bit)) → width ≤ 64 → length old ≡ width → AreWide width values → moves_with (old ∷ values) [] ≡ record { rises = moves_from is_rise old values; falls = moves_from is_fall old values }
without-high width old values few first wide =
    let rises : lane_rises (map a_low (old ∷ values)) (map b_low (old ∷ values)) 0 (length values) + lane_rises [] [] 0 0 ≡ moves_from is_rise old values = omega (arith, rises-all width old values first wide, rises-still width old values few first wide, rises-none [] [] 0 0 refl) in
    let falls : lane_falls (map a_low (old ∷ values)) (map b_low (old ∷ values)) 0 (length values) + lane_falls [] [] 0 0 ≡ moves_from is_fall old values = omega (arith, falls-all width old values first wide, falls-still width old values few first wide, falls-none [] [] 0 0 refl) in
    rw (pairs old values a_low, rises, falls) refl

-- how often a net's places move, by its lanes and by its values
by-width : (width : ℕ) (old : List Bit) (values : List (List Bit)) (b : Bool) → nat_lt 64 width ≡ b → length old ≡ width → AreWide width values → moves_of (lanes_of (old ∷ values)) ≡ record { rises = moves_from is_rise old values; falls = moves_from is_fall old values }
by-width width old values true is first wide =
    ap (moves_with (old ∷ values)) (above-all width (old ∷ values) is (first, wide)) ∙ with-high width old values first wide
by-width width old values false is first wide =
    ap (moves_with (old ∷ values)) (above-none width (old ∷ values) is (first, wide)) ∙ without-high width old values (ltb-false 64 width is) first wide

pub moves-are : (width : ℕ) (old : List Bit) (values : List (List Bit)) → length old ≡ width → AreWide width values → moves_of (lanes_of (old ∷ values)) ≡ record { rises = moves_from is_rise old values; falls = moves_from is_fall old values }
moves-are width old values first wide = by-width width old values (nat_lt 64 width) refl first wide
