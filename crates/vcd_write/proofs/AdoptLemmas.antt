-- Taking over the values that differ.
use Rattle.std.proofs.Common.{◌≡◌, ◌≢◌, ℕ, zero, suc, ◌+◌, ◌<◌, ◌≤◌, Bool, true, false, not, cond, List, [], ◌∷◌, ◌++◌, length, get_or, set, map, take, refl, sym, ap, subst, ◌∙◌, arith, inl, inr, ◌⊎◌, All}
use Rattle.std.proofs.Math.Seq.{take-append_seam}
use Rattle.std.proofs.lemmas.Grind.{get_or_default_zero}
use Rattle.std.specs.List.{filter, range_with_len}
use Rattle.std.proofs.lemmas.Bool.{cases_Bool, cases_eq}
use Rattle.std.proofs.lemmas.List.{same_lists, length-map, get_or-map, get_or-set_same, get_or-set_other}
use Rattle.four_state.specs.declared.bits.Bit.{Bit}
use Rattle.four_state.specs.Same.{is_same, is_same-Decides}
use Rattle.value_plane.specs.Differing.{differing_places}

-- a number stands in a list, from a place on
pub record StandsFrom (xs : List ℕ) (from x : ℕ) : Type 0 where
  pub place : ℕ
  pub low : from ≤ place
  pub within : place < length xs
  pub is : get_or xs place 0 ≡ x

stands-more : (b : Bool) (x y : ℕ) (xs : List ℕ) → StandsFrom xs 0 y → StandsFrom (cond b (x ∷ xs) xs) 0 y
stands-more true x y xs s = record { place = suc s.place; low = omega arith; within = omega (arith, s.within); is = s.is }
stands-more false x y xs s = s

stands-first : (b : Bool) (x : ℕ) (xs : List ℕ) → b ≡ true → StandsFrom (cond b (x ∷ xs) xs) 0 x
stands-first true x xs e = record { place = 0; low = omega arith; within = omega arith; is = refl }
stands-first false x xs e = absurd (cc)

-- what passes stands in the filtered list
filtered : (p : ℕ → Bool) (from n k : ℕ) → from ≤ k → k < from + n → p k ≡ true → StandsFrom (filter p (range_with_len from n)) 0 k
filtered p from zero k low high e = absurd (omega arith)
filtered p from (suc n) k low high e =
    elim (cases_eq k from) [
      | inl same ↦
          let first : p from ≡ true = subst (λ (i : ℕ). p i ≡ true) same e in
          subst (λ (i : ℕ). StandsFrom (filter p (range_with_len from (suc n))) 0 i) (sym same) (stands-first (p from) from (filter p (range_with_len (from + 1) n)) first)
      | inr other ↦ stands-more (p from) from k (filter p (range_with_len (from + 1) n)) (filtered p (from + 1) n k (omega arith) (omega arith) e)
    ]

below_cond : (b : Bool) (x bound : ℕ) (xs : List ℕ) → x < bound → ((j : ℕ) → j < length xs → get_or xs j 0 < bound) → (j : ℕ) → j < length (cond b (x ∷ xs) xs) → get_or (cond b (x ∷ xs) xs) j 0 < bound
below_cond true x bound xs h rest zero within = h
below_cond true x bound xs h rest (suc j) within = rest j (omega arith)
below_cond false x bound xs h rest j within = rest j within

filtered_below : (p : ℕ → Bool) (from n bound : ℕ) → from + n ≤ bound → (j : ℕ) → j < length (filter p (range_with_len from n)) → get_or (filter p (range_with_len from n)) j 0 < bound
filtered_below p from zero bound h j within = absurd (omega arith)
filtered_below p from (suc n) bound h j within = below_cond (p from) from bound (filter p (range_with_len (from + 1) n)) (omega arith) (filtered_below p (from + 1) n bound (omega arith)) j within

-- each place that differs is there
pub differing-below : (old new : List (List Bit)) (j : ℕ) → j < length (differing_places old new) → get_or (differing_places old new) j 0 < length old
unfolding differing_places
differing-below old new j h = filtered_below (λ place. not (is_same (get_or old place []) (get_or new place []))) 0 (length old) (length old) (omega arith) j h

-- a place differs, or holds the same
pub differing-or-same : (old new : List (List Bit)) (k : ℕ) → k < length old → (get_or old k [] ≡ get_or new k []) ⊎ StandsFrom (differing_places old new) 0 k
unfolding differing_places
differing-or-same old new k h =
    elim (cases_Bool (is_same (get_or old k []) (get_or new k []))) [
      | inl same ↦ inl ((is_same-Decides (get_or old k []) (get_or new k [])).0 same)
      | inr differs ↦ inr (filtered (λ place. not (is_same (get_or old place []) (get_or new place []))) 0 (length old) k (omega arith) (omega arith) (ap not differs))
    ]

-- what was taken over so far
pub record IsAdopted (places : List ℕ) (i : ℕ) (now last : List (List Bit)) : Type 0 where
  pub widths : map length last ≡ map length now
  pub each : (k : ℕ) → k < length now → (get_or last k [] ≡ get_or now k []) ⊎ StandsFrom places i k

pub length-adopted : (places : List ℕ) (i : ℕ) (now last : List (List Bit)) → IsAdopted places i now last → length last ≡ length now
length-adopted places i now last a = sym (length-map last length) ∙ (ap length a.widths ∙ length-map now length)

pub adopted-start : (now last : List (List Bit)) → map length now ≡ map length last → IsAdopted (differing_places last now) 0 now last
adopted-start now last e = record {
  widths = sym e;
  each = λ k h.
      let long : length now ≡ length last = sym (length-map now length) ∙ (ap length e ∙ length-map last length) in
      differing-or-same last now k (omega arith);
}

pub adopted-next : (places : List ℕ) (i place : ℕ) (now last new : List (List Bit)) (value : List Bit) → IsAdopted places i now last → i < length places → place ≡ get_or places i 0 → place < length now → value ≡ get_or now place []
    → new ≡ set last place value → map length new ≡ map length last → IsAdopted places (i + 1) now new
adopted-next places i place now last new value a h ep within ev en ew = record {
  widths = ew ∙ a.widths;
  each = λ k there.
      elim (cases_eq k place) [
        | inl same ↦
            let long : length last ≡ length now = length-adopted places i now last a in
            let at : get_or new place [] ≡ value = ap (λ xs. get_or xs place []) en ∙ get_or-set_same last place value [] (omega arith) in
            inl (subst (λ (j : ℕ). get_or new j [] ≡ get_or now j []) (sym same) (at ∙ ev))
        | inr other ↦
            let at : get_or new k [] ≡ get_or last k [] = ap (λ xs. get_or xs k []) en ∙ get_or-set_other last place k value [] other in
            elim (a.each k there) [
              | inl kept ↦ inl (at ∙ kept)
              | inr stands ↦
                  let further : i ≢ stands.place = λ (e : i ≡ stands.place). other (sym stands.is ∙ (ap (λ (j : ℕ). get_or places j 0) (sym e) ∙ sym ep)) in
                  inr (record { place = stands.place; low = omega (arith, stands.low, further); within = stands.within; is = stands.is })
            ]
      ];
}

-- a place that is there reads the same whatever stands past the end
read_any : (values : List (List Bit)) (k : ℕ) (d e : List Bit) → k < length values → get_or values k d ≡ get_or values k e
read_any [] k d e h = absurd (omega arith)
read_any (value ∷ values) zero d e h = refl
read_any (value ∷ values) (suc k) d e h = read_any values k d e (omega arith)

pub adopted-all : (places : List ℕ) (i : ℕ) (now last : List (List Bit)) → length places ≤ i → IsAdopted places i now last → last ≡ now
adopted-all places i now last h a =
    let long : length last ≡ length now = length-adopted places i now last a in
    same_lists last now long
    (λ k d within.
    elim (a.each k (omega arith)) [
      | inl kept ↦ read_any last k d [] within ∙ (kept ∙ read_any now k [] d (omega arith))
      | inr stands ↦ absurd (omega (arith, stands.low, stands.within))
    ])

-- the width of a value that is taken over
pub adopted-width : (places : List ℕ) (i place : ℕ) (now last : List (List Bit)) → IsAdopted places i now last → place < length now → length (get_or now place []) ≡ length (get_or last place [])
adopted-width places i place now last a h =
    let long : length last ≡ length now = length-adopted places i now last a in
    sym (get_or-map length now place [] 0 h) ∙ (ap (λ ws. get_or ws place 0) (sym a.widths) ∙ get_or-map length last place [] 0 (omega arith))

-- the places that stand at the front of the room
pub front-places : (places rest room : List ℕ) (found : ℕ) → room ≡ places ++ rest → found ≡ length places → take found room ≡ places
front-places places rest room found e n = ap (take found) e ∙ (ap (λ k. take k (places ++ rest)) n ∙ take-append_seam places rest)

-- they are places of the values
pub places-there : (last now : List (List Bit)) (places : List ℕ) → places ≡ differing_places last now → map length now ≡ map length last → All (λ place. place < length now) places
places-there last now places e widths = λ k d h.
    let long : length now ≡ length last = sym (length-map now length) ∙ (ap length widths ∙ length-map last length) in
    let within : k < length (differing_places last now) = subst (λ ps. k < length ps) e h in
    let at : get_or places k d ≡ get_or (differing_places last now) k 0 = ap (λ ps. get_or ps k d) e ∙ get_or_default_zero (differing_places last now) k d within in
    omega (arith, at, differing-below last now k within)

-- the room as it is read after a write to it
pub read-back : (written new rest result : List ℕ) (n : ℕ) → result ≡ take n (new ++ rest) → length new ≡ n → new ≡ written → result ≡ written
read-back written new rest result n e long en = e ∙ (ap (λ k. take k (new ++ rest)) (sym long) ∙ (take-append_seam new rest ∙ en))
