-- Lanes differ where the vectors do.
use Rattle.std.proofs.Common.{◌≡◌, ℕ, zero, suc, ◌+◌, ◌^◌, ◌<◌, ◌≤◌, Bool, true, false, not, ◌||◌, eqb, List, [], ◌++◌, length, get_or, map, drop, refl, sym, ap, subst, ◌∙◌, arith, zero-add}
use Rattle.std.specs.List.{filter, range_with_len}
use Rattle.std.proofs.lemmas.Bool.{eq-eqb, eqb-true}
use Rattle.four_state.specs.declared.bits.Bit.{Bit}
use Rattle.four_state.specs.Planes.{places, low_plane, high_plane, ArePlanes}
use Rattle.four_state.specs.PlaneLemmas.{low_plane-places, high_plane-places}
use Rattle.value_plane.specs.declared.lanes.Lanes.{Lanes}
use Rattle.value_plane.specs.Lanes.{joined, low_at, high_at, HasLowHalves, differs, differing_lanes, noted}
use Rattle.value_plane.specs.Vectors.{vectors, vector_at, IsPlane}
use Rattle.four_state.specs.Same.{is_same, is_same-Decides}
use Rattle.value_plane.specs.Differing.{differing_places}
use Rattle.value_plane.proofs.VectorLemmas.{length-vectors, get_or-vectors, same-widths}

filter_range : (p q : ℕ → Bool) (from n : ℕ) → ((i : ℕ) → from ≤ i → i < from + n → p i ≡ q i) → filter p (range_with_len from n) ≡ filter q (range_with_len from n)
filter_range p q from zero h = refl
filter_range p q from (suc n) h = rw (h from (omega arith) (omega arith), filter_range p q (from + 1) n (λ i low high. h i (omega arith) (omega arith))) refl

opposite : (d s : Bool) → (d ≡ false → s ≡ true) → (s ≡ true → d ≡ false) → d ≡ not s
opposite true true f g = g refl
opposite true false f g = refl
opposite false true f g = refl
opposite false false f g = f refl

none-left : (a b : Bool) → (a || b) ≡ false → a ≡ false
none-left true b e = cc
none-left false b e = refl

none-right : (a b : Bool) → (a || b) ≡ false → b ≡ false
none-right true b e = cc
none-right false b e = e

not-not : (b : Bool) → not b ≡ false → b ≡ true
not-not true e = refl
not-not false e = cc

equal : (x y : ℕ) → not (eqb x y) ≡ false → x ≡ y
equal x y e = eqb-true x y (not-not (eqb x y) e)

-- the four lists at two places
record AreEqual (lanes others : Lanes) (i : ℕ) : Type 0 where
  a_low : get_or lanes.a_low.items i 0 ≡ get_or others.a_low.items i 0
  a_high : get_or lanes.a_high.items i 0 ≡ get_or others.a_high.items i 0
  b_low : get_or lanes.b_low.items i 0 ≡ get_or others.b_low.items i 0
  b_high : get_or lanes.b_high.items i 0 ≡ get_or others.b_high.items i 0

equal-from_differs : (lanes others : Lanes) (i : ℕ) → differs lanes others i ≡ false → AreEqual lanes others i
equal-from_differs lanes others i e =
    let n1 : Bool = not (eqb (get_or lanes.a_low.items i 0) (get_or others.a_low.items i 0)) in
    let n2 : Bool = not (eqb (get_or lanes.a_high.items i 0) (get_or others.a_high.items i 0)) in
    let n3 : Bool = not (eqb (get_or lanes.b_low.items i 0) (get_or others.b_low.items i 0)) in
    let n4 : Bool = not (eqb (get_or lanes.b_high.items i 0) (get_or others.b_high.items i 0)) in
    let e3 = none-left ((n1 || n2) || n3) n4 e in
    let e2 = none-left (n1 || n2) n3 e3 in
    record {
      a_low = equal _ _ (none-left n1 n2 e2);
      a_high = equal _ _ (none-right n1 n2 e2);
      b_low = equal _ _ (none-right (n1 || n2) n3 e3);
      b_high = equal _ _ (none-right ((n1 || n2) || n3) n4 e);
    }

differs-from_equal : (lanes others : Lanes) (i : ℕ) → AreEqual lanes others i → differs lanes others i ≡ false
differs-from_equal lanes others i e = rw (eq-eqb _ _ e.a_low, eq-eqb _ _ e.a_high, eq-eqb _ _ e.b_low, eq-eqb _ _ e.b_high) refl

low_same : (l h l' h' : ℕ) → l < 2 ^ 64 → l' < 2 ^ 64 → joined l h ≡ joined l' h' → l ≡ l'
low_same l h l' h' p q e = omega arith

high_same : (l h l' h' : ℕ) → l < 2 ^ 64 → l' < 2 ^ 64 → joined l h ≡ joined l' h' → h ≡ h'
high_same l h l' h' p q e = omega arith

equal-from_vectors : (lanes others : Lanes) (widths : List ℕ) (i : ℕ) → HasLowHalves lanes → HasLowHalves others
    → ArePlanes (low_at lanes i) (high_at lanes i) (get_or widths i 0) → ArePlanes (low_at others i) (high_at others i) (get_or widths i 0)
    → vector_at lanes widths i ≡ vector_at others widths i → AreEqual lanes others i
equal-from_vectors lanes others widths i f f' p q e =
    let w = get_or widths i 0 in
    let low : low_at lanes i ≡ low_at others i = sym (low_plane-places w (low_at lanes i) (high_at lanes i) p.low_fits) ∙ (ap low_plane e ∙ low_plane-places w (low_at others i) (high_at others i) q.low_fits) in
    let high : high_at lanes i ≡ high_at others i = sym (high_plane-places w (low_at lanes i) (high_at lanes i) p.high_fits) ∙ (ap high_plane e ∙ high_plane-places w (low_at others i) (high_at others i) q.high_fits) in
    record {
      a_low = low_same _ (get_or lanes.a_high.items i 0) _ (get_or others.a_high.items i 0) (f.a_low.at i) (f'.a_low.at i) low;
      a_high = high_same (get_or lanes.a_low.items i 0) _ (get_or others.a_low.items i 0) _ (f.a_low.at i) (f'.a_low.at i) low;
      b_low = low_same _ (get_or lanes.b_high.items i 0) _ (get_or others.b_high.items i 0) (f.b_low.at i) (f'.b_low.at i) high;
      b_high = high_same (get_or lanes.b_low.items i 0) _ (get_or others.b_low.items i 0) _ (f.b_low.at i) (f'.b_low.at i) high;
    }

vectors-from_equal : (lanes others : Lanes) (widths : List ℕ) (i : ℕ) → AreEqual lanes others i → vector_at lanes widths i ≡ vector_at others widths i
vectors-from_equal lanes others widths i e = rw (e.a_low, e.a_high, e.b_low, e.b_high) refl

differs-vectors : (lanes others : Lanes) (widths : List ℕ) (i : ℕ) → HasLowHalves lanes → HasLowHalves others
    → IsPlane lanes widths → IsPlane others widths → i < length widths
    → differs lanes others i ≡ not (is_same (get_or (vectors lanes widths) i []) (get_or (vectors others widths) i []))
differs-vectors lanes others widths i f f' p q h =
    rw (get_or-vectors lanes widths i [] h, get_or-vectors others widths i [] h)
    (opposite (differs lanes others i) (is_same (vector_at lanes widths i) (vector_at others widths i))
    (λ e. ap (is_same (vector_at lanes widths i)) (sym (vectors-from_equal lanes others widths i (equal-from_differs lanes others i e))) ∙ (is_same-Decides (vector_at lanes widths i) (vector_at lanes widths i)).1 refl)
    (λ e. differs-from_equal lanes others i (equal-from_vectors lanes others widths i f f' (p.each i h) (q.each i h) ((is_same-Decides (vector_at lanes widths i) (vector_at others widths i)).0 e))))

pub differing-vectors : (lanes others : Lanes) (widths : List ℕ) (n : ℕ) → HasLowHalves lanes → HasLowHalves others
    → IsPlane lanes widths → IsPlane others widths → n ≡ length widths
    → differing_lanes lanes others 0 n ≡ differing_places (vectors lanes widths) (vectors others widths)
unfolding differing_places
differing-vectors lanes others widths n f f' p q e =
    rw (e, length-vectors lanes widths)
    (filter_range (differs lanes others) (λ i. not (is_same (get_or (vectors lanes widths) i []) (get_or (vectors others widths) i []))) 0 (length widths)
    (λ i low high. differs-vectors lanes others widths i f f' p q (omega arith)))

pub same-planes : (lanes others : Lanes) (widths wides : List ℕ) (plane other : List (List Bit)) → vectors lanes widths ≡ plane → vectors others wides ≡ other → map length plane ≡ map length other → widths ≡ wides
same-planes lanes others widths wides plane other e f same = same-widths lanes others widths wides (ap (map length) e ∙ (same ∙ sym (ap (map length) f)))

-- the places that differ, of lanes and of the vectors that they stand for
differing-same : (lanes others : Lanes) (widths wides : List ℕ) (plane other : List (List Bit)) (n : ℕ) → vectors lanes widths ≡ plane → vectors others wides ≡ other → map length plane ≡ map length other
    → HasLowHalves lanes → HasLowHalves others → IsPlane lanes widths → IsPlane others wides → n ≡ length widths
    → differing_lanes lanes others 0 n ≡ differing_places plane other
differing-same lanes others widths wides plane other n e f same h h' p q count =
    let as_wide : widths ≡ wides = same-planes lanes others widths wides plane other e f same in
    differing-vectors lanes others widths n h h' p (subst (λ ws. IsPlane others ws) (sym as_wide) q) count
    ∙ (ap (λ ws. differing_places (vectors lanes widths) (vectors others ws)) as_wide
    ∙ (ap (λ vs. differing_places vs (vectors others wides)) e ∙ ap (differing_places plane) f))

pub changed-number : (lanes others : Lanes) (widths wides : List ℕ) (plane other : List (List Bit)) (n found : ℕ) → vectors lanes widths ≡ plane → vectors others wides ≡ other → map length plane ≡ map length other
    → HasLowHalves lanes → HasLowHalves others → IsPlane lanes widths → IsPlane others wides → n ≡ length widths
    → found ≡ length (differing_lanes lanes others 0 n)
    → found ≡ length (differing_places plane other)
changed-number lanes others widths wides plane other n found e f same h h' p q count number =
    number ∙ ap length (differing-same lanes others widths wides plane other n e f same h h' p q count)

pub changed-places : (lanes others : Lanes) (widths wides : List ℕ) (plane other : List (List Bit)) (n found : ℕ) (room new : List ℕ) → vectors lanes widths ≡ plane → vectors others wides ≡ other → map length plane ≡ map length other
    → HasLowHalves lanes → HasLowHalves others → IsPlane lanes widths → IsPlane others wides → n ≡ length widths
    → new ≡ noted room 0 (differing_lanes lanes others 0 n) → found ≡ length (differing_lanes lanes others 0 n)
    → new ≡ differing_places plane other ++ drop found room
changed-places lanes others widths wides plane other n found room new e f same h h' p q count places number =
    let whole : 0 + length (differing_lanes lanes others 0 n) ≡ found = zero-add _ ∙ sym number in
    places ∙ (ap (λ k. differing_lanes lanes others 0 n ++ drop k room) whole
    ∙ ap (λ ps. ps ++ drop found room) (differing-same lanes others widths wides plane other n e f same h h' p q count))
