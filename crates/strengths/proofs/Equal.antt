-- Equal planes and equal lists.
use Rattle.std.proofs.Common.{◌≡◌, ℕ, Bool, true, false, ◌&&◌, eqb, List, length, refl, sym, ap, ◌∙◌}
use Rattle.std.specs.Bool.{Decides}
use Rattle.std.specs.Ordering.{int_eq}
use Rattle.std.specs.Cmp.Lexicographic.{pointwise}
use Rattle.std.proofs.lemmas.Bool.{eqb-true, eq-eqb}
use Rattle.std.proofs.lemmas.Bool.Decides.{Decides-int_eq, same_from_decides}
use Rattle.std.proofs.lemmas.Slice.Eq.{slice_eq-Decides}
use Rattle.strengths.specs.declared.planes.EndPlanes.{EndPlanes}
use Rattle.strengths.specs.Interval.{Interval}
use Rattle.strengths.specs.IntervalLaws.{same_interval}
use Rattle.strengths.specs.Planes.{levels, planes_of, AreLevels}
use Rattle.strengths.specs.PlaneLemmas.{length-levels, planes_of-lo, planes_of-hi}

both_true : (a b : Bool) → (a && b) ≡ true → (a ≡ true) × (b ≡ true)
both_true true b e = (refl, e)
both_true false b e = absurd (cc)

and_true : (a b : Bool) → a ≡ true → b ≡ true → (a && b) ≡ true
and_true true b e f = f
and_true false b e f = absurd (cc)

same_ends : (x y : EndPlanes) → x.negative ≡ y.negative → x.fours ≡ y.fours → x.twos ≡ y.twos → x.ones ≡ y.ones → x ≡ y
same_ends x y n f t o = ap (λ m. record x { negative = m }) n ∙ ap (λ m. record x { negative = y.negative; fours = m }) f ∙ ap (λ m. record x { negative = y.negative; fours = y.fours; twos = m }) t ∙ ap (λ m. record y { ones = m }) o

same_of : (x y : Interval) → x.lo ≡ y.lo → x.hi ≡ y.hi → x ≡ y
same_of x y l h = ap (λ z. record x { lo = z }) l ∙ ap (λ z. record y { hi = z }) h

pub ends_Decides : (x y : EndPlanes) → Decides (eqb x.negative y.negative && (eqb x.fours y.fours && (eqb x.twos y.twos && eqb x.ones y.ones))) (x ≡ y)
ends_Decides x y = (
  λ h.
      let first : (eqb x.negative y.negative ≡ true) × ((eqb x.fours y.fours && (eqb x.twos y.twos && eqb x.ones y.ones)) ≡ true) = both_true _ _ h in
      let second : (eqb x.fours y.fours ≡ true) × ((eqb x.twos y.twos && eqb x.ones y.ones) ≡ true) = both_true _ _ first.1 in
      let third : (eqb x.twos y.twos ≡ true) × (eqb x.ones y.ones ≡ true) = both_true _ _ second.1 in
      let negative : x.negative ≡ y.negative = eqb-true _ _ first.0 in
      let fours : x.fours ≡ y.fours = eqb-true _ _ second.0 in
      let twos : x.twos ≡ y.twos = eqb-true _ _ third.0 in
      let ones : x.ones ≡ y.ones = eqb-true _ _ third.1 in
      same_ends x y negative fours twos ones,
  λ e.
      and_true _ _ (eq-eqb _ _ (ap (λ (ends : EndPlanes). ends.negative) e))
      (and_true _ _ (eq-eqb _ _ (ap (λ (ends : EndPlanes). ends.fours) e))
      (and_true _ _ (eq-eqb _ _ (ap (λ (ends : EndPlanes). ends.twos) e)) (eq-eqb _ _ (ap (λ (ends : EndPlanes). ends.ones) e)))),
)

interval_Decides : (x y : Interval) → Decides (same_interval x y) (x ≡ y)
interval_Decides x y = (
  λ h.
      let ends : (int_eq x.lo y.lo ≡ true) × (int_eq x.hi y.hi ≡ true) = both_true _ _ h in
      same_of x y ((Decides-int_eq x.lo y.lo).0 ends.0) ((Decides-int_eq x.hi y.hi).0 ends.1),
  λ e. and_true _ _ ((Decides-int_eq x.lo y.lo).1 (ap (λ (level : Interval). level.lo) e)) ((Decides-int_eq x.hi y.hi).1 (ap (λ (level : Interval). level.hi) e)),
)

pub lists_test : (xs ys : List Interval) (r : Bool) → Decides r (xs ≡ ys) → r ≡ pointwise same_interval xs ys
lists_test xs ys r d = same_from_decides r (pointwise same_interval xs ys) d (slice_eq-Decides interval_Decides xs ys _ refl)

-- ---- vectors
same_width : (a b c d : EndPlanes) (w v : ℕ) (xs ys : List Interval) → levels a b w ≡ xs → levels c d v ≡ ys → xs ≡ ys → w ≡ v
same_width a b c d w v xs ys e f s = sym (length-levels a b w) ∙ ap length (e ∙ s ∙ sym f) ∙ length-levels c d v

same_lo : (a b c d : EndPlanes) (w v : ℕ) (xs ys : List Interval) → levels a b w ≡ xs → levels c d v ≡ ys → AreLevels a b w → AreLevels c d v → xs ≡ ys → a ≡ c
same_lo a b c d w v xs ys e f p q s = sym (planes_of-lo a b w p) ∙ ap (planes_of (λ level. level.lo)) (e ∙ s ∙ sym f) ∙ planes_of-lo c d v q

same_hi : (a b c d : EndPlanes) (w v : ℕ) (xs ys : List Interval) → levels a b w ≡ xs → levels c d v ≡ ys → AreLevels a b w → AreLevels c d v → xs ≡ ys → b ≡ d
same_hi a b c d w v xs ys e f p q s = sym (planes_of-hi a b w p) ∙ ap (planes_of (λ level. level.hi)) (e ∙ s ∙ sym f) ∙ planes_of-hi c d v q

-- the high ends decide, where the rest is equal
pub decided : (a b c d : EndPlanes) (w v : ℕ) (xs ys : List Interval) (r : Bool) → levels a b w ≡ xs → levels c d v ≡ ys → AreLevels a b w → AreLevels c d v
    → w ≡ v → a ≡ c → Decides r (b ≡ d) → Decides r (xs ≡ ys)
decided a b c d w v xs ys r e f p q width lo hi = (
  λ h.
      let same : b ≡ d = hi.0 h in
      sym e ∙ rw (width, lo, same) f,
  λ s. hi.1 (same_hi a b c d w v xs ys e f p q s),
)

-- vectors whose width or low ends differ
pub not_decided : (a b c d : EndPlanes) (w v : ℕ) (xs ys : List Interval) (r : Bool) → levels a b w ≡ xs → levels c d v ≡ ys → AreLevels a b w → AreLevels c d v
    → r ≡ false → (w ≡ v → a ≡ c → ⊥) → Decides r (xs ≡ ys)
not_decided a b c d w v xs ys r e f p q not_r differ = (
  λ h. absurd (cc),
  λ s. absurd (differ (same_width a b c d w v xs ys e f s) (same_lo a b c d w v xs ys e f p q s)),
)

pub not_both : (b : Bool) → b ≡ true → b ≡ false → ⊥
not_both b e f = cc
