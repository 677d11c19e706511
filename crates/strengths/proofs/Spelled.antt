-- Lists that planes spell, made place by place.
use Rattle.std.proofs.Common.{◌≡◌, ℕ, zero, suc, ◌*◌, ◌%◌, ◌^◌, ◌<◌, ◌≤◌, ℤ, ◌≤ℤ◌, List, length, get_or, set, map, replicate, refl, inl, inr, sym, ap, ◌∙◌, arith, zero-add}
use Rattle.std.specs.Int.{bit_at}
use Rattle.std.specs.List.{range_with_len}
use Rattle.std.proofs.lemmas.Bool.{cases_eq}
use Rattle.std.proofs.lemmas.List.{length-replicate, get_or-replicate, length-set, get_or-set_same, get_or-set_other}
use Rattle.std.proofs.lemmas.List.FromFn.{length-map-range_with_len, get_or-map-range_with_len}
use Rattle.std.proofs.lemmas.Nat.{one_shl}
use Rattle.std.proofs.lemmas.Nat.Bits.{bit_at-pow_same, bit_at-pow_other}
use Rattle.four_state.specs.Vector.{at_each_place}
use Rattle.strengths.specs.declared.planes.EndPlanes.{EndPlanes}
use Rattle.strengths.specs.Interval.{Interval}
use Rattle.strengths.specs.Level.{resolved}
use Rattle.strengths.specs.Ends.{lesser_end, greater_end}
use Rattle.strengths.specs.Planes.{chosen, end_at, level_at, levels, AreLevels}
use Rattle.strengths.specs.PlaneLemmas.{length-levels, get_or-levels, levels_are}
use Rattle.strengths.proofs.Sizes.{IsLevel-end_at}
use Rattle.strengths.proofs.EndLemmas.{resolved-ends}
use Rattle.strengths.proofs.JoinLemmas.{length-at_each_place, get_or-at_each_place}

pub width_spelled : (lo hi : EndPlanes) (w : ℕ) (xs : List Interval) → levels lo hi w ≡ xs → w ≡ length xs
width_spelled lo hi w xs e = sym (length-levels lo hi w) ∙ ap length e

pub level_spelled : (lo hi : EndPlanes) (w : ℕ) (xs : List Interval) (i : ℕ) (d : Interval) → levels lo hi w ≡ xs → i < length xs → get_or xs i d ≡ level_at lo hi i
level_spelled lo hi w xs i d e h =
    let within : i < w = rw (← e, length-levels) at h
    in rw (← e) (get_or-levels lo hi w i d within)

-- planes with the same ends at each place of a width
pub same_levels : (lo hi lo' hi' : EndPlanes) (w : ℕ) → ((i : ℕ) → i < w → end_at lo i ≡ end_at lo' i) → ((i : ℕ) → i < w → end_at hi i ≡ end_at hi' i) → levels lo hi w ≡ levels lo' hi' w
same_levels lo hi lo' hi' w p q =
    levels_are lo hi w _ (length-levels lo' hi' w) (λ i d h. rw (get_or-levels lo' hi' w i d h, p i h, q i h) refl)

pub levels-replicate : (lo hi : EndPlanes) (w : ℕ) (level : Interval) → w ≤ 128 → ((i : ℕ) → i < 128 → level_at lo hi i ≡ level) → levels lo hi w ≡ replicate w level
levels-replicate lo hi w level m p =
    levels_are lo hi w _ (length-replicate w level) (λ i d h. p i (omega arith) ∙ sym (get_or-replicate w i level d h))

pub levels-map : (f : ℕ → Interval) (lo hi : EndPlanes) (w : ℕ) → ((i : ℕ) → i < w → level_at lo hi i ≡ f i) → levels lo hi w ≡ map f (range_with_len 0 w)
levels-map f lo hi w p =
    levels_are lo hi w _ (length-map-range_with_len f 0 w) (λ i d h. p i h ∙ sym (get_or-map-range_with_len f 0 w i i d h (zero-add i)))

-- ---- one place
pub place_here : (i : ℕ) → i < 128 → bit_at (1 * 2 ^ i % 2 ^ 128) i ≡ 1
place_here i h = rw (one_shl i 128 h) (bit_at-pow_same i)

pub place_other : (i j : ℕ) → i < 128 → (j ≡ i → ⊥) → bit_at (1 * 2 ^ i % 2 ^ 128) j ≡ 0
place_other i j h k = rw (one_shl i 128 h) (bit_at-pow_other i j k)

pub chosen_ordered : (m : ℕ) (a b c d : ℤ) → a ≤ℤ b → c ≤ℤ d → chosen m a c ≤ℤ chosen m b d
chosen_ordered zero a b c d p q = q
chosen_ordered (suc m) a b c d p q = p

pub levels-set : (lo hi lo' hi' x y : EndPlanes) (w i : ℕ) (level : Interval) (xs : List Interval)
    → levels lo hi w ≡ xs → w ≤ 128 → i < length xs
    → ((j : ℕ) → end_at lo' j ≡ chosen (bit_at (1 * 2 ^ i % 2 ^ 128) j) (end_at x j) (end_at lo j))
    → ((j : ℕ) → end_at hi' j ≡ chosen (bit_at (1 * 2 ^ i % 2 ^ 128) j) (end_at y j) (end_at hi j))
    → ((j : ℕ) → j < 128 → level_at x y j ≡ level)
    → levels lo' hi' w ≡ set xs i level
levels-set lo hi lo' hi' x y w i level xs e m h p q each =
    let same : w ≡ length xs = width_spelled lo hi w xs e in
    let below : i < 128 = omega arith in
    levels_are lo' hi' w _ (length-set xs i level ∙ sym same)
    (λ j d k.
    let within : j < length xs = omega arith in
    elim (cases_eq j i) [
      | inl here ↦
          rw (p j, q j, here, place_here i below)
          (each i below ∙ sym (get_or-set_same xs i level d h))
      | inr other ↦
          rw (p j, q j, place_other i j below other, get_or-set_other xs i j level d other)
          (sym (level_spelled lo hi w xs j d e within))
    ])

-- ---- two vectors
pub levels-resolved : (a b c d lo hi : EndPlanes) (w v : ℕ) (xs ys : List Interval)
    → levels a b w ≡ xs → levels c d v ≡ ys → length xs ≡ length ys → AreLevels a b w → AreLevels c d v
    → ((i : ℕ) → end_at lo i ≡ lesser_end (end_at a i) (end_at c i)) → ((i : ℕ) → end_at hi i ≡ greater_end (end_at b i) (end_at d i))
    → levels lo hi w ≡ at_each_place resolved xs ys
levels-resolved a b c d lo hi w v xs ys e f same p q l g =
    let width : w ≡ length xs = width_spelled a b w xs e in
    let width' : v ≡ length ys = width_spelled c d v ys f in
    levels_are lo hi w _ (length-at_each_place resolved xs ys same ∙ sym width)
    (λ i z h.
    let within : i < length xs = omega arith in
    let within' : i < length ys = omega arith in
    let inside' : i < v = omega arith in
    rw (get_or-at_each_place resolved xs ys i z z z within same, level_spelled a b w xs i z e within, level_spelled c d v ys i z f within', l i, g i)
    (sym (resolved-ends (level_at a b i) (level_at c d i) (IsLevel-end_at a b i (p.ordered i h)) (IsLevel-end_at c d i (q.ordered i inside')))))
