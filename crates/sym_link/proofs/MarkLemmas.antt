-- Marks, once one more is set.
use Rattle.std.proofs.Common.{◌≡◌, ◌⊎◌, inl, inr, ℕ, zero, suc, ◌+◌, ◌≤◌, Bool, false, List, [], ◌∷◌, Some, refl, sym, ap, subst, ◌∙◌, arith}
use Rattle.std.proofs.lemmas.Bool.{cases_eq}
use Rattle.std.proofs.lemmas.List.{length-set}
use Rattle.std.proofs.lemmas.List.Sums.{sum_by-set}
use Rattle.std.proofs.lemmas.Option.{get_or_from_slice_get, slice_get_within}
use Rattle.std.specs.Prelude.{cond, count_by, slice_get, slice_set, if◌then◌else◌}
use Rattle.std.specs.Option.{option_map_or}
use Rattle.sym_link.specs.declared.walks.Mark.{Mark}
use Rattle.sym_link.specs.declared.walks.Mark.TheVariants.{New, Open, Known}
use Rattle.sym_link.specs.declared.walks.Step.{Step}
use Rattle.sym_link.specs.declared.walks.Walk.{Walk}
use Rattle.sym_link.specs.Marks.{IsDone, IsEnd, IsOn, Keeps, Marked, is_known, is_new, known_count, new_count, noted}

pub set-same : {X : Type 0} (xs : List X) (i : ℕ) (y x : X) → slice_get xs i ≡ Some x → slice_get (slice_set xs i y) i ≡ Some y
set-same [] i y x is = absurd (cc)
set-same (z ∷ xs) zero y x is = refl
set-same (z ∷ xs) (suc i) y x is = set-same xs i y x is

pub set-other : {X : Type 0} (xs : List X) (i j : ℕ) (y : X) → (j ≡ i → ⊥) → slice_get (slice_set xs i y) j ≡ slice_get xs j
set-other [] i j y ne = refl
set-other (x ∷ xs) zero zero y ne = absurd (ne refl)
set-other (x ∷ xs) zero (suc j) y ne = refl
set-other (x ∷ xs) (suc i) zero y ne = refl
set-other (x ∷ xs) (suc i) (suc j) y ne = set-other xs i j y (λ is. ne (ap suc is))

abbrev one : Bool → ℕ
one b = cond b 1 0

-- a count, once an element is another
count-set : {X : Type 0} (p : X → Bool) (xs : List X) (i : ℕ) (y x : X) → slice_get xs i ≡ Some x → count_by p (slice_set xs i y) + one (p x) ≡ count_by p xs + one (p y)
count-set p xs i y x is =
    sym (ap (λ z. count_by p (slice_set xs i y) + one (p z)) (get_or_from_slice_get xs i x x is))
    ∙ sum_by-set (λ z. one (p z)) xs i y x (slice_get_within xs i x is)

-- Opening

known-open : (marks : List Mark) (at : ℕ) → slice_get marks at ≡ Some New → known_count (slice_set marks at Open) ≡ known_count marks
known-open marks at is = let same : known_count (slice_set marks at Open) + 0 ≡ known_count marks + 0 = count-set is_known marks at Open New is in omega arith

pub new-open : (marks : List Mark) (at : ℕ) → slice_get marks at ≡ Some New → new_count (slice_set marks at Open) + 1 ≡ new_count marks
new-open marks at is = let same : new_count (slice_set marks at Open) + 1 ≡ new_count marks + 0 = count-set is_new marks at Open New is in omega arith

-- a place that was new is open, and on the trail
pub marked-open : (steps : List Step) (marks : List Mark) (trail : List ℕ) (at : ℕ) → Marked steps marks trail → slice_get marks at ≡ Some New → Marked steps (slice_set marks at Open) (at ∷ trail)
marked-open steps marks trail at m is = record {
  same = length-set marks at Open ∙ m.same;
  known = λ place end h. subst (λ n. IsEnd steps n place end) (sym (known-open marks at is)) (known place end h (cases_eq place at));
  opened = λ place h. opened place h (cases_eq place at);
}
  where
    known : (place : ℕ) (end : Walk) → slice_get (slice_set marks at Open) place ≡ Some (Known end) → (place ≡ at) ⊎ (place ≡ at → ⊥) → IsEnd steps (known_count marks) place end
    known place end h (inl same) =
        let there : slice_get (slice_set marks at Open) place ≡ Some Open = subst (λ p. slice_get (slice_set marks at Open) p ≡ Some Open) (sym same) (set-same marks at Open New is) in
        absurd (cc (there, h))
    known place end h (inr other) = m.known place end (sym (set-other marks at place Open other) ∙ h)

    opened : (place : ℕ) → slice_get (slice_set marks at Open) place ≡ Some Open → (place ≡ at) ⊎ (place ≡ at → ⊥) → IsOn (at ∷ trail) place
    opened place h (inl same) = inl (sym same)
    opened place h (inr other) = inr (m.opened place (sym (set-other marks at place Open other) ∙ h))

pub kept-open : (marks : List Mark) (at : ℕ) → slice_get marks at ≡ Some New → Keeps marks (slice_set marks at Open)
kept-open marks at is = λ place done. by place done (cases_eq place at)
  where
    by : (place : ℕ) → IsDone marks place → (place ≡ at) ⊎ (place ≡ at → ⊥) → IsDone (slice_set marks at Open) place
    by place done (inl same) =
        let there : slice_get marks place ≡ Some New = ap (slice_get marks) same ∙ is in
        absurd (cc (there, done.1))
    by place done (inr other) = (done.0, set-other marks at place Open other ∙ done.1)

-- Noting

-- what holds once it is noted how the walk from a place ends, where the trail may be shorter by that place
pub record Noted (steps : List Step) (old new : List Mark) (trail : List ℕ) (place : ℕ) (end : Walk) : Type 0 where
  pub marked : Marked steps new trail
  pub ends : IsEnd steps (known_count new) place end
  pub done : IsDone new place
  pub kept : Keeps old new

-- it is known already
noted-known : (steps : List Step) (marks : List Mark) (trail trail' : List ℕ) (place : ℕ) (end was : Walk) → Marked steps marks trail → ((p : ℕ) → IsOn trail p → (place ≡ p) ⊎ IsOn trail' p) → IsEnd steps (known_count marks + 1) place end → slice_get marks place ≡ Some (Known was) → Noted steps marks marks trail' place end
noted-known steps marks trail trail' place end was m fewer ends is = record {
  marked = record { same = m.same; known = m.known; opened = λ p h. by p h (fewer p (m.opened p h)) };
  ends = subst (λ e. IsEnd steps (known_count marks) place e) same (m.known place was is);
  done = (was, is);
  kept = λ p done. done;
}
  where
    same : was ≡ end
    same = let more : known_count marks ≤ known_count marks + 1 = omega arith in let least : known_count marks + 1 ≤ known_count marks + 1 = omega arith in sym (m.known place was is (known_count marks + 1) more) ∙ ends (known_count marks + 1) least

    by : (p : ℕ) → slice_get marks p ≡ Some Open → (place ≡ p) ⊎ IsOn trail' p → IsOn trail' p
    by p h (inl eq) = let there : slice_get marks p ≡ Some (Known was) = ap (slice_get marks) (sym eq) ∙ is in absurd (cc (there, h))
    by p h (inr on) = on

-- it is not known yet
noted-new : (steps : List Step) (marks : List Mark) (trail trail' : List ℕ) (place : ℕ) (end : Walk) (was : Mark) → Marked steps marks trail → ((p : ℕ) → IsOn trail p → (place ≡ p) ⊎ IsOn trail' p) → IsEnd steps (known_count marks + 1) place end → slice_get marks place ≡ Some was → is_known was ≡ false → Noted steps marks (slice_set marks place (Known end)) trail' place end
noted-new steps marks trail trail' place end was m fewer ends is unknown = record {
  marked = record {
    same = length-set marks place (Known end) ∙ m.same;
    known = λ p e h. subst (λ n. IsEnd steps n p e) (sym count) (known p e h (cases_eq p place));
    opened = λ p h. opened p h (cases_eq p place);
  };
  ends = subst (λ n. IsEnd steps n place end) (sym count) ends;
  done = (end, here);
  kept = λ p done. kept p done (cases_eq p place);
}
  where
    here : slice_get (slice_set marks place (Known end)) place ≡ Some (Known end)
    here = set-same marks place (Known end) was is

    count : known_count (slice_set marks place (Known end)) ≡ known_count marks + 1
    count =
        let sum : known_count (slice_set marks place (Known end)) + one (is_known was) ≡ known_count marks + 1 = count-set is_known marks place (Known end) was is in
        let none : one (is_known was) ≡ 0 = ap one unknown in
        omega (arith, sum, none)

    known : (p : ℕ) (e : Walk) → slice_get (slice_set marks place (Known end)) p ≡ Some (Known e) → (p ≡ place) ⊎ (p ≡ place → ⊥) → IsEnd steps (known_count marks + 1) p e
    known p e h (inl eq) =
        let there : slice_get (slice_set marks place (Known end)) p ≡ Some (Known end) = ap (slice_get (slice_set marks place (Known end))) eq ∙ here in
        let one_end : end ≡ e = cc (there, h) in
        subst (λ q. IsEnd steps (known_count marks + 1) q e) (sym eq) (subst (λ w. IsEnd steps (known_count marks + 1) place w) one_end ends)
    known p e h (inr other) = λ more le. m.known p e (sym (set-other marks place p (Known end) other) ∙ h) more (let less : known_count marks ≤ more = omega (arith, le) in less)

    opened : (p : ℕ) → slice_get (slice_set marks place (Known end)) p ≡ Some Open → (p ≡ place) ⊎ (p ≡ place → ⊥) → IsOn trail' p
    opened p h (inl eq) =
        let there : slice_get (slice_set marks place (Known end)) p ≡ Some (Known end) = ap (slice_get (slice_set marks place (Known end))) eq ∙ here in
        absurd (cc (there, h))
    opened p h (inr other) = by (fewer p (m.opened p (sym (set-other marks place p (Known end) other) ∙ h)))
      where
        by : (place ≡ p) ⊎ IsOn trail' p → IsOn trail' p
        by (inl eq) = absurd (other (sym eq))
        by (inr on) = on

    kept : (p : ℕ) → IsDone marks p → (p ≡ place) ⊎ (p ≡ place → ⊥) → IsDone (slice_set marks place (Known end)) p
    kept p done (inl eq) = (end, ap (slice_get (slice_set marks place (Known end))) eq ∙ here)
    kept p done (inr other) = (done.0, set-other marks place p (Known end) other ∙ done.1)

-- once it is noted how the walk from a place ends
pub noted-so : (steps : List Step) (marks : List Mark) (trail trail' : List ℕ) (place : ℕ) (end : Walk) (was : Mark) → Marked steps marks trail → ((p : ℕ) → IsOn trail p → (place ≡ p) ⊎ IsOn trail' p) → IsEnd steps (known_count marks + 1) place end → slice_get marks place ≡ Some was → Noted steps marks (noted marks place end) trail' place end
noted-so steps marks trail trail' place end New m fewer ends is = subst (λ l. Noted steps marks l trail' place end) (sym (ap (λ b. if b then marks else slice_set marks place (Known end)) (ap (λ o. option_map_or is_known o false) is))) (noted-new steps marks trail trail' place end New m fewer ends is refl)
noted-so steps marks trail trail' place end Open m fewer ends is = subst (λ l. Noted steps marks l trail' place end) (sym (ap (λ b. if b then marks else slice_set marks place (Known end)) (ap (λ o. option_map_or is_known o false) is))) (noted-new steps marks trail trail' place end Open m fewer ends is refl)
noted-so steps marks trail trail' place end (Known was) m fewer ends is = subst (λ l. Noted steps marks l trail' place end) (sym (ap (λ b. if b then marks else slice_set marks place (Known end)) (ap (λ o. option_map_or is_known o false) is))) (noted-known steps marks trail trail' place end was m fewer ends is)
