-- Walks that end: one that ends at all ends within as many moves as there are places.
use Rattle.std.proofs.Common.{◌≡◌, ◌⊎◌, inl, inr, ℕ, zero, suc, ◌+◌, ◌-◌, ◌<◌, ◌≤◌, Bool, true, false, List, [], ◌∷◌, length, refl, sym, ap, subst, ◌∙◌, arith}
use Rattle.std.proofs.lemmas.Bool.{cases_lt}
use Rattle.sym_link.specs.declared.walks.Step.{Step}
use Rattle.sym_link.specs.declared.walks.Step.TheVariants.{Stop, Stray, On}
use Rattle.sym_link.specs.declared.walks.Walk.{Walk}
use Rattle.sym_link.specs.declared.walks.Walk.TheVariants.{Ends, Astray, Endless}
use Rattle.sym_link.specs.Walks.{goes, step_at, walk, walk_from}

is_end : Walk → Bool
is_end (Ends place) = true
is_end Astray = false
is_end Endless = false

end-of : (w : Walk) → is_end w ≡ true → (place : ℕ) × (w ≡ Ends place)
unfolding is_end
end-of (Ends place) is = (place, refl)
end-of Astray is = absurd (cc)
end-of Endless is = absurd (cc)

is-end : (w : Walk) (place : ℕ) → w ≡ Ends place → is_end w ≡ true
unfolding is_end
is-end w place is = ap is_end is

-- More moves

goes-more : (s : Step) (p end : ℕ) (next later : ℕ → Walk) → ((to : ℕ) → next to ≡ Ends end → later to ≡ Ends end) → goes s p next ≡ Ends end → goes s p later ≡ Ends end
goes-more Stop p end next later more is = is
goes-more Stray p end next later more is = absurd (cc)
goes-more (On to) p end next later more is = more to is

pub walk-suc : (steps : List Step) (n p end : ℕ) → walk steps n p ≡ Ends end → walk steps (suc n) p ≡ Ends end
walk-suc steps zero p end is = goes-more (step_at steps p) p end (λ to. Endless) (walk steps zero) (λ to no_end. absurd (cc (no_end))) is
walk-suc steps (suc n) p end is = goes-more (step_at steps p) p end (walk steps n) (walk steps (suc n)) (λ to. walk-suc steps n to end) is

walk-add : (steps : List Step) (k n p end : ℕ) → walk steps n p ≡ Ends end → walk steps (n + k) p ≡ Ends end
walk-add steps zero n p end is = let same : n ≡ n + 0 = omega arith in ap (λ m. walk steps m p) (sym same) ∙ is
walk-add steps (suc k) n p end is =
    let same : suc (n + k) ≡ n + suc k = omega arith in
    ap (λ m. walk steps m p) (sym same) ∙ walk-suc steps (n + k) p end (walk-add steps k n p end is)

-- Counting the places from which a walk ends

one : Bool → ℕ
one true = 1
one false = 0

how_many : (ℕ → Bool) → ℕ → ℕ
how_many test zero = 0
how_many test (suc n) = one (test n) + how_many test n

one-le : (b : Bool) → one b ≤ 1
unfolding one
one-le true = omega arith
one-le false = omega arith

most-le : (test : ℕ → Bool) (n : ℕ) → how_many test n ≤ n
unfolding how_many
most-le test zero = omega arith
most-le test (suc n) =
    let least : one (test n) ≤ 1 = one-le (test n) in
    let rest : how_many test n ≤ n = most-le test n in
    omega (arith, least, rest)

one-implied : (a b : Bool) → (a ≡ true → b ≡ true) → one a ≤ one b
unfolding one
one-implied true b is = let holds : b ≡ true = is refl in let same : one b ≡ 1 = ap one holds in omega (arith, same)
one-implied false b is = omega arith

many-le : (test wider : ℕ → Bool) (n : ℕ) → ((p : ℕ) → test p ≡ true → wider p ≡ true) → how_many test n ≤ how_many wider n
unfolding how_many
many-le test wider zero implied = omega arith
many-le test wider (suc n) implied =
    let here : one (test n) ≤ one (wider n) = one-implied (test n) (wider n) (implied n) in
    let rest : how_many test n ≤ how_many wider n = many-le test wider n implied in
    omega (arith, here, rest)

one-same : (a b : Bool) → one b ≤ one a → b ≡ true → a ≡ true
unfolding one
one-same true b le is = refl
one-same false b le is = let same : one b ≡ 1 = ap one is in absurd (omega (arith, le, same))

-- where no more places pass the wider test, those that do pass the other
many-same : (test wider : ℕ → Bool) (n : ℕ) → ((p : ℕ) → test p ≡ true → wider p ≡ true) → how_many wider n ≤ how_many test n → (p : ℕ) → p < n → wider p ≡ true → test p ≡ true
unfolding how_many
many-same test wider zero implied le p lt is = absurd (omega arith)
many-same test wider (suc n) implied le p lt is = by (cases_lt p n) (many-same test wider n implied)
  where
    here : one (test n) ≤ one (wider n)
    here = one-implied (test n) (wider n) (implied n)

    rest : how_many test n ≤ how_many wider n
    rest = many-le test wider n implied

    by : (p < n) ⊎ (n ≤ p) → (how_many wider n ≤ how_many test n → (q : ℕ) → q < n → wider q ≡ true → test q ≡ true) → test p ≡ true
    by (inl less) more = more (omega (arith, le, here, rest)) p less is
    by (inr above) more =
        let same : p ≡ n = omega (arith, lt, above) in
        let fewer : one (wider n) ≤ one (test n) = omega (arith, le, here, rest) in
        ap test same ∙ one-same (test n) (wider n) fewer (sym (ap wider same) ∙ is)

-- Ends

ends : List Step → ℕ → ℕ → Bool
ends steps n p = is_end (walk steps n p)

ends-suc : (steps : List Step) (n p : ℕ) → ends steps n p ≡ true → ends steps (suc n) p ≡ true
unfolding ends
ends-suc steps n p is =
    let found = end-of (walk steps n p) is in
    is-end (walk steps (suc n) p) found.0 (walk-suc steps n p found.0 found.1)

-- one move more doesn't help
Stable : List Step → ℕ → Type 0
Stable steps n = (p : ℕ) → ends steps (suc n) p ≡ true → ends steps n p ≡ true

within : (steps : List Step) (p : ℕ) (next : ℕ → Walk) → is_end (goes (step_at steps p) p next) ≡ true → p < length steps
unfolding is_end
within [] p next is = absurd (cc)
within (s ∷ steps) zero next is = omega arith
within (s ∷ steps) (suc p) next is = let less : p < length steps = within steps p next (by (step_at steps p) is) in omega (arith, less)
  where
    by : (t : Step) → is_end (goes t (suc p) next) ≡ true → is_end (goes t p next) ≡ true
    by Stop is = refl
    by Stray is = is
    by (On to) is = is

ends-within : (steps : List Step) (n p : ℕ) → ends steps n p ≡ true → p < length steps
unfolding ends
ends-within steps zero p is = within steps p (λ to. Endless) is
ends-within steps (suc n) p is = within steps p (walk steps n) is

stable-more : (steps : List Step) (n : ℕ) → Stable steps n → Stable steps (suc n)
unfolding Stable ends is_end
stable-more steps n stable p is = by (step_at steps p) is
  where
    by : (s : Step) → is_end (goes s p (walk steps (suc n))) ≡ true → is_end (goes s p (walk steps n)) ≡ true
    by Stop is = refl
    by Stray is = is
    by (On to) is = stable to is

-- as many places as moves have walks that end, or one move more doesn't help
many-or : (steps : List Step) (n : ℕ) → (n ≤ how_many (ends steps n) (length steps)) ⊎ ((m : ℕ) × (m < n) × Stable steps m)
unfolding Stable
many-or steps zero = inl (omega arith)
many-or steps (suc n) = by (many-or steps n)
  where
    at : n ≤ how_many (ends steps n) (length steps) → (how_many (ends steps n) (length steps) < how_many (ends steps (suc n)) (length steps)) ⊎ (how_many (ends steps (suc n)) (length steps) ≤ how_many (ends steps n) (length steps)) → (suc n ≤ how_many (ends steps (suc n)) (length steps)) ⊎ ((m : ℕ) × (m < suc n) × Stable steps m)
    at le (inl less) = inl (omega (arith, le, less))
    at le (inr same) =
        let last : n < suc n = omega arith in
        inr (n, last, λ p is. many-same (ends steps n) (ends steps (suc n)) (length steps) (ends-suc steps n) same p (ends-within steps (suc n) p is) is)

    by : (n ≤ how_many (ends steps n) (length steps)) ⊎ ((m : ℕ) × (m < n) × Stable steps m) → (suc n ≤ how_many (ends steps (suc n)) (length steps)) ⊎ ((m : ℕ) × (m < suc n) × Stable steps m)
    by (inl le) = at le (cases_lt (how_many (ends steps n) (length steps)) (how_many (ends steps (suc n)) (length steps)))
    by (inr found) = let less : found.0 < n = found.1 in let lt : found.0 < suc n = omega (arith, less) in inr (found.0, lt, found.2)

stable-add : (steps : List Step) (k n : ℕ) → Stable steps n → Stable steps (n + k)
stable-add steps zero n stable = let same : n ≡ n + 0 = omega arith in subst (Stable steps) same stable
stable-add steps (suc k) n stable = let same : suc (n + k) ≡ n + suc k = omega arith in subst (Stable steps) same (stable-more steps (n + k) (stable-add steps k n stable))

stable-from : (steps : List Step) (m n : ℕ) → m ≤ n → Stable steps m → Stable steps n
stable-from steps m n le stable =
    let rest : (k : ℕ) × (n ≡ m + k) = (n - m, omega (arith, le)) in
    subst (Stable steps) (sym rest.1) (stable-add steps rest.0 m stable)

stable-all : (steps : List Step) → Stable steps (length steps)
stable-all steps = by (many-or steps (suc (length steps)))
  where
    by : (suc (length steps) ≤ how_many (ends steps (suc (length steps))) (length steps)) ⊎ ((m : ℕ) × (m < suc (length steps)) × Stable steps m) → Stable steps (length steps)
    by (inl le) = let most : how_many (ends steps (suc (length steps))) (length steps) ≤ length steps = most-le (ends steps (suc (length steps))) (length steps) in absurd (omega (arith, le, most))
    by (inr found) = let less : found.0 < suc (length steps) = found.1 in let le : found.0 ≤ length steps = omega (arith, less) in stable-from steps found.0 (length steps) le found.2

ends-down : (steps : List Step) (k p : ℕ) → ends steps (length steps + k) p ≡ true → ends steps (length steps) p ≡ true
unfolding Stable
ends-down steps zero p is = let same : length steps + 0 ≡ length steps = omega arith in ap (λ n. ends steps n p) (sym same) ∙ is
ends-down steps (suc k) p is =
    let same : length steps + suc k ≡ suc (length steps + k) = omega arith in
    ends-down steps k p (stable-add steps k (length steps) (stable-all steps) p (ap (λ n. ends steps n p) (sym same) ∙ is))

same-end : (a b : ℕ) (w : Walk) → w ≡ Ends a → w ≡ Ends b → a ≡ b
same-end a b w is also = cc

-- a walk that ends within any number of moves ends
pub walk-enough : (steps : List Step) (n p end : ℕ) → walk steps n p ≡ Ends end → walk_from steps p ≡ Ends end
unfolding ends
walk-enough steps n p end is =
    let more : walk steps (n + length steps) p ≡ Ends end = walk-add steps (length steps) n p end is in
    let swap : n + length steps ≡ length steps + n = omega arith in
    let far : walk steps (length steps + n) p ≡ Ends end = sym (ap (λ m. walk steps m p) swap) ∙ more in
    let found = end-of (walk_from steps p) (ends-down steps n p (is-end (walk steps (length steps + n) p) end far)) in
    let also : walk steps (length steps + n) p ≡ Ends found.0 = walk-add steps n (length steps) p found.0 found.1 in
    found.1 ∙ ap Ends (same-end found.0 end (walk steps (length steps + n) p) also far)

-- Steps

pub walk-stop : (steps : List Step) (p : ℕ) → step_at steps p ≡ Stop → walk_from steps p ≡ Ends p
walk-stop steps p is = walk-enough steps 0 p p (ap (λ s. goes s p (λ to. Endless)) is)

-- a walk ends where the walk from the next place does
pub walk-on : (steps : List Step) (p to end : ℕ) → step_at steps p ≡ On to → walk_from steps to ≡ Ends end → walk_from steps p ≡ Ends end
walk-on steps p to end is ended = walk-enough steps (suc (length steps)) p end (ap (λ s. goes s p (walk steps (length steps))) is ∙ ended)

-- What holds of a place, and goes along with each step, holds of where a walk ends; and where it holds no walk goes astray.
module _ (steps : List Step) (P : ℕ → Type 0) (straight : (p : ℕ) → P p → step_at steps p ≡ Stray → ⊥) (along : (p to : ℕ) → P p → step_at steps p ≡ On to → P to) where
  not-astray : (n p : ℕ) → P p → walk steps n p ≡ Astray → ⊥
  not-astray zero p holds is = by (step_at steps p) refl is
    where
      by : (s : Step) → step_at steps p ≡ s → goes s p (λ to. Endless) ≡ Astray → ⊥
      by Stop at is = absurd (cc)
      by Stray at is = straight p holds at
      by (On to) at is = absurd (cc)
  not-astray (suc n) p holds is = by (step_at steps p) refl is (λ to kept. not-astray n to kept)
    where
      by : (s : Step) → step_at steps p ≡ s → goes s p (walk steps n) ≡ Astray → ((to : ℕ) → P to → walk steps n to ≡ Astray → ⊥) → ⊥
      by Stop at is rest = absurd (cc)
      by Stray at is rest = straight p holds at
      by (On to) at is rest = rest to (along p to holds at) is

  -- a walk that has an end ends at a place
  pub walk-ends : (p : ℕ) → P p → (walk_from steps p ≡ Endless → ⊥) → (end : ℕ) × (walk_from steps p ≡ Ends end)
  walk-ends p holds ends = by (walk_from steps p) refl
    where
      by : (w : Walk) → walk_from steps p ≡ w → (end : ℕ) × (walk_from steps p ≡ Ends end)
      by (Ends end) is = (end, is)
      by Astray is = absurd (not-astray (length steps) p holds is)
      by Endless is = absurd (ends is)

  -- it stops there
  pub walk-stops : (n p end : ℕ) → P p → walk steps n p ≡ Ends end → P end × (step_at steps end ≡ Stop)
  walk-stops zero p end holds is = by (step_at steps p) refl is
    where
      by : (s : Step) → step_at steps p ≡ s → goes s p (λ to. Endless) ≡ Ends end → P end × (step_at steps end ≡ Stop)
      by Stop at is = let same : p ≡ end = cc in (subst P same holds, subst (λ q. step_at steps q ≡ Stop) same at)
      by Stray at is = absurd (cc)
      by (On to) at is = absurd (cc)
  walk-stops (suc n) p end holds is = by (step_at steps p) refl is (λ to kept. walk-stops n to end kept)
    where
      by : (s : Step) → step_at steps p ≡ s → goes s p (walk steps n) ≡ Ends end → ((to : ℕ) → P to → walk steps n to ≡ Ends end → P end × (step_at steps end ≡ Stop)) → P end × (step_at steps end ≡ Stop)
      by Stop at is rest = let same : p ≡ end = cc in (subst P same holds, subst (λ q. step_at steps q ≡ Stop) same at)
      by Stray at is rest = absurd (cc)
      by (On to) at is rest = rest to (along p to holds at) is

-- Where the steps of one walk are steps of another, the other one ends as from where the first one does.
pub walk-along : (steps others : List Step) (n p end last : ℕ) → ((q to : ℕ) → step_at steps q ≡ On to → step_at others q ≡ On to) → walk steps n p ≡ Ends end → walk_from others end ≡ Ends last → walk_from others p ≡ Ends last
walk-along steps others zero p end last same is ended = by (step_at steps p) refl is
  where
    by : (s : Step) → step_at steps p ≡ s → goes s p (λ to. Endless) ≡ Ends end → walk_from others p ≡ Ends last
    by Stop at is = let here : p ≡ end = cc in ap (walk_from others) here ∙ ended
    by Stray at is = absurd (cc)
    by (On to) at is = absurd (cc)
walk-along steps others (suc n) p end last same is ended = by (step_at steps p) refl is (λ to. walk-along steps others n to end last same)
  where
    by : (s : Step) → step_at steps p ≡ s → goes s p (walk steps n) ≡ Ends end → ((to : ℕ) → walk steps n to ≡ Ends end → walk_from others end ≡ Ends last → walk_from others to ≡ Ends last) → walk_from others p ≡ Ends last
    by Stop at is rest = let here : p ≡ end = cc in ap (walk_from others) here ∙ ended
    by Stray at is rest = absurd (cc)
    by (On to) at is rest = walk-on others p to last (same p to at) (rest to is ended)
