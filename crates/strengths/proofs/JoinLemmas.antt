-- Vectors that are joined one after another.
use Rattle.std.proofs.Common.{◌≡◌, ℕ, zero, suc, ◌+◌, ◌<◌, ◌≤◌, Option, Some, None, List, [], ◌∷◌, ◌++◌, length, get_or, take, drop, refl, sym, ap, ◌∙◌, subst, arith}
use Rattle.std.specs.List.{fold, All}
use Rattle.std.proofs.lemmas.List.{take_more, take-append-drop, take_all, append-nil, map-append}
use Rattle.std.proofs.lemmas.List.Elements.{All-head, All-tail, filter_map-append}
use Rattle.std.proofs.lemmas.List.Sums.{fold-append}
use Rattle.four_state.specs.Vector.{at_each_place}
use Rattle.strengths.specs.Resolver.{used, joined, first_width, HaveOneWidth}
use Rattle.strengths.specs.Interval.{Interval}
use Rattle.strengths.specs.Level.{seen_bit}
use Rattle.strengths.specs.Wired.{seen_at, silent}
use Rattle.strengths.proofs.EndLemmas.{All-left, All-right}

pub length-at_each_place : {A B C : Type 0} (f : A → B → C) (xs : List A) (ys : List B) → length xs ≡ length ys → length (at_each_place f xs ys) ≡ length xs
unfolding at_each_place
length-at_each_place f [] ys e = refl
length-at_each_place f (x ∷ xs) [] e = absurd (omega (arith, e))
length-at_each_place f (x ∷ xs) (y ∷ ys) e = ap suc (length-at_each_place f xs ys (omega (arith, e)))

pub get_or-at_each_place : {A B C : Type 0} (f : A → B → C) (xs : List A) (ys : List B) (i : ℕ) (z : C) (d : A) (e : B) → i < length xs → length xs ≡ length ys → get_or (at_each_place f xs ys) i z ≡ f (get_or xs i d) (get_or ys i e)
unfolding at_each_place
get_or-at_each_place f [] ys i z d e h k = absurd (omega arith)
get_or-at_each_place f (x ∷ xs) [] i z d e h k = absurd (omega (arith, k))
get_or-at_each_place f (x ∷ xs) (y ∷ ys) zero z d e h k = refl
get_or-at_each_place f (x ∷ xs) (y ∷ ys) (suc i) z d e h k = get_or-at_each_place f xs ys i z d e (omega arith) (omega (arith, k))

-- the vectors so far, if there is one
abbrev pub so_far : (Interval → Interval → Interval) → List (List Interval) → Option (List Interval)
so_far table [] = None
so_far table (first ∷ rest) = Some (fold (at_each_place table) first rest)

abbrev pub with_next : (Interval → Interval → Interval) → Option (List Interval) → List Interval → List Interval
with_next table None next = next
with_next table (Some before) next = at_each_place table before next

so_far_push : (table : Interval → Interval → Interval) (vectors : List (List Interval)) (next : List Interval) → so_far table (vectors ++ next ∷ []) ≡ Some (with_next table (so_far table vectors) next)
so_far_push table [] next = refl
so_far_push table (first ∷ rest) next = ap (λ v. Some v) (fold-append (at_each_place table) first rest (next ∷ []))

pub used_take : (ports : List (Option (List Interval))) (i : ℕ) (port : Option (List Interval)) → i < length ports → get_or ports i None ≡ port → used (take (i + 1) ports) ≡ used (take i ports) ++ used (port ∷ [])
used_take ports i port h e = rw (take_more ports i None h, e) (filter_map-append (λ p. p) (take i ports) (port ∷ []))

pub so_far_none : (table : Interval → Interval → Interval) (ports : List (Option (List Interval))) (i : ℕ) (all : Option (List Interval))
    → all ≡ so_far table (used (take i ports)) → i < length ports → get_or ports i None ≡ None → all ≡ so_far table (used (take (i + 1) ports))
so_far_none table ports i all p h e = p ∙ ap (so_far table) (sym (used_take ports i None h e ∙ append-nil (used (take i ports))))

pub so_far_some : (table : Interval → Interval → Interval) (ports : List (Option (List Interval))) (i : ℕ) (all : Option (List Interval)) (next : List Interval)
    → all ≡ so_far table (used (take i ports)) → i < length ports → get_or ports i None ≡ Some next → Some (with_next table all next) ≡ so_far table (used (take (i + 1) ports))
so_far_some table ports i all next p h e = rw p (sym (ap (so_far table) (used_take ports i (Some next) h e) ∙ so_far_push table (used (take i ports)) next))

-- ---- the widths
fold_width : (table : Interval → Interval → Interval) (w : ℕ) (first : List Interval) (rest : List (List Interval)) → length first ≡ w → All (λ v. length v ≡ w) rest → length (fold (at_each_place table) first rest) ≡ w
fold_width table w first [] e all = e
fold_width table w first (next ∷ rest) e all =
    let here : length next ≡ w = All-head (λ v. length v ≡ w) next rest all in
    fold_width table w (at_each_place table first next) rest (length-at_each_place table first next (e ∙ sym here) ∙ e) (All-tail (λ v. length v ≡ w) next rest all)

pub so_far_width : (table : Interval → Interval → Interval) (w : ℕ) (vectors : List (List Interval)) (v : List Interval) → All (λ u. length u ≡ w) vectors → Some v ≡ so_far table vectors → length v ≡ w
so_far_width table w [] v all e = absurd (cc)
so_far_width table w (first ∷ rest) v all e =
    let same : v ≡ fold (at_each_place table) first rest = cc in
    rw same (fold_width table w first rest (All-head (λ u. length u ≡ w) first rest all) (All-tail (λ u. length u ≡ w) first rest all))

used_split : (ports : List (Option (List Interval))) (i : ℕ) → used ports ≡ used (take i ports) ++ used (drop i ports)
used_split ports i = ap used (sym (take-append-drop i ports)) ∙ filter_map-append (λ p. p) (take i ports) (drop i ports)

-- the next vector has the common width
pub next_width : (ports : List (Option (List Interval))) (i : ℕ) (next : List Interval) → HaveOneWidth (used ports) → i < length ports → get_or ports i None ≡ Some next → length next ≡ first_width (used ports)
next_width ports i next all h e =
    let w : ℕ = first_width (used ports) in
    let to_here : All (λ u. length u ≡ w) (used (take (i + 1) ports)) =
    All-left (λ u. length u ≡ w) (used (take (i + 1) ports)) (used (drop (i + 1) ports)) (subst (All (λ u. length u ≡ w)) (used_split ports (i + 1)) all) in
    let parts : All (λ u. length u ≡ w) (used (take i ports) ++ next ∷ []) = subst (All (λ u. length u ≡ w)) (used_take ports i (Some next) h e) to_here in
    All-head (λ u. length u ≡ w) next [] (All-right (λ u. length u ≡ w) (used (take i ports)) (next ∷ []) parts)

-- the vectors so far and the next one have one width
pub widths_agree : (table : Interval → Interval → Interval) (ports : List (Option (List Interval))) (i : ℕ) (before next : List Interval)
    → HaveOneWidth (used ports) → Some before ≡ so_far table (used (take i ports)) → i < length ports → get_or ports i None ≡ Some next → length before ≡ length next
widths_agree table ports i before next all p h e =
    let w : ℕ = first_width (used ports) in
    let to_here : All (λ u. length u ≡ w) (used (take (i + 1) ports)) =
    All-left (λ u. length u ≡ w) (used (take (i + 1) ports)) (used (drop (i + 1) ports)) (subst (All (λ u. length u ≡ w)) (used_split ports (i + 1)) all) in
    let parts : All (λ u. length u ≡ w) (used (take i ports) ++ next ∷ []) = subst (All (λ u. length u ≡ w)) (used_take ports i (Some next) h e) to_here in
    so_far_width table w (used (take i ports)) before (All-left (λ u. length u ≡ w) (used (take i ports)) (next ∷ []) parts) p
    ∙ sym (All-head (λ u. length u ≡ w) next [] (All-right (λ u. length u ≡ w) (used (take i ports)) (next ∷ []) parts))

of_some : (table : Interval → Interval → Interval) (vectors : List (List Interval)) (v : List Interval) → Some v ≡ so_far table vectors → v ≡ joined table vectors
unfolding joined
of_some table [] v e = absurd (cc)
of_some table (first ∷ rest) v e = cc

pub joined_all : (table : Interval → Interval → Interval) (ports : List (Option (List Interval))) (i : ℕ) (v : List Interval) → length ports ≤ i → Some v ≡ so_far table (used (take i ports)) → v ≡ joined table (used ports)
joined_all table ports i v h e = of_some table (used ports) v (e ∙ ap (λ ps. so_far table (used ps)) (take_all i ports h))

-- the width of vectors
pub record IsWide (width common : ℕ) : Type 0 where
  pub least : 1 ≤ width
  pub most : width ≤ 128
  pub same : width ≡ common

-- the bits that are seen at each place, with one vector more
pub seen_at-more : (ports : List (Option (List Interval))) (k : ℕ) (next : List Interval) (i : ℕ) → k < length ports → get_or ports k None ≡ Some next
    → seen_at (used (take k ports)) i ++ seen_bit (get_or next i silent) ∷ [] ≡ seen_at (used (take (k + 1) ports)) i
seen_at-more ports k next i h e =
    sym (ap (λ vectors. seen_at vectors i) (used_take ports k (Some next) h e) ∙ map-append (λ v. seen_bit (get_or v i silent)) (used (take k ports)) (next ∷ []))

pub used_none : (ports : List (Option (List Interval))) (k : ℕ) → k < length ports → get_or ports k None ≡ None → used (take k ports) ≡ used (take (k + 1) ports)
used_none ports k h e = sym (used_take ports k None h e ∙ append-nil (used (take k ports)))

pub used_all : (ports : List (Option (List Interval))) (k : ℕ) → length ports ≤ k → used (take k ports) ≡ used ports
used_all ports k h = ap used (take_all k ports h)
