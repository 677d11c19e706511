-- The scope that is current, with one more statement.
use Rattle.std.proofs.Common.{◌≡◌, ◌⊎◌, inl, inr, ℕ, ◌+◌, ◌<◌, ◌≤◌, List, [], ◌∷◌, ◌++◌, length, get_or, take, Option, None, Some, refl, sym, ap, subst, ◌∙◌, arith}
use Rattle.std.proofs.lemmas.Bool.{cases_eq}
use Rattle.std.proofs.lemmas.List.{length-take-le, take_more}
use Rattle.std.specs.Prelude.{slice_get}
use Rattle.std.specs.List.{cons_option}
use Rattle.sym_link.specs.declared.placed.Placed.{Placed}
use Rattle.sym_link.specs.declared.program.TheConstants.{NONE}
use Rattle.sym_link.specs.Currents.{scope_or}
use Rattle.sym_link.specs.Meaning.{current_scope, gather, latest, makes_scope}
use Rattle.sym_link.proofs.ListLemmas.{push-new, push-old}

pub gather-snoc : (X : Type 0) (gives : ℕ → Placed → Option X) (start : ℕ) (xs : List Placed) (s : Placed) → gather gives start (xs ++ s ∷ []) ≡ gather gives start xs ++ cons_option (gives (start + length xs) s) []
gather-snoc X gives start [] s = let same : start ≡ start + 0 = omega arith in ap (λ n. cons_option (gives n s) []) same
gather-snoc X gives start (x ∷ xs) s = by (gives start x) (gather-snoc X gives (start + 1) xs s)
  where
    by : (o : Option X) → gather gives (start + 1) (xs ++ s ∷ []) ≡ gather gives (start + 1) xs ++ cons_option (gives (start + 1 + length xs) s) [] → cons_option o (gather gives (start + 1) (xs ++ s ∷ [])) ≡ cons_option o (gather gives (start + 1) xs) ++ cons_option (gives (start + length (x ∷ xs)) s) []
    by None is = let same : start + 1 + length xs ≡ start + length (x ∷ xs) = omega arith in is ∙ ap (λ n. gather gives (start + 1) xs ++ cons_option (gives n s) []) same
    by (Some y) is = let same : start + 1 + length xs ≡ start + length (x ∷ xs) = omega arith in ap (λ l. y ∷ l) (is ∙ ap (λ n. gather gives (start + 1) xs ++ cons_option (gives n s) []) same)

latest-snoc : (x : ℕ) (ys : List ℕ) (o : Option ℕ) → latest x (ys ++ cons_option o []) ≡ scope_or (latest x ys) o
latest-snoc x [] None = refl
latest-snoc x [] (Some y) = refl
latest-snoc x (z ∷ ys) o = latest-snoc z ys o

pub current-first : (file : List ℕ) (all : List Placed) → NONE ≡ current_scope file all 0
unfolding current_scope
current-first file all = refl

pub current-more : (file : List ℕ) (all l : List Placed) (i : ℕ) (d : Placed) (old new : ℕ) → l ≡ all → i < length l → old ≡ current_scope file all i → new ≡ scope_or old (makes_scope file all i (get_or l i d).what) → new ≡ current_scope file all (i + 1)
unfolding current_scope
current-more file all l i d old new same within so_far is =
    is
    ∙ ap (λ (x : List Placed). scope_or old (makes_scope file all i (get_or x i d).what)) same
    ∙ ap (λ n. scope_or n (makes_scope file all i (get_or all i d).what)) so_far
    ∙ ap (λ n. scope_or (latest NONE (gather makes 0 (take i all))) (makes n (get_or all i d))) place
    ∙ sym (latest-snoc NONE (gather makes 0 (take i all)) (makes (0 + length (take i all)) (get_or all i d)))
    ∙ sym (ap (latest NONE) (ap (gather makes 0) (take_more all i d lt) ∙ gather-snoc ℕ makes 0 (take i all) (get_or all i d)))
  where
    makes : ℕ → Placed → Option ℕ
    makes earlier s = makes_scope file all earlier s.what

    lt : i < length all
    lt = subst (λ (x : List Placed). i < length x) same within

    place : i ≡ 0 + length (take i all)
    place = let less : i ≤ length all = omega (arith, lt) in let taken : length (take i all) ≡ i = length-take-le i all less in omega (arith, taken)

-- the scopes that are kept, with one more
pub kept-more : (file : List ℕ) (all : List Placed) (i : ℕ) (kept : List ℕ) (current : ℕ) → length kept ≡ i → ((p : ℕ) → p < i → slice_get kept p ≡ Some (current_scope file all p)) → current ≡ current_scope file all i → (p : ℕ) → p < i + 1 → slice_get (kept ++ current ∷ []) p ≡ Some (current_scope file all p)
kept-more file all i kept current len each is p lt = by (cases_eq p i)
  where
    by : (p ≡ i) ⊎ (p ≡ i → ⊥) → slice_get (kept ++ current ∷ []) p ≡ Some (current_scope file all p)
    by (inl same) = ap (slice_get (kept ++ current ∷ [])) (same ∙ sym len) ∙ push-new kept current ∙ ap Some (is ∙ ap (current_scope file all) (sym same))
    by (inr other) =
        let less : p < i = omega (arith, lt, other) in
        let within : p < length kept = omega (arith, less, len) in
        push-old kept current p within ∙ each p less
