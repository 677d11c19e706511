-- The scopes from a scope up to its root scope.
use Rattle.std.proofs.Common.{◌≡◌, ℕ, ◌+◌, ◌<◌, ◌≤◌, Bool, eqb, eq-eqb, Some, List, [], ◌∷◌, length, get_or, take, refl, sym, ap, ◌∙◌, arith, zero-add, get_or-take}
use Rattle.std.specs.Prelude.{slice_get, position}
use Rattle.std.specs.List.{position_from}
use Rattle.std.proofs.lemmas.Iterator.Adapters.{position_from-zero}
use Rattle.std.proofs.lemmas.Bool.{ne_eqb}
use Rattle.std.proofs.lemmas.List.{get_or_past, length-take-le}
use Rattle.std.proofs.lemmas.Option.{slice_get-get_or, slice_get_within}
use Rattle.sym_link.specs.declared.program.ScopeRow.{ScopeRow}
use Rattle.sys_tasks.specs.Design.{lineage_below, lineages}
use Rattle.sys_tasks.proofs.BuildLemmas.{built, built-at, length-built, no_row}

-- the scopes from one up to its root scope, itself first
abbrev pub lineage : List ScopeRow → ℕ → List ℕ
lineage rows scope = get_or (lineages rows) scope []

length-lineages : (rows : List ScopeRow) → length (lineages rows) ≡ length rows
unfolding lineages
length-lineages rows = length-built lineage_below [] rows ∙ zero-add (length rows)

lineages-at : (rows : List ScopeRow) (k : ℕ) (row : ScopeRow) → slice_get rows k ≡ Some row → get_or (lineages rows) k [] ≡ lineage_below (take k (lineages rows)) row
unfolding lineages
lineages-at rows k row h =
    ap (λ (n : ℕ). get_or (built lineage_below [] rows) n []) (sym (zero-add k)) ∙ built-at lineage_below [] rows k row [] h ∙ ap (λ (n : ℕ). lineage_below (take n (built lineage_below [] rows)) row) (zero-add k)

-- no scope is that one
pub lineage-past : (rows : List ScopeRow) (k : ℕ) → length rows ≤ k → lineage rows k ≡ []
lineage-past rows k h = get_or_past (lineages rows) k [] (omega (arith, length-lineages rows))

head-is : (rows : List ScopeRow) (k : ℕ) (row : ScopeRow) → slice_get rows k ≡ Some row → length (take k (lineages rows)) ≡ k
head-is rows k row h =
    let inside : k < length rows = slice_get_within rows k row h in
    length-take-le k (lineages rows) (omega (arith, length-lineages rows))

cons-same : (a b : ℕ) (xs ys : List ℕ) → a ≡ b → xs ≡ ys → a ∷ xs ≡ b ∷ ys
cons-same a b xs ys p q = cc

-- a scope, and then those from its parent on
pub lineage-on : (rows : List ScopeRow) (k : ℕ) (row : ScopeRow) → slice_get rows k ≡ Some row → row.parent < k → lineage rows k ≡ k ∷ lineage rows row.parent
lineage-on rows k row h below =
    lineages-at rows k row h ∙ cons-same _ _ _ _ (head-is rows k row h) (get_or-take k (lineages rows) row.parent [] below)

-- a root scope is alone
pub lineage-root : (rows : List ScopeRow) (k : ℕ) (row : ScopeRow) → slice_get rows k ≡ Some row → k ≤ row.parent → lineage rows k ≡ k ∷ []
lineage-root rows k row h above =
    let few = head-is rows k row h in
    lineages-at rows k row h ∙ cons-same _ _ _ _ few (get_or_past (take k (lineages rows)) row.parent [] (omega (arith, few)))

-- a scope comes first
pub lineage-head : (rows : List ScopeRow) (k : ℕ) → k < length rows → (rest : List ℕ) × (lineage rows k ≡ k ∷ rest)
lineage-head rows k inside =
    let row = get_or rows k no_row in
    let there : slice_get rows k ≡ Some row = slice_get-get_or rows k no_row inside in
    (_, lineages-at rows k row there ∙ cons-same _ _ _ _ (head-is rows k row there) refl)

-- Searching

pub found-from : (t : ℕ → Bool) (xs : List ℕ) → position t xs ≡ position_from t 0 xs
found-from t xs = position_from-zero t xs

pub found-here : (target n k : ℕ) (xs : List ℕ) → k ≡ target → position_from (λ s. eqb s target) n (k ∷ xs) ≡ Some n
found-here target n k xs is = rw (eq-eqb k target is) refl

pub found-later : (target n k : ℕ) (xs : List ℕ) → (k ≡ target → ⊥) → position_from (λ s. eqb s target) n (k ∷ xs) ≡ position_from (λ s. eqb s target) (n + 1) xs
found-later target n k xs other = rw (ne_eqb k target other) refl
