-- The path of a scope, from the scope up.
use Rattle.std.proofs.Common.{◌≡◌, ℕ, ◌+◌, ◌<◌, ◌≤◌, Some, None, Option, List, [], ◌∷◌, ◌++◌, length, get_or, take, reverse, refl, sym, ap, ◌∙◌, subst, arith, append_assoc, get_or-take, zero-add}
use Rattle.std.specs.Prelude.{slice_get, nat_lt}
use Rattle.std.specs.List.{AllPass}
use Rattle.std.specs.Option.{option_map_or}
use Rattle.std.proofs.lemmas.Bool.{ltb-true}
use Rattle.std.proofs.lemmas.List.{append-nil, length-take-le, reverse-append, reverse-reverse}
use Rattle.std.proofs.lemmas.Option.{slice_get-get_or, slice_get_past, slice_get_within}
use Rattle.sym_link.specs.declared.program.ScopeRow.{ScopeRow}
use Rattle.sys_tasks.specs.Design.{path_below, paths, place_of}
use Rattle.sys_tasks.specs.Sound.{HasScales}
use Rattle.sys_tasks.proofs.BuildLemmas.{built, built-at, length-built, no_row}

-- the path of a scope
abbrev pub path : List ScopeRow → ℕ → List ℕ
path rows scope = get_or (paths rows) scope []

length-paths : (rows : List ScopeRow) → length (paths rows) ≡ length rows
unfolding paths
length-paths rows = length-built path_below [] rows ∙ zero-add (length rows)

path-at : (rows : List ScopeRow) (k : ℕ) (row : ScopeRow) → slice_get rows k ≡ Some row → path rows k ≡ path_below (take k (paths rows)) row
unfolding paths
path-at rows k row h =
    ap (λ (n : ℕ). get_or (built path_below [] rows) n []) (sym (zero-add k)) ∙ built-at path_below [] rows k row [] h ∙ ap (λ (n : ℕ). path_below (take n (built path_below [] rows)) row) (zero-add k)

-- the path by what stands above
abbrev below : List ℕ → Option (List ℕ) → List ℕ
below name above = option_map_or (λ (parent : List ℕ). parent ++ (46 ∷ name)) above name

taken : (rows : List ScopeRow) (k : ℕ) (row : ScopeRow) → slice_get rows k ≡ Some row → length (take k (paths rows)) ≡ k
taken rows k row h =
    let inside : k < length rows = slice_get_within rows k row h in
    length-take-le k (paths rows) (omega (arith, length-paths rows))

-- a scope below another one
pub path-on : (rows : List ScopeRow) (k : ℕ) (row : ScopeRow) → slice_get rows k ≡ Some row → row.parent < k → path rows k ≡ path rows row.parent ++ (46 ∷ row.name)
path-on rows k row h above =
    let few = taken rows k row h in
    path-at rows k row h
    ∙ ap (below row.name) (slice_get-get_or (take k (paths rows)) row.parent [] (omega (arith, few)) ∙ ap Some (get_or-take k (paths rows) row.parent [] above))

-- a root scope
pub path-root : (rows : List ScopeRow) (k : ℕ) (row : ScopeRow) → slice_get rows k ≡ Some row → k ≤ row.parent → path rows k ≡ row.name
path-root rows k row h none =
    let few = taken rows k row h in
    path-at rows k row h ∙ ap (below row.name) (slice_get_past (take k (paths rows)) row.parent (omega (arith, few)))

-- ---- written backwards

-- nothing was written yet
pub backwards-none : (whole : List ℕ) → whole ≡ whole ++ reverse []
backwards-none whole = sym (append-nil whole)

-- a name and the point before it were written
pub backwards-more : (whole above name written new : List ℕ) → whole ≡ (above ++ (46 ∷ name)) ++ reverse written → new ≡ (written ++ reverse name) ++ 46 ∷ [] → whole ≡ above ++ reverse new
backwards-more whole above name written new left is =
    let turned : reverse new ≡ 46 ∷ (name ++ reverse written) =
    ap reverse is ∙ reverse-append (written ++ reverse name) (46 ∷ []) ∙ ap (λ (bytes : List ℕ). 46 ∷ bytes) (reverse-append written (reverse name) ∙ ap (λ (bytes : List ℕ). bytes ++ reverse written) (reverse-reverse name)) in
    left ∙ append_assoc above (46 ∷ name) (reverse written) ∙ ap (λ (bytes : List ℕ). above ++ bytes) (sym turned)

-- the name of the root scope was written
pub backwards-all : (whole name written new : List ℕ) → whole ≡ name ++ reverse written → new ≡ written ++ reverse name → reverse new ≡ whole
backwards-all whole name written new left is =
    ap reverse is ∙ reverse-append written (reverse name) ∙ ap (λ (bytes : List ℕ). bytes ++ reverse written) (reverse-reverse name) ∙ sym left

-- ---- places

-- the path of a place
pub place-path : (rows : List ScopeRow) (scope : ℕ) → (place_of rows scope).path ≡ path rows scope
unfolding place_of
place-path rows scope = refl

-- the scale of a place
pub place-scale : (rows : List ScopeRow) (scope : ℕ) (row : ScopeRow) → slice_get rows scope ≡ Some row → (place_of rows scope).scale ≡ row.scale
unfolding place_of
place-scale rows scope row h = rw h refl

pub scale-least : (rows : List ScopeRow) (scope : ℕ) → HasScales rows → scope < length rows → 1 ≤ (place_of rows scope).scale
scale-least rows scope scales there =
    let row = get_or rows scope no_row in
    let some : 0 < row.scale = ltb-true 0 row.scale (scales scope no_row there) in
    rw (place-scale rows scope row (slice_get-get_or rows scope no_row there)) some
