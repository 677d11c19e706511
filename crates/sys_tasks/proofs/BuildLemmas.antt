-- Lists that are built from the front, each element by those before it.
use Rattle.std.proofs.Common.{◌≡◌, ℕ, zero, suc, ◌+◌, ◌≤◌, Some, List, [], ◌∷◌, ◌++◌, length, get_or, take, refl, sym, ap, ◌∙◌, arith, add-zero, length-append, get_or-take}
use Rattle.std.specs.Prelude.{slice_get}
use Rattle.std.specs.List.{fold}
use Rattle.std.proofs.lemmas.List.{get_or_at, take_all, take_at, take-take}
use Rattle.vvp_forms.specs.declared.form.ScopeKind.TheVariants.{Module}
use Rattle.sym_link.specs.declared.program.ScopeRow.{ScopeRow}

abbrev pub built : {X : Type 0} → (List X → ScopeRow → X) → List X → List ScopeRow → List X
built step done rows = fold (λ d r. d ++ step d r ∷ []) done rows

pub length-built : {X : Type 0} (step : List X → ScopeRow → X) (done : List X) (rows : List ScopeRow) → length (built step done rows) ≡ length done + length rows
length-built step done [] = omega arith
length-built step done (row ∷ rows) = length-built step (done ++ step done row ∷ []) rows ∙ rw length-append (omega arith)

pub built-front : {X : Type 0} (step : List X → ScopeRow → X) (done : List X) (rows : List ScopeRow) → take (length done) (built step done rows) ≡ done
built-front step done [] = take_all (length done) done (omega arith)
built-front step done (row ∷ rows) =
    let more = done ++ step done row ∷ [] in
    let longer : length done ≤ length more = omega (arith, length-append done (step done row ∷ [])) in
    sym (take-take (length done) (length more) (built step more rows) longer) ∙ ap (take (length done)) (built-front step more rows) ∙ take_at done (step done row ∷ []) (length done) refl

pub built-at : {X : Type 0} (step : List X → ScopeRow → X) (done : List X) (rows : List ScopeRow) (k : ℕ) (row : ScopeRow) (d : X) → slice_get rows k ≡ Some row
    → get_or (built step done rows) (length done + k) d ≡ step (take (length done + k) (built step done rows)) row
built-at step done [] k row d h = cc
built-at step done (r ∷ rows) zero row d h =
    let same : r ≡ row = cc in
    let more = done ++ step done r ∷ [] in
    let longer : length more ≡ length done + 1 = length-append done (step done r ∷ []) in
    rw add-zero
    (sym (get_or-take (length done + 1) (built step more rows) (length done) d (omega arith))
    ∙ ap (λ xs. get_or xs (length done) d) (ap (λ (n : ℕ). take n (built step more rows)) (sym longer) ∙ built-front step more rows)
    ∙ get_or_at done (step done r) [] d (length done) refl
    ∙ ap (λ xs. step xs r) (sym (built-front step done (r ∷ rows)))
    ∙ ap (λ (x : ScopeRow). step (take (length done) (built step done (r ∷ rows))) x) same)
built-at step done (r ∷ rows) (suc k) row d h =
    let more = done ++ step done r ∷ [] in
    let longer : length more + k ≡ length done + suc k = rw length-append (omega arith) in
    let next = built-at step more rows k row d h in
    ap (λ (n : ℕ). get_or (built step more rows) n d) (sym longer) ∙ next ∙ ap (λ (n : ℕ). step (take n (built step more rows)) row) longer

-- a row where there is none
pub no_row : ScopeRow
no_row = record { name = []; kind = Module; parent = 0; scale = 1 }
