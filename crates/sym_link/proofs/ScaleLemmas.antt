-- The scales of scopes, with one more statement.
use Rattle.std.proofs.Common.{◌≡◌, ℕ, ◌+◌, ◌<◌, ◌≤◌, ℤ, Bool, true, false, List, [], ◌∷◌, ◌++◌, length, get_or, map, take, Option, None, Some, refl, sym, ap, ◌∙◌, arith}
use Rattle.std.proofs.lemmas.Bool.{eqb-false, eqb-true}
use Rattle.std.proofs.lemmas.List.{length-take-le, take_all, take_more}
use Rattle.std.proofs.lemmas.List.Sums.{count_by-le-length}
use Rattle.std.specs.Prelude.{nat_eq, slice_get, slice_set}
use Rattle.std.specs.List.{cons_option}
use Rattle.vvp_forms.specs.declared.form.Form.{Form}
use Rattle.vvp_forms.specs.declared.form.Form.TheVariants as form
use Rattle.vvp_forms.specs.declared.form.ScopeKind.{ScopeKind}
use Rattle.vvp_forms.specs.declared.form.Within.{Within}
use Rattle.sym_link.specs.declared.placed.Placed.{Placed}
use Rattle.sym_link.specs.declared.placed.What.{What}
use Rattle.sym_link.specs.declared.placed.What.TheVariants as what
use Rattle.sym_link.specs.declared.program.ScopeRow.{ScopeRow}
use Rattle.sym_link.specs.Currents.{scale_before, scaled}
use Rattle.sym_link.specs.Meaning.{current_scope, gather, latest, only_where, parent_in, precision_of, scale_of, scope_row, scope_scale, unit_in, unit_said}
use Rattle.sym_link.specs.Places.{counts_before, is_scope_form}
use Rattle.sym_link.proofs.CurrentLemmas.{gather-snoc}
use Rattle.sym_link.proofs.MarkLemmas.{set-other, set-same}

abbrev scale_or : ℤ → ℕ → Option ℤ → ℕ
scale_or precision old None = old
scale_or precision old (Some unit) = scale_of precision unit

latest-scale : (precision : ℤ) (x : ℕ) (units : List ℤ) (o : Option ℤ) → latest x (map (scale_of precision) (units ++ cons_option o [])) ≡ scale_or precision (latest x (map (scale_of precision) units)) o
latest-scale precision x [] None = refl
latest-scale precision x [] (Some unit) = refl
latest-scale precision x (u ∷ units) o = latest-scale precision (scale_of precision u) units o

scale-next : (file : List ℕ) (all : List Placed) (precision : ℤ) (scope i : ℕ) (d : Placed) → i < length all → scale_before file all precision scope (i + 1) ≡ scale_or precision (scale_before file all precision scope i) (unit_said file all scope i (get_or all i d).what)
scale-next file all precision scope i d lt =
    ap (λ l. latest 1 (map (scale_of precision) l)) (ap (gather said 0) (take_more all i d lt) ∙ gather-snoc ℤ said 0 (take i all) (get_or all i d))
    ∙ latest-scale precision 1 (gather said 0 (take i all)) (said (0 + length (take i all)) (get_or all i d))
    ∙ ap (λ n. scale_or precision (scale_before file all precision scope i) (said n (get_or all i d))) (sym place)
  where
    said : ℕ → Placed → Option ℤ
    said earlier s = unit_said file all scope earlier s.what

    place : i ≡ 0 + length (take i all)
    place = let less : i ≤ length all = omega (arith, lt) in let taken : length (take i all) ≡ i = length-take-le i all less in omega (arith, taken)

-- the scale of one scope, once a unit is kept for the one that is current
pub scaled-more : (file : List ℕ) (all : List Placed) (precision : ℤ) (scope i current : ℕ) (d : Placed) (old new : List ℕ) → i < length all → current ≡ current_scope file all i → new ≡ scaled precision current (unit_in (get_or all i d).what) old → slice_get old scope ≡ Some (scale_before file all precision scope i) → slice_get new scope ≡ Some (scale_before file all precision scope (i + 1))
scaled-more file all precision scope i current d old new lt is made so_far =
    ap (λ l. slice_get l scope) made
    ∙ by (unit_in (get_or all i d).what)
    ∙ ap Some (sym (scale-next file all precision scope i d lt))
  where
    here : ℕ
    here = scale_before file all precision scope i

    at : (b : Bool) (unit : ℤ) → nat_eq (current_scope file all i) scope ≡ b → slice_get (slice_set old current (scale_of precision unit)) scope ≡ Some (scale_or precision here (only_where b (Some unit)))
    at true unit same =
        let eq : current ≡ scope = is ∙ eqb-true (current_scope file all i) scope same in
        ap (slice_get (slice_set old current (scale_of precision unit))) (sym eq) ∙ set-same old current (scale_of precision unit) here (ap (slice_get old) eq ∙ so_far)
    at false unit other =
        set-other old current scope (scale_of precision unit) (λ eq. eqb-false (current_scope file all i) scope other (sym is ∙ sym eq)) ∙ so_far

    by : (o : Option ℤ) → slice_get (scaled precision current o old) scope ≡ Some (scale_or precision here (only_where (nat_eq (current_scope file all i) scope) o))
    by None = so_far ∙ ap Some (none (nat_eq (current_scope file all i) scope))
      where
        none : (b : Bool) → here ≡ scale_or precision here (only_where b None)
        none true = refl
        none false = refl
    by (Some unit) = at (nat_eq (current_scope file all i) scope) unit refl

pub scale-all : (file : List ℕ) (all : List Placed) (precision : ℤ) (scope : ℕ) → precision ≡ precision_of all → scale_before file all precision scope (length all) ≡ scope_scale file all scope
unfolding scope_scale
scale-all file all precision scope is =
    let end : length all ≤ length all = omega arith in
    ap (λ p. scale_before file all p scope (length all)) is
    ∙ ap (λ l. latest 1 (map (scale_of (precision_of all)) (gather (λ earlier (s : Placed). unit_said file all scope earlier s.what) 0 l))) (take_all (length all) all end)

-- a scope's number is below the number of statements
pub number-below : (all : List Placed) (i : ℕ) → i < length all → (counts_before all i).scopes < length all
number-below all i lt =
    let less : i ≤ length all = omega (arith, lt) in
    let taken : length (take i all) ≡ i = length-take-le i all less in
    let few : (counts_before all i).scopes ≤ length (take i all) = count_by-le-length (λ (s : Placed). is_scope_form s.what) (take i all) in
    omega (arith, taken, few, lt)

abbrev row : List ℕ → ScopeKind → ℕ → ℕ → ScopeRow
row name kind parent scale = record { name = name; kind = kind; parent = parent; scale = scale }

-- the row of a scope that a statement declares
pub row-is : (file : List ℕ) (all : List Placed) (scale : ℕ) (w : What) (f : Form) (kind : ScopeKind) (name source_module : List ℕ) (number line : ℕ) (within : Option Within) (copied : List ℕ) (parent : ℕ) → w ≡ what.Form f → f ≡ form.Scope kind name source_module number line within → copied ≡ name → parent ≡ parent_in file all f → Some (record { name = copied; kind = kind; parent = parent; scale = scale }) ≡ scope_row file all scale w
row-is file all scale w f kind name source_module number line within copied parent same is p q =
    ap (λ n. Some (row n kind parent scale)) p ∙ ap (λ n. Some (row name kind n scale)) (q ∙ ap (parent_in file all) is)
    ∙ sym (ap (scope_row file all scale) (same ∙ ap what.Form is))
