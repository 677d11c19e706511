-- The scope that is current at a place, and the rows of scopes.
use Rattle.std.proofs.Common.{◌≡◌, ◌⊎◌, inl, inr, ℕ, zero, suc, ◌+◌, ◌^◌, ◌<◌, ◌≤◌, ℤ, ◌-ℤ◌, Bool, true, false, not, ◌&&◌, List, [], ◌∷◌, length, take, map, slice_get, Option, None, Some, is_some, refl, sym, ap, subst, arith, if◌then◌else◌}
use Rattle.std.specs.Prelude.{int_le, unsigned_abs, nat_eq}
use Rattle.std.proofs.lemmas.Option.{same_Some}
use native.Mathlib.Nat.{one-le-pow, pow-le-pow_right, zero-lt-suc}
use Rattle.std.specs.List.{cons_option}
use Rattle.std.specs.Option.{ForSome, option_map_or}
use Rattle.vvp_forms.specs.declared.form.Form.TheVariants as form
use Rattle.vvp_forms.specs.declared.form.ScopeKind.{ScopeKind}
use Rattle.vvp_forms.specs.declared.form.Within.{Within}
use Rattle.vvp_lex.specs.declared.types.Name.{Name}
use Rattle.sym_link.specs.declared.placed.Placed.{Placed}
use Rattle.sym_link.specs.declared.placed.What.{What}
use Rattle.sym_link.specs.declared.placed.What.TheVariants as what
use Rattle.sym_link.specs.declared.program.ScopeRow.{ScopeRow}
use Rattle.sym_link.specs.declared.program.TheConstants.{NONE}
use Rattle.sym_link.specs.declared.sorts.Takes.TheVariants as takes
use Rattle.sym_link.specs.Currents.{AreNear, UnitIsNear}
use Rattle.sym_link.specs.Meaning.{current_scope, gather, latest, makes_scope, only_where, parent_of, precision_of, scale_of, scope_said, scope_scale, scopes_of, unit_in, unit_said}
use Rattle.sym_link.specs.Places.{counts_before, is_scope_form, symbol_scope}
use Rattle.sym_link.specs.Sorts.{makes_current, needs_scope, sort_of}
use Rattle.sym_link.specs.Sound.{IsScopeRow, MayBeScope}
use Rattle.sym_link.specs.Uses.{form_use}
use Rattle.sym_link.proofs.SoundGather.{Given, count-below, gather-found, gather-latest}
use Rattle.sym_link.proofs.SoundNamed.{earlier-scope, scope-form, scope-named, scope-tests, scope-within}
use Rattle.sym_link.proofs.SoundRules.{Keeps}
use Rattle.sym_link.proofs.SoundSymbols.{Declared, FormDeclares, form-declares}

-- every statement of a file breaks no rule
abbrev pub AllKeep : List ℕ → List Placed → Type 0
AllKeep file all = (place : ℕ) (s : Placed) → slice_get all place ≡ Some s → Keeps file all place s

pub take-get : {X : Type 0} (xs : List X) (n place : ℕ) (x : X) → slice_get (take n xs) place ≡ Some x → slice_get xs place ≡ Some x
take-get [] zero place x is = absurd (cc)
take-get [] (suc n) place x is = absurd (cc)
take-get (y ∷ xs) zero place x is = absurd (cc)
take-get (y ∷ xs) (suc n) zero x is = is
take-get (y ∷ xs) (suc n) (suc place) x is = take-get xs n place x is

makes-tests : (file : List ℕ) (all : List Placed) (place : ℕ) (w : What) → is_some (makes_scope file all place w) ≡ makes_current w
makes-tests file all place (what.Op o) = refl
makes-tests file all place (what.Form form.Ignored) = refl
makes-tests file all place (what.Form form.Parameter) = refl
makes-tests file all place (what.Form (form.Precision power)) = refl
makes-tests file all place (what.Form (form.Scope kind name source_module number line within)) = refl
makes-tests file all place (what.Form (form.CurrentScope scope)) = refl
makes-tests file all place (what.Form (form.TimeScale unit precision)) = refl
makes-tests file all place (what.Form (form.Variable kind starred name range)) = refl
makes-tests file all place (what.Form (form.Net signed starred name range source)) = refl
makes-tests file all place (what.Form (form.Array kind name first last range)) = refl
makes-tests file all place (what.Form (form.Functor kind width drives ports)) = refl
makes-tests file all place (what.Form (form.Resolver kind ports)) = refl
makes-tests file all place (what.Form (form.Part first base width)) = refl
makes-tests file all place (what.Form (form.PartInto first base width whole)) = refl
makes-tests file all place (what.Form (form.PartFrom signed first base width)) = refl
makes-tests file all place (what.Form (form.Concat widths ports)) = refl
makes-tests file all place (what.Form (form.Arithmetic kind width left right)) = refl
makes-tests file all place (what.Form (form.Compare kind width left right)) = refl
makes-tests file all place (what.Form (form.Shift kind width first amount)) = refl
makes-tests file all place (what.Form (form.Reduce kind first)) = refl
makes-tests file all place (what.Form (form.Repeat width count first)) = refl
makes-tests file all place (what.Form (form.Extend width first)) = refl
makes-tests file all place (what.Form (form.Delay width rise fall decay first)) = refl
makes-tests file all place (what.Form (form.EdgeEvent kind ports)) = refl
makes-tests file all place (what.Form (form.NamedEvent name)) = refl
makes-tests file all place (what.Form (form.EventOr events)) = refl
makes-tests file all place (what.Form (form.Thread code start)) = refl
makes-tests file all place (what.Form form.CodeLabel) = refl

current-use : (file : List ℕ) (all : List Placed) (place : ℕ) (scope : Name) → FormDeclares file all place (form.CurrentScope scope) → Declared file all place scope takes.Scope
unfolding form_use
current-use file all place scope d = d.alone (record { symbol = scope; takes = takes.Scope }) refl

-- the number of a scope that a statement makes current
made-in : (file : List ℕ) (all : List Placed) (place : ℕ) (s : Placed) (w : What) → Keeps file all place s → slice_get all place ≡ Some s → s.what ≡ w → ForSome (makes_scope file all place w) (λ scope. scope < length (scopes_of file all))
made-in file all place s (what.Op o) keeps there is scope some = absurd (cc)
made-in file all place s (what.Form form.Ignored) keeps there is scope some = absurd (cc)
made-in file all place s (what.Form form.Parameter) keeps there is scope some = absurd (cc)
made-in file all place s (what.Form (form.Precision power)) keeps there is scope some = absurd (cc)
made-in file all place s (what.Form (form.Scope kind name source_module number line within)) keeps there is scope some = let same : (counts_before all place).scopes ≡ scope = cc in subst (λ n. n < length (scopes_of file all)) same (scope-within file all place s there (ap is_scope_form is))
made-in file all place s (what.Form (form.CurrentScope symbol)) keeps there is scope some = let same : symbol_scope file all symbol ≡ scope = cc in subst (λ n. n < length (scopes_of file all)) same (scope-named file all place symbol (current-use file all place symbol (form-declares file all place s (form.CurrentScope symbol) keeps is)))
made-in file all place s (what.Form (form.TimeScale unit precision)) keeps there is scope some = absurd (cc)
made-in file all place s (what.Form (form.Variable kind starred name range)) keeps there is scope some = absurd (cc)
made-in file all place s (what.Form (form.Net signed starred name range source)) keeps there is scope some = absurd (cc)
made-in file all place s (what.Form (form.Array kind name first last range)) keeps there is scope some = absurd (cc)
made-in file all place s (what.Form (form.Functor kind width drives ports)) keeps there is scope some = absurd (cc)
made-in file all place s (what.Form (form.Resolver kind ports)) keeps there is scope some = absurd (cc)
made-in file all place s (what.Form (form.Part first base width)) keeps there is scope some = absurd (cc)
made-in file all place s (what.Form (form.PartInto first base width whole)) keeps there is scope some = absurd (cc)
made-in file all place s (what.Form (form.PartFrom signed first base width)) keeps there is scope some = absurd (cc)
made-in file all place s (what.Form (form.Concat widths ports)) keeps there is scope some = absurd (cc)
made-in file all place s (what.Form (form.Arithmetic kind width left right)) keeps there is scope some = absurd (cc)
made-in file all place s (what.Form (form.Compare kind width left right)) keeps there is scope some = absurd (cc)
made-in file all place s (what.Form (form.Shift kind width first amount)) keeps there is scope some = absurd (cc)
made-in file all place s (what.Form (form.Reduce kind first)) keeps there is scope some = absurd (cc)
made-in file all place s (what.Form (form.Repeat width count first)) keeps there is scope some = absurd (cc)
made-in file all place s (what.Form (form.Extend width first)) keeps there is scope some = absurd (cc)
made-in file all place s (what.Form (form.Delay width rise fall decay first)) keeps there is scope some = absurd (cc)
made-in file all place s (what.Form (form.EdgeEvent kind ports)) keeps there is scope some = absurd (cc)
made-in file all place s (what.Form (form.NamedEvent name)) keeps there is scope some = absurd (cc)
made-in file all place s (what.Form (form.EventOr events)) keeps there is scope some = absurd (cc)
made-in file all place s (what.Form (form.Thread code start)) keeps there is scope some = absurd (cc)
made-in file all place s (what.Form form.CodeLabel) keeps there is scope some = absurd (cc)

-- a scope is current where one was made so
pub current-in : (file : List ℕ) (all : List Placed) (place : ℕ) → AllKeep file all → (counts_before all place).has_scope ≡ true → current_scope file all place < length (scopes_of file all)
unfolding current_scope
current-in file all place keep has =
    gather-latest (λ scope. scope < length (scopes_of file all)) (λ earlier s. makes_scope file all earlier s.what) (λ s. makes_current s.what) (take place all) NONE
    (λ p t. makes-tests file all p t.what)
    (λ p t there. let before : slice_get all p ≡ Some t = take-get all place p t there in made-in file all p t t.what (keep p t before) before refl)
    (inr has)

-- and else it is one or none
pub current-may : (file : List ℕ) (all : List Placed) (place : ℕ) → AllKeep file all → MayBeScope (scopes_of file all) (current_scope file all place)
unfolding current_scope
current-may file all place keep =
    gather-latest (MayBeScope (scopes_of file all)) (λ earlier s. makes_scope file all earlier s.what) (λ s. makes_current s.what) (take place all) NONE
    (λ p t. makes-tests file all p t.what)
    (λ p t there scope some. let before : slice_get all p ≡ Some t = take-get all place p t there in inr (made-in file all p t t.what (keep p t before) before refl scope some))
    (inl (inl refl))

has-of : (needs has : Bool) → (needs && not has) ≡ false → needs ≡ true → has ≡ true
has-of true true is needs = refl
has-of true false is needs = absurd (cc)
has-of false has is needs = absurd (cc)

-- a statement that stands in a scope
pub current-there : (file : List ℕ) (all : List Placed) (place : ℕ) (s : Placed) → AllKeep file all → slice_get all place ≡ Some s → needs_scope s.what ≡ true → current_scope file all place < length (scopes_of file all)
current-there file all place s keep there needs =
    current-in file all place keep (has-of (needs_scope s.what) (counts_before all place).has_scope (keep place s there).scoped needs)

-- Rows

-- the scale of a scope is a power of ten
abbrev IsScale : ℕ → Type 0
IsScale scale = (1 ≤ scale) × (scale ≤ 10 ^ 17)

power-scale : (n : ℕ) → n < 18 → IsScale (10 ^ n)
power-scale n lt = let most : n ≤ 17 = omega (arith, lt) in (one-le-pow n 10 (zero-lt-suc 9), pow-le-pow_right (zero-lt-suc 9) most)

scale-is : (precision unit : ℤ) → unsigned_abs (unit -ℤ precision) < 18 → IsScale (scale_of precision unit)
scale-is precision unit near = by (int_le precision unit)
  where
    by : (b : Bool) → IsScale (if b then 10 ^ unsigned_abs (unit -ℤ precision) else 1)
    by true = power-scale (unsigned_abs (unit -ℤ precision)) near
    by false = power-scale 0 (omega arith)

latest-scale : (precision : ℤ) (all : List Placed) (gives : ℕ → Placed → Option ℤ) (start x : ℕ) → IsScale x → ((place : ℕ) (s : Placed) → slice_get all place ≡ Some s → (at : ℕ) → ForSome (gives at s) (λ unit. unsigned_abs (unit -ℤ precision) < 18)) → IsScale (latest x (map (scale_of precision) (gather gives start all)))
latest-scale precision [] gives start x is near = is
latest-scale precision (s ∷ all) gives start x is near =
    by (gives start s) refl (λ (y : ℕ) scale. latest-scale precision all gives (start + 1) y scale (λ place t there. near (suc place) t there))
  where
    by : (o : Option ℤ) → gives start s ≡ o → ((y : ℕ) → IsScale y → IsScale (latest y (map (scale_of precision) (gather gives (start + 1) all)))) → IsScale (latest x (map (scale_of precision) (cons_option o (gather gives (start + 1) all))))
    by None given rest = rest x is
    by (Some unit) given rest = rest (scale_of precision unit) (scale-is precision unit (near 0 s refl start unit given))

said-near : (precision : ℤ) (b : Bool) (o : Option ℤ) → UnitIsNear precision o → ForSome (only_where b o) (λ unit. unsigned_abs (unit -ℤ precision) < 18)
said-near precision true None near unit is = absurd (cc)
said-near precision true (Some said) near unit is = let same : said ≡ unit = cc in subst (λ u. unsigned_abs (u -ℤ precision) < 18) same near
said-near precision false o near unit is = absurd (cc)

scope-scale : (file : List ℕ) (all : List Placed) (scope : ℕ) → AreNear (precision_of all) all → IsScale (scope_scale file all scope)
unfolding scope_scale
scope-scale file all scope near =
    latest-scale (precision_of all) all (λ place s. unit_said file all scope place s.what) 0 1 (power-scale 0 (omega arith))
    (λ place s there at. said-near (precision_of all) (nat_eq (current_scope file all at) scope) (unit_in s.what) (near place s there))

parent-use : (file : List ℕ) (all : List Placed) (place : ℕ) (kind : ScopeKind) (name source_module : List ℕ) (number line : ℕ) (within : Within) → FormDeclares file all place (form.Scope kind name source_module number line (Some within)) → Declared file all place within.scope takes.EarlierScope
unfolding form_use
parent-use file all place kind name source_module number line within d = d.alone (record { symbol = within.scope; takes = takes.EarlierScope }) refl

-- the number of a parent is lower
parent-below : (file : List ℕ) (all : List Placed) (place : ℕ) (symbol : Name) → Declared file all place symbol takes.EarlierScope → symbol_scope file all symbol < (counts_before all place).scopes
parent-below file all place symbol d =
    let less : d.first < place = d.earlier refl in
    let is : is_scope_form d.from.what ≡ true = scope-form d.from.what (earlier-scope (sort_of d.from.what) d.accepted) in
    let fewer : (counts_before all d.first).scopes < (counts_before all place).scopes = count-below (λ (t : Placed). is_scope_form t.what) all d.first place d.from less d.there is in
    subst (λ o. option_map_or (λ p. (counts_before all p).scopes) o 0 < (counts_before all place).scopes) (sym d.found) fewer

parent-is : (file : List ℕ) (all : List Placed) (place : ℕ) (s : Placed) (kind : ScopeKind) (name source_module : List ℕ) (number line : ℕ) (within : Option Within) → Keeps file all place s → s.what ≡ what.Form (form.Scope kind name source_module number line within) → (parent_of file all within ≡ NONE) ⊎ (parent_of file all within < (counts_before all place).scopes)
parent-is file all place s kind name source_module number line None keeps is = inl refl
parent-is file all place s kind name source_module number line (Some within) keeps is =
    inr (parent-below file all place within.scope (parent-use file all place kind name source_module number line within (form-declares file all place s (form.Scope kind name source_module number line (Some within)) keeps is)))

row-is : (file : List ℕ) (all : List Placed) (place : ℕ) (s : Placed) (w : What) (row : ScopeRow) → AreNear (precision_of all) all → Keeps file all place s → s.what ≡ w → scope_said file all place w ≡ Some row → IsScopeRow (counts_before all place).scopes row
row-is file all place s (what.Op o) row near keeps is said = absurd (cc)
row-is file all place s (what.Form form.Ignored) row near keeps is said = absurd (cc)
row-is file all place s (what.Form form.Parameter) row near keeps is said = absurd (cc)
row-is file all place s (what.Form (form.Precision power)) row near keeps is said = absurd (cc)
row-is file all place s (what.Form (form.Scope kind name source_module number line within)) row near keeps is said =
    let same = same_Some _ row said in
    let scale = scope-scale file all (counts_before all place).scopes near in
    subst (IsScopeRow (counts_before all place).scopes) same (record { lower = parent-is file all place s kind name source_module number line within keeps is; least = scale.0; most = scale.1 })
row-is file all place s (what.Form (form.CurrentScope scope)) row near keeps is said = absurd (cc)
row-is file all place s (what.Form (form.TimeScale unit precision)) row near keeps is said = absurd (cc)
row-is file all place s (what.Form (form.Variable kind starred name range)) row near keeps is said = absurd (cc)
row-is file all place s (what.Form (form.Net signed starred name range source)) row near keeps is said = absurd (cc)
row-is file all place s (what.Form (form.Array kind name first last range)) row near keeps is said = absurd (cc)
row-is file all place s (what.Form (form.Functor kind width drives ports)) row near keeps is said = absurd (cc)
row-is file all place s (what.Form (form.Resolver kind ports)) row near keeps is said = absurd (cc)
row-is file all place s (what.Form (form.Part first base width)) row near keeps is said = absurd (cc)
row-is file all place s (what.Form (form.PartInto first base width whole)) row near keeps is said = absurd (cc)
row-is file all place s (what.Form (form.PartFrom signed first base width)) row near keeps is said = absurd (cc)
row-is file all place s (what.Form (form.Concat widths ports)) row near keeps is said = absurd (cc)
row-is file all place s (what.Form (form.Arithmetic kind width left right)) row near keeps is said = absurd (cc)
row-is file all place s (what.Form (form.Compare kind width left right)) row near keeps is said = absurd (cc)
row-is file all place s (what.Form (form.Shift kind width first amount)) row near keeps is said = absurd (cc)
row-is file all place s (what.Form (form.Reduce kind first)) row near keeps is said = absurd (cc)
row-is file all place s (what.Form (form.Repeat width count first)) row near keeps is said = absurd (cc)
row-is file all place s (what.Form (form.Extend width first)) row near keeps is said = absurd (cc)
row-is file all place s (what.Form (form.Delay width rise fall decay first)) row near keeps is said = absurd (cc)
row-is file all place s (what.Form (form.EdgeEvent kind ports)) row near keeps is said = absurd (cc)
row-is file all place s (what.Form (form.NamedEvent name)) row near keeps is said = absurd (cc)
row-is file all place s (what.Form (form.EventOr events)) row near keeps is said = absurd (cc)
row-is file all place s (what.Form (form.Thread code start)) row near keeps is said = absurd (cc)
row-is file all place s (what.Form form.CodeLabel) row near keeps is said = absurd (cc)

pub each-scope : (file : List ℕ) (all : List Placed) → AllKeep file all → AreNear (precision_of all) all → (number : ℕ) (row : ScopeRow) → slice_get (scopes_of file all) number ≡ Some row → IsScopeRow number row
each-scope file all keep near number row is =
    let found : Given ScopeRow (λ p t. scope_said file all p t.what) (λ t. is_scope_form t.what) all number row =
    gather-found (λ p t. scope_said file all p t.what) (λ t. is_scope_form t.what) all number row (λ p t. scope-tests file all p t.what) is in
    subst (λ n. IsScopeRow n row) (sym found.count)
    (row-is file all found.place found.from found.from.what row near (keep found.place found.from found.there) refl found.given)
