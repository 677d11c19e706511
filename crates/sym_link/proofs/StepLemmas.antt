-- Where the walks of a file lead: to places of the file.
use Rattle.std.proofs.Common.{◌≡◌, ℕ, ◌<◌, Bool, true, false, List, length, map, Option, None, Some, refl, sym, ap, subst, ◌∙◌, if◌then◌else◌}
use Rattle.std.proofs.lemmas.Option.{slice_get-map}
use Rattle.std.proofs.lemmas.List.{length-map}
use Rattle.std.specs.Prelude.{slice_get}
use Rattle.std.specs.Option.{option_map}
use Rattle.vvp_forms.specs.declared.form.Form.TheVariants as form
use Rattle.vvp_forms.specs.declared.form.Port.{Port}
use Rattle.vvp_lex.specs.declared.types.Name.{Name}
use Rattle.vvp_lex.specs.Place.{◌>>=◌}
use Rattle.sym_link.specs.declared.placed.Placed.{Placed}
use Rattle.sym_link.specs.declared.placed.What.{What}
use Rattle.sym_link.specs.declared.placed.What.TheVariants as what
use Rattle.sym_link.specs.declared.walks.Step.{Step}
use Rattle.sym_link.specs.declared.walks.Step.TheVariants.{Stop, Stray, On}
use Rattle.sym_link.specs.Places.{signal_place, sort_at, symbol_place}
use Rattle.sym_link.specs.Sorts.{is_signal, sort_of}
use Rattle.sym_link.specs.Widths.{ends_at, first_symbol, root_step, root_steps, resolver_ports, toward, width_step, width_step_by, width_steps}
use Rattle.sym_link.proofs.PlaceLemmas.{place-below}

-- a walk doesn't go on from what is no net
ends-no : (w : What) (to : ℕ) → ends_at w ≡ On to → ⊥
ends-no w to is = by (is_signal (sort_of w)) is
  where
    by : (b : Bool) → (if b then Stop else Stray) ≡ On to → ⊥
    by true is = absurd (cc)
    by false is = absurd (cc)

toward-some : (o : Option ℕ) (to : ℕ) → toward o ≡ On to → o ≡ Some to
toward-some None to is = absurd (cc)
toward-some (Some place) to is = let same : place ≡ to = cc in ap Some same

-- a variable, a net or a functor stands at a place of the file
signal-below : (file : List ℕ) (all : List Placed) (symbol : Name) (to : ℕ) → signal_place file all symbol ≡ Some to → to < length all
signal-below file all symbol to is = by (symbol_place file all symbol) refl is
  where
    at : (place : ℕ) (b : Bool) → symbol_place file all symbol ≡ Some place → (if b then Some place else None) ≡ Some to → to < length all
    at place true there is = let same : place ≡ to = cc in subst (λ n. n < length all) same (place-below file all symbol place (sym there))
    at place false there is = absurd (cc)

    by : (o : Option ℕ) → symbol_place file all symbol ≡ o → (o >>= λ place. if is_signal (sort_at all place) then Some place else None) ≡ Some to → to < length all
    by None there is = absurd (cc)
    by (Some place) there is = at place (is_signal (sort_at all place)) there is

toward-below : (file : List ℕ) (all : List Placed) (symbol : Name) (to : ℕ) → toward (signal_place file all symbol) ≡ On to → to < length all
toward-below file all symbol to is = signal-below file all symbol to (toward-some (signal_place file all symbol) to is)

root-below : (file : List ℕ) (all : List Placed) (w : What) (to : ℕ) → root_step file all w ≡ On to → to < length all
root-below file all (what.Op o) to is = absurd (ends-no (what.Op o) to is)
root-below file all (what.Form (form.Net signed starred name range source)) to is = toward-below file all source to is
root-below file all (what.Form (form.Resolver kind ports)) to is = absurd (ends-no (what.Form (form.Resolver kind ports)) to is)
root-below file all (what.Form form.Ignored) to is = absurd (ends-no (what.Form form.Ignored) to is)
root-below file all (what.Form form.Parameter) to is = absurd (ends-no (what.Form form.Parameter) to is)
root-below file all (what.Form (form.Precision power)) to is = absurd (ends-no (what.Form (form.Precision power)) to is)
root-below file all (what.Form (form.Scope kind name source_module number line within)) to is = absurd (ends-no (what.Form (form.Scope kind name source_module number line within)) to is)
root-below file all (what.Form (form.CurrentScope scope)) to is = absurd (ends-no (what.Form (form.CurrentScope scope)) to is)
root-below file all (what.Form (form.TimeScale unit precision)) to is = absurd (ends-no (what.Form (form.TimeScale unit precision)) to is)
root-below file all (what.Form (form.Variable kind starred name range)) to is = absurd (ends-no (what.Form (form.Variable kind starred name range)) to is)
root-below file all (what.Form (form.Array kind name first last range)) to is = absurd (ends-no (what.Form (form.Array kind name first last range)) to is)
root-below file all (what.Form (form.Functor kind width drives ports)) to is = absurd (ends-no (what.Form (form.Functor kind width drives ports)) to is)
root-below file all (what.Form (form.Part port base width)) to is = absurd (ends-no (what.Form (form.Part port base width)) to is)
root-below file all (what.Form (form.PartInto port base width whole)) to is = absurd (ends-no (what.Form (form.PartInto port base width whole)) to is)
root-below file all (what.Form (form.PartFrom signed port base width)) to is = absurd (ends-no (what.Form (form.PartFrom signed port base width)) to is)
root-below file all (what.Form (form.Concat widths ports)) to is = absurd (ends-no (what.Form (form.Concat widths ports)) to is)
root-below file all (what.Form (form.Arithmetic kind width left right)) to is = absurd (ends-no (what.Form (form.Arithmetic kind width left right)) to is)
root-below file all (what.Form (form.Compare kind width left right)) to is = absurd (ends-no (what.Form (form.Compare kind width left right)) to is)
root-below file all (what.Form (form.Shift kind width port amount)) to is = absurd (ends-no (what.Form (form.Shift kind width port amount)) to is)
root-below file all (what.Form (form.Reduce kind port)) to is = absurd (ends-no (what.Form (form.Reduce kind port)) to is)
root-below file all (what.Form (form.Repeat width count port)) to is = absurd (ends-no (what.Form (form.Repeat width count port)) to is)
root-below file all (what.Form (form.Extend width port)) to is = absurd (ends-no (what.Form (form.Extend width port)) to is)
root-below file all (what.Form (form.Delay width rise fall decay port)) to is = absurd (ends-no (what.Form (form.Delay width rise fall decay port)) to is)
root-below file all (what.Form (form.EdgeEvent kind ports)) to is = absurd (ends-no (what.Form (form.EdgeEvent kind ports)) to is)
root-below file all (what.Form (form.NamedEvent name)) to is = absurd (ends-no (what.Form (form.NamedEvent name)) to is)
root-below file all (what.Form (form.EventOr events)) to is = absurd (ends-no (what.Form (form.EventOr events)) to is)
root-below file all (what.Form (form.Thread code start)) to is = absurd (ends-no (what.Form (form.Thread code start)) to is)
root-below file all (what.Form form.CodeLabel) to is = absurd (ends-no (what.Form form.CodeLabel) to is)

width-below : (file : List ℕ) (all : List Placed) (w : What) (to : ℕ) → width_step file all w ≡ On to → to < length all
width-below file all w to is = by (resolver_ports w) is
  where
    at : (o : Option Name) → toward (o >>= signal_place file all) ≡ On to → to < length all
    at None is = absurd (cc)
    at (Some symbol) is = toward-below file all symbol to is

    by : (o : Option (List Port)) → width_step_by file all w o ≡ On to → to < length all
    by None is = root-below file all w to is
    by (Some ports) is = at (first_symbol ports) is

steps-inside : (step : What → Step) (all : List Placed) (place to : ℕ) → ((w : What) → step w ≡ On to → to < length all) → slice_get (map (λ s. step s.what) all) place ≡ Some (On to) → to < length all
steps-inside step all place to below is = by (slice_get all place) (sym (slice_get-map (λ (s : Placed). step s.what) all place) ∙ is)
  where
    by : (o : Option Placed) → option_map (λ s. step s.what) o ≡ Some (On to) → to < length all
    by None is = absurd (cc)
    by (Some s) is = let goes : step s.what ≡ On to = cc in below s.what goes

pub roots-inside : (file : List ℕ) (all : List Placed) (place to : ℕ) → slice_get (root_steps file all) place ≡ Some (On to) → to < length (root_steps file all)
roots-inside file all place to is =
    subst (λ n. to < n) (sym (length-map all (λ (s : Placed). root_step file all s.what))) (steps-inside (root_step file all) all place to (λ w. root-below file all w to) is)

pub widths-inside : (file : List ℕ) (all : List Placed) (place to : ℕ) → slice_get (width_steps file all) place ≡ Some (On to) → to < length (width_steps file all)
widths-inside file all place to is =
    subst (λ n. to < n) (sym (length-map all (λ (s : Placed). width_step file all s.what))) (steps-inside (width_step file all) all place to (λ w. width-below file all w to) is)
