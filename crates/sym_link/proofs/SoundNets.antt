-- The roots and the widths of variables, nets, gates and net delays, in a file whose statements break no rule.
use Rattle.std.proofs.Common.{◌≡◌, ◌⊎◌, inl, inr, ℕ, zero, suc, Bool, true, false, List, [], ◌∷◌, length, slice_get, Option, None, Some, refl, sym, ap, subst, ◌∙◌, arith, if◌then◌else◌}
use Rattle.std.proofs.lemmas.Option.{get_or_from_slice_get, slice_get-map}
use Rattle.std.specs.List.{list_any}
use Rattle.std.specs.Option.{option_map, option_map_or}
use Rattle.four_state.specs.declared.items.ResKind.{ResKind}
use Rattle.vvp_forms.specs.declared.form.Form.TheVariants as form
use Rattle.vvp_forms.specs.declared.form.Port.{Port}
use Rattle.vvp_forms.specs.declared.form.Port.TheVariants as port
use Rattle.vvp_forms.specs.declared.form.Range.{Range}
use Rattle.vvp_forms.specs.Checks.{is_symbol}
use Rattle.vvp_lex.specs.declared.types.Name.{Name}
use Rattle.vvp_lex.specs.Place.{◌>>=◌}
use Rattle.sym_link.specs.declared.placed.Placed.{Placed}
use Rattle.sym_link.specs.declared.placed.What.{What}
use Rattle.sym_link.specs.declared.placed.What.TheVariants as what
use Rattle.sym_link.specs.declared.sorts.Sort.{Sort}
use Rattle.sym_link.specs.declared.sorts.Sort.TheVariants as sort
use Rattle.sym_link.specs.declared.sorts.Takes.TheVariants as takes
use Rattle.sym_link.specs.declared.walks.Step.{Step}
use Rattle.sym_link.specs.declared.walks.Step.TheVariants as step
use Rattle.sym_link.specs.declared.walks.Walk.{Walk}
use Rattle.sym_link.specs.declared.walks.Walk.TheVariants as ending
use Rattle.sym_link.specs.LinkRules.{is_endless, net_loop}
use Rattle.sym_link.specs.Places.{signal_place, sort_at}
use Rattle.sym_link.specs.Sorts.{accepts, is_signal, sort_of}
use Rattle.sym_link.specs.Uses.{form_use, ports_of}
use Rattle.sym_link.specs.Walks.{step_at}
use Rattle.sym_link.specs.Widths.{first_symbol, root_step, root_steps, root_walk, toward, width_step, width_steps, width_walk}
use Rattle.sym_link.proofs.SoundForms.{IsGiven}
use Rattle.sym_link.proofs.SoundRules.{Keeps}
use Rattle.sym_link.proofs.SoundScopes.{AllKeep}
use Rattle.sym_link.proofs.SoundSymbols.{Declared, FormDeclares, form-declares}
use Rattle.sym_link.proofs.SoundWalks.{walk-along, walk-ends, walk-stop, walk-stops}

-- what the grammar says of every statement
abbrev pub AllGiven : List Placed → Type 0
AllGiven all = (place : ℕ) (s : Placed) → slice_get all place ≡ Some s → IsGiven s.what

-- a variable, a net, a gate or a net delay stands at a place
pub record IsSignalAt (all : List Placed) (place : ℕ) : Type 0 where
  pub from : Placed
  pub there : slice_get all place ≡ Some from
  pub signal : is_signal (sort_of from.what) ≡ true

pub accepted-signal : (s : Sort) → accepts takes.Signal s ≡ true → is_signal s ≡ true
accepted-signal sort.Variable is = refl
accepted-signal sort.Net is = refl
accepted-signal sort.Functor is = refl
accepted-signal sort.Array is = absurd (cc)
accepted-signal sort.EdgeEvent is = absurd (cc)
accepted-signal sort.NamedEvent is = absurd (cc)
accepted-signal sort.EventOr is = absurd (cc)
accepted-signal sort.Scope is = absurd (cc)
accepted-signal sort.Parameter is = absurd (cc)
accepted-signal sort.Code is = absurd (cc)
accepted-signal sort.Nothing is = absurd (cc)

abbrev pub declared-signal : (file : List ℕ) (all : List Placed) (place : ℕ) (symbol : Name) → (d : Declared file all place symbol takes.Signal) → IsSignalAt all d.first
declared-signal file all place symbol d = record { from = d.from; there = d.there; signal = accepted-signal (sort_of d.from.what) d.accepted }

pub signal-found : (file : List ℕ) (all : List Placed) (place : ℕ) (symbol : Name) → (d : Declared file all place symbol takes.Signal) → signal_place file all symbol ≡ Some d.first
signal-found file all place symbol d =
    let sorted : sort_at all d.first ≡ sort_of d.from.what = ap (λ o. option_map_or (λ (s : Placed). sort_of s.what) o sort.Nothing) d.there in
    ap (λ o. o >>= λ p. if is_signal (sort_at all p) then Some p else None) d.found
    ∙ ap (λ b. if b then Some d.first else None) (ap is_signal sorted ∙ accepted-signal (sort_of d.from.what) d.accepted)

-- Steps

pub root-at : (file : List ℕ) (all : List Placed) (place : ℕ) (s : Placed) → slice_get all place ≡ Some s → step_at (root_steps file all) place ≡ root_step file all s.what
root-at file all place s there =
    get_or_from_slice_get (root_steps file all) place (root_step file all s.what) step.Stray
    (slice_get-map (λ (t : Placed). root_step file all t.what) all place ∙ ap (option_map (λ (t : Placed). root_step file all t.what)) there)

pub width-at : (file : List ℕ) (all : List Placed) (place : ℕ) (s : Placed) → slice_get all place ≡ Some s → step_at (width_steps file all) place ≡ width_step file all s.what
width-at file all place s there =
    get_or_from_slice_get (width_steps file all) place (width_step file all s.what) step.Stray
    (slice_get-map (λ (t : Placed). width_step file all t.what) all place ∙ ap (option_map (λ (t : Placed). width_step file all t.what)) there)

-- a walk stops at a place, or goes on to one where there is a value
abbrev Next : List Placed → Step → Bool → Type 0
Next all s endless = (s ≡ step.Stop) ⊎ ((to : ℕ) × (s ≡ step.On to) × IsSignalAt all to × (endless ≡ false))

net-use : (file : List ℕ) (all : List Placed) (place : ℕ) (signed starred : Bool) (name : List ℕ) (range : Range) (source : Name) → FormDeclares file all place (form.Net signed starred name range source) → Declared file all place source takes.Signal
unfolding form_use
net-use file all place signed starred name range source d = d.alone (record { symbol = source; takes = takes.Signal }) refl

root-next : (file : List ℕ) (all : List Placed) (place : ℕ) (s : Placed) (w : What) → Keeps file all place s → s.what ≡ w → is_signal (sort_of w) ≡ true → Next all (root_step file all w) (is_endless (root_walk file all place))
unfolding sort_of
root-next file all place s (what.Op o) keeps is signal = absurd (cc)
root-next file all place s (what.Form form.Ignored) keeps is signal = absurd (cc)
root-next file all place s (what.Form form.Parameter) keeps is signal = absurd (cc)
root-next file all place s (what.Form (form.Precision power)) keeps is signal = absurd (cc)
root-next file all place s (what.Form (form.Scope kind name source_module number line within)) keeps is signal = absurd (cc)
root-next file all place s (what.Form (form.CurrentScope scope)) keeps is signal = absurd (cc)
root-next file all place s (what.Form (form.TimeScale unit precision)) keeps is signal = absurd (cc)
root-next file all place s (what.Form (form.Variable kind starred name range)) keeps is signal = inl refl
root-next file all place s (what.Form (form.Net signed starred name range source)) keeps is signal =
    let d : Declared file all place source takes.Signal = net-use file all place signed starred name range source (form-declares file all place s (form.Net signed starred name range source) keeps is) in
    inr (d.first, ap toward (signal-found file all place source d), declared-signal file all place source d, sym (ap (net_loop file all place) is) ∙ keeps.ends)
root-next file all place s (what.Form (form.Array kind name first last range)) keeps is signal = absurd (cc)
root-next file all place s (what.Form (form.Functor kind width drives ports)) keeps is signal = inl refl
root-next file all place s (what.Form (form.Resolver kind ports)) keeps is signal = inl refl
root-next file all place s (what.Form (form.Part first base width)) keeps is signal = inl refl
root-next file all place s (what.Form (form.PartInto first base width whole)) keeps is signal = inl refl
root-next file all place s (what.Form (form.PartFrom signed first base width)) keeps is signal = inl refl
root-next file all place s (what.Form (form.Concat widths ports)) keeps is signal = inl refl
root-next file all place s (what.Form (form.Arithmetic kind width left right)) keeps is signal = inl refl
root-next file all place s (what.Form (form.Compare kind width left right)) keeps is signal = inl refl
root-next file all place s (what.Form (form.Shift kind width first amount)) keeps is signal = inl refl
root-next file all place s (what.Form (form.Reduce kind first)) keeps is signal = inl refl
root-next file all place s (what.Form (form.Repeat width count first)) keeps is signal = inl refl
root-next file all place s (what.Form (form.Extend width first)) keeps is signal = inl refl
root-next file all place s (what.Form (form.Delay width rise fall decay first)) keeps is signal = inl refl
root-next file all place s (what.Form (form.EdgeEvent kind ports)) keeps is signal = absurd (cc)
root-next file all place s (what.Form (form.NamedEvent name)) keeps is signal = absurd (cc)
root-next file all place s (what.Form (form.EventOr events)) keeps is signal = absurd (cc)
root-next file all place s (what.Form (form.Thread code start)) keeps is signal = absurd (cc)
root-next file all place s (what.Form form.CodeLabel) keeps is signal = absurd (cc)

-- the first symbol of ports among which there is one
symbol-at : (ports : List Port) → list_any is_symbol ports ≡ true → (k : ℕ) × (symbol : Name) × (slice_get ports k ≡ Some (port.Sym symbol)) × (first_symbol ports ≡ Some symbol)
symbol-at [] is = absurd (cc)
symbol-at (port.Unused ∷ ports) is = let more = symbol-at ports is in (suc more.0, more.1, more.2, more.3)
symbol-at (port.Sym symbol ∷ ports) is = (0, symbol, refl, refl)
symbol-at (port.Fixed bits ∷ ports) is = let more = symbol-at ports is in (suc more.0, more.1, more.2, more.3)

resolver-use : (file : List ℕ) (all : List Placed) (place : ℕ) (kind : ResKind) (ports : List Port) (k : ℕ) (symbol : Name) → slice_get ports k ≡ Some (port.Sym symbol) → FormDeclares file all place (form.Resolver kind ports) → Declared file all place symbol takes.Signal
unfolding ports_of
resolver-use file all place kind ports k symbol there d = d.ports k (port.Sym symbol) there (record { symbol = symbol; takes = takes.Signal }) refl

resolver-some : (kind : ResKind) (ports : List Port) → IsGiven (what.Form (form.Resolver kind ports)) → list_any is_symbol ports ≡ true
unfolding ports_of
resolver-some kind ports given = (given 1 (omega arith, omega arith)).fit

-- the walk to what says a width, from where a walk to a root stops
width-next : (file : List ℕ) (all : List Placed) (place : ℕ) (s : Placed) (w : What) → Keeps file all place s → IsGiven w → s.what ≡ w → is_signal (sort_of w) ≡ true → Next all (width_step file all w) (is_endless (width_walk file all place)) ⊎ ((to : ℕ) × (root_step file all w ≡ step.On to))
unfolding sort_of
width-next file all place s (what.Op o) keeps given is signal = absurd (cc)
width-next file all place s (what.Form form.Ignored) keeps given is signal = absurd (cc)
width-next file all place s (what.Form form.Parameter) keeps given is signal = absurd (cc)
width-next file all place s (what.Form (form.Precision power)) keeps given is signal = absurd (cc)
width-next file all place s (what.Form (form.Scope kind name source_module number line within)) keeps given is signal = absurd (cc)
width-next file all place s (what.Form (form.CurrentScope scope)) keeps given is signal = absurd (cc)
width-next file all place s (what.Form (form.TimeScale unit precision)) keeps given is signal = absurd (cc)
width-next file all place s (what.Form (form.Variable kind starred name range)) keeps given is signal = inl (inl refl)
width-next file all place s (what.Form (form.Net signed starred name range source)) keeps given is signal =
    let d : Declared file all place source takes.Signal = net-use file all place signed starred name range source (form-declares file all place s (form.Net signed starred name range source) keeps is) in
    inr (d.first, ap toward (signal-found file all place source d))
width-next file all place s (what.Form (form.Array kind name first last range)) keeps given is signal = absurd (cc)
width-next file all place s (what.Form (form.Functor kind width drives ports)) keeps given is signal = inl (inl refl)
width-next file all place s (what.Form (form.Resolver kind ports)) keeps given is signal =
    let first = symbol-at ports (resolver-some kind ports given) in
    let d : Declared file all place first.1 takes.Signal = resolver-use file all place kind ports first.0 first.1 first.2 (form-declares file all place s (form.Resolver kind ports) keeps is) in
    inl (inr (d.first, ap (λ (o : Option Name). toward (o >>= signal_place file all)) first.3 ∙ ap toward (signal-found file all place first.1 d), declared-signal file all place first.1 d, sym (ap (net_loop file all place) is) ∙ keeps.ends))
width-next file all place s (what.Form (form.Part first base width)) keeps given is signal = inl (inl refl)
width-next file all place s (what.Form (form.PartInto first base width whole)) keeps given is signal = inl (inl refl)
width-next file all place s (what.Form (form.PartFrom signed first base width)) keeps given is signal = inl (inl refl)
width-next file all place s (what.Form (form.Concat widths ports)) keeps given is signal = inl (inl refl)
width-next file all place s (what.Form (form.Arithmetic kind width left right)) keeps given is signal = inl (inl refl)
width-next file all place s (what.Form (form.Compare kind width left right)) keeps given is signal = inl (inl refl)
width-next file all place s (what.Form (form.Shift kind width first amount)) keeps given is signal = inl (inl refl)
width-next file all place s (what.Form (form.Reduce kind first)) keeps given is signal = inl (inl refl)
width-next file all place s (what.Form (form.Repeat width count first)) keeps given is signal = inl (inl refl)
width-next file all place s (what.Form (form.Extend width first)) keeps given is signal = inl (inl refl)
width-next file all place s (what.Form (form.Delay width rise fall decay first)) keeps given is signal = inl (inl refl)
width-next file all place s (what.Form (form.EdgeEvent kind ports)) keeps given is signal = absurd (cc)
width-next file all place s (what.Form (form.NamedEvent name)) keeps given is signal = absurd (cc)
width-next file all place s (what.Form (form.EventOr events)) keeps given is signal = absurd (cc)
width-next file all place s (what.Form (form.Thread code start)) keeps given is signal = absurd (cc)
width-next file all place s (what.Form form.CodeLabel) keeps given is signal = absurd (cc)

-- a step of a walk to a root is one of the walk to a width
same-step : (file : List ℕ) (all : List Placed) (w : What) (to : ℕ) → root_step file all w ≡ step.On to → width_step file all w ≡ step.On to
unfolding sort_of
same-step file all (what.Op o) to is = is
same-step file all (what.Form form.Ignored) to is = is
same-step file all (what.Form form.Parameter) to is = is
same-step file all (what.Form (form.Precision power)) to is = is
same-step file all (what.Form (form.Scope kind name source_module number line within)) to is = is
same-step file all (what.Form (form.CurrentScope scope)) to is = is
same-step file all (what.Form (form.TimeScale unit precision)) to is = is
same-step file all (what.Form (form.Variable kind starred name range)) to is = is
same-step file all (what.Form (form.Net signed starred name range source)) to is = is
same-step file all (what.Form (form.Array kind name first last range)) to is = is
same-step file all (what.Form (form.Functor kind width drives ports)) to is = is
same-step file all (what.Form (form.Resolver kind ports)) to is = absurd (cc)
same-step file all (what.Form (form.Part first base width)) to is = is
same-step file all (what.Form (form.PartInto first base width whole)) to is = is
same-step file all (what.Form (form.PartFrom signed first base width)) to is = is
same-step file all (what.Form (form.Concat widths ports)) to is = is
same-step file all (what.Form (form.Arithmetic kind width left right)) to is = is
same-step file all (what.Form (form.Compare kind width left right)) to is = is
same-step file all (what.Form (form.Shift kind width first amount)) to is = is
same-step file all (what.Form (form.Reduce kind first)) to is = is
same-step file all (what.Form (form.Repeat width count first)) to is = is
same-step file all (what.Form (form.Extend width first)) to is = is
same-step file all (what.Form (form.Delay width rise fall decay first)) to is = is
same-step file all (what.Form (form.EdgeEvent kind ports)) to is = is
same-step file all (what.Form (form.NamedEvent name)) to is = is
same-step file all (what.Form (form.EventOr events)) to is = is
same-step file all (what.Form (form.Thread code start)) to is = is
same-step file all (what.Form form.CodeLabel) to is = is

same-steps : (file : List ℕ) (all : List Placed) (place to : ℕ) → step_at (root_steps file all) place ≡ step.On to → step_at (width_steps file all) place ≡ step.On to
same-steps file all place to is = by (slice_get all place) refl
  where
    by : (o : Option Placed) → slice_get all place ≡ o → step_at (width_steps file all) place ≡ step.On to
    by None there =
        let past : slice_get (root_steps file all) place ≡ None = slice_get-map (λ (t : Placed). root_step file all t.what) all place ∙ ap (option_map (λ (t : Placed). root_step file all t.what)) there in
        absurd (stray (root_steps file all) place past is)
      where
        stray : (steps : List Step) (p : ℕ) → slice_get steps p ≡ None → step_at steps p ≡ step.On to → ⊥
        stray [] p none on = absurd (cc)
        stray (x ∷ steps) zero none on = absurd (cc)
        stray (x ∷ steps) (suc p) none on = stray steps p none on
    by (Some s) there = width-at file all place s there ∙ same-step file all s.what to (sym (root-at file all place s there) ∙ is)

-- Ends of walks

not-endless : (w : Walk) → is_endless w ≡ false → w ≡ ending.Endless → ⊥
not-endless w finite endless = absurd (cc (ap is_endless endless, finite))

one-on : (s : Step) (to at : ℕ) → s ≡ step.On to → s ≡ step.On at → to ≡ at
one-on s to at is also = cc

-- the root of a value
pub record HasRoot (file : List ℕ) (all : List Placed) (p : ℕ) : Type 0 where
  pub root : ℕ
  pub ends : root_walk file all p ≡ ending.Ends root
  pub there : IsSignalAt all root
  pub stops : root_step file all there.from.what ≡ step.Stop

-- what says the width of a value
pub record HasEnd (file : List ℕ) (all : List Placed) (p : ℕ) : Type 0 where
  pub end : ℕ
  pub ends : width_walk file all p ≡ ending.Ends end
  pub there : IsSignalAt all end
  pub stops : width_step file all there.from.what ≡ step.Stop

module _ (file : List ℕ) (all : List Placed) (keep : AllKeep file all) (given : AllGiven all) where
  root-of : (p : ℕ) → (here : IsSignalAt all p) → Next all (step_at (root_steps file all) p) (is_endless (root_walk file all p))
  root-of p here = subst (λ x. Next all x (is_endless (root_walk file all p))) (sym (root-at file all p here.from here.there)) (root-next file all p here.from here.from.what (keep p here.from here.there) refl here.signal)

  root-straight : (p : ℕ) → IsSignalAt all p → step_at (root_steps file all) p ≡ step.Stray → ⊥
  root-straight p here is = by (root-of p here)
    where
      by : Next all (step_at (root_steps file all) p) (is_endless (root_walk file all p)) → ⊥
      by (inl stop) = absurd (cc (stop, is))
      by (inr on) = absurd (cc (on.1, is))

  root-along : (p to : ℕ) → IsSignalAt all p → step_at (root_steps file all) p ≡ step.On to → IsSignalAt all to
  root-along p to here is = by (root-of p here)
    where
      by : Next all (step_at (root_steps file all) p) (is_endless (root_walk file all p)) → IsSignalAt all to
      by (inl stop) = absurd (cc (stop, is))
      by (inr on) = subst (IsSignalAt all) (one-on (step_at (root_steps file all) p) on.0 to on.1 is) on.2

  pub has-root : (p : ℕ) → IsSignalAt all p → HasRoot file all p
  unfolding root_walk
  has-root p here = by (root-of p here)
    where
      made : (root : ℕ) → root_walk file all p ≡ ending.Ends root → HasRoot file all p
      made root ends =
          let stopped = walk-stops (root_steps file all) (IsSignalAt all) root-straight root-along (length (root_steps file all)) p root here ends in
          record { root = root; ends = ends; there = stopped.0; stops = sym (root-at file all root stopped.0.from stopped.0.there) ∙ stopped.1 }

      by : Next all (step_at (root_steps file all) p) (is_endless (root_walk file all p)) → HasRoot file all p
      by (inl stop) = made p (walk-stop (root_steps file all) p stop)
      by (inr on) =
          let found = walk-ends (root_steps file all) (IsSignalAt all) root-straight root-along p here (not-endless (root_walk file all p) on.3) in
          made found.0 found.1

  width-of_root : (p : ℕ) → (here : IsSignalAt all p) → Next all (step_at (width_steps file all) p) (is_endless (width_walk file all p)) ⊎ ((to : ℕ) × (step_at (root_steps file all) p ≡ step.On to))
  width-of_root p here = by (width-next file all p here.from here.from.what (keep p here.from here.there) (given p here.from here.there) refl here.signal)
    where
      by : Next all (width_step file all here.from.what) (is_endless (width_walk file all p)) ⊎ ((to : ℕ) × (root_step file all here.from.what ≡ step.On to)) → Next all (step_at (width_steps file all) p) (is_endless (width_walk file all p)) ⊎ ((to : ℕ) × (step_at (root_steps file all) p ≡ step.On to))
      by (inl next) = inl (subst (λ x. Next all x (is_endless (width_walk file all p))) (sym (width-at file all p here.from here.there)) next)
      by (inr on) = inr (on.0, root-at file all p here.from here.there ∙ on.1)

  width-straight : (p : ℕ) → IsSignalAt all p → step_at (width_steps file all) p ≡ step.Stray → ⊥
  width-straight p here is = by (width-of_root p here)
    where
      by : Next all (step_at (width_steps file all) p) (is_endless (width_walk file all p)) ⊎ ((to : ℕ) × (step_at (root_steps file all) p ≡ step.On to)) → ⊥
      by (inl (inl stop)) = absurd (cc (stop, is))
      by (inl (inr on)) = absurd (cc (on.1, is))
      by (inr on) = let also : step_at (width_steps file all) p ≡ step.On on.0 = same-steps file all p on.0 on.1 in absurd (cc (also, is))

  width-along : (p to : ℕ) → IsSignalAt all p → step_at (width_steps file all) p ≡ step.On to → IsSignalAt all to
  width-along p to here is = by (width-of_root p here)
    where
      by : Next all (step_at (width_steps file all) p) (is_endless (width_walk file all p)) ⊎ ((to : ℕ) × (step_at (root_steps file all) p ≡ step.On to)) → IsSignalAt all to
      by (inl (inl stop)) = absurd (cc (stop, is))
      by (inl (inr on)) = subst (IsSignalAt all) (one-on (step_at (width_steps file all) p) on.0 to on.1 is) on.2
      by (inr on) = root-along p to here (subst (λ n. step_at (root_steps file all) p ≡ step.On n) (one-on (step_at (width_steps file all) p) on.0 to (same-steps file all p on.0 on.1) is) on.1)

  made-end : (p end : ℕ) → IsSignalAt all p → width_walk file all p ≡ ending.Ends end → HasEnd file all p
  unfolding width_walk
  made-end p end here ends =
      let stopped = walk-stops (width_steps file all) (IsSignalAt all) width-straight width-along (length (width_steps file all)) p end here ends in
      record { end = end; ends = ends; there = stopped.0; stops = sym (width-at file all end stopped.0.from stopped.0.there) ∙ stopped.1 }

  root-end : (p : ℕ) → (here : IsSignalAt all p) → root_step file all here.from.what ≡ step.Stop → HasEnd file all p
  unfolding width_walk
  root-end p here stops = by (width-of_root p here)
    where
      by : Next all (step_at (width_steps file all) p) (is_endless (width_walk file all p)) ⊎ ((to : ℕ) × (step_at (root_steps file all) p ≡ step.On to)) → HasEnd file all p
      by (inl (inl stop)) = made-end p p here (walk-stop (width_steps file all) p stop)
      by (inl (inr on)) =
          let found = walk-ends (width_steps file all) (IsSignalAt all) width-straight width-along p here (not-endless (width_walk file all p) on.3) in
          made-end p found.0 here found.1
      by (inr on) = let at : step_at (root_steps file all) p ≡ step.Stop = root-at file all p here.from here.there ∙ stops in absurd (cc (at, on.1))

  -- the walk to a width ends where it does from the root
  pub root-leads : (p : ℕ) (r : HasRoot file all p) (end : ℕ) → width_walk file all r.root ≡ ending.Ends end → width_walk file all p ≡ ending.Ends end
  unfolding width_walk root_walk
  root-leads p r end is = walk-along (root_steps file all) (width_steps file all) (length (root_steps file all)) p r.root end (same-steps file all) r.ends is

  pub has-end : (p : ℕ) → IsSignalAt all p → HasEnd file all p
  has-end p here =
      let r : HasRoot file all p = has-root p here in
      let e : HasEnd file all r.root = root-end r.root r.there r.stops in
      made-end p e.end here (root-leads p r e.end e.ends)
