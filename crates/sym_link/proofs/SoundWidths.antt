-- The widths of values, in a file whose statements break no rule: an item is as wide as what says its width.
use Rattle.std.proofs.Common.{◌≡◌, ℕ, Bool, true, false, not, List, slice_get, Option, None, Some, is_some, refl, sym, ap, ◌∙◌}
use Rattle.std.proofs.lemmas.Bool.{eqb-true, not-false}
use Rattle.std.proofs.lemmas.Option.{same_Some}
use Rattle.std.specs.Prelude.{nat_eq}
use Rattle.std.specs.Option.{option_map, option_map_or}
use Rattle.vvp_forms.specs.declared.form.Form.TheVariants as form
use Rattle.vvp_forms.specs.declared.form.Port.TheVariants as port
use Rattle.vvp_lex.specs.declared.types.Name.{Name}
use Rattle.vvp_lex.specs.Place.{◌>>=◌}
use Rattle.vvp_ops.specs.Ranges.{IsWidth}
use Rattle.sym_link.specs.declared.placed.Placed.{Placed}
use Rattle.sym_link.specs.declared.placed.What.{What}
use Rattle.sym_link.specs.declared.placed.What.TheVariants as what
use Rattle.sym_link.specs.declared.program.Item.{Item}
use Rattle.sym_link.specs.declared.sorts.Sort.{Sort}
use Rattle.sym_link.specs.declared.sorts.Sort.TheVariants as sort
use Rattle.sym_link.specs.declared.sorts.Takes.TheVariants as takes
use Rattle.sym_link.specs.declared.walks.Step.TheVariants as step
use Rattle.sym_link.specs.declared.walks.Walk.{Walk}
use Rattle.sym_link.specs.declared.walks.Walk.TheVariants as ending
use Rattle.sym_link.specs.LinkRules.{width_mismatch}
use Rattle.sym_link.specs.Meaning.{current_scope, gate_of, item_said, items_of, other_item, width_or_none}
use Rattle.sym_link.specs.Places.{signal_place, symbol_item}
use Rattle.sym_link.specs.Sorts.{is_item, is_signal, sort_of}
use Rattle.sym_link.specs.Sound.{width_of}
use Rattle.sym_link.specs.Widths.{declared_width, ended, first_symbol, port_width, root_step, root_walk, root_width, toward, what_width, width_at, width_step, width_steps, width_walk}
use Rattle.sym_link.proofs.SoundForms.{IsGiven}
use Rattle.sym_link.proofs.SoundKinds.{Declares, declares}
use Rattle.sym_link.proofs.SoundNamed.{ItemOf, item-of}
use Rattle.sym_link.proofs.SoundRules.{Keeps}
use Rattle.sym_link.proofs.SoundScopes.{AllKeep}
use Rattle.sym_link.proofs.SoundSymbols.{Declared}
use Rattle.sym_link.proofs.SoundWalks.{walk-stop}
use Rattle.sym_link.proofs.SoundNets.{width-at, AllGiven, HasEnd, HasRoot, IsSignalAt, declared-signal, has-end, has-root, root-leads, signal-found}

toward-goes : (o : Option ℕ) → toward o ≡ step.Stop → ⊥
toward-goes None is = absurd (cc)
toward-goes (Some place) is = absurd (cc)

-- what a walk to a width stops at has a width
end-width : (file : List ℕ) (all : List Placed) (w : What) → IsGiven w → is_signal (sort_of w) ≡ true → width_step file all w ≡ step.Stop → IsWidth (what_width w)
unfolding sort_of declared_width
end-width file all (what.Op o) given signal stops = absurd (cc)
end-width file all (what.Form form.Ignored) given signal stops = absurd (cc)
end-width file all (what.Form form.Parameter) given signal stops = absurd (cc)
end-width file all (what.Form (form.Precision power)) given signal stops = absurd (cc)
end-width file all (what.Form (form.Scope kind name source_module number line within)) given signal stops = absurd (cc)
end-width file all (what.Form (form.CurrentScope scope)) given signal stops = absurd (cc)
end-width file all (what.Form (form.TimeScale unit precision)) given signal stops = absurd (cc)
end-width file all (what.Form (form.Variable kind starred name range)) given signal stops = given
end-width file all (what.Form (form.Net signed starred name range source)) given signal stops = absurd (toward-goes (signal_place file all source) stops)
end-width file all (what.Form (form.Array kind name first last range)) given signal stops = absurd (cc)
end-width file all (what.Form (form.Functor kind width drives ports)) given signal stops = given.0.in_range
end-width file all (what.Form (form.Resolver kind ports)) given signal stops = absurd (toward-goes (first_symbol ports >>= signal_place file all) stops)
end-width file all (what.Form (form.Part first base width)) given signal stops = given.in_range
end-width file all (what.Form (form.PartInto first base width whole)) given signal stops = given.in_range
end-width file all (what.Form (form.PartFrom signed first base width)) given signal stops = given.in_range
end-width file all (what.Form (form.Concat widths ports)) given signal stops = given.in_range
end-width file all (what.Form (form.Arithmetic kind width left right)) given signal stops = given.in_range
end-width file all (what.Form (form.Compare kind width left right)) given signal stops = given.in_range
end-width file all (what.Form (form.Shift kind width first amount)) given signal stops = given.in_range
end-width file all (what.Form (form.Reduce kind first)) given signal stops = given.in_range
end-width file all (what.Form (form.Repeat width count first)) given signal stops = given.in_range
end-width file all (what.Form (form.Extend width first)) given signal stops = given.in_range
end-width file all (what.Form (form.Delay width rise fall decay first)) given signal stops = given
end-width file all (what.Form (form.EdgeEvent kind ports)) given signal stops = absurd (cc)
end-width file all (what.Form (form.NamedEvent name)) given signal stops = absurd (cc)
end-width file all (what.Form (form.EventOr events)) given signal stops = absurd (cc)
end-width file all (what.Form (form.Thread code start)) given signal stops = absurd (cc)
end-width file all (what.Form form.CodeLabel) given signal stops = absurd (cc)

-- the width of a value is known
pub record HasWidth (file : List ℕ) (all : List Placed) (p : ℕ) : Type 0 where
  pub width : ℕ
  pub known : root_width file all p ≡ Some width
  pub in_range : IsWidth width

width-known : (file : List ℕ) (all : List Placed) (p : ℕ) (e : HasEnd file all p) → root_width file all p ≡ Some (what_width e.there.from.what)
width-known file all p e =
    ap (λ (w : Walk). option_map (width_at all) (ended w)) e.ends
    ∙ ap Some (ap (λ o. option_map_or (λ (s : Placed). what_width s.what) o 0) e.there.there)

pub has-width : (file : List ℕ) (all : List Placed) → AllKeep file all → AllGiven all → (p : ℕ) → IsSignalAt all p → HasWidth file all p
has-width file all keep given p here =
    let e : HasEnd file all p = has-end file all keep given p here in
    record {
      width = what_width e.there.from.what;
      known = width-known file all p e;
      in_range = end-width file all e.there.from.what (given e.end e.there.from e.there.there) e.there.signal e.stops;
    }

-- The item has that width.

pub own-end : (file : List ℕ) (all : List Placed) (p : ℕ) (s : Placed) → slice_get all p ≡ Some s → width_step file all s.what ≡ step.Stop → root_width file all p ≡ Some (what_width s.what)
unfolding width_walk
own-end file all p s there stops =
    ap (λ (w : Walk). option_map (width_at all) (ended w)) (walk-stop (width_steps file all) p (width-at file all p s there ∙ stops))
    ∙ ap Some (ap (λ o. option_map_or (λ (t : Placed). what_width t.what) o 0) there)

same-width : (o : Option ℕ) (a b : ℕ) → o ≡ Some a → o ≡ Some b → a ≡ b
same-width o a b is also = cc

width-of : (made item : Item) (width : ℕ) → Some made ≡ Some item → made.width ≡ width → item.width ≡ width
width-of made item width said is = ap (λ (i : Item). i.width) (sym (same_Some made item said)) ∙ is

pub item-width : (file : List ℕ) (all : List Placed) (p scope : ℕ) (s : Placed) (w : What) (labelled : Bool) (item : Item) (width : ℕ) → Keeps file all p s → slice_get all p ≡ Some s → s.what ≡ w → is_signal (sort_of w) ≡ true → item_said file all p scope labelled w ≡ Some item → root_width file all p ≡ Some width → item.width ≡ width
unfolding item_said gate_of other_item sort_of declared_width
item-width file all p current s (what.Op o) labelled item n keeps there is signal said known = absurd (cc)
item-width file all p current s (what.Form form.Ignored) labelled item n keeps there is signal said known = absurd (cc)
item-width file all p current s (what.Form form.Parameter) labelled item n keeps there is signal said known = absurd (cc)
item-width file all p current s (what.Form (form.Precision power)) labelled item n keeps there is signal said known = absurd (cc)
item-width file all p current s (what.Form (form.Scope kind name source_module number line within)) labelled item n keeps there is signal said known = absurd (cc)
item-width file all p current s (what.Form (form.CurrentScope scope)) labelled item n keeps there is signal said known = absurd (cc)
item-width file all p current s (what.Form (form.TimeScale unit precision)) labelled item n keeps there is signal said known = absurd (cc)
item-width file all p current s (what.Form (form.Variable kind starred name range)) labelled item n keeps there is signal said known = width-of _ item n said (same-width (root_width file all p) _ n (own-end file all p s there (ap (width_step file all) is) ∙ ap Some (ap what_width is)) known)
item-width file all p current s (what.Form (form.Net signed starred name range source)) labelled item n keeps there is signal said known =
    width-of _ item n said
    (sym (eqb-true n _ (not-false (nat_eq n (what_width (what.Form (form.Net signed starred name range source))))
    (sym (ap (λ o. option_map_or (λ m. not (nat_eq m (what_width (what.Form (form.Net signed starred name range source))))) o false) known)
    ∙ sym (ap (width_mismatch file all p) is) ∙ keeps.widths))))
item-width file all p current s (what.Form (form.Array kind name first last range)) labelled item n keeps there is signal said known = absurd (cc)
item-width file all p current s (what.Form (form.Functor kind width drives ports)) labelled item n keeps there is signal said known = width-of _ item n said (ap width_or_none known)
item-width file all p current s (what.Form (form.Resolver kind ports)) labelled item n keeps there is signal said known = width-of _ item n said (ap width_or_none known)
item-width file all p current s (what.Form (form.Part first base width)) labelled item n keeps there is signal said known = width-of _ item n said (ap width_or_none known)
item-width file all p current s (what.Form (form.PartInto first base width whole)) labelled item n keeps there is signal said known = width-of _ item n said (ap width_or_none known)
item-width file all p current s (what.Form (form.PartFrom signed first base width)) labelled item n keeps there is signal said known = width-of _ item n said (ap width_or_none known)
item-width file all p current s (what.Form (form.Concat widths ports)) labelled item n keeps there is signal said known = width-of _ item n said (ap width_or_none known)
item-width file all p current s (what.Form (form.Arithmetic kind width left right)) labelled item n keeps there is signal said known = width-of _ item n said (ap width_or_none known)
item-width file all p current s (what.Form (form.Compare kind width left right)) labelled item n keeps there is signal said known = width-of _ item n said (ap width_or_none known)
item-width file all p current s (what.Form (form.Shift kind width first amount)) labelled item n keeps there is signal said known = width-of _ item n said (ap width_or_none known)
item-width file all p current s (what.Form (form.Reduce kind first)) labelled item n keeps there is signal said known = width-of _ item n said (ap width_or_none known)
item-width file all p current s (what.Form (form.Repeat width count first)) labelled item n keeps there is signal said known = width-of _ item n said (ap width_or_none known)
item-width file all p current s (what.Form (form.Extend width first)) labelled item n keeps there is signal said known = width-of _ item n said (ap width_or_none known)
item-width file all p current s (what.Form (form.Delay width rise fall decay first)) labelled item n keeps there is signal said known = width-of _ item n said (same-width (root_width file all p) _ n (own-end file all p s there (ap (width_step file all) is) ∙ ap Some (ap what_width is)) known)
item-width file all p current s (what.Form (form.EdgeEvent kind ports)) labelled item n keeps there is signal said known = absurd (cc)
item-width file all p current s (what.Form (form.NamedEvent name)) labelled item n keeps there is signal said known = absurd (cc)
item-width file all p current s (what.Form (form.EventOr events)) labelled item n keeps there is signal said known = absurd (cc)
item-width file all p current s (what.Form (form.Thread code start)) labelled item n keeps there is signal said known = absurd (cc)
item-width file all p current s (what.Form form.CodeLabel) labelled item n keeps there is signal said known = absurd (cc)

pub width-is : (file : List ℕ) (all : List Placed) → AllKeep file all → (p : ℕ) (here : IsSignalAt all p) (d : Declares file all p here.from) (width : ℕ) → root_width file all p ≡ Some width → d.item.width ≡ width
width-is file all keep p here d width known =
    item-width file all p (current_scope file all p) here.from here.from.what (is_some here.from.label) d.item width (keep p here.from here.there) here.there refl here.signal d.said known

-- what a symbol of a value says
pub record HasValue (file : List ℕ) (all : List Placed) (symbol : Name) : Type 0 where
  pub width : ℕ
  pub in_range : IsWidth width
  pub known : port_width file all (port.Sym symbol) ≡ Some width
  pub is : width_of (items_of file all) (symbol_item file all symbol) ≡ width

pub has-value : (file : List ℕ) (all : List Placed) → AllKeep file all → AllGiven all → (place : ℕ) (symbol : Name) → Declared file all place symbol takes.Signal → HasValue file all symbol
has-value file all keep given place symbol d =
    let here : IsSignalAt all d.first = declared-signal file all place symbol d in
    let w : HasWidth file all d.first = has-width file all keep given d.first here in
    let i : ItemOf file all takes.Signal symbol d.first d.from = item-of file all place symbol takes.Signal refl d in
    record {
      width = w.width;
      in_range = w.in_range;
      known = ap (λ o. o >>= root_width file all) (signal-found file all place symbol d) ∙ w.known;
      is = ap (λ o. option_map_or (λ (x : Item). x.width) o 0) i.at ∙ width-is file all keep d.first here i.declared w.width w.known;
    }

-- Roots

item-signal : (s : Sort) (labelled : Bool) → is_signal s ≡ true → is_item s labelled ≡ true
item-signal sort.Variable labelled is = refl
item-signal sort.Net labelled is = refl
item-signal sort.Functor labelled is = refl
item-signal sort.Array labelled is = absurd (cc)
item-signal sort.EdgeEvent labelled is = absurd (cc)
item-signal sort.NamedEvent labelled is = absurd (cc)
item-signal sort.EventOr labelled is = absurd (cc)
item-signal sort.Scope labelled is = absurd (cc)
item-signal sort.Parameter labelled is = absurd (cc)
item-signal sort.Code labelled is = absurd (cc)
item-signal sort.Nothing labelled is = absurd (cc)

-- the root of a value is an item that isn't a net, and as wide
pub record RootIs (file : List ℕ) (all : List Placed) (p : ℕ) (width : ℕ) : Type 0 where
  pub root : ℕ
  pub from : Placed
  pub ends : root_walk file all p ≡ ending.Ends root
  pub there : slice_get all root ≡ Some from
  pub signal : is_signal (sort_of from.what) ≡ true
  pub stops : root_step file all from.what ≡ step.Stop
  pub declared : Declares file all root from
  pub wide : declared.item.width ≡ width

pub root-is : (file : List ℕ) (all : List Placed) → AllKeep file all → AllGiven all → (p : ℕ) → IsSignalAt all p → (width : ℕ) → root_width file all p ≡ Some width → RootIs file all p width
root-is file all keep given p here width known =
    let r : HasRoot file all p = has-root file all keep given p here in
    let e : HasEnd file all r.root = has-end file all keep given r.root r.there in
    let d : Declares file all r.root r.there.from = declares file all r.root r.there.from r.there.there (item-signal (sort_of r.there.from.what) (is_some r.there.from.label) r.there.signal) in
    let same : root_width file all p ≡ root_width file all r.root = ap (λ (w : Walk). option_map (width_at all) (ended w)) (root-leads file all keep given p r e.end e.ends ∙ sym e.ends) in
    record {
      root = r.root;
      from = r.there.from;
      ends = r.ends;
      there = r.there.there;
      signal = r.there.signal;
      stops = r.stops;
      declared = d;
      wide = width-is file all keep r.root r.there d width (sym same ∙ known);
    }
