-- The items of the program, in a file whose statements break no rule.
use Rattle.std.proofs.Common.{◌≡◌, inl, inr, ℕ, ◌<◌, Bool, true, false, not, List, [], length, map, get_or, slice_get, Option, None, Some, is_some, refl, sym, ap, subst, ◌∙◌, arith, if◌then◌else◌}
use Rattle.std.proofs.lemmas.Bool.{eqb-true, not-false, or_parts}
use Rattle.std.proofs.lemmas.List.Elements.{All-map}
use Rattle.std.proofs.lemmas.Option.{same_Some, slice_get-get_or}
use Rattle.std.specs.Prelude.{All, IsTrue, nat_eq}
use Rattle.std.specs.List.{list_any}
use Rattle.std.specs.Option.{option_map_or}
use Rattle.vvp_forms.specs.declared.form.EdgeKind.{EdgeKind}
use Rattle.vvp_forms.specs.declared.form.Form.{Form}
use Rattle.vvp_forms.specs.declared.form.Form.TheVariants as form
use Rattle.vvp_forms.specs.declared.form.Gate.{Gate}
use Rattle.vvp_forms.specs.declared.form.Port.{Port}
use Rattle.vvp_forms.specs.declared.form.Port.TheVariants as port
use Rattle.vvp_forms.specs.declared.form.Range.{Range}
use Rattle.vvp_forms.specs.declared.form.ScopeKind.{ScopeKind}
use Rattle.vvp_forms.specs.declared.form.Within.{Within}
use Rattle.vvp_forms.specs.Checks.{places}
use Rattle.vvp_lex.specs.declared.types.Name.{Name}
use Rattle.vvp_ops.specs.Ranges.{IsWidth}
use Rattle.sym_link.specs.declared.placed.Placed.{Placed}
use Rattle.sym_link.specs.declared.placed.What.{What}
use Rattle.sym_link.specs.declared.placed.What.TheVariants as what
use Rattle.sym_link.specs.declared.program.Item.{Item}
use Rattle.sym_link.specs.declared.program.ItemKind.{ItemKind}
use Rattle.sym_link.specs.declared.program.ItemKind.TheVariants as kind
use Rattle.sym_link.specs.declared.sorts.Sort.{Sort}
use Rattle.sym_link.specs.declared.sorts.Sort.TheVariants as sort
use Rattle.sym_link.specs.declared.sorts.Takes.TheVariants as takes
use Rattle.sym_link.specs.declared.walks.Step.TheVariants as step
use Rattle.sym_link.specs.declared.widths.Wanted.TheVariants as wants
use Rattle.sym_link.specs.LinkRules.{any_misfits, misfits, width_mismatch}
use Rattle.sym_link.specs.Meaning.{current_scope, drive_of, gate_item, gate_of, item_said, items_of, other_item, parent_of, root_number, scope_said, scope_scale, scopes_of, sources_of, width_or_none, without_range}
use Rattle.sym_link.specs.Places.{counts_before, is_scope_form, signal_place, symbol_item}
use Rattle.sym_link.specs.Sorts.{is_signal, needs_scope, sort_of}
use Rattle.sym_link.specs.Sound.{AreSources, IsFunctor, IsItem, MayBeScope, is_one_event_kind, is_root_kind, is_such, is_used, is_value_kind, width_of}
use Rattle.sym_link.specs.Uses.{events_of, form_use, ports_of}
use Rattle.sym_link.specs.Widths.{root_step, root_walk, root_width, toward, what_width, width_step, width_wanted}
use Rattle.sym_link.proofs.SoundForms.{IsFormed, IsGiven}
use Rattle.sym_link.proofs.SoundGates.{GateAt, is-gate-item, port-uses, vector-at}
use Rattle.sym_link.proofs.SoundGather.{gather-all, gather-get}
use Rattle.sym_link.proofs.SoundKinds.{item-sort, kind_sort}
use Rattle.sym_link.proofs.SoundNamed.{meant, named, parent-named, scope-tests, such-at}
use Rattle.sym_link.proofs.SoundNets.{AllGiven, IsSignalAt}
use Rattle.sym_link.proofs.SoundPorts.{any-used, sources-are, sources-length}
use Rattle.sym_link.proofs.SoundScopes.{AllKeep, current-may, current-there}
use Rattle.sym_link.proofs.SoundSymbols.{Declared, FormDeclares, form-declares}
use Rattle.sym_link.proofs.SoundWidths.{HasValue, HasWidth, RootIs, has-value, has-width, item-width, own-end, root-is}

-- Roots

root_sort : Sort → Bool
root_sort sort.Variable = true
root_sort sort.Functor = true
root_sort _ = false

toward-goes : (o : Option ℕ) → toward o ≡ step.Stop → ⊥
toward-goes None is = absurd (cc)
toward-goes (Some place) is = absurd (cc)

stop-sort : (file : List ℕ) (all : List Placed) (w : What) → is_signal (sort_of w) ≡ true → root_step file all w ≡ step.Stop → root_sort (sort_of w) ≡ true
unfolding sort_of root_sort
stop-sort file all (what.Op o) signal stops = absurd (cc)
stop-sort file all (what.Form form.Ignored) signal stops = absurd (cc)
stop-sort file all (what.Form form.Parameter) signal stops = absurd (cc)
stop-sort file all (what.Form (form.Precision power)) signal stops = absurd (cc)
stop-sort file all (what.Form (form.Scope kind name source_module number line within)) signal stops = absurd (cc)
stop-sort file all (what.Form (form.CurrentScope scope)) signal stops = absurd (cc)
stop-sort file all (what.Form (form.TimeScale unit precision)) signal stops = absurd (cc)
stop-sort file all (what.Form (form.Variable kind starred name range)) signal stops = refl
stop-sort file all (what.Form (form.Net signed starred name range source)) signal stops = absurd (toward-goes (signal_place file all source) stops)
stop-sort file all (what.Form (form.Array kind name first last range)) signal stops = absurd (cc)
stop-sort file all (what.Form (form.Functor kind width drives ports)) signal stops = refl
stop-sort file all (what.Form (form.Resolver kind ports)) signal stops = refl
stop-sort file all (what.Form (form.Part first base width)) signal stops = refl
stop-sort file all (what.Form (form.PartInto first base width whole)) signal stops = refl
stop-sort file all (what.Form (form.PartFrom signed first base width)) signal stops = refl
stop-sort file all (what.Form (form.Concat widths ports)) signal stops = refl
stop-sort file all (what.Form (form.Arithmetic kind width left right)) signal stops = refl
stop-sort file all (what.Form (form.Compare kind width left right)) signal stops = refl
stop-sort file all (what.Form (form.Shift kind width first amount)) signal stops = refl
stop-sort file all (what.Form (form.Reduce kind first)) signal stops = refl
stop-sort file all (what.Form (form.Repeat width count first)) signal stops = refl
stop-sort file all (what.Form (form.Extend width first)) signal stops = refl
stop-sort file all (what.Form (form.Delay width rise fall decay first)) signal stops = refl
stop-sort file all (what.Form (form.EdgeEvent kind ports)) signal stops = absurd (cc)
stop-sort file all (what.Form (form.NamedEvent name)) signal stops = absurd (cc)
stop-sort file all (what.Form (form.EventOr events)) signal stops = absurd (cc)
stop-sort file all (what.Form (form.Thread code start)) signal stops = absurd (cc)
stop-sort file all (what.Form form.CodeLabel) signal stops = absurd (cc)

root-kind : (k : ItemKind) → root_sort (kind_sort k) ≡ true → is_root_kind k ≡ true
unfolding root_sort
root-kind (kind.Var integer) is = refl
root-kind (kind.Net root) is = absurd (cc)
root-kind (kind.Functor gate drive ports) is = refl
root-kind (kind.Edge edge ports) is = absurd (cc)
root-kind kind.Named is = absurd (cc)
root-kind (kind.AnyOf events) is = absurd (cc)
root-kind (kind.Array words) is = absurd (cc)
root-kind (kind.Scope number) is = absurd (cc)
root-kind kind.Param is = absurd (cc)
root-kind (kind.Delay rise fall decay port) is = refl

-- the number of the root of a net
root-such : (file : List ℕ) (all : List Placed) (p width : ℕ) (r : RootIs file all p width) → (is_such is_root_kind (items_of file all) (root_number all (root_walk file all p)) ≡ true) × (width_of (items_of file all) (root_number all (root_walk file all p)) ≡ width)
root-such file all p width r =
    let number : root_number all (root_walk file all p) ≡ (counts_before all r.root).items = ap (root_number all) r.ends in
    let sorted : kind_sort r.declared.item.what ≡ sort_of r.from.what = item-sort file all r.root (current_scope file all r.root) (is_some r.from.label) r.from.what r.declared.item r.declared.said in
    let root : is_root_kind r.declared.item.what ≡ true = root-kind r.declared.item.what (ap root_sort sorted ∙ stop-sort file all r.from.what r.signal r.stops) in (
      ap (is_such is_root_kind (items_of file all)) number ∙ such-at is_root_kind (items_of file all) (counts_before all r.root).items r.declared.item r.declared.there ∙ root,
      ap (width_of (items_of file all)) number ∙ ap (λ o. option_map_or (λ (x : Item). x.width) o 0) r.declared.there ∙ r.wide,
    )

-- Items

-- the statements of a file break no rule, and are as the grammar says
pub record Accepted (file : List ℕ) (all : List Placed) : Type 0 where
  pub keep : AllKeep file all
  pub given : AllGiven all

signal-at : (file : List ℕ) (all : List Placed) (p : ℕ) (s : Placed) (w : What) → slice_get all p ≡ Some s → s.what ≡ w → is_signal (sort_of w) ≡ true → IsSignalAt all p
signal-at file all p s w there is signal = record { from = s; there = there; signal = ap (λ v. is_signal (sort_of v)) is ∙ signal }

net-item : (file : List ℕ) (all : List Placed) (a : Accepted file all) (p : ℕ) (s : Placed) (signed starred : Bool) (name : List ℕ) (range : Range) (source : Name) (item : Item) → slice_get all p ≡ Some s → s.what ≡ what.Form (form.Net signed starred name range source) → item_said file all p (current_scope file all p) (is_some s.label) (what.Form (form.Net signed starred name range source)) ≡ Some item → IsItem (meant file all) item
unfolding item_said gate_of other_item sort_of
net-item file all a p s signed starred name range source item there is said =
    let w : HasWidth file all p = has-width file all a.keep a.given p (signal-at file all p s (what.Form (form.Net signed starred name range source)) there is refl) in
    let r : RootIs file all p w.width = root-is file all a.keep a.given p (signal-at file all p s (what.Form (form.Net signed starred name range source)) there is refl) w.width w.known in
    let root = root-such file all p w.width r in
    let wide : item.width ≡ w.width = item-width file all p (current_scope file all p) s (what.Form (form.Net signed starred name range source)) (is_some s.label) item w.width (a.keep p s there) there is refl said w.known in
    let scope : current_scope file all p < length (scopes_of file all) = current-there file all p s a.keep there (ap needs_scope is) in
    let formed : IsWidth (places range.msb range.lsb) = subst IsGiven is (a.given p s there) in
    let same = same_Some _ item said in
    subst (IsItem (meant file all)) same
    (record { scope = inr scope; is = record { range = record { spans = refl; in_range = formed }; stands = scope; leads = root.0; same = root.1 ∙ sym wide ∙ ap (λ (i : Item). i.width) (sym same) } })

gate-item : (file : List ℕ) (all : List Placed) (a : Accepted file all) (p : ℕ) (s : Placed) (f : Form) (g : Gate) (item : Item) → slice_get all p ≡ Some s → s.what ≡ what.Form f → is_signal (sort_of (what.Form f)) ≡ true → Some g ≡ gate_of f → Some (gate_item file all p (current_scope file all p) f g) ≡ Some item → IsItem (meant file all) item
gate-item file all a p s f g item there is signal gate said =
    let w : HasWidth file all p = has-width file all a.keep a.given p (signal-at file all p s (what.Form f) there is signal) in
    let own : width_step file all (what.Form f) ≡ step.Stop → what_width (what.Form f) ≡ w.width = λ stops. same_Some _ w.width (sym (own-end file all p s there (ap (width_step file all) is ∙ stops) ∙ ap (λ v. Some (what_width v)) is) ∙ w.known) in
    let functor = subst (λ o. GateAt file all f o w.width) (sym gate) (is-gate-item file all a.keep a.given p s f w.width there is (subst IsGiven is (a.given p s there)) w.known w.in_range own) in
    let made = subst (λ o. IsFunctor (items_of file all) (width_or_none o) g (drive_of f) (sources_of file all f o)) (sym w.known) functor in
    subst (IsItem (meant file all)) (same_Some _ item said) (record { scope = current-may file all p a.keep; is = made })

-- a delay's port is as wide as its value
delay-port : (file : List ℕ) (all : List Placed) (a : Accepted file all) (p : ℕ) (s : Placed) (width rise fall decay : ℕ) (first : Name) → slice_get all p ≡ Some s → s.what ≡ what.Form (form.Delay width rise fall decay first) → IsTrue (is_such is_value_kind (items_of file all) (symbol_item file all first)) × (width_of (items_of file all) (symbol_item file all first) ≡ width)
unfolding ports_of width_wanted
delay-port file all a p s width rise fall decay first there is =
    let d : FormDeclares file all p (form.Delay width rise fall decay first) = form-declares file all p s (form.Delay width rise fall decay first) (a.keep p s there) is in
    let used : Declared file all p first takes.Signal = d.ports 0 (port.Sym first) refl (record { symbol = first; takes = takes.Signal }) refl in
    let v : HasValue file all first = has-value file all a.keep a.given p first used in
    let fail : any_misfits file all (width_wanted (form.Delay width rise fall decay first) (root_width file all p)) 0 (ports_of (form.Delay width rise fall decay first)) ≡ false = sym (ap (width_mismatch file all p) is) ∙ (a.keep p s there).widths in
    let here : misfits file all (wants.Exactly width) (port.Sym first) ≡ false = (or_parts (misfits file all (wants.Exactly width) (port.Sym first)) _ fail).0 in
    let holds : nat_eq v.width width ≡ true = not-false (nat_eq v.width width) (sym (ap (λ o. option_map_or (λ n. not (nat_eq n width)) o false) v.known) ∙ here) in
    (named file all p first takes.Signal used, v.is ∙ eqb-true v.width width holds)

edge-sources : (file : List ℕ) (all : List Placed) (a : Accepted file all) (p : ℕ) (s : Placed) (edge : EdgeKind) (ports : List Port) → slice_get all p ≡ Some s → s.what ≡ what.Form (form.EdgeEvent edge ports) → IsFormed (form.EdgeEvent edge ports) → (length (sources_of file all (form.EdgeEvent edge ports) None) ≡ 4) × IsTrue (list_any is_used (sources_of file all (form.EdgeEvent edge ports) None)) × AreSources (items_of file all) (λ k. wants.Any) 0 (sources_of file all (form.EdgeEvent edge ports) None)
unfolding sources_of ports_of width_wanted
edge-sources file all a p s edge ports there is formed =
    let d : FormDeclares file all p (form.EdgeEvent edge ports) = form-declares file all p s (form.EdgeEvent edge ports) (a.keep p s there) is in
    let fail : any_misfits file all (λ k. wants.Any) 0 ports ≡ false = sym (ap (width_mismatch file all p) is) ∙ (a.keep p s there).widths in (
      sources-length file all (λ k. wants.Any) 0 ports ∙ formed.four,
      any-used file all (λ k. wants.Any) 0 ports ∙ formed.some,
      sources-are file all a.keep a.given p (λ k. wants.Any) (λ k. wants.Any) 0 ports (vector-at ports formed.vectors) (port-uses file all a.keep a.given p (form.EdgeEvent edge ports) d) (λ k q at used. tt) (λ k. refl) fail,
    )

event-such : (file : List ℕ) (all : List Placed) (a : Accepted file all) (p : ℕ) (s : Placed) (events : List Name) → slice_get all p ≡ Some s → s.what ≡ what.Form (form.EventOr events) → All (λ event. IsTrue (is_such is_one_event_kind (items_of file all) event)) (map (symbol_item file all) events)
unfolding events_of
event-such file all a p s events there is =
    All-map (λ event. IsTrue (is_such is_one_event_kind (items_of file all) event)) (symbol_item file all) events each
  where
    d : FormDeclares file all p (form.EventOr events)
    d = form-declares file all p s (form.EventOr events) (a.keep p s there) is

    each : All (λ name. IsTrue (is_such is_one_event_kind (items_of file all) (symbol_item file all name))) events
    each k name lt = named file all p (get_or events k name) takes.OneEvent (d.events k (get_or events k name) (slice_get-get_or events k name lt))

parent-may : (file : List ℕ) (all : List Placed) (a : Accepted file all) (p : ℕ) (s : Placed) (is : ScopeKind) (name source_module : List ℕ) (number line : ℕ) (within : Option Within) → slice_get all p ≡ Some s → s.what ≡ what.Form (form.Scope is name source_module number line within) → MayBeScope (scopes_of file all) (parent_of file all within)
unfolding form_use
parent-may file all a p s kind name source_module number line None there is = inl refl
parent-may file all a p s kind name source_module number line (Some within) there is =
    let d : FormDeclares file all p (form.Scope kind name source_module number line (Some within)) = form-declares file all p s (form.Scope kind name source_module number line (Some within)) (a.keep p s there) is in
    inr (parent-named file all p within.scope (d.alone (record { symbol = within.scope; takes = takes.EarlierScope }) refl))

pub is-item : (file : List ℕ) (all : List Placed) (a : Accepted file all) (p : ℕ) (s : Placed) (w : What) (item : Item) → slice_get all p ≡ Some s → s.what ≡ w → item_said file all p (current_scope file all p) (is_some s.label) w ≡ Some item → IsItem (meant file all) item
unfolding item_said gate_of other_item sort_of
is-item file all a p s (what.Op o) item there is said = absurd (cc)
is-item file all a p s (what.Form form.Parameter) item there is said = parameter (is_some s.label) said
  where
    parameter : (labelled : Bool) → (if labelled then Some (without_range [] (current_scope file all p) 0 kind.Param) else None) ≡ Some item → IsItem (meant file all) item
    parameter true given = subst (IsItem (meant file all)) (same_Some _ item given) (record { scope = current-may file all p a.keep; is = record { no_value = refl; unnamed = refl } })
    parameter false given = absurd (cc)
is-item file all a p s (what.Form form.Ignored) item there is said = absurd (cc)
is-item file all a p s (what.Form (form.Precision power)) item there is said = absurd (cc)
is-item file all a p s (what.Form (form.Scope kind name source_module number line within)) item there is said =
    subst (IsItem (meant file all)) (same_Some _ item said)
    (record {
      scope = parent-may file all a p s kind name source_module number line within there is;
      is = record {
        no_value = refl;
        row = record { name = name; kind = kind; parent = parent_of file all within; scale = scope_scale file all (counts_before all p).scopes };
        there = gather-get (λ q t. scope_said file all q t.what) (λ t. is_scope_form t.what) all p s (λ q t. scope-tests file all q t.what) there (ap is_scope_form is) ∙ ap (scope_said file all p) is;
        same_name = refl;
        parent = refl;
      };
    })
is-item file all a p s (what.Form (form.CurrentScope scope)) item there is said = absurd (cc)
is-item file all a p s (what.Form (form.TimeScale unit precision)) item there is said = absurd (cc)
is-item file all a p s (what.Form (form.Variable kind starred name range)) item there is said =
    let scope : current_scope file all p < length (scopes_of file all) = current-there file all p s a.keep there (ap needs_scope is) in
    let formed : IsWidth (places range.msb range.lsb) = subst IsGiven is (a.given p s there) in
    subst (IsItem (meant file all)) (same_Some _ item said) (record { scope = inr scope; is = record { range = record { spans = refl; in_range = formed }; stands = scope } })
is-item file all a p s (what.Form (form.Net signed starred name range source)) item there is said = net-item file all a p s signed starred name range source item there is said
is-item file all a p s (what.Form (form.Array kind name first last range)) item there is said =
    let scope : current_scope file all p < length (scopes_of file all) = current-there file all p s a.keep there (ap needs_scope is) in
    let formed : IsWidth (places range.msb range.lsb) = subst IsGiven is (a.given p s there) in
    subst (IsItem (meant file all)) (same_Some _ item said) (record { scope = inr scope; is = record { range = record { spans = refl; in_range = formed }; stands = scope; some = omega arith } })
is-item file all a p s (what.Form (form.Functor kind width drives ports)) item there is said = gate-item file all a p s (form.Functor kind width drives ports) _ item there is refl refl said
is-item file all a p s (what.Form (form.Resolver kind ports)) item there is said = gate-item file all a p s (form.Resolver kind ports) _ item there is refl refl said
is-item file all a p s (what.Form (form.Part first base width)) item there is said = gate-item file all a p s (form.Part first base width) _ item there is refl refl said
is-item file all a p s (what.Form (form.PartInto first base width whole)) item there is said = gate-item file all a p s (form.PartInto first base width whole) _ item there is refl refl said
is-item file all a p s (what.Form (form.PartFrom signed first base width)) item there is said = gate-item file all a p s (form.PartFrom signed first base width) _ item there is refl refl said
is-item file all a p s (what.Form (form.Concat widths ports)) item there is said = gate-item file all a p s (form.Concat widths ports) _ item there is refl refl said
is-item file all a p s (what.Form (form.Arithmetic kind width left right)) item there is said = gate-item file all a p s (form.Arithmetic kind width left right) _ item there is refl refl said
is-item file all a p s (what.Form (form.Compare kind width left right)) item there is said = gate-item file all a p s (form.Compare kind width left right) _ item there is refl refl said
is-item file all a p s (what.Form (form.Shift kind width first amount)) item there is said = gate-item file all a p s (form.Shift kind width first amount) _ item there is refl refl said
is-item file all a p s (what.Form (form.Reduce kind first)) item there is said = gate-item file all a p s (form.Reduce kind first) _ item there is refl refl said
is-item file all a p s (what.Form (form.Repeat width count first)) item there is said = gate-item file all a p s (form.Repeat width count first) _ item there is refl refl said
is-item file all a p s (what.Form (form.Extend width first)) item there is said = gate-item file all a p s (form.Extend width first) _ item there is refl refl said
is-item file all a p s (what.Form (form.Delay width rise fall decay first)) item there is said =
    let formed : IsWidth width = subst IsGiven is (a.given p s there) in
    let follows = delay-port file all a p s width rise fall decay first there is in
    subst (IsItem (meant file all)) (same_Some _ item said) (record { scope = current-may file all p a.keep; is = record { in_range = formed; follows = follows.0; same = follows.1 } })
is-item file all a p s (what.Form (form.EdgeEvent kind ports)) item there is said =
    let sources = edge-sources file all a p s kind ports there is (subst IsGiven is (a.given p s there)) in
    subst (IsItem (meant file all)) (same_Some _ item said) (record { scope = current-may file all p a.keep; is = record { no_value = refl; four = sources.0; there = sources.1; each_port = sources.2 } })
is-item file all a p s (what.Form (form.NamedEvent name)) item there is said = subst (IsItem (meant file all)) (same_Some _ item said) (record { scope = current-may file all p a.keep; is = refl })
is-item file all a p s (what.Form (form.EventOr events)) item there is said = subst (IsItem (meant file all)) (same_Some _ item said) (record { scope = current-may file all p a.keep; is = record { no_value = refl; each_event = event-such file all a p s events there is } })
is-item file all a p s (what.Form (form.Thread code start)) item there is said = absurd (cc)
is-item file all a p s (what.Form form.CodeLabel) item there is said = absurd (cc)

pub each-item : (file : List ℕ) (all : List Placed) → Accepted file all → All (IsItem (meant file all)) (items_of file all)
each-item file all a =
    gather-all (IsItem (meant file all)) (λ p s. item_said file all p (current_scope file all p) (is_some s.label) s.what) all
    (λ p s there item said. is-item file all a p s s.what item there refl said)
