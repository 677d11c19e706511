-- What a symbol's number names in the program, where the symbol is declared as what its place takes.
use Rattle.std.proofs.Common.{◌≡◌, ℕ, ◌<◌, ◌≤◌, Bool, true, false, not, ◌&&◌, ◌||◌, List, length, count_by, slice_get, None, Some, is_some, refl, sym, ap, subst, ◌∙◌, arith}
use Rattle.std.proofs.lemmas.List.{take_all}
use Rattle.std.specs.Option.{option_map_or}
use Rattle.vvp_forms.specs.declared.form.Form.TheVariants as form
use Rattle.vvp_lex.specs.declared.types.Name.{Name}
use Rattle.sym_link.specs.declared.placed.Placed.{Placed}
use Rattle.sym_link.specs.declared.placed.What.{What}
use Rattle.sym_link.specs.declared.placed.What.TheVariants as what
use Rattle.sym_link.specs.declared.program.Item.{Item}
use Rattle.sym_link.specs.declared.program.ItemKind.{ItemKind}
use Rattle.sym_link.specs.declared.program.ItemKind.TheVariants as kind
use Rattle.sym_link.specs.declared.program.Program.{Program}
use Rattle.sym_link.specs.declared.sorts.Sort.{Sort}
use Rattle.sym_link.specs.declared.sorts.Sort.TheVariants as sort
use Rattle.sym_link.specs.declared.sorts.Takes.{Takes}
use Rattle.sym_link.specs.declared.sorts.Takes.TheVariants as takes
use Rattle.sym_link.specs.LinkRules.{is_code_place, opcodes_in}
use Rattle.sym_link.specs.Meaning.{code_of, code_scopes_of, items_of, op_said, precision_of, scope_said, scopes_of, threads_of}
use Rattle.sym_link.specs.Places.{counts_before, is_opcode_statement, is_scope_form, symbol_code, symbol_item, symbol_scope}
use Rattle.sym_link.specs.Sorts.{accepts, is_item, sort_of}
use Rattle.sym_link.specs.Sound.{NamesSuch, is_array_kind, is_event_kind, is_named_kind, is_one_event_kind, is_scope_kind, is_such, is_value_kind, is_variable_kind}
use Rattle.sym_link.proofs.SoundGather.{count-within, gather-length}
use Rattle.sym_link.proofs.SoundKinds.{Declares, declares, item-sort, kind_sort}
use Rattle.sym_link.proofs.SoundSymbols.{Declared, accepts-nothing}

-- the program that the statements mean
abbrev pub meant : List ℕ → List Placed → Program
meant file all = record {
  items = items_of file all;
  code = code_of file all;
  code_scopes = code_scopes_of file all;
  scopes = scopes_of file all;
  threads = threads_of file all;
  precision = precision_of all;
}

-- Sorts

accepts-parameter : (kind : Takes) → accepts kind sort.Parameter ≡ true → ⊥
accepts-parameter takes.Scope is = absurd (cc)
accepts-parameter takes.EarlierScope is = absurd (cc)
accepts-parameter takes.Signal is = absurd (cc)
accepts-parameter takes.NetOrFunctor is = absurd (cc)
accepts-parameter takes.Variable is = absurd (cc)
accepts-parameter takes.Array is = absurd (cc)
accepts-parameter takes.Event is = absurd (cc)
accepts-parameter takes.OneEvent is = absurd (cc)
accepts-parameter takes.NamedEvent is = absurd (cc)
accepts-parameter takes.Code is = absurd (cc)
accepts-parameter takes.SignalOrScope is = absurd (cc)

accepts-code : (kind : Takes) → is_code_place kind ≡ false → accepts kind sort.Code ≡ true → ⊥
accepts-code takes.Scope other is = absurd (cc)
accepts-code takes.EarlierScope other is = absurd (cc)
accepts-code takes.Signal other is = absurd (cc)
accepts-code takes.NetOrFunctor other is = absurd (cc)
accepts-code takes.Variable other is = absurd (cc)
accepts-code takes.Array other is = absurd (cc)
accepts-code takes.Event other is = absurd (cc)
accepts-code takes.OneEvent other is = absurd (cc)
accepts-code takes.NamedEvent other is = absurd (cc)
accepts-code takes.Code other is = absurd (cc)
accepts-code takes.SignalOrScope other is = absurd (cc)

item-accepted : (kind : Takes) (s : Sort) (labelled : Bool) → is_code_place kind ≡ false → accepts kind s ≡ true → is_item s labelled ≡ true
item-accepted kind sort.Variable labelled other is = refl
item-accepted kind sort.Net labelled other is = refl
item-accepted kind sort.Functor labelled other is = refl
item-accepted kind sort.Array labelled other is = refl
item-accepted kind sort.EdgeEvent labelled other is = refl
item-accepted kind sort.NamedEvent labelled other is = refl
item-accepted kind sort.EventOr labelled other is = refl
item-accepted kind sort.Scope labelled other is = refl
item-accepted kind sort.Parameter labelled other is = absurd (accepts-parameter kind is)
item-accepted kind sort.Code labelled other is = absurd (accepts-code kind other is)
item-accepted kind sort.Nothing labelled other is = absurd (accepts-nothing kind is)

pub only-scope : (s : Sort) → accepts takes.Scope s ≡ true → s ≡ sort.Scope
only-scope sort.Variable is = absurd (cc)
only-scope sort.Net is = absurd (cc)
only-scope sort.Functor is = absurd (cc)
only-scope sort.Array is = absurd (cc)
only-scope sort.EdgeEvent is = absurd (cc)
only-scope sort.NamedEvent is = absurd (cc)
only-scope sort.EventOr is = absurd (cc)
only-scope sort.Scope is = refl
only-scope sort.Parameter is = absurd (cc)
only-scope sort.Code is = absurd (cc)
only-scope sort.Nothing is = absurd (cc)

pub earlier-scope : (s : Sort) → accepts takes.EarlierScope s ≡ true → s ≡ sort.Scope
earlier-scope sort.Variable is = absurd (cc)
earlier-scope sort.Net is = absurd (cc)
earlier-scope sort.Functor is = absurd (cc)
earlier-scope sort.Array is = absurd (cc)
earlier-scope sort.EdgeEvent is = absurd (cc)
earlier-scope sort.NamedEvent is = absurd (cc)
earlier-scope sort.EventOr is = absurd (cc)
earlier-scope sort.Scope is = refl
earlier-scope sort.Parameter is = absurd (cc)
earlier-scope sort.Code is = absurd (cc)
earlier-scope sort.Nothing is = absurd (cc)

pub scope-form : (w : What) → sort_of w ≡ sort.Scope → is_scope_form w ≡ true
unfolding sort_of
scope-form (what.Op o) is = absurd (cc)
scope-form (what.Form form.Ignored) is = absurd (cc)
scope-form (what.Form form.Parameter) is = absurd (cc)
scope-form (what.Form (form.Precision power)) is = absurd (cc)
scope-form (what.Form (form.Scope kind name source_module number line within)) is = refl
scope-form (what.Form (form.CurrentScope scope)) is = absurd (cc)
scope-form (what.Form (form.TimeScale unit precision)) is = absurd (cc)
scope-form (what.Form (form.Variable kind starred name range)) is = absurd (cc)
scope-form (what.Form (form.Net signed starred name range source)) is = absurd (cc)
scope-form (what.Form (form.Array kind name first last range)) is = absurd (cc)
scope-form (what.Form (form.Functor kind width drives ports)) is = absurd (cc)
scope-form (what.Form (form.Resolver kind ports)) is = absurd (cc)
scope-form (what.Form (form.Part first base width)) is = absurd (cc)
scope-form (what.Form (form.PartInto first base width whole)) is = absurd (cc)
scope-form (what.Form (form.PartFrom signed first base width)) is = absurd (cc)
scope-form (what.Form (form.Concat widths ports)) is = absurd (cc)
scope-form (what.Form (form.Arithmetic kind width left right)) is = absurd (cc)
scope-form (what.Form (form.Compare kind width left right)) is = absurd (cc)
scope-form (what.Form (form.Shift kind width first amount)) is = absurd (cc)
scope-form (what.Form (form.Reduce kind first)) is = absurd (cc)
scope-form (what.Form (form.Repeat width count first)) is = absurd (cc)
scope-form (what.Form (form.Extend width first)) is = absurd (cc)
scope-form (what.Form (form.Delay width rise fall decay first)) is = absurd (cc)
scope-form (what.Form (form.EdgeEvent kind ports)) is = absurd (cc)
scope-form (what.Form (form.NamedEvent name)) is = absurd (cc)
scope-form (what.Form (form.EventOr events)) is = absurd (cc)
scope-form (what.Form (form.Thread code start)) is = absurd (cc)
scope-form (what.Form form.CodeLabel) is = absurd (cc)

-- Kinds of items

kind-Signal : (k : ItemKind) → accepts takes.Signal (kind_sort k) ≡ true → is_value_kind k ≡ true
kind-Signal (kind.Var integer) is = refl
kind-Signal (kind.Net root) is = refl
kind-Signal (kind.Functor gate drive ports) is = refl
kind-Signal (kind.Edge edge ports) is = absurd (cc)
kind-Signal kind.Named is = absurd (cc)
kind-Signal (kind.AnyOf events) is = absurd (cc)
kind-Signal (kind.Array words) is = absurd (cc)
kind-Signal (kind.Scope number) is = absurd (cc)
kind-Signal kind.Param is = absurd (cc)
kind-Signal (kind.Delay rise fall decay port) is = refl

kind-NetOrFunctor : (k : ItemKind) → accepts takes.NetOrFunctor (kind_sort k) ≡ true → is_value_kind k && not (is_variable_kind k) ≡ true
kind-NetOrFunctor (kind.Var integer) is = absurd (cc)
kind-NetOrFunctor (kind.Net root) is = refl
kind-NetOrFunctor (kind.Functor gate drive ports) is = refl
kind-NetOrFunctor (kind.Edge edge ports) is = absurd (cc)
kind-NetOrFunctor kind.Named is = absurd (cc)
kind-NetOrFunctor (kind.AnyOf events) is = absurd (cc)
kind-NetOrFunctor (kind.Array words) is = absurd (cc)
kind-NetOrFunctor (kind.Scope number) is = absurd (cc)
kind-NetOrFunctor kind.Param is = absurd (cc)
kind-NetOrFunctor (kind.Delay rise fall decay port) is = refl

kind-Variable : (k : ItemKind) → accepts takes.Variable (kind_sort k) ≡ true → is_variable_kind k ≡ true
kind-Variable (kind.Var integer) is = refl
kind-Variable (kind.Net root) is = absurd (cc)
kind-Variable (kind.Functor gate drive ports) is = absurd (cc)
kind-Variable (kind.Edge edge ports) is = absurd (cc)
kind-Variable kind.Named is = absurd (cc)
kind-Variable (kind.AnyOf events) is = absurd (cc)
kind-Variable (kind.Array words) is = absurd (cc)
kind-Variable (kind.Scope number) is = absurd (cc)
kind-Variable kind.Param is = absurd (cc)
kind-Variable (kind.Delay rise fall decay port) is = absurd (cc)

kind-Array : (k : ItemKind) → accepts takes.Array (kind_sort k) ≡ true → is_array_kind k ≡ true
kind-Array (kind.Var integer) is = absurd (cc)
kind-Array (kind.Net root) is = absurd (cc)
kind-Array (kind.Functor gate drive ports) is = absurd (cc)
kind-Array (kind.Edge edge ports) is = absurd (cc)
kind-Array kind.Named is = absurd (cc)
kind-Array (kind.AnyOf events) is = absurd (cc)
kind-Array (kind.Array words) is = refl
kind-Array (kind.Scope number) is = absurd (cc)
kind-Array kind.Param is = absurd (cc)
kind-Array (kind.Delay rise fall decay port) is = absurd (cc)

kind-Event : (k : ItemKind) → accepts takes.Event (kind_sort k) ≡ true → is_event_kind k ≡ true
kind-Event (kind.Var integer) is = absurd (cc)
kind-Event (kind.Net root) is = absurd (cc)
kind-Event (kind.Functor gate drive ports) is = absurd (cc)
kind-Event (kind.Edge edge ports) is = refl
kind-Event kind.Named is = refl
kind-Event (kind.AnyOf events) is = refl
kind-Event (kind.Array words) is = absurd (cc)
kind-Event (kind.Scope number) is = absurd (cc)
kind-Event kind.Param is = absurd (cc)
kind-Event (kind.Delay rise fall decay port) is = absurd (cc)

kind-OneEvent : (k : ItemKind) → accepts takes.OneEvent (kind_sort k) ≡ true → is_one_event_kind k ≡ true
kind-OneEvent (kind.Var integer) is = absurd (cc)
kind-OneEvent (kind.Net root) is = absurd (cc)
kind-OneEvent (kind.Functor gate drive ports) is = absurd (cc)
kind-OneEvent (kind.Edge edge ports) is = refl
kind-OneEvent kind.Named is = refl
kind-OneEvent (kind.AnyOf events) is = absurd (cc)
kind-OneEvent (kind.Array words) is = absurd (cc)
kind-OneEvent (kind.Scope number) is = absurd (cc)
kind-OneEvent kind.Param is = absurd (cc)
kind-OneEvent (kind.Delay rise fall decay port) is = absurd (cc)

kind-NamedEvent : (k : ItemKind) → accepts takes.NamedEvent (kind_sort k) ≡ true → is_named_kind k ≡ true
kind-NamedEvent (kind.Var integer) is = absurd (cc)
kind-NamedEvent (kind.Net root) is = absurd (cc)
kind-NamedEvent (kind.Functor gate drive ports) is = absurd (cc)
kind-NamedEvent (kind.Edge edge ports) is = absurd (cc)
kind-NamedEvent kind.Named is = refl
kind-NamedEvent (kind.AnyOf events) is = absurd (cc)
kind-NamedEvent (kind.Array words) is = absurd (cc)
kind-NamedEvent (kind.Scope number) is = absurd (cc)
kind-NamedEvent kind.Param is = absurd (cc)
kind-NamedEvent (kind.Delay rise fall decay port) is = absurd (cc)

kind-SignalOrScope : (k : ItemKind) → accepts takes.SignalOrScope (kind_sort k) ≡ true → is_value_kind k || is_scope_kind k ≡ true
kind-SignalOrScope (kind.Var integer) is = refl
kind-SignalOrScope (kind.Net root) is = refl
kind-SignalOrScope (kind.Functor gate drive ports) is = refl
kind-SignalOrScope (kind.Edge edge ports) is = absurd (cc)
kind-SignalOrScope kind.Named is = absurd (cc)
kind-SignalOrScope (kind.AnyOf events) is = absurd (cc)
kind-SignalOrScope (kind.Array words) is = absurd (cc)
kind-SignalOrScope (kind.Scope number) is = refl
kind-SignalOrScope kind.Param is = absurd (cc)
kind-SignalOrScope (kind.Delay rise fall decay port) is = refl

-- Numbers

-- the number that a symbol stands for at a place
abbrev pub bound_number : List ℕ → List Placed → Takes → Name → ℕ
bound_number file all takes.Scope symbol = symbol_scope file all symbol
bound_number file all takes.EarlierScope symbol = symbol_scope file all symbol
bound_number file all takes.Code symbol = symbol_code file all symbol
bound_number file all _ symbol = symbol_item file all symbol

-- the item that a symbol names
pub record ItemOf (file : List ℕ) (all : List Placed) (kind : Takes) (symbol : Name) (first : ℕ) (from : Placed) : Type 0 where
  pub declared : Declares file all first from
  pub at : slice_get (items_of file all) (symbol_item file all symbol) ≡ Some declared.item
  pub sorted : kind_sort declared.item.what ≡ sort_of from.what
  pub accepted : accepts kind (kind_sort declared.item.what) ≡ true

pub item-of : (file : List ℕ) (all : List Placed) (place : ℕ) (symbol : Name) (kind : Takes) → is_code_place kind ≡ false → (d : Declared file all place symbol kind) → ItemOf file all kind symbol d.first d.from
item-of file all place symbol kind other d =
    let one : Declares file all d.first d.from = declares file all d.first d.from d.there (item-accepted kind (sort_of d.from.what) (is_some d.from.label) other d.accepted) in
    let sorted : kind_sort one.item.what ≡ sort_of d.from.what = item-sort file all d.first _ (is_some d.from.label) d.from.what one.item one.said in
    record {
      declared = one;
      at = ap (λ o. slice_get (items_of file all) (option_map_or (λ p. (counts_before all p).items) o 0)) d.found ∙ one.there;
      sorted = sorted;
      accepted = ap (accepts kind) sorted ∙ d.accepted;
    }

pub such-at : (test : ItemKind → Bool) (items : List Item) (number : ℕ) (item : Item) → slice_get items number ≡ Some item → is_such test items number ≡ test item.what
such-at test items number item there = ap (λ o. option_map_or (λ (i : Item). test i.what) o false) there

such : (file : List ℕ) (all : List Placed) (place : ℕ) (symbol : Name) (kind : Takes) (test : ItemKind → Bool) → is_code_place kind ≡ false → ((k : ItemKind) → accepts kind (kind_sort k) ≡ true → test k ≡ true) → Declared file all place symbol kind → is_such test (items_of file all) (symbol_item file all symbol) ≡ true
such file all place symbol kind test other passes d =
    let found = item-of file all place symbol kind other d in
    such-at test (items_of file all) (symbol_item file all symbol) found.declared.item found.at ∙ passes found.declared.item.what found.accepted

-- Scopes

pub scope-tests : (file : List ℕ) (all : List Placed) (place : ℕ) (w : What) → is_some (scope_said file all place w) ≡ is_scope_form w
scope-tests file all place (what.Op o) = refl
scope-tests file all place (what.Form form.Ignored) = refl
scope-tests file all place (what.Form form.Parameter) = refl
scope-tests file all place (what.Form (form.Precision power)) = refl
scope-tests file all place (what.Form (form.Scope kind name source_module number line within)) = refl
scope-tests file all place (what.Form (form.CurrentScope scope)) = refl
scope-tests file all place (what.Form (form.TimeScale unit precision)) = refl
scope-tests file all place (what.Form (form.Variable kind starred name range)) = refl
scope-tests file all place (what.Form (form.Net signed starred name range source)) = refl
scope-tests file all place (what.Form (form.Array kind name first last range)) = refl
scope-tests file all place (what.Form (form.Functor kind width drives ports)) = refl
scope-tests file all place (what.Form (form.Resolver kind ports)) = refl
scope-tests file all place (what.Form (form.Part first base width)) = refl
scope-tests file all place (what.Form (form.PartInto first base width whole)) = refl
scope-tests file all place (what.Form (form.PartFrom signed first base width)) = refl
scope-tests file all place (what.Form (form.Concat widths ports)) = refl
scope-tests file all place (what.Form (form.Arithmetic kind width left right)) = refl
scope-tests file all place (what.Form (form.Compare kind width left right)) = refl
scope-tests file all place (what.Form (form.Shift kind width first amount)) = refl
scope-tests file all place (what.Form (form.Reduce kind first)) = refl
scope-tests file all place (what.Form (form.Repeat width count first)) = refl
scope-tests file all place (what.Form (form.Extend width first)) = refl
scope-tests file all place (what.Form (form.Delay width rise fall decay first)) = refl
scope-tests file all place (what.Form (form.EdgeEvent kind ports)) = refl
scope-tests file all place (what.Form (form.NamedEvent name)) = refl
scope-tests file all place (what.Form (form.EventOr events)) = refl
scope-tests file all place (what.Form (form.Thread code start)) = refl
scope-tests file all place (what.Form form.CodeLabel) = refl

pub scopes-length : (file : List ℕ) (all : List Placed) → length (scopes_of file all) ≡ count_by (λ (s : Placed). is_scope_form s.what) all
scopes-length file all = gather-length (λ p t. scope_said file all p t.what) (λ t. is_scope_form t.what) all (λ p t. scope-tests file all p t.what)

-- the number of a scope that a statement declares
pub scope-within : (file : List ℕ) (all : List Placed) (place : ℕ) (s : Placed) → slice_get all place ≡ Some s → is_scope_form s.what ≡ true → (counts_before all place).scopes < length (scopes_of file all)
scope-within file all place s there is =
    let less : (counts_before all place).scopes < count_by (λ (t : Placed). is_scope_form t.what) all = count-within (λ (t : Placed). is_scope_form t.what) all place s there is in
    let same : length (scopes_of file all) ≡ count_by (λ (t : Placed). is_scope_form t.what) all = scopes-length file all in
    omega (arith, less, same)

pub scope-symbol : (file : List ℕ) (all : List Placed) (place : ℕ) (symbol : Name) (kind : Takes) → ((s : Sort) → accepts kind s ≡ true → s ≡ sort.Scope) → Declared file all place symbol kind → symbol_scope file all symbol < length (scopes_of file all)
scope-symbol file all place symbol kind only d =
    subst (λ o. option_map_or (λ p. (counts_before all p).scopes) o 0 < length (scopes_of file all)) (sym d.found)
    (scope-within file all d.first d.from d.there (scope-form d.from.what (only (sort_of d.from.what) d.accepted)))

pub scope-named : (file : List ℕ) (all : List Placed) (place : ℕ) (symbol : Name) → Declared file all place symbol takes.Scope → symbol_scope file all symbol < length (scopes_of file all)
scope-named file all place symbol d = scope-symbol file all place symbol takes.Scope only-scope d

pub parent-named : (file : List ℕ) (all : List Placed) (place : ℕ) (symbol : Name) → Declared file all place symbol takes.EarlierScope → symbol_scope file all symbol < length (scopes_of file all)
parent-named file all place symbol d = scope-symbol file all place symbol takes.EarlierScope earlier-scope d

-- Code

pub op-tests : (file : List ℕ) (all : List Placed) (w : What) → is_some (op_said file all w) ≡ is_opcode_statement (record { line = 0; label = None; what = w })
op-tests file all (what.Form f) = refl
op-tests file all (what.Op o) = refl

pub code-length : (file : List ℕ) (all : List Placed) → length (code_of file all) ≡ count_by is_opcode_statement all
code-length file all = gather-length (λ p t. op_said file all t.what) is_opcode_statement all (λ p t. op-tests file all t.what)

pub code-named : (file : List ℕ) (all : List Placed) (place : ℕ) (symbol : Name) → Declared file all place symbol takes.Code → symbol_code file all symbol < length (code_of file all)
code-named file all place symbol d =
    let less : symbol_code file all symbol < opcodes_in all = d.coded refl in
    let end : length all ≤ length all = omega arith in
    let whole : opcodes_in all ≡ count_by is_opcode_statement all = ap (count_by is_opcode_statement) (take_all (length all) all end) in
    let same : length (code_of file all) ≡ count_by is_opcode_statement all = code-length file all in
    omega (arith, less, whole, same)

-- All places

pub named : (file : List ℕ) (all : List Placed) (place : ℕ) (symbol : Name) (kind : Takes) → Declared file all place symbol kind → NamesSuch kind (meant file all) (bound_number file all kind symbol)
named file all place symbol takes.Scope d = scope-named file all place symbol d
named file all place symbol takes.EarlierScope d = parent-named file all place symbol d
named file all place symbol takes.Code d = code-named file all place symbol d
named file all place symbol takes.Signal d = such file all place symbol takes.Signal is_value_kind refl kind-Signal d
named file all place symbol takes.NetOrFunctor d = such file all place symbol takes.NetOrFunctor (λ k. is_value_kind k && not (is_variable_kind k)) refl kind-NetOrFunctor d
named file all place symbol takes.Variable d = such file all place symbol takes.Variable is_variable_kind refl kind-Variable d
named file all place symbol takes.Array d = such file all place symbol takes.Array is_array_kind refl kind-Array d
named file all place symbol takes.Event d = such file all place symbol takes.Event is_event_kind refl kind-Event d
named file all place symbol takes.OneEvent d = such file all place symbol takes.OneEvent is_one_event_kind refl kind-OneEvent d
named file all place symbol takes.NamedEvent d = such file all place symbol takes.NamedEvent is_named_kind refl kind-NamedEvent d
named file all place symbol takes.SignalOrScope d = such file all place symbol takes.SignalOrScope (λ k. is_value_kind k || is_scope_kind k) refl kind-SignalOrScope d
