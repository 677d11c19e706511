-- The items that statements declare, and the sorts of their kinds.
use Rattle.std.proofs.Common.{◌≡◌, ℕ, Bool, true, false, List, slice_get, Option, None, Some, is_some, refl, sym, ap, ◌∙◌}
use Rattle.std.proofs.lemmas.Option.{same_Some}
use Rattle.vvp_forms.specs.declared.form.Form.TheVariants as form
use Rattle.sym_link.specs.declared.placed.Placed.{Placed}
use Rattle.sym_link.specs.declared.placed.What.{What}
use Rattle.sym_link.specs.declared.placed.What.TheVariants as what
use Rattle.sym_link.specs.declared.program.Item.{Item}
use Rattle.sym_link.specs.declared.program.ItemKind.{ItemKind}
use Rattle.sym_link.specs.declared.program.ItemKind.TheVariants as kind
use Rattle.sym_link.specs.declared.sorts.Sort.{Sort}
use Rattle.sym_link.specs.declared.sorts.Sort.TheVariants as sort
use Rattle.sym_link.specs.Meaning.{current_scope, gate_of, item_said, items_of, other_item}
use Rattle.sym_link.specs.Places.{counts_before, is_item_statement}
use Rattle.sym_link.specs.Sorts.{is_item, sort_of}
use Rattle.sym_link.proofs.SoundGather.{gather-get}

-- the sort of what declares an item of a kind
abbrev pub kind_sort : ItemKind → Sort
kind_sort (kind.Var integer) = sort.Variable
kind_sort (kind.Net root) = sort.Net
kind_sort (kind.Functor is drive ports) = sort.Functor
kind_sort (kind.Edge edge ports) = sort.EdgeEvent
kind_sort kind.Named = sort.NamedEvent
kind_sort (kind.AnyOf events) = sort.EventOr
kind_sort (kind.Array words) = sort.Array
kind_sort (kind.Scope number) = sort.Scope
kind_sort kind.Param = sort.Parameter
kind_sort (kind.Delay rise fall decay port) = sort.Functor

-- a statement declares an item where it is an item statement
pub item-tests : (file : List ℕ) (all : List Placed) (place scope : ℕ) (labelled : Bool) (w : What) → is_some (item_said file all place scope labelled w) ≡ is_item (sort_of w) labelled
unfolding item_said gate_of other_item sort_of
item-tests file all place scope labelled (what.Op o) = refl
item-tests file all place scope true (what.Form form.Parameter) = refl
item-tests file all place scope false (what.Form form.Parameter) = refl
item-tests file all place scope labelled (what.Form form.Ignored) = refl
item-tests file all place scope labelled (what.Form (form.Precision power)) = refl
item-tests file all place scope labelled (what.Form (form.Scope kind name source_module number line within)) = refl
item-tests file all place scope labelled (what.Form (form.CurrentScope symbol)) = refl
item-tests file all place scope labelled (what.Form (form.TimeScale unit precision)) = refl
item-tests file all place scope labelled (what.Form (form.Variable kind starred name range)) = refl
item-tests file all place scope labelled (what.Form (form.Net signed starred name range source)) = refl
item-tests file all place scope labelled (what.Form (form.Array kind name first last range)) = refl
item-tests file all place scope labelled (what.Form (form.Functor kind width drives ports)) = refl
item-tests file all place scope labelled (what.Form (form.Resolver kind ports)) = refl
item-tests file all place scope labelled (what.Form (form.Part first base width)) = refl
item-tests file all place scope labelled (what.Form (form.PartInto first base width whole)) = refl
item-tests file all place scope labelled (what.Form (form.PartFrom signed first base width)) = refl
item-tests file all place scope labelled (what.Form (form.Concat widths ports)) = refl
item-tests file all place scope labelled (what.Form (form.Arithmetic kind width left right)) = refl
item-tests file all place scope labelled (what.Form (form.Compare kind width left right)) = refl
item-tests file all place scope labelled (what.Form (form.Shift kind width first amount)) = refl
item-tests file all place scope labelled (what.Form (form.Reduce kind first)) = refl
item-tests file all place scope labelled (what.Form (form.Repeat width count first)) = refl
item-tests file all place scope labelled (what.Form (form.Extend width first)) = refl
item-tests file all place scope labelled (what.Form (form.Delay width rise fall decay first)) = refl
item-tests file all place scope labelled (what.Form (form.EdgeEvent kind ports)) = refl
item-tests file all place scope labelled (what.Form (form.NamedEvent name)) = refl
item-tests file all place scope labelled (what.Form (form.EventOr events)) = refl
item-tests file all place scope labelled (what.Form (form.Thread code start)) = refl
item-tests file all place scope labelled (what.Form form.CodeLabel) = refl

same-sort : (x item : Item) (s : Sort) → kind_sort x.what ≡ s → Some x ≡ Some item → kind_sort item.what ≡ s
same-sort x item s sorted is = ap (λ (i : Item). kind_sort i.what) (sym (same_Some x item is)) ∙ sorted

-- the item is of the sort of the statement
pub item-sort : (file : List ℕ) (all : List Placed) (place scope : ℕ) (labelled : Bool) (w : What) (item : Item) → item_said file all place scope labelled w ≡ Some item → kind_sort item.what ≡ sort_of w
unfolding item_said gate_of other_item sort_of
item-sort file all place scope labelled (what.Op o) item is = absurd (cc)
item-sort file all place scope true (what.Form form.Parameter) item is = same-sort _ item _ refl is
item-sort file all place scope false (what.Form form.Parameter) item is = absurd (cc)
item-sort file all place scope labelled (what.Form form.Ignored) item is = absurd (cc)
item-sort file all place scope labelled (what.Form (form.Precision power)) item is = absurd (cc)
item-sort file all place scope labelled (what.Form (form.Scope kind name source_module number line within)) item is = same-sort _ item _ refl is
item-sort file all place scope labelled (what.Form (form.CurrentScope symbol)) item is = absurd (cc)
item-sort file all place scope labelled (what.Form (form.TimeScale unit precision)) item is = absurd (cc)
item-sort file all place scope labelled (what.Form (form.Variable kind starred name range)) item is = same-sort _ item _ refl is
item-sort file all place scope labelled (what.Form (form.Net signed starred name range source)) item is = same-sort _ item _ refl is
item-sort file all place scope labelled (what.Form (form.Array kind name first last range)) item is = same-sort _ item _ refl is
item-sort file all place scope labelled (what.Form (form.Functor kind width drives ports)) item is = same-sort _ item _ refl is
item-sort file all place scope labelled (what.Form (form.Resolver kind ports)) item is = same-sort _ item _ refl is
item-sort file all place scope labelled (what.Form (form.Part first base width)) item is = same-sort _ item _ refl is
item-sort file all place scope labelled (what.Form (form.PartInto first base width whole)) item is = same-sort _ item _ refl is
item-sort file all place scope labelled (what.Form (form.PartFrom signed first base width)) item is = same-sort _ item _ refl is
item-sort file all place scope labelled (what.Form (form.Concat widths ports)) item is = same-sort _ item _ refl is
item-sort file all place scope labelled (what.Form (form.Arithmetic kind width left right)) item is = same-sort _ item _ refl is
item-sort file all place scope labelled (what.Form (form.Compare kind width left right)) item is = same-sort _ item _ refl is
item-sort file all place scope labelled (what.Form (form.Shift kind width first amount)) item is = same-sort _ item _ refl is
item-sort file all place scope labelled (what.Form (form.Reduce kind first)) item is = same-sort _ item _ refl is
item-sort file all place scope labelled (what.Form (form.Repeat width count first)) item is = same-sort _ item _ refl is
item-sort file all place scope labelled (what.Form (form.Extend width first)) item is = same-sort _ item _ refl is
item-sort file all place scope labelled (what.Form (form.Delay width rise fall decay first)) item is = same-sort _ item _ refl is
item-sort file all place scope labelled (what.Form (form.EdgeEvent kind ports)) item is = same-sort _ item _ refl is
item-sort file all place scope labelled (what.Form (form.NamedEvent name)) item is = same-sort _ item _ refl is
item-sort file all place scope labelled (what.Form (form.EventOr events)) item is = same-sort _ item _ refl is
item-sort file all place scope labelled (what.Form (form.Thread code start)) item is = absurd (cc)
item-sort file all place scope labelled (what.Form form.CodeLabel) item is = absurd (cc)

-- an item, where the statement at a place declares one
pub record Declares (file : List ℕ) (all : List Placed) (place : ℕ) (s : Placed) : Type 0 where
  pub item : Item
  pub said : item_said file all place (current_scope file all place) (is_some s.label) s.what ≡ Some item
  pub there : slice_get (items_of file all) (counts_before all place).items ≡ Some item

some-of : {X : Type 0} (o : Option X) → is_some o ≡ true → (x : X) × (o ≡ Some x)
some-of None is = absurd (cc)
some-of (Some x) is = (x, refl)

pub declares : (file : List ℕ) (all : List Placed) (place : ℕ) (s : Placed) → slice_get all place ≡ Some s → is_item_statement s ≡ true → Declares file all place s
declares file all place s there is =
    let found = some-of (item_said file all place (current_scope file all place) (is_some s.label) s.what) (item-tests file all place (current_scope file all place) (is_some s.label) s.what ∙ is) in
    record {
      item = found.0;
      said = found.1;
      there = gather-get (λ p t. item_said file all p (current_scope file all p) (is_some t.label) t.what) is_item_statement all place s (λ p t. item-tests file all p (current_scope file all p) (is_some t.label) t.what) there is ∙ found.1;
    }
