-- What statements declare, and what the places of symbols take.
use Rattle.std.specs.Prelude.{Bool, true, false}
use Rattle.vvp_forms.specs.declared.form.Form.{Form}
use Rattle.vvp_forms.specs.declared.form.Form.TheVariants as form
use Rattle.vvp_lex.specs.declared.types.Name.{Name}
use Rattle.vvp_ops.specs.declared.op.Op.{Op}
use Rattle.vvp_ops.specs.declared.op.Op.TheVariants as op
use Rattle.sym_link.specs.declared.placed.What.{What}
use Rattle.sym_link.specs.declared.placed.What.TheVariants as what
use Rattle.sym_link.specs.declared.sorts.Sort.{Sort}
use Rattle.sym_link.specs.declared.sorts.Sort.TheVariants as sort
use Rattle.sym_link.specs.declared.sorts.Takes.{Takes}
use Rattle.sym_link.specs.declared.sorts.Takes.TheVariants as place

abbrev pub sort_of_form : Form → Sort
sort_of_form form.Ignored = sort.Nothing
sort_of_form form.Parameter = sort.Parameter
sort_of_form (form.Precision power) = sort.Nothing
sort_of_form (form.Scope kind name source_module source line within) = sort.Scope
sort_of_form (form.CurrentScope scope) = sort.Nothing
sort_of_form (form.TimeScale unit precision) = sort.Nothing
sort_of_form (form.Variable kind starred name range) = sort.Variable
sort_of_form (form.Net signed starred name range source) = sort.Net
sort_of_form (form.Array kind name first last range) = sort.Array
sort_of_form (form.EdgeEvent kind ports) = sort.EdgeEvent
sort_of_form (form.NamedEvent name) = sort.NamedEvent
sort_of_form (form.EventOr events) = sort.EventOr
sort_of_form (form.Thread code start) = sort.Nothing
sort_of_form form.CodeLabel = sort.Code
sort_of_form _ = sort.Functor

-- what the label of a statement names: an opcode's is a code label at it
unfoldable pub sort_of : What → Sort
sort_of (what.Form form) = sort_of_form form
sort_of (what.Op op) = sort.Code

-- a value that a net may be another name for
abbrev pub is_signal : Sort → Bool
is_signal sort.Variable = true
is_signal sort.Net = true
is_signal sort.Functor = true
is_signal _ = false

-- an item; a form without meaning here is one where it has a label, and a code label is none
abbrev pub is_item : Sort → Bool → Bool
is_item sort.Parameter labelled = labelled
is_item sort.Code labelled = false
is_item sort.Nothing labelled = false
is_item _ labelled = true

-- what each place takes
abbrev pub accepts : Takes → Sort → Bool
accepts place.Scope sort.Scope = true
accepts place.EarlierScope sort.Scope = true
accepts place.Signal sort.Variable = true
accepts place.Signal sort.Net = true
accepts place.Signal sort.Functor = true
accepts place.NetOrFunctor sort.Net = true
accepts place.NetOrFunctor sort.Functor = true
accepts place.Variable sort.Variable = true
accepts place.Array sort.Array = true
accepts place.Event sort.EdgeEvent = true
accepts place.Event sort.NamedEvent = true
accepts place.Event sort.EventOr = true
accepts place.OneEvent sort.EdgeEvent = true
accepts place.OneEvent sort.NamedEvent = true
accepts place.NamedEvent sort.NamedEvent = true
accepts place.Code sort.Code = true
accepts place.SignalOrScope sort.Variable = true
accepts place.SignalOrScope sort.Net = true
accepts place.SignalOrScope sort.Functor = true
accepts place.SignalOrScope sort.Scope = true
accepts _ _ = false

-- whether a scope is current from the statement on
abbrev pub makes_current : What → Bool
makes_current (what.Form (form.Scope kind name source_module source line within)) = true
makes_current (what.Form (form.CurrentScope scope)) = true
makes_current _ = false

abbrev pub form_needs_scope : Form → Bool
form_needs_scope (form.TimeScale unit precision) = true
form_needs_scope (form.Variable kind starred name range) = true
form_needs_scope (form.Net signed starred name range source) = true
form_needs_scope (form.Array kind name first last range) = true
form_needs_scope (form.Thread code start) = true
form_needs_scope _ = false

abbrev pub op_needs_scope : Op Name → Bool
op_needs_scope (op.CallTask source line name args pops) = true
op_needs_scope (op.CallFunction source line name width args pops) = true
op_needs_scope _ = false

-- whether the statement stands in the current scope
abbrev pub needs_scope : What → Bool
needs_scope (what.Form form) = form_needs_scope form
needs_scope (what.Op op) = op_needs_scope op
