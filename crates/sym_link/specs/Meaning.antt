-- The program that the statements of a file mean. `all` is the list of them.
use Rattle.std.specs.Prelude.{ℕ, ◌+◌, ◌^◌, ℤ, pos, ◌-ℤ◌, int_le, unsigned_abs, Bool, true, false, ◌&&◌, nat_eq, nat_le, List, [], ◌∷◌, ◌++◌, length, map, take, Option, Some, None, is_some, Result, Ok, Err, if◌then◌else◌}
use Rattle.std.specs.List.{cons_option}
use Rattle.four_state.specs.declared.bits.Bit.{Bit}
use Rattle.four_state.specs.Vector.{copies}
use Rattle.vvp_forms.specs.declared.form.Form.{Form}
use Rattle.vvp_forms.specs.declared.form.Form.TheVariants as form
use Rattle.vvp_forms.specs.declared.form.Gate.{Gate}
use Rattle.vvp_forms.specs.declared.form.Gate.TheVariants as gate
use Rattle.vvp_forms.specs.declared.form.Port.{Port}
use Rattle.vvp_forms.specs.declared.form.Port.TheVariants as port
use Rattle.vvp_forms.specs.declared.form.Range.{Range}
use Rattle.vvp_forms.specs.declared.form.StartKind.{StartKind}
use Rattle.vvp_forms.specs.declared.form.StartKind.TheVariants as start
use Rattle.vvp_forms.specs.declared.form.VarKind.{VarKind}
use Rattle.vvp_forms.specs.declared.form.VarKind.TheVariants as var
use Rattle.vvp_forms.specs.declared.form.Within.{Within}
use Rattle.vvp_forms.specs.Checks.{places}
use Rattle.vvp_ops.specs.declared.op.Op.{Op}
use Rattle.sym_link.specs.declared.fault.LinkKind.{LinkKind}
use Rattle.sym_link.specs.declared.placed.Placed.{Placed}
use Rattle.sym_link.specs.declared.placed.What.{What}
use Rattle.sym_link.specs.declared.placed.What.TheVariants as what
use Rattle.sym_link.specs.declared.program.Item.{Item}
use Rattle.sym_link.specs.declared.program.ItemKind.{ItemKind}
use Rattle.sym_link.specs.declared.program.ItemKind.TheVariants as kind
use Rattle.sym_link.specs.declared.program.Program.{Program}
use Rattle.sym_link.specs.declared.program.ScopeRow.{ScopeRow}
use Rattle.sym_link.specs.declared.program.Source.{Source}
use Rattle.sym_link.specs.declared.program.Source.TheVariants as source
use Rattle.sym_link.specs.declared.program.Start.{Start}
use Rattle.sym_link.specs.declared.program.TheConstants.{NONE}
use Rattle.sym_link.specs.declared.walks.Walk.{Walk}
use Rattle.sym_link.specs.declared.walks.Walk.TheVariants as ending
use Rattle.sym_link.specs.declared.widths.Wanted.{Wanted}
use Rattle.sym_link.specs.declared.widths.Wanted.TheVariants as wants
use Rattle.sym_link.specs.Bound.{bound_op}
use Rattle.sym_link.specs.LinkRules.{first_refusal}
use Rattle.sym_link.specs.Places.{counts_before, symbol_code, symbol_item, symbol_scope, words_in}
use Rattle.sym_link.specs.Spelled.{Refusal}
use Rattle.sym_link.specs.Uses.{ports_of}
use Rattle.sym_link.specs.Widths.{root_walk, root_width, width_wanted}

-- what each statement gives, by its place, in file order, without those that give nothing
abbrev pub gather : {X : Type 0} → (ℕ → Placed → Option X) → ℕ → List Placed → List X
gather gives place [] = []
gather gives place (s ∷ after) = cons_option (gives place s) (gather gives (place + 1) after)

-- the last one of a list, or else the first value
abbrev pub latest : {X : Type 0} → X → List X → X
latest x [] = x
latest x (y ∷ ys) = latest y ys

-- Scopes

-- the number of the scope that a statement makes current
abbrev pub makes_scope : List ℕ → List Placed → ℕ → What → Option ℕ
makes_scope file all place (what.Form (form.Scope scope_kind name source_module source line within)) = Some (counts_before all place).scopes
makes_scope file all place (what.Form (form.CurrentScope scope)) = Some (symbol_scope file all scope)
makes_scope file all place _ = None

-- the number of the scope that is current at a place, or NONE
unfoldable pub current_scope : List ℕ → List Placed → ℕ → ℕ
current_scope file all place = latest NONE (gather (λ earlier s. makes_scope file all earlier s.what) 0 (take place all))

abbrev pub precision_said : What → Option ℤ
precision_said (what.Form (form.Precision power)) = Some power
precision_said _ = None

-- the power of ten of a tick: the last one that is said, or 0
abbrev pub precision_of : List Placed → ℤ
precision_of all = latest (pos 0) (gather (λ place s. precision_said s.what) 0 all)

-- how many ticks a unit of time has, where both are powers of ten of seconds: 1 where a tick is the greater
abbrev pub scale_of : ℤ → ℤ → ℕ
scale_of precision unit = if int_le precision unit then 10 ^ unsigned_abs (unit -ℤ precision) else 1

-- the unit of time that a statement says
abbrev pub unit_in : What → Option ℤ
unit_in (what.Form (form.TimeScale unit precision)) = Some unit
unit_in _ = None

abbrev pub only_where : Bool → Option ℤ → Option ℤ
only_where true unit = unit
only_where false unit = None

-- a unit of time that is said in a scope
abbrev pub unit_said : List ℕ → List Placed → ℕ → ℕ → What → Option ℤ
unit_said file all scope place w = only_where (nat_eq (current_scope file all place) scope) (unit_in w)

-- the scale of the scope of a number: by the last unit that is said in it, 1 without one
unfoldable pub scope_scale : List ℕ → List Placed → ℕ → ℕ
scope_scale file all scope =
    latest 1 (map (scale_of (precision_of all)) (gather (λ place s. unit_said file all scope place s.what) 0 all))

abbrev pub parent_of : List ℕ → List Placed → Option Within → ℕ
parent_of file all None = NONE
parent_of file all (Some within) = symbol_scope file all within.scope

-- the scope that a form says that its own is below
abbrev pub parent_in : List ℕ → List Placed → Form → ℕ
parent_in file all (form.Scope scope_kind name source_module source line within) = parent_of file all within
parent_in file all _ = NONE

-- the scope that a statement declares, with this scale
abbrev pub scope_row : List ℕ → List Placed → ℕ → What → Option ScopeRow
scope_row file all scale (what.Form (form.Scope scope_kind name source_module source line within)) =
    Some (record { name = name; kind = scope_kind; parent = parent_of file all within; scale = scale })
scope_row file all scale _ = None

abbrev pub scope_said : List ℕ → List Placed → ℕ → What → Option ScopeRow
scope_said file all place w = scope_row file all (scope_scale file all (counts_before all place).scopes) w

-- Ports

-- a constant at a port: one bit is repeated to the port's width
abbrev pub fitted : Wanted → List Bit → List Bit
fitted (wants.Exactly width) bits = if nat_eq (length bits) 1 && nat_le 1 width && nat_le width 128 then copies width bits else bits
fitted _ bits = bits

abbrev pub source_of : List ℕ → List Placed → Wanted → Port → Source
source_of file all want port.Unused = source.Unused
source_of file all want (port.Sym symbol) = source.Item (symbol_item file all symbol)
source_of file all want (port.Fixed bits) = source.Fixed (fitted want bits)

abbrev pub sources_from : List ℕ → List Placed → (ℕ → Wanted) → ℕ → List Port → List Source
sources_from file all want number [] = []
sources_from file all want number (p ∷ ports) = source_of file all (want number) p ∷ sources_from file all want (number + 1) ports

-- what the ports of a form take their values from, where its value has the width `own`
unfoldable pub sources_of : List ℕ → List Placed → Form → Option ℕ → List Source
sources_of file all f own = sources_from file all (width_wanted f own) 0 (ports_of f)

-- Items

-- what a form that is a gate computes
unfoldable pub gate_of : Form → Option Gate
gate_of (form.Functor type width drives ports) = Some type
gate_of (form.Resolver resolution ports) = Some (gate.Resolver resolution)
gate_of (form.Part first base width) = Some (gate.Part base)
gate_of (form.PartInto first base width whole) = Some (gate.PartInto base width)
gate_of (form.PartFrom signed first base width) = Some (gate.PartFrom signed)
gate_of (form.Concat widths ports) = Some (gate.Concat widths)
gate_of (form.Arithmetic operation width left right) = Some (gate.Arithmetic operation)
gate_of (form.Compare operation width left right) = Some (gate.Compare operation width)
gate_of (form.Shift operation width first amount) = Some (gate.Shift operation)
gate_of (form.Reduce operation first) = Some (gate.Reduce operation)
gate_of (form.Repeat width count first) = Some (gate.Repeat count)
gate_of (form.Extend width first) = Some gate.Extend
gate_of _ = None

-- the strengths with which a gate drives 0 and 1
abbrev pub drive_of : Form → ℕ × ℕ
drive_of (form.Functor type width drives ports) = drives
drive_of _ = (6, 6)

abbrev pub is_signed : VarKind → Bool
is_signed var.Unsigned = false
is_signed var.Signed = true
is_signed var.Integer = true

abbrev pub is_integer : VarKind → Bool
is_integer var.Integer = true
is_integer _ = false

abbrev pub with_range : List ℕ → Bool → ℕ → Range → Bool → ItemKind → Item
with_range name starred scope range signed is =
    record { name = name; starred = starred; scope = scope; msb = range.msb; lsb = range.lsb; signed = signed; width = places range.msb range.lsb; what = is }

-- an item without a range and without a sign
abbrev pub without_range : List ℕ → ℕ → ℕ → ItemKind → Item
without_range name scope width is =
    record { name = name; starred = false; scope = scope; msb = pos 0; lsb = pos 0; signed = false; width = width; what = is }

-- the number of the item at which a walk ends
abbrev pub root_number : List Placed → Walk → ℕ
root_number all (ending.Ends place) = (counts_before all place).items
root_number all ending.Astray = 0
root_number all ending.Endless = 0

-- the value's width of a gate; 0 stands for one that isn't known
abbrev pub width_or_none : Option ℕ → ℕ
width_or_none None = 0
width_or_none (Some width) = width

abbrev pub gate_item : List ℕ → List Placed → ℕ → ℕ → Form → Gate → Item
gate_item file all place scope f is =
    without_range [] scope (width_or_none (root_width file all place)) (kind.Functor is (drive_of f) (sources_of file all f (root_width file all place)))

-- the words of an array, 0 for another form
abbrev pub words_of : Form → ℕ
words_of f = words_in (what.Form f)

-- the item that a form declares in a scope, where it declares one that isn't a gate
unfoldable pub other_item : List ℕ → List Placed → ℕ → ℕ → Bool → Form → Option Item
other_item file all place scope labelled (form.Variable is starred name range) =
    Some (with_range name starred scope range (is_signed is) (kind.Var (is_integer is)))
other_item file all place scope labelled (form.Net signed starred name range from) =
    Some (with_range name starred scope range signed (kind.Net (root_number all (root_walk file all place))))
other_item file all place scope labelled (form.Array is name first last range) =
    Some (with_range name false scope range (is_signed is) (kind.Array (places first last)))
other_item file all place scope labelled (form.Scope is name source_module number line within) =
    Some (without_range name (parent_of file all within) 0 (kind.Scope (counts_before all place).scopes))
other_item file all place scope labelled (form.NamedEvent name) = Some (without_range name scope 0 kind.Named)
other_item file all place scope labelled (form.EdgeEvent is ports) =
    Some (without_range [] scope 0 (kind.Edge is (sources_of file all (form.EdgeEvent is ports) None)))
other_item file all place scope labelled (form.EventOr events) = Some (without_range [] scope 0 (kind.AnyOf (map (symbol_item file all) events)))
other_item file all place scope labelled (form.Delay width rise fall decay first) =
    Some (without_range [] scope width (kind.Delay rise fall decay (symbol_item file all first)))
other_item file all place scope labelled form.Parameter = if labelled then Some (without_range [] scope 0 kind.Param) else None
other_item file all place scope labelled _ = None

abbrev pub form_item : List ℕ → List Placed → ℕ → ℕ → Bool → Form → Option Gate → Option Item
form_item file all place scope labelled f (Some is) = Some (gate_item file all place scope f is)
form_item file all place scope labelled f None = other_item file all place scope labelled f

-- the item that a statement declares, in the scope that is current there
unfoldable pub item_said : List ℕ → List Placed → ℕ → ℕ → Bool → What → Option Item
item_said file all place scope labelled (what.Form f) = form_item file all place scope labelled f (gate_of f)
item_said file all place scope labelled (what.Op o) = None

-- Code and threads

abbrev pub op_said : List ℕ → List Placed → What → Option (Op ℕ)
op_said file all (what.Form f) = None
op_said file all (what.Op o) = Some (bound_op file all o)

-- the scope of an opcode, where this one is current
abbrev pub code_scope_said : ℕ → What → Option ℕ
code_scope_said current (what.Form f) = None
code_scope_said current (what.Op o) = Some current

abbrev pub is_same_start : StartKind → StartKind → Bool
is_same_start start.Init start.Init = true
is_same_start start.Push start.Push = true
is_same_start start.Plain start.Plain = true
is_same_start _ _ = false

-- a thread of a kind, where this scope is current
abbrev pub thread_said : List ℕ → List Placed → StartKind → ℕ → What → Option Start
thread_said file all which current (what.Form (form.Thread code when)) =
    if is_same_start when which then Some (record { code = symbol_code file all code; scope = current }) else None
thread_said file all which current _ = None

-- the threads of a kind, in file order
abbrev pub threads_at : List ℕ → List Placed → StartKind → List Start
threads_at file all which = gather (λ place s. thread_said file all which (current_scope file all place) s.what) 0 all

-- The program

-- the items, in file order
abbrev pub items_of : List ℕ → List Placed → List Item
items_of file all = gather (λ place s. item_said file all place (current_scope file all place) (is_some s.label) s.what) 0 all

-- the opcodes, in file order
abbrev pub code_of : List ℕ → List Placed → List (Op ℕ)
code_of file all = gather (λ place s. op_said file all s.what) 0 all

-- the scope that is current at each opcode
abbrev pub code_scopes_of : List ℕ → List Placed → List ℕ
code_scopes_of file all = gather (λ place s. code_scope_said (current_scope file all place) s.what) 0 all

-- the scopes, in file order
abbrev pub scopes_of : List ℕ → List Placed → List ScopeRow
scopes_of file all = gather (λ place s. scope_said file all place s.what) 0 all

-- the threads in start order: those of `$init`, those of `$push`, and the others
abbrev pub threads_of : List ℕ → List Placed → List Start
threads_of file all = threads_at file all start.Init ++ (threads_at file all start.Push ++ threads_at file all start.Plain)

unfoldable pub program_of : List ℕ → List Placed → Program
program_of file all = record {
  items = items_of file all;
  code = code_of file all;
  code_scopes = code_scopes_of file all;
  scopes = scopes_of file all;
  threads = threads_of file all;
  precision = precision_of all;
}

abbrev pub refused_or : Option (Refusal LinkKind) → Program → Result Program (Refusal LinkKind)
refused_or None program = Ok program
refused_or (Some refusal) program = Err refusal

-- the program of the statements of a file, or the first link rule that one of them breaks
unfoldable pub linked : List ℕ → List Placed → Result Program (Refusal LinkKind)
linked file all = refused_or (first_refusal file all) (program_of file all)
