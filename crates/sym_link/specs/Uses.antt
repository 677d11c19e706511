-- The symbols that a statement uses, and what the place of each takes.
use Rattle.std.specs.Prelude.{List, [], ◌∷◌, ◌++◌, Option, None, Some}
use Rattle.std.specs.List.{cons_option, filter_map}
use Rattle.vvp_forms.specs.declared.form.Form.{Form}
use Rattle.vvp_forms.specs.declared.form.Form.TheVariants as form
use Rattle.vvp_forms.specs.declared.form.Port.{Port}
use Rattle.vvp_forms.specs.declared.form.Port.TheVariants as port
use Rattle.vvp_lex.specs.declared.types.Name.{Name}
use Rattle.vvp_ops.specs.declared.args.Arg.{Arg}
use Rattle.vvp_ops.specs.declared.args.Arg.TheVariants as arg
use Rattle.vvp_ops.specs.declared.op.Op.{Op}
use Rattle.vvp_ops.specs.declared.op.Op.TheVariants as op
use Rattle.sym_link.specs.declared.placed.What.{What}
use Rattle.sym_link.specs.declared.placed.What.TheVariants as what
use Rattle.sym_link.specs.declared.sorts.Takes.{Takes}
use Rattle.sym_link.specs.declared.sorts.Takes.TheVariants as place
use Rattle.sym_link.specs.declared.uses.Use.{Use}

abbrev pub at_symbol : Name → Takes → Option Use
at_symbol symbol place = Some (record { symbol = symbol; takes = place })

-- Ports

abbrev pub four : Port → Port → Port → Port → List Port
four first second third fourth = first ∷ second ∷ third ∷ fourth ∷ []

abbrev pub one_port : Port → List Port
one_port first = four first port.Unused port.Unused port.Unused

abbrev pub two_ports : Port → Port → List Port
two_ports first second = four first second port.Unused port.Unused

-- the four ports of a gate or an event, in port order; other forms have none that is used
unfoldable pub ports_of : Form → List Port
ports_of (form.Functor gate width drives ports) = ports
ports_of (form.Resolver kind ports) = ports
ports_of (form.Part first base width) = one_port first
ports_of (form.PartInto first base width whole) = one_port first
ports_of (form.PartFrom signed first base width) = two_ports first base
ports_of (form.Concat widths ports) = ports
ports_of (form.Arithmetic kind width left right) = two_ports left right
ports_of (form.Compare kind width left right) = two_ports left right
ports_of (form.Shift kind width first amount) = two_ports first amount
ports_of (form.Reduce kind first) = one_port first
ports_of (form.Repeat width count first) = one_port first
ports_of (form.Extend width first) = one_port first
ports_of (form.Delay width rise fall decay symbol) = one_port (port.Sym symbol)
ports_of (form.EdgeEvent kind ports) = ports
ports_of _ = four port.Unused port.Unused port.Unused port.Unused

abbrev pub port_use : Port → Option Use
port_use port.Unused = None
port_use (port.Sym symbol) = at_symbol symbol place.Signal
port_use (port.Fixed bits) = None

-- Forms

-- the symbol of a form that isn't one of its ports, nor one of a list
unfoldable pub form_use : Form → Option Use
form_use (form.Scope kind name source_module source line (Some within)) = at_symbol within.scope place.EarlierScope
form_use (form.CurrentScope scope) = at_symbol scope place.Scope
form_use (form.Net signed starred name range source) = at_symbol source place.Signal
form_use (form.Thread code start) = at_symbol code place.Code
form_use _ = None

unfoldable pub events_of : Form → List Name
events_of (form.EventOr events) = events
events_of _ = []

abbrev pub event_use : Name → Option Use
event_use symbol = at_symbol symbol place.OneEvent

abbrev pub form_uses : Form → List Use
form_uses f = (cons_option (form_use f) [] ++ filter_map port_use (ports_of f)) ++ filter_map event_use (events_of f)

-- Opcodes

-- a symbol, and what its place takes
abbrev pub Symbol : Type 0 → Type 0
Symbol S = S × Takes

-- the symbols of an opcode that aren't arguments, and what the place of each takes
unfoldable pub op_symbols : {S : Type 0} → Op S → Option (Symbol S) × Option (Symbol S)
op_symbols (op.Load item) = (Some (item, place.Signal), None)
op_symbols (op.LoadWord array index) = (Some (array, place.Array), None)
op_symbols (op.Store item offset width) = (Some (item, place.Variable), None)
op_symbols (op.StoreWord array index offset) = (Some (array, place.Array), None)
op_symbols (op.Assign item delay) = (Some (item, place.Variable), None)
op_symbols (op.AssignRegister item delay) = (Some (item, place.Variable), None)
op_symbols (op.AssignOffset item offset delay) = (Some (item, place.Variable), None)
op_symbols (op.AssignWord array offset delay) = (Some (array, place.Array), None)
op_symbols (op.IndexGet register item) = (Some (item, place.Signal), None)
op_symbols (op.IndexGetSigned register item) = (Some (item, place.Signal), None)
op_symbols (op.Jump target) = (Some (target, place.Code), None)
op_symbols (op.JumpIfZero target flag) = (Some (target, place.Code), None)
op_symbols (op.JumpIfOne target flag) = (Some (target, place.Code), None)
op_symbols (op.JumpUnlessOne target flag) = (Some (target, place.Code), None)
op_symbols (op.JumpUnlessZero target flag) = (Some (target, place.Code), None)
op_symbols (op.Wait event) = (Some (event, place.Event), None)
op_symbols (op.Trigger event) = (Some (event, place.NamedEvent), None)
op_symbols (op.Fork target scope) = (Some (target, place.Code), Some (scope, place.Scope))
op_symbols (op.Disable scope) = (Some (scope, place.Scope), None)
op_symbols (op.Force item) = (Some (item, place.Signal), None)
op_symbols (op.ReleaseNet item base width) = (Some (item, place.NetOrFunctor), None)
op_symbols (op.ReleaseReg item base width) = (Some (item, place.Variable), None)
op_symbols _ = (None, None)

abbrev pub use_of : Option (Symbol Name) → Option Use
use_of None = None
use_of (Some symbol) = at_symbol symbol.0 symbol.1

abbrev pub op_uses : Op Name → Option Use × Option Use
op_uses o = (use_of (op_symbols o).0, use_of (op_symbols o).1)

abbrev pub arg_symbol : {S : Type 0} → Arg S → Option (Symbol S)
arg_symbol (arg.Symbol symbol) = Some (symbol, place.SignalOrScope)
arg_symbol (arg.Word array index) = Some (array, place.Array)
arg_symbol (arg.Part item base width) = Some (item, place.Signal)
arg_symbol _ = None

abbrev pub arg_use : Arg Name → Option Use
arg_use a = use_of (arg_symbol a)

unfoldable pub args_of : {S : Type 0} → Op S → List (Arg S)
args_of (op.CallTask source line name args pops) = args
args_of (op.CallFunction source line name width args pops) = args
args_of _ = []

abbrev pub opcode_uses : Op Name → List Use
opcode_uses o = (cons_option (op_uses o).0 [] ++ cons_option (op_uses o).1 []) ++ filter_map arg_use (args_of o)

-- the symbols that a statement uses
abbrev pub uses_of : What → List Use
uses_of (what.Form f) = form_uses f
uses_of (what.Op o) = opcode_uses o
