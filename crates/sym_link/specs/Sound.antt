-- What holds of every program that is linked.
use Rattle.std.specs.Prelude.{◌≡◌, ◌⊎◌, ℕ, ◌+◌, ◌%◌, ◌^◌, ◌<◌, ◌≤◌, pos, negsuc, int_le, Bool, true, false, not, ◌&&◌, ◌||◌, nat_eq, IsTrue, List, [], ◌∷◌, length, slice_get, sum, zero, suc, Some, is_some, if◌then◌else◌}
use Rattle.std.specs.List.{All, list_all, list_any, sum_by}
use Rattle.std.specs.Option.{ForSome, option_map_or}
use Rattle.four_state.specs.Vector.{known_number}
use Rattle.vvp_forms.specs.declared.form.Gate.{Gate}
use Rattle.vvp_forms.specs.declared.form.Gate.TheVariants as gate
use Rattle.vvp_forms.specs.Checks.{places}
use Rattle.vvp_ops.specs.declared.args.Arg.{Arg}
use Rattle.vvp_ops.specs.declared.args.Arg.TheVariants as arg
use Rattle.vvp_ops.specs.declared.op.Op.{Op}
use Rattle.vvp_ops.specs.declared.op.Op.TheVariants as op
use Rattle.vvp_ops.specs.Ranges.{IsInRange, IsWidth}
use Rattle.sym_link.specs.declared.program.Item.{Item}
use Rattle.sym_link.specs.declared.program.ItemKind.{ItemKind}
use Rattle.sym_link.specs.declared.program.ItemKind.TheVariants as kind
use Rattle.sym_link.specs.declared.program.Program.{Program}
use Rattle.sym_link.specs.declared.program.ScopeRow.{ScopeRow}
use Rattle.sym_link.specs.declared.program.Source.{Source}
use Rattle.sym_link.specs.declared.program.Source.TheVariants as source
use Rattle.sym_link.specs.declared.program.Start.{Start}
use Rattle.sym_link.specs.declared.program.TheConstants.{NONE}
use Rattle.sym_link.specs.declared.sorts.Takes.{Takes}
use Rattle.sym_link.specs.declared.sorts.Takes.TheVariants as takes
use Rattle.sym_link.specs.declared.tasks.Call.{Call}
use Rattle.sym_link.specs.declared.tasks.Call.TheVariants as call
use Rattle.sym_link.specs.declared.widths.Wanted.{Wanted}
use Rattle.sym_link.specs.declared.widths.Wanted.TheVariants as wants
use Rattle.sym_link.specs.Tasks.{call_named, functions, tasks}
use Rattle.sym_link.specs.Uses.{Symbol, arg_symbol, op_symbols}
use Rattle.sym_link.specs.Widths.{concat_wanted, copy_width, fits, gate_wanted}

-- Kinds of items

abbrev pub is_value_kind : ItemKind → Bool
is_value_kind (kind.Var integer) = true
is_value_kind (kind.Net root) = true
is_value_kind (kind.Functor is drive ports) = true
is_value_kind (kind.Delay rise fall decay port) = true
is_value_kind _ = false

abbrev pub is_variable_kind : ItemKind → Bool
is_variable_kind (kind.Var integer) = true
is_variable_kind _ = false

abbrev pub is_net_kind : ItemKind → Bool
is_net_kind (kind.Net root) = true
is_net_kind _ = false

abbrev pub is_array_kind : ItemKind → Bool
is_array_kind (kind.Array words) = true
is_array_kind _ = false

abbrev pub is_one_event_kind : ItemKind → Bool
is_one_event_kind (kind.Edge edge ports) = true
is_one_event_kind kind.Named = true
is_one_event_kind _ = false

abbrev pub is_event_kind : ItemKind → Bool
is_event_kind (kind.AnyOf events) = true
is_event_kind other = is_one_event_kind other

abbrev pub is_named_kind : ItemKind → Bool
is_named_kind kind.Named = true
is_named_kind _ = false

abbrev pub is_scope_kind : ItemKind → Bool
is_scope_kind (kind.Scope number) = true
is_scope_kind _ = false

-- whether the number is that of an item of such a kind
abbrev pub is_such : (ItemKind → Bool) → List Item → ℕ → Bool
is_such test items number = option_map_or (λ item. test item.what) (slice_get items number) false

abbrev pub width_of : List Item → ℕ → ℕ
width_of items number = option_map_or (λ item. item.width) (slice_get items number) 0

abbrev pub is_root_kind : ItemKind → Bool
is_root_kind k = is_value_kind k && not (is_net_kind k)

-- Scopes

-- a number of a scope, or none
abbrev pub MayBeScope : List ScopeRow → ℕ → Type 0
MayBeScope scopes number = (number ≡ NONE) ⊎ (number < length scopes)

-- Gates

-- what width port number `port` of a gate takes, whose value has `width` bits
abbrev pub port_takes : Gate → ℕ → ℕ → Wanted
port_takes (gate.Part base) width port = wants.Any
port_takes (gate.PartInto base part) width port = wants.Exactly part
port_takes (gate.PartFrom signed) width port = wants.Any
port_takes (gate.Concat widths) width port = concat_wanted widths port
port_takes (gate.Compare operation compared) width port = wants.Exactly compared
port_takes (gate.Shift operation) width port = if nat_eq port 0 then wants.Exactly width else wants.Any
port_takes (gate.Reduce operation) width port = wants.Any
port_takes (gate.Repeat count) width port = copy_width width count
port_takes gate.Extend width port = wants.AtMost width
port_takes other width port = gate_wanted other width port

abbrev pub is_used : Source → Bool
is_used source.Unused = false
is_used (source.Item number) = true
is_used (source.Fixed bits) = true

abbrev pub is_item : Source → Bool
is_item (source.Item number) = true
is_item _ = false

-- whether the elements 0 to n - 1 pass a test and the others don't
abbrev pub first_pass : {X : Type 0} → (X → Bool) → ℕ → List X → Bool
first_pass test n [] = true
first_pass test zero (x ∷ xs) = not (test x) && first_pass test 0 xs
first_pass test (suc n) (x ∷ xs) = test x && first_pass test n xs

abbrev pub is_same : Bool → Bool → Bool
is_same true b = b
is_same false b = not b

-- whether the elements that pass a test are those of the widths that aren't 0
abbrev pub pass_by_width : {X : Type 0} → (X → Bool) → List ℕ → List X → Bool
pass_by_width test [] [] = true
pass_by_width test [] (x ∷ xs) = false
pass_by_width test (width ∷ widths) [] = false
pass_by_width test (width ∷ widths) (x ∷ xs) = is_same (test x) (not (nat_eq width 0)) && pass_by_width test widths xs

-- whether no width stands after a 0 but 0
abbrev pub zeros_last : List ℕ → Bool
zeros_last [] = true
zeros_last (width ∷ widths) = if nat_eq width 0 then list_all (nat_eq 0) widths else zeros_last widths

-- whether a gate has the ports that it needs and no others, by tests that a port is used and that it is no constant
abbrev pub ports_fit : {X : Type 0} → (X → Bool) → (X → Bool) → Gate → List X → Bool
ports_fit used named gate.And ports = list_any used ports
ports_fit used named gate.Or ports = list_any used ports
ports_fit used named gate.Xor ports = list_any used ports
ports_fit used named gate.Nand ports = list_any used ports
ports_fit used named gate.Nor ports = list_any used ports
ports_fit used named gate.Xnor ports = list_any used ports
ports_fit used named gate.Muxz ports = first_pass used 3 ports
ports_fit used named (gate.Resolver resolution) ports = list_any named ports
ports_fit used named (gate.PartFrom signed) ports = first_pass used 2 ports
ports_fit used named (gate.Concat widths) ports = pass_by_width used widths ports
ports_fit used named (gate.Arithmetic operation) ports = first_pass used 2 ports
ports_fit used named (gate.Compare operation width) ports = first_pass used 2 ports
ports_fit used named (gate.Shift operation) ports = first_pass used 2 ports
ports_fit used named _ ports = first_pass used 1 ports

abbrev pub has_ports : Gate → List Source → Bool
has_ports is sources = ports_fit is_used is_item is sources

-- a port is unused, a variable, a net, a functor or a net delay whose width the port takes, or a constant of such a width
abbrev pub IsSource : List Item → Wanted → Source → Type 0
IsSource items want source.Unused = Unit {0}
IsSource items want (source.Item number) =
    IsTrue (is_such is_value_kind items number) × IsTrue (fits want (width_of items number))
IsSource items want (source.Fixed bits) = IsWidth (length bits) × IsTrue (fits want (length bits))

abbrev pub AreSources : List Item → (ℕ → Wanted) → ℕ → List Source → Type 0
AreSources items want port [] = Unit {0}
AreSources items want port (s ∷ sources) = IsSource items (want port) s × AreSources items want (port + 1) sources

-- the width of a port's value, 0 where it is unused
abbrev pub source_width : List Item → Source → ℕ
source_width items source.Unused = 0
source_width items (source.Item number) = width_of items number
source_width items (source.Fixed bits) = length bits

abbrev pub source_at : List Source → ℕ → Source
source_at sources port = option_map_or (λ s. s) (slice_get sources port) source.Unused

-- a gate's numbers go with the width of its value and with its ports
abbrev pub IsGate : List Item → Gate → ℕ → List Source → Type 0
IsGate items (gate.Part base) width sources = base + width ≤ source_width items (source_at sources 0)
IsGate items (gate.PartInto base part) width sources = IsWidth part × (base + part ≤ width)
IsGate items (gate.Concat widths) width sources = (length widths ≡ 4) × (sum widths ≡ width) × IsTrue (zeros_last widths)
IsGate items (gate.Compare operation compared) width sources = IsWidth compared × (width ≡ 1)
IsGate items (gate.Reduce operation) width sources = width ≡ 1
IsGate items (gate.Repeat count) width sources = (1 ≤ count) × (width % count ≡ 0)
IsGate items _ width sources = Unit {0}

-- a gate is as its form says, and keeps the link rules
pub record IsFunctor (items : List Item) (width : ℕ) (is : Gate) (drive : ℕ × ℕ) (sources : List Source) : Type 0 where
  pub in_range : IsWidth width
  pub zero_strength : drive.0 ≤ 7
  pub one_strength : drive.1 ≤ 7
  pub four : length sources ≡ 4
  pub there : IsTrue (has_ports is sources)
  pub each_port : AreSources items (port_takes is width) 0 sources
  pub numbers : IsGate items is width sources

-- Items

-- an item has the width of its range
pub record HasRange (item : Item) : Type 0 where
  pub spans : item.width ≡ places item.msb item.lsb
  pub in_range : IsWidth item.width

pub record IsVariable (program : Program) (item : Item) : Type 0 where
  pub range : HasRange item
  pub stands : item.scope < length program.scopes

-- the root of a net is an item that is no net, and as wide
pub record IsNet (program : Program) (item : Item) (root : ℕ) : Type 0 where
  pub range : HasRange item
  pub stands : item.scope < length program.scopes
  pub leads : IsTrue (is_such is_root_kind program.items root)
  pub same : width_of program.items root ≡ item.width

-- an event with an edge has a port that is used, and its ports take values of any width
pub record IsEdge (program : Program) (item : Item) (sources : List Source) : Type 0 where
  pub no_value : item.width ≡ 0
  pub four : length sources ≡ 4
  pub there : IsTrue (list_any is_used sources)
  pub each_port : AreSources program.items (λ port. wants.Any) 0 sources

pub record IsAnyOf (program : Program) (item : Item) (listed : List ℕ) : Type 0 where
  pub no_value : item.width ≡ 0
  pub each_event : All (λ event. IsTrue (is_such is_one_event_kind program.items event)) listed

pub record IsArray (program : Program) (item : Item) (count : ℕ) : Type 0 where
  pub range : HasRange item
  pub stands : item.scope < length program.scopes
  pub some : 1 ≤ count

-- the item of a scope has the name of the scope, and stands in its parent
pub record IsScope (program : Program) (item : Item) (number : ℕ) : Type 0 where
  pub no_value : item.width ≡ 0
  pub row : ScopeRow
  pub there : slice_get program.scopes number ≡ Some row
  pub same_name : row.name ≡ item.name
  pub parent : row.parent ≡ item.scope

pub record IsParameter (item : Item) : Type 0 where
  pub no_value : item.width ≡ 0
  pub unnamed : item.name ≡ []

-- a net delay is as wide as what it follows
pub record IsDelay (program : Program) (item : Item) (source : ℕ) : Type 0 where
  pub in_range : IsWidth item.width
  pub follows : IsTrue (is_such is_value_kind program.items source)
  pub same : width_of program.items source ≡ item.width

-- an item of this kind is as its form says, and keeps the link rules
abbrev pub IsKind : Program → Item → ItemKind → Type 0
IsKind program item (kind.Var integer) = IsVariable program item
IsKind program item (kind.Net root) = IsNet program item root
IsKind program item (kind.Functor is drive ports) = IsFunctor program.items item.width is drive ports
IsKind program item (kind.Edge edge ports) = IsEdge program item ports
IsKind program item kind.Named = item.width ≡ 0
IsKind program item (kind.AnyOf events) = IsAnyOf program item events
IsKind program item (kind.Array words) = IsArray program item words
IsKind program item (kind.Scope number) = IsScope program item number
IsKind program item kind.Param = IsParameter item
IsKind program item (kind.Delay rise fall decay port) = IsDelay program item port

pub record IsItem (program : Program) (item : Item) : Type 0 where
  pub scope : MayBeScope program.scopes item.scope
  pub is : IsKind program item item.what

abbrev pub words_in : ItemKind → ℕ
words_in (kind.Array words) = words
words_in _ = 0

-- Opcodes

abbrev pub NamesSuch : Takes → Program → ℕ → Type 0
NamesSuch takes.Scope program number = number < length program.scopes
NamesSuch takes.EarlierScope program number = number < length program.scopes
NamesSuch takes.Signal program number = IsTrue (is_such is_value_kind program.items number)
NamesSuch takes.NetOrFunctor program number = IsTrue (is_such (λ k. is_value_kind k && not (is_variable_kind k)) program.items number)
NamesSuch takes.Variable program number = IsTrue (is_such is_variable_kind program.items number)
NamesSuch takes.Array program number = IsTrue (is_such is_array_kind program.items number)
NamesSuch takes.Event program number = IsTrue (is_such is_event_kind program.items number)
NamesSuch takes.OneEvent program number = IsTrue (is_such is_one_event_kind program.items number)
NamesSuch takes.NamedEvent program number = IsTrue (is_such is_named_kind program.items number)
NamesSuch takes.Code program number = number < length program.code
NamesSuch takes.SignalOrScope program number = IsTrue (is_such (λ k. is_value_kind k || is_scope_kind k) program.items number)

-- a symbol names what its place takes: a code label is an address, the scope of a fork or of a disable a scope's number, and any
-- other symbol an item's number
abbrev pub IsNamed : Program → Symbol ℕ → Type 0
IsNamed program symbol = NamesSuch symbol.1 program symbol.0

abbrev pub ArgWidth : ℕ → Arg ℕ → Type 0
ArgWidth pops (arg.Stack place width signed) = (place < pops) × IsWidth width
ArgWidth pops (arg.Part item base width) = IsWidth width
ArgWidth pops _ = Unit {0}

abbrev pub IsArg : Program → ℕ → Arg ℕ → Type 0
IsArg program pops a = ForSome (arg_symbol a) (IsNamed program) × ArgWidth pops a

-- Calls of tasks and functions

abbrev pub is_text : Arg ℕ → Bool
is_text (arg.Text text) = true
is_text _ = false

-- whether an argument is a scope
abbrev pub is_scope_arg : Program → Arg ℕ → Bool
is_scope_arg program (arg.Symbol number) = is_such is_scope_kind program.items number
is_scope_arg program _ = false

-- any argument but a text or a scope
abbrev pub is_value_arg : Program → Arg ℕ → Bool
is_value_arg program a = not (is_text a) && not (is_scope_arg program a)

-- a scope, a variable or a net
abbrev pub is_dumped_kind : ItemKind → Bool
is_dumped_kind k = is_scope_kind k || (is_variable_kind k || is_net_kind k)

abbrev pub is_dumped_arg : Program → Arg ℕ → Bool
is_dumped_arg program (arg.Symbol number) = is_such is_dumped_kind program.items number
is_dumped_arg program _ = false

abbrev pub is_known_arg : Arg ℕ → Bool
is_known_arg (arg.Based value signed) = is_some (known_number value)
is_known_arg _ = false

abbrev pub no_args : List (Arg ℕ) → Bool
no_args [] = true
no_args (a ∷ more) = false

abbrev pub one_arg : (Arg ℕ → Bool) → List (Arg ℕ) → Bool
one_arg test [] = false
one_arg test (a ∷ []) = test a
one_arg test (a ∷ b ∷ more) = false

-- no arguments, or a known vector and then scopes, variables and nets
abbrev pub dumped_args : Program → List (Arg ℕ) → Bool
dumped_args program [] = true
dumped_args program (a ∷ more) = is_known_arg a && list_all (is_dumped_arg program) more

-- whether a task or a function that is called so takes the arguments
abbrev pub takes_args : Program → Call → List (Arg ℕ) → Bool
takes_args program call.Print args = not (list_any (is_scope_arg program) args)
takes_args program call.Bare args = no_args args
takes_args program call.Ending args = no_args args || one_arg (is_value_arg program) args
takes_args program call.DumpFile args = one_arg is_text args
takes_args program call.DumpVars args = dumped_args program args
takes_args program call.Time args = no_args args
takes_args program call.ShortTime args = no_args args
takes_args program call.CeilingLog args = one_arg (is_value_arg program) args

-- how many bits a function gives that is called so
abbrev pub answer_width : Call → ℕ
answer_width call.Time = 64
answer_width _ = 32

-- a call of a task, with arguments that it takes
pub record IsTaskCall (program : Program) (name : List ℕ) (args : List (Arg ℕ)) (pops : ℕ) : Type 0 where
  pub how : Call
  pub named : call_named tasks name ≡ Some how
  pub taken : IsTrue (takes_args program how args)
  pub each_arg : All (IsArg program pops) args

-- a call of a function, with arguments that it takes and the width that it gives
pub record IsFunctionCall (program : Program) (name : List ℕ) (width : ℕ) (args : List (Arg ℕ)) (pops : ℕ) : Type 0 where
  pub how : Call
  pub named : call_named functions name ≡ Some how
  pub taken : IsTrue (takes_args program how args)
  pub answered : width ≡ answer_width how
  pub each_arg : All (IsArg program pops) args

-- what is more than its ranges and its symbols: a release stays within its item, and a call is one of a task or a function
abbrev pub IsCall : Program → Op ℕ → Type 0
IsCall program (op.ReleaseNet item base width) = base + width ≤ width_of program.items item
IsCall program (op.ReleaseReg item base width) = base + width ≤ width_of program.items item
IsCall program (op.CallTask source line name args pops) = IsTaskCall program name args pops
IsCall program (op.CallFunction source line name width args pops) = IsFunctionCall program name width args pops
IsCall program _ = Unit {0}

-- an opcode is in range, and its symbols name what their places take
pub record IsBound (program : Program) (opcode : Op ℕ) : Type 0 where
  pub range : IsInRange opcode
  pub first : ForSome (op_symbols opcode).0 (IsNamed program)
  pub second : ForSome (op_symbols opcode).1 (IsNamed program)
  pub call : IsCall program opcode

abbrev pub is_call : Op ℕ → Bool
is_call (op.CallTask source line name args pops) = true
is_call (op.CallFunction source line name width args pops) = true
is_call _ = false

-- Programs

-- the parent of a scope has a lower number, and a unit of its time has 1 to 10^17 ticks
pub record IsScopeRow (number : ℕ) (row : ScopeRow) : Type 0 where
  pub lower : (row.parent ≡ NONE) ⊎ (row.parent < number)
  pub least : 1 ≤ row.scale
  pub most : row.scale ≤ 10 ^ 17

pub record IsStart (program : Program) (begun : Start) : Type 0 where
  pub address : begun.code < length program.code
  pub stands : begun.scope < length program.scopes

-- what the forms, the opcodes and the link rules say of a program
pub record IsProgram (program : Program) : Type 0 where
  pub few_items : length program.items ≤ 2 ^ 20
  pub few_opcodes : length program.code ≤ 2 ^ 20
  pub few_words : sum_by (λ item. words_in item.what) program.items ≤ 2 ^ 20
  pub few_threads : length program.threads ≤ 2 ^ 16
  pub few_scopes : length program.scopes ≤ length program.items
  pub tick : IsTrue (int_le (negsuc 14) program.precision && int_le program.precision (pos 2))
  pub each_item : All (IsItem program) program.items
  pub each_opcode : All (IsBound program) program.code
  pub each_thread : All (IsStart program) program.threads
  pub each_scope : (number : ℕ) (row : ScopeRow) → slice_get program.scopes number ≡ Some row → IsScopeRow number row
  pub scope_each : length program.code_scopes ≡ length program.code
  pub opcode_scopes : All (MayBeScope program.scopes) program.code_scopes
  pub call_scopes : (address scope : ℕ) (o : Op ℕ) → slice_get program.code address ≡ Some o → IsTrue (is_call o) → slice_get program.code_scopes address ≡ Some scope → scope < length program.scopes
