-- The widths of values, and those that ports take: the rows of the table of gates.
use Rattle.std.specs.Prelude.{ℕ, ◌/◌, Bool, true, nat_eq, nat_le, List, [], ◌∷◌, length, map, slice_get, sum, Option, Some, None, if◌then◌else◌}
use Rattle.std.specs.Option.{option_map, option_map_or}
use Rattle.vvp_forms.specs.declared.form.Form.{Form}
use Rattle.vvp_forms.specs.declared.form.Form.TheVariants as form
use Rattle.vvp_forms.specs.declared.form.Gate.{Gate}
use Rattle.vvp_forms.specs.declared.form.Gate.TheVariants as gate
use Rattle.vvp_forms.specs.declared.form.Port.{Port}
use Rattle.vvp_forms.specs.declared.form.Port.TheVariants as port
use Rattle.vvp_forms.specs.Checks.{places}
use Rattle.vvp_lex.specs.declared.types.Name.{Name}
use Rattle.vvp_lex.specs.Place.{◌>>=◌}
use Rattle.sym_link.specs.declared.placed.Placed.{Placed}
use Rattle.sym_link.specs.declared.placed.What.{What}
use Rattle.sym_link.specs.declared.placed.What.TheVariants as what
use Rattle.sym_link.specs.declared.walks.Step.{Step}
use Rattle.sym_link.specs.declared.walks.Step.TheVariants as step
use Rattle.sym_link.specs.declared.walks.Walk.{Walk}
use Rattle.sym_link.specs.declared.walks.Walk.TheVariants as ending
use Rattle.sym_link.specs.declared.widths.Wanted.{Wanted}
use Rattle.sym_link.specs.declared.widths.Wanted.TheVariants as wants
use Rattle.sym_link.specs.Places.{signal_place}
use Rattle.sym_link.specs.Sorts.{is_signal, sort_of}
use Rattle.sym_link.specs.Walks.{walk_from}

-- Roots

abbrev pub toward : Option ℕ → Step
toward (Some place) = step.On place
toward None = step.Stray

abbrev pub ends_at : What → Step
ends_at w = if is_signal (sort_of w) then step.Stop else step.Stray

-- the walk to a root: from a net to its source, if that is a variable, a net or a functor
abbrev pub root_step : List ℕ → List Placed → What → Step
root_step file all (what.Form (form.Net signed starred name range source)) = toward (signal_place file all source)
root_step file all w = ends_at w

abbrev pub first_symbol : List Port → Option Name
first_symbol [] = None
first_symbol (port.Unused ∷ ports) = first_symbol ports
first_symbol (port.Sym symbol ∷ ports) = Some symbol
first_symbol (port.Fixed bits ∷ ports) = first_symbol ports

-- the ports of a resolver
abbrev pub resolver_ports : What → Option (List Port)
resolver_ports (what.Form (form.Resolver kind ports)) = Some ports
resolver_ports _ = None

abbrev pub resolver_step : List ℕ → List Placed → List Port → Step
resolver_step file all ports = toward (first_symbol ports >>= signal_place file all)

abbrev pub width_step_by : List ℕ → List Placed → What → Option (List Port) → Step
width_step_by file all w (Some ports) = resolver_step file all ports
width_step_by file all w None = root_step file all w

-- the walk to what says a width: also from a resolver to its first symbol
abbrev pub width_step : List ℕ → List Placed → What → Step
width_step file all w = width_step_by file all w (resolver_ports w)

abbrev pub root_steps : List ℕ → List Placed → List Step
root_steps file all = map (λ s. root_step file all s.what) all

abbrev pub width_steps : List ℕ → List Placed → List Step
width_steps file all = map (λ s. width_step file all s.what) all

-- the walks from the statement at a place
unfoldable pub root_walk : List ℕ → List Placed → ℕ → Walk
root_walk file all place = walk_from (root_steps file all) place

unfoldable pub width_walk : List ℕ → List Placed → ℕ → Walk
width_walk file all place = walk_from (width_steps file all) place

-- Widths of values

-- the width of the value that a form declares, or of the words of an array; a resolver declares none, and 0 stands for that
unfoldable pub declared_width : Form → ℕ
declared_width (form.Variable kind starred name range) = places range.msb range.lsb
declared_width (form.Net signed starred name range source) = places range.msb range.lsb
declared_width (form.Array kind name first last range) = places range.msb range.lsb
declared_width (form.Functor kind width drives ports) = width
declared_width (form.Part port base width) = width
declared_width (form.PartInto port base width whole) = whole
declared_width (form.PartFrom signed port base width) = width
declared_width (form.Concat widths ports) = sum widths
declared_width (form.Arithmetic kind width left right) = width
declared_width (form.Compare kind width left right) = 1
declared_width (form.Shift kind width port amount) = width
declared_width (form.Reduce kind port) = 1
declared_width (form.Repeat width count port) = width
declared_width (form.Extend width port) = width
declared_width (form.Delay width rise fall decay port) = width
declared_width _ = 0

abbrev pub what_width : What → ℕ
what_width (what.Form f) = declared_width f
what_width (what.Op o) = 0

abbrev pub width_at : List Placed → ℕ → ℕ
width_at all place = option_map_or (λ s. what_width s.what) (slice_get all place) 0

abbrev pub ended : Walk → Option ℕ
ended (ending.Ends place) = Some place
ended ending.Astray = None
ended ending.Endless = None

-- the width of the root of what stands at a place, where the walk to it ends
abbrev pub root_width : List ℕ → List Placed → ℕ → Option ℕ
root_width file all place = option_map (width_at all) (ended (width_walk file all place))

abbrev pub symbol_width : List ℕ → List Placed → Name → Option ℕ
symbol_width file all symbol = signal_place file all symbol >>= root_width file all

-- the width of a port's value, where it has one that is known
abbrev pub port_width : List ℕ → List Placed → Port → Option ℕ
port_width file all port.Unused = None
port_width file all (port.Sym symbol) = symbol_width file all symbol
port_width file all (port.Fixed bits) = Some (length bits)

-- Widths of ports

abbrev pub gate_wanted : Gate → ℕ → ℕ → Wanted
gate_wanted gate.Muxz width number = wants.Exactly (if nat_eq number 2 then 1 else width)
gate_wanted _ width number = wants.Exactly width

abbrev pub resolver_wanted : Option ℕ → Wanted
resolver_wanted (Some width) = wants.Exactly width
resolver_wanted None = wants.Any

abbrev pub concat_wanted : List ℕ → ℕ → Wanted
concat_wanted widths number = option_map_or wants.Exactly (slice_get widths number) wants.Any

abbrev pub copy_width : ℕ → ℕ → Wanted
copy_width width count = if nat_eq count 0 then wants.Any else wants.Exactly (width / count)

-- what width port number `number` of a form takes; `own` is the width of its value, where that is known
unfoldable pub width_wanted : Form → Option ℕ → ℕ → Wanted
width_wanted (form.Functor kind width drives ports) own number = gate_wanted kind width number
width_wanted (form.Resolver kind ports) own number = resolver_wanted own
width_wanted (form.PartInto port base width whole) own number = wants.Exactly width
width_wanted (form.Concat widths ports) own number = concat_wanted widths number
width_wanted (form.Arithmetic kind width left right) own number = wants.Exactly width
width_wanted (form.Compare kind width left right) own number = wants.Exactly width
width_wanted (form.Shift kind width port amount) own number = if nat_eq number 0 then wants.Exactly width else wants.Any
width_wanted (form.Repeat width count port) own number = copy_width width count
width_wanted (form.Extend width port) own number = wants.AtMost width
width_wanted (form.Delay width rise fall decay port) own number = wants.Exactly width
width_wanted _ own number = wants.Any

abbrev pub fits : Wanted → ℕ → Bool
fits wants.Any width = true
fits (wants.Exactly exact) width = nat_eq width exact
fits (wants.AtMost most) width = nat_le width most
