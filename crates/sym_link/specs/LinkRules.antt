-- The link rules. Each is tested at a statement `s`, which stands at `place` among `all` the statements of the file. A file whose
-- statements break none has a program.
use Rattle.std.specs.Prelude.{ℕ, ◌+◌, Bool, true, false, not, ◌||◌, ◌&&◌, nat_eq, nat_le, nat_lt, List, [], ◌∷◌, ◌++◌, length, slice_get, Option, Some, None, is_some, if◌then◌else◌}
use Rattle.std.specs.List.{list_any}
use Rattle.std.specs.Option.{option_map_or}
use Rattle.vvp_forms.specs.declared.form.Form.TheVariants as form
use Rattle.vvp_forms.specs.declared.form.Port.{Port}
use Rattle.vvp_forms.specs.declared.form.Port.TheVariants as port
use Rattle.vvp_lex.specs.declared.types.Name.{Name}
use Rattle.vvp_lex.specs.Place.{◌>>=◌}
use Rattle.vvp_ops.specs.declared.op.Op.{Op}
use Rattle.vvp_ops.specs.declared.op.Op.TheVariants as op
use Rattle.sym_link.specs.declared.fault.LinkKind.{LinkKind}
use Rattle.sym_link.specs.declared.fault.LinkKind.TheVariants as rule
use Rattle.sym_link.specs.declared.labels.Counts.{Counts}
use Rattle.sym_link.specs.declared.placed.Placed.{Placed}
use Rattle.sym_link.specs.declared.placed.What.{What}
use Rattle.sym_link.specs.declared.placed.What.TheVariants as what
use Rattle.sym_link.specs.declared.rules.TheConstants.{MOST_ITEMS, MOST_OPCODES, MOST_STARTS, MOST_WORDS}
use Rattle.sym_link.specs.declared.sorts.Takes.{Takes}
use Rattle.sym_link.specs.declared.sorts.Takes.TheVariants as takes
use Rattle.sym_link.specs.declared.uses.Use.{Use}
use Rattle.sym_link.specs.declared.walks.Walk.{Walk}
use Rattle.sym_link.specs.declared.walks.Walk.TheVariants as ending
use Rattle.sym_link.specs.declared.widths.Wanted.{Wanted}
use Rattle.sym_link.specs.Operands.{flag_range, immediate_width, register_range}
use Rattle.sym_link.specs.Places.{counts_before, is_item_statement, is_opcode_what, is_thread_form, signal_place, sort_at, symbol_code, symbol_place, words_in}
use Rattle.sym_link.specs.Sorts.{accepts, needs_scope}
use Rattle.sym_link.specs.Spelled.{Refusal}
use Rattle.sym_link.specs.Tasks.{call_named, function_takes, functions, is_outside, task_takes, tasks}
use Rattle.sym_link.specs.Uses.{ports_of, uses_of}
use Rattle.sym_link.specs.Widths.{fits, port_width, root_walk, root_width, what_width, width_wanted, width_at, width_walk}

-- Labels and symbols

-- whether the first statement with this label stands before the place
abbrev pub is_earlier : List ℕ → List Placed → ℕ → Name → Bool
is_earlier file all place symbol = option_map_or (λ first. nat_lt first place) (symbol_place file all symbol) false

-- duplicate label: an earlier statement has this label
abbrev pub duplicate_label : List ℕ → List Placed → ℕ → Placed → Bool
duplicate_label file all place s = option_map_or (is_earlier file all place) s.label false

-- no scope: the statement stands in the current scope, and none is current
abbrev pub no_scope : List ℕ → List Placed → ℕ → Placed → Bool
no_scope file all place s = needs_scope s.what && not (counts_before all place).has_scope

abbrev pub is_unknown : List ℕ → List Placed → Use → Bool
is_unknown file all used = not (is_some (symbol_place file all used.symbol))

-- unknown symbol: a symbol that is used is the label of no statement of the file
abbrev pub unknown_symbol : List ℕ → List Placed → ℕ → Placed → Bool
unknown_symbol file all place s = list_any (is_unknown file all) (uses_of s.what)

abbrev pub only_earlier : Takes → Bool
only_earlier takes.EarlierScope = true
only_earlier _ = false

-- whether the statement at `first` is of the kind that a symbol's place takes
abbrev pub is_taken : List Placed → ℕ → Takes → ℕ → Bool
is_taken all place kind first = accepts kind (sort_at all first) && (not (only_earlier kind) || nat_lt first place)

abbrev pub is_misplaced : List ℕ → List Placed → ℕ → Use → Bool
is_misplaced file all place used = not (option_map_or (is_taken all place used.takes) (symbol_place file all used.symbol) false)

-- wrong kind: a symbol isn't of the kind that its place takes
abbrev pub wrong_kind : List ℕ → List Placed → ℕ → Placed → Bool
wrong_kind file all place s = list_any (is_misplaced file all place) (uses_of s.what)

-- Nets and widths

abbrev pub is_endless : Walk → Bool
is_endless ending.Endless = true
is_endless _ = false

-- net loop: the walk from this net to its root, or from this resolver to its width, doesn't end
abbrev pub net_loop : List ℕ → List Placed → ℕ → What → Bool
net_loop file all place (what.Form (form.Net signed starred name range source)) = is_endless (root_walk file all place)
net_loop file all place (what.Form (form.Resolver kind ports)) = is_endless (width_walk file all place)
net_loop file all place _ = false

-- whether a port's value has a width that the port doesn't take; a constant of one bit is repeated
abbrev pub misfits : List ℕ → List Placed → Wanted → Port → Bool
misfits file all want port.Unused = false
misfits file all want (port.Sym symbol) = option_map_or (λ width. not (fits want width)) (port_width file all (port.Sym symbol)) false
misfits file all want (port.Fixed bits) = not (nat_eq (length bits) 1) && not (fits want (length bits))

abbrev pub any_misfits : List ℕ → List Placed → (ℕ → Wanted) → ℕ → List Port → Bool
any_misfits file all want number [] = false
any_misfits file all want number (p ∷ ports) = misfits file all (want number) p || any_misfits file all want (number + 1) ports

-- width mismatch: a net's width isn't its root's, or a port's isn't one that its gate takes
abbrev pub width_mismatch : List ℕ → List Placed → ℕ → What → Bool
width_mismatch file all place (what.Form (form.Net signed starred name range source)) =
    option_map_or (λ width. not (nat_eq width (what_width (what.Form (form.Net signed starred name range source))))) (root_width file all place) false
width_mismatch file all place (what.Form f) = any_misfits file all (width_wanted f (root_width file all place)) 0 (ports_of f)
width_mismatch file all place (what.Op o) = false

-- whether so many places from the base on reach past so many
abbrev pub is_past : ℕ → ℕ → ℕ → Bool
is_past base width whole = nat_lt whole (base + width)

abbrev pub is_resolver : What → Bool
is_resolver (what.Form (form.Resolver kind ports)) = true
is_resolver _ = false

-- the own width of what stands at a place: a resolver's is that of the root of its first symbol
abbrev pub own_width : List ℕ → List Placed → ℕ → Option ℕ
own_width file all place =
    if option_map_or (λ s. is_resolver s.what) (slice_get all place) false then root_width file all place else Some (width_at all place)

abbrev pub releases_past : List ℕ → List Placed → Name → ℕ → ℕ → Bool
releases_past file all symbol base width =
    option_map_or (is_past base width) (signal_place file all symbol >>= own_width file all) false

-- part outside: a part reaches past its source, or past the whole that it is put into, or a release past its item
abbrev pub part_outside : List ℕ → List Placed → What → Bool
part_outside file all (what.Form (form.Part source base width)) = option_map_or (is_past base width) (port_width file all source) false
part_outside file all (what.Form (form.PartInto source base width whole)) = is_past base width whole
part_outside file all (what.Op (op.ReleaseNet item base width)) = releases_past file all item base width
part_outside file all (what.Op (op.ReleaseReg item base width)) = releases_past file all item base width
part_outside file all _ = false

-- Code

abbrev pub is_code_place : Takes → Bool
is_code_place takes.Code = true
is_code_place _ = false

abbrev pub opcodes_in : List Placed → ℕ
opcodes_in all = (counts_before all (length all)).opcodes

abbrev pub leads_nowhere : List ℕ → List Placed → Use → Bool
leads_nowhere file all used = is_code_place used.takes && nat_le (opcodes_in all) (symbol_code file all used.symbol)

-- no code: a code label that is used has no opcode after it in the file
abbrev pub no_code : List ℕ → List Placed → What → Bool
no_code file all w = list_any (leads_nowhere file all) (uses_of w)

-- Tasks

-- unknown task: no task, or no function, has this name
abbrev pub unknown_task : Op Name → Bool
unknown_task (op.CallTask source line name args pops) = not (is_some (call_named tasks name))
unknown_task (op.CallFunction source line name width args pops) = not (is_some (call_named functions name))
unknown_task _ = false

-- bad arguments: the task or function doesn't take them, or a stack item is not one of those that are popped
abbrev pub bad_arguments : List ℕ → List Placed → Op Name → Bool
bad_arguments file all (op.CallTask source line name args pops) =
    not (option_map_or (λ call. task_takes file all call args) (call_named tasks name) false) || list_any (is_outside pops) args
bad_arguments file all (op.CallFunction source line name width args pops) =
    not (option_map_or (λ call. function_takes file all call args width) (call_named functions name) false) || list_any (is_outside pops) args
bad_arguments file all _ = false

-- Limits

-- whether a statement is past a limit after so many
abbrev pub is_past_limit : Counts → Placed → Bool
is_past_limit before s =
    (is_item_statement s && nat_le MOST_ITEMS before.items)
    || (is_opcode_what s.what && nat_le MOST_OPCODES before.opcodes)
    || nat_lt MOST_WORDS (before.words + words_in s.what)
    || (is_thread_form s.what && nat_le MOST_STARTS before.starts)

-- limit reached: with this statement there are more than 2^20 items, opcodes or words of arrays, or more than 2^16 starting threads
abbrev pub limit_reached : List Placed → ℕ → Placed → Bool
limit_reached all place s = is_past_limit (counts_before all place) s

-- All rules

-- a test, and the rule that is broken where it holds
abbrev pub Tested : Type 0
Tested = Bool × LinkKind

abbrev pub first_broken : List Tested → Option LinkKind
first_broken [] = None
first_broken (tested ∷ more) = if tested.0 then Some tested.1 else first_broken more

abbrev pub symbol_rules : List ℕ → List Placed → ℕ → Placed → List Tested
symbol_rules file all place s =
    (duplicate_label file all place s, rule.DuplicateLabel) ∷
    (no_scope file all place s, rule.NoScope) ∷
    (unknown_symbol file all place s, rule.UnknownSymbol) ∷
    (wrong_kind file all place s, rule.WrongKind) ∷
    []

abbrev pub value_rules : List ℕ → List Placed → ℕ → What → List Tested
value_rules file all place w =
    (net_loop file all place w, rule.NetLoop) ∷
    (width_mismatch file all place w, rule.WidthMismatch) ∷
    (part_outside file all w, rule.PartOutside) ∷
    []

abbrev pub operand_rules : List ℕ → List Placed → Op Name → List Tested
operand_rules file all o =
    (register_range o, rule.RegisterRange) ∷
    (flag_range o, rule.FlagRange) ∷
    (immediate_width o, rule.ImmediateWidth) ∷
    (unknown_task o, rule.UnknownTask) ∷
    (bad_arguments file all o, rule.BadArguments) ∷
    []

-- what only opcodes break
abbrev pub opcode_rules : List ℕ → List Placed → What → List Tested
opcode_rules file all (what.Form f) = []
opcode_rules file all (what.Op o) = operand_rules file all o

abbrev pub code_rules : List ℕ → List Placed → What → List Tested
code_rules file all w = (no_code file all w, rule.NoCode) ∷ opcode_rules file all w

abbrev pub limit_rules : List Placed → ℕ → Placed → List Tested
limit_rules all place s = (limit_reached all place s, rule.LimitReached) ∷ []

-- the first rule that a statement breaks
unfoldable pub broken_rule : List ℕ → List Placed → ℕ → Placed → Option LinkKind
broken_rule file all place s =
    first_broken (symbol_rules file all place s ++ (value_rules file all place s.what ++ (code_rules file all s.what ++ limit_rules all place s)))

abbrev pub refusal_or : ℕ → Option LinkKind → Option (Refusal LinkKind) → Option (Refusal LinkKind)
refusal_or line (Some kind) later = Some (line, kind)
refusal_or line None later = later

abbrev pub refusal_from : List ℕ → List Placed → ℕ → List Placed → Option (Refusal LinkKind)
refusal_from file all place [] = None
refusal_from file all place (s ∷ after) = refusal_or s.line (broken_rule file all place s) (refusal_from file all (place + 1) after)

-- the line of the first statement in file order that breaks a rule, and the first rule that it breaks
unfoldable pub first_refusal : List ℕ → List Placed → Option (Refusal LinkKind)
first_refusal file all = refusal_from file all 0 all
