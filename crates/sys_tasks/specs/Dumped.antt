-- What is dumped (IEEE 1364-2005, 18.1.2), and what the header says of it.
use Rattle.std.specs.Prelude.{ℕ, Bool, true, false, ◌==◌, nat_lt, nat_le, ◌||◌, ◌&&◌, Option, Some, None, List, [], ◌∷◌, length, map, filter, filter_map, option_map, slice_get, slice_index_or, position, unwrap_or, if◌then◌else◌}
use Rattle.std.specs.List.{range_with_len, list_any}
use Rattle.std.specs.Option.{option_map_or}
use Rattle.four_state.specs.declared.bits.Bit.{Bit}
use Rattle.four_state.specs.Vector.{known_number}
use Rattle.vvp_forms.specs.declared.form.ScopeKind.{ScopeKind}
use Rattle.vvp_forms.specs.declared.form.ScopeKind.TheVariants as scope_kind
use Rattle.sym_link.specs.declared.program.ScopeRow.{ScopeRow}
use Rattle.vvp_ops.specs.declared.args.Arg.{Arg}
use Rattle.vvp_ops.specs.declared.args.Arg.TheVariants as arg
use Rattle.vcd_write.specs.declared.types.DumpScope.{DumpScope}
use Rattle.vcd_write.specs.declared.types.DumpItem.{DumpItem}
use Rattle.vcd_write.specs.declared.types.ScopeWord.{ScopeWord}
use Rattle.vcd_write.specs.declared.types.ScopeWord.TheVariants as scope_word
use Rattle.vcd_write.specs.declared.types.VarWord.{VarWord}
use Rattle.vcd_write.specs.declared.types.VarWord.TheVariants as var_word
use Rattle.sys_tasks.specs.declared.design.Entry.{Entry}
use Rattle.sys_tasks.specs.declared.design.EntryKind.{EntryKind}
use Rattle.sys_tasks.specs.declared.design.EntryKind.TheVariants as entry
use Rattle.sys_tasks.specs.Design.{Design, lineages, is_dumpable_kind, root_of}
use Rattle.sys_tasks.specs.Arguments.{value_in}

-- Choosing

-- Whether a scope's lineage has another scope, at most so many levels below it; the other one is the first level. 0 is any
-- number of levels.
abbrev pub is_within : ℕ → List ℕ → ℕ → Bool
is_within depth lineage scope = option_map_or (λ k. depth == 0 || nat_lt k depth) (position (λ s. s == scope) lineage) false

-- whether a scope is one of so many levels from its root scope on
abbrev pub is_within_root : ℕ → List ℕ → Bool
is_within_root depth lineage = depth == 0 || nat_le (length lineage) depth

abbrev pub kind_of : List Entry → ℕ → EntryKind
kind_of entries item = option_map_or (λ (e : Entry). e.what) (slice_get entries item) entry.Other

-- the scope that a symbol names, where it names one
abbrev pub scope_in : EntryKind → Option ℕ
scope_in (entry.Scope scope) = Some scope
scope_in kind = None

abbrev pub scope_at : List Entry → ℕ → Option ℕ
scope_at entries target = scope_in (kind_of entries target)

-- whether an item, with the lineage of its scope, is below a scope that a symbol names, or is the item that it names
abbrev pub is_named : List Entry → ℕ → List ℕ → ℕ → Arg ℕ → Bool
is_named entries depth lineage item (arg.Symbol target) = option_map_or (is_within depth lineage) (scope_at entries target) (item == target)
is_named entries depth lineage item other = false

-- the depth is the number of the first argument, which is known
abbrev pub depth_of : Arg ℕ → ℕ
depth_of (arg.Based value signed) = unwrap_or (known_number value) 0
depth_of other = 0

-- whether the root scopes to a depth have an item, where there is no target, or one of the targets has it
abbrev pub is_among : List Entry → ℕ → List ℕ → ℕ → List (Arg ℕ) → Bool
is_among entries depth lineage item [] = is_within_root depth lineage
is_among entries depth lineage item (target ∷ targets) = list_any (is_named entries depth lineage item) (target ∷ targets)

-- whether `$dumpvars` with these arguments chooses an item, by the lineage of the item's scope
abbrev pub is_chosen_by : List Entry → List ℕ → ℕ → List (Arg ℕ) → Bool
is_chosen_by entries lineage item [] = true
is_chosen_by entries lineage item (depth ∷ targets) = is_among entries (depth_of depth) lineage item targets

abbrev pub lineage_of : List Entry → List ScopeRow → ℕ → List ℕ
lineage_of entries scopes item = option_map_or (λ (e : Entry). slice_index_or (lineages scopes) e.scope []) (slice_get entries item) []

abbrev pub is_chosen : List Entry → List ScopeRow → List (Arg ℕ) → ℕ → Bool
is_chosen entries scopes args item = is_dumpable_kind (kind_of entries item) && is_chosen_by entries (lineage_of entries scopes item) item args

-- the items chosen before and now, rising
unfoldable pub chosen_in : List Entry → List ScopeRow → List (Arg ℕ) → List ℕ → List ℕ
chosen_in entries scopes args chosen = filter (λ item. list_any (λ k. k == item) chosen || is_chosen entries scopes args item) (range_with_len 0 (length entries))

abbrev pub chosen_with : Design → List (Arg ℕ) → List ℕ → List ℕ
chosen_with design args chosen = chosen_in design.entries design.scopes args chosen

-- The header

abbrev pub scope_word_of : ScopeKind → ScopeWord
scope_word_of scope_kind.Module = scope_word.Module
scope_word_of scope_kind.Task = scope_word.Task
scope_word_of scope_kind.Begin = scope_word.Begin
scope_word_of scope_kind.Fork = scope_word.Fork
scope_word_of scope_kind.Generate = scope_word.Begin
scope_word_of scope_kind.Package = scope_word.Module

abbrev pub dump_scope : ScopeRow → DumpScope
dump_scope row = record { word = scope_word_of row.kind; name = row.name; parent = row.parent }

abbrev pub dump_scopes : Design → List DumpScope
dump_scopes design = map dump_scope design.scopes

abbrev pub var_word_of : EntryKind → VarWord
var_word_of (entry.Var integer dumpable) = if integer then var_word.Integer else var_word.Reg
var_word_of kind = var_word.Wire

abbrev pub dump_item : Entry → DumpItem
dump_item e = record { word = var_word_of e.what; name = e.name; scope = e.scope; msb = e.msb; lsb = e.lsb }

unfoldable pub dump_items_of : List Entry → List ℕ → List DumpItem
dump_items_of entries chosen = filter_map (λ item. option_map dump_item (slice_get entries item)) chosen

abbrev pub dump_items : Design → List ℕ → List DumpItem
dump_items design chosen = dump_items_of design.entries chosen

-- the values of the dumped items now, a net's at its root
unfoldable pub dumped_values : Design → (ℕ → List (List Bit)) → List ℕ → List (List Bit)
dumped_values design words chosen = map (λ item. value_in words (root_of design.entries item)) chosen
