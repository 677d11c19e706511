-- What a call of a task or a function may rely on: what the linker has tested, and what the values answer for.
use Rattle.std.specs.Prelude.{◌≡◌, ℕ, ◌<◌, Bool, true, false, ◌==◌, nat_lt, nat_le, ◌&&◌, ◌||◌, List, [], ◌∷◌, ◌++◌, length, Some, slice_get, slice_index_or, IsTrue}
use Rattle.std.specs.List.{list_all}
use Rattle.std.specs.Option.{option_map_or}
use Rattle.four_state.specs.declared.bits.Bit.{Bit}
use Rattle.vvp_ops.specs.declared.op.Op.{Op}
use Rattle.vvp_ops.specs.declared.op.Op.TheVariants as o
use Rattle.vvp_ops.specs.declared.args.Arg.{Arg}
use Rattle.vvp_ops.specs.declared.args.Arg.TheVariants as arg
use Rattle.sys_tasks.specs.declared.names.Task.{Task}
use Rattle.sys_tasks.specs.declared.names.Task.TheVariants as task
use Rattle.sys_tasks.specs.declared.names.Function.{Function}
use Rattle.sys_tasks.specs.declared.names.Function.TheVariants as function
use Rattle.sys_tasks.specs.declared.design.Entry.{Entry}
use Rattle.sys_tasks.specs.declared.design.EntryKind.{EntryKind}
use Rattle.sys_tasks.specs.declared.design.EntryKind.TheVariants as entry
use Rattle.sys_tasks.specs.Names.{task_of, function_of}
use Rattle.sys_tasks.specs.Design.{Design, width_of, words_in}
use Rattle.sys_tasks.specs.Arguments.{value_in}
use Rattle.sys_tasks.specs.Dumped.{kind_of}

-- the values answer for each item that holds one, with as many words as it has, each of its width
pub record Answers (entries : List Entry) (words : ℕ → List (List Bit)) : Type 0 where
  pub counts : (item : ℕ) → item < length entries → length (words item) ≡ words_in (kind_of entries item)
  pub widths : (item index : ℕ) (word : List Bit) → item < length entries → slice_get (words item) index ≡ Some word → length word ≡ width_of entries item

-- a variable, a gate or a net delay: what holds a value of its own
abbrev pub has_own_value : EntryKind → Bool
has_own_value (entry.Var integer dumpable) = true
has_own_value (entry.Net root dumpable) = false
has_own_value entry.Unnamed = true
has_own_value (entry.Array words) = false
has_own_value (entry.Scope scope) = false
has_own_value entry.Other = false

-- a plane has a place for each item, with the same values for those that hold one of their own
pub record HoldsValues (entries : List Entry) (words : ℕ → List (List Bit)) (plane : List (List Bit)) : Type 0 where
  pub places : length plane ≡ length entries
  pub values : (item : ℕ) → IsTrue (has_own_value (kind_of entries item)) → slice_index_or plane item [] ≡ value_in words item

-- a plane has a place for each item, as wide as the item where it holds a value of its own
pub record HasWidths (entries : List Entry) (plane : List (List Bit)) : Type 0 where
  pub places : length plane ≡ length entries
  pub widths : (item : ℕ) → IsTrue (has_own_value (kind_of entries item)) → length (slice_index_or plane item []) ≡ width_of entries item

-- Arguments

-- a variable, a net, a gate or a net delay
abbrev pub holds_value : EntryKind → Bool
holds_value (entry.Var integer dumpable) = true
holds_value (entry.Net root dumpable) = true
holds_value entry.Unnamed = true
holds_value (entry.Array words) = false
holds_value (entry.Scope scope) = false
holds_value entry.Other = false

abbrev pub is_array : EntryKind → Bool
is_array (entry.Array words) = nat_lt 0 words
is_array kind = false

abbrev pub is_width : ℕ → Bool
is_width width = nat_lt 0 width && nat_le width 128

-- an argument that has a value: a symbol of an item that holds one, a stack item with its width, a word of an array, a part of an item
abbrev pub is_value : List Entry → List (List Bit) → Arg ℕ → Bool
is_value entries kept (arg.Text bytes) = false
is_value entries kept (arg.Based value signed) = true
is_value entries kept (arg.Symbol item) = holds_value (kind_of entries item)
is_value entries kept arg.Time = true
is_value entries kept arg.ShortTime = true
is_value entries kept arg.SimTime = true
is_value entries kept (arg.Stack place width signed) = nat_lt place (length kept) && (length (slice_index_or kept place []) == width)
is_value entries kept (arg.Word array index) = is_array (kind_of entries array) && is_width (width_of entries array)
is_value entries kept (arg.Part item base width) = holds_value (kind_of entries item) && is_width width

abbrev pub is_text : Arg ℕ → Bool
is_text (arg.Text bytes) = true
is_text other = false

-- what a task that prints takes: texts and values
abbrev pub is_shown : List Entry → List (List Bit) → Arg ℕ → Bool
is_shown entries kept a = is_text a || is_value entries kept a

-- Conditions

abbrev pub takes_by : Task → List Entry → List (List Bit) → List (Arg ℕ) → Bool
takes_by task.Display entries kept args = list_all (is_shown entries kept) args
takes_by task.Write entries kept args = list_all (is_shown entries kept) args
takes_by task.Strobe entries kept args = list_all (is_shown entries kept) args
takes_by task.Monitor entries kept args = list_all (is_shown entries kept) args
takes_by other entries kept args = true

-- A call of a task of the program, in one of its scopes, with the items that it pops, the top first. Of the tasks that print
-- nothing it is only said that they are tasks.
unfoldable pub is_task_call : Design → ℕ → List (List Bit) → Op ℕ → Bool
is_task_call design scope kept (o.CallTask file line name args pops) =
    nat_lt scope (length design.scopes) && ((length kept == pops)
    && option_map_or (λ t. takes_by t design.entries kept args) (task_of name) false)
is_task_call design scope kept op = false

abbrev pub function_takes : Function → List Entry → List (List Bit) → List (Arg ℕ) → Bool
function_takes function.Logarithm entries kept (a ∷ []) = is_value entries kept a
function_takes function.Logarithm entries kept args = false
function_takes other entries kept [] = true
function_takes other entries kept args = false

-- a call of a function of the program: none has arguments but `$clog2`, which has one value
unfoldable pub is_function_call : Design → ℕ → List (List Bit) → Op ℕ → Bool
is_function_call design scope kept (o.CallFunction file line name width args pops) =
    nat_lt scope (length design.scopes) && ((length kept == pops)
    && option_map_or (λ f. function_takes f design.entries kept args) (function_of name) false)
is_function_call design scope kept op = false

-- a text goes on from the first, and the last goes on from it
pub record IsBetween (first last text : List ℕ) : Type 0 where
  pub part : List ℕ
  pub rest : List ℕ
  pub after_first : text ≡ first ++ part
  pub before_last : last ≡ text ++ rest
