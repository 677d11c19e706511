-- What holds of the tasks between calls.
use Rattle.std.specs.Prelude.{◌≡◌, ℕ, ◌<◌, ◌≤◌, ◌≤ℤ◌, ℤ, pos, negsuc, IsTrue, Bool, true, nat_lt, ◌&&◌, Option, Some, None, List, length, map, slice_get}
use Rattle.std.specs.List.{AllPass, list_all}
use Rattle.std.specs.Option.{option_map_or}
use Rattle.four_state.specs.declared.bits.Bit.{Bit}
use Rattle.sym_link.specs.declared.program.ScopeRow.{ScopeRow}
use Rattle.sys_tasks.specs.declared.place.Here.{Here}
use Rattle.vcd_write.specs.Header.{AreNested, size}
use Rattle.sys_tasks.specs.declared.design.Entry.{Entry}
use Rattle.sys_tasks.specs.declared.state.Call.{Call}
use Rattle.sys_tasks.specs.declared.state.TaskState.{TaskState}
use Rattle.sys_tasks.specs.declared.writer.Writer.{Writer}
use Rattle.sys_tasks.specs.Conditions.{has_own_value, is_shown}
use Rattle.sys_tasks.specs.Tasks.{called_args}
use Rattle.sys_tasks.specs.Design.{is_dumpable_kind, place_of, root_in, root_of, width_of}
use Rattle.sys_tasks.specs.Dumped.{dump_item, dump_scope, kind_of}

-- the place is that of the scope, where there is one
pub record IsHere (scopes : List ScopeRow) (here : Here) : Type 0 where
  pub at : (scope : ℕ) → here.scope ≡ Some scope → here.place ≡ place_of scopes scope

-- the scale of each scope is at least one tick
abbrev pub HasScales : List ScopeRow → Type 0
HasScales scopes = AllPass (λ (row : ScopeRow). nat_lt 0 row.scale) scopes

-- An item that may be dumped stands in a scope. Its range is as wide as the value that it has, its own or that of its root.
pub record IsDumpable (entries : List Entry) (scopes : List ScopeRow) (item : ℕ) (e : Entry) : Type 0 where
  pub scope : e.scope < length scopes
  pub root : IsTrue (has_own_value (kind_of entries (root_in e.what item)))
  pub as_wide : size (dump_item e) ≡ width_of entries (root_in e.what item)
  pub least : 1 ≤ size (dump_item e)
  pub most : size (dump_item e) ≤ 128

-- what a dump needs of a program: its time unit, its scopes and the items that may be dumped
pub record CanDump (entries : List Entry) (scopes : List ScopeRow) (precision : ℤ) : Type 0 where
  pub few : length entries ≤ 1048576
  pub least : negsuc 14 ≤ℤ precision
  pub most : precision ≤ℤ pos 2
  pub nested : AreNested 0 (map dump_scope scopes)
  pub each : (item : ℕ) (e : Entry) → slice_get entries item ≡ Some e → IsTrue (is_dumpable_kind e.what) → IsDumpable entries scopes item e

-- a call that was kept prints what its arguments show, in a scope of the program
abbrev pub fits_call : List Entry → List ScopeRow → Call → Bool
fits_call entries scopes call = nat_lt call.scope (length scopes) && list_all (is_shown entries call.kept) (called_args call.op)

-- the items of a dump: some of those that may be dumped
pub record AreChosen (entries : List Entry) (chosen : List ℕ) : Type 0 where
  pub few : length chosen ≤ length entries
  pub each : list_all (λ item. is_dumpable_kind (kind_of entries item)) chosen ≡ true

-- the roots of the chosen items, with a value for each, of its width, as it was written last, and room for one now
pub record IsWriting (entries : List Entry) (chosen roots : List ℕ) (last values : List (List Bit)) : Type 0 where
  pub are_roots : roots ≡ map (root_of entries) chosen
  pub last_widths : map length last ≡ map (width_of entries) roots
  pub value_widths : map length values ≡ map (width_of entries) roots

-- a dump is written from its header on
abbrev pub MayWrite : List Entry → TaskState → Option Writer → Type 0
MayWrite entries state None = state.dumping < 2
MayWrite entries state (Some w) = (state.dumping ≡ 2) × IsWriting entries state.chosen w.roots.items w.dump w.values

-- what the tasks keep of a program
pub record IsSound (entries : List Entry) (scopes : List ScopeRow) (precision : ℤ) (last : Here) (state : TaskState) (writer : Option Writer) : Type 0 where
  pub here : IsHere scopes last
  pub scales : HasScales scopes
  pub can_dump : CanDump entries scopes precision
  pub strobes : list_all (fits_call entries scopes) state.strobes ≡ true
  pub monitor : option_map_or (fits_call entries scopes) state.monitor true ≡ true
  pub chosen : AreChosen entries state.chosen
  pub writing : MayWrite entries state writer
