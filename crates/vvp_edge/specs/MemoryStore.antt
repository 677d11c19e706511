-- What a store in memory keeps, and what its calls do to it.
use Rattle.std.specs.Prelude.{◌≡◌, ℕ, ◌≤◌, ◌==◌, ◌||◌, Bool, nat_lt, List, [], ◌∷◌, ◌++◌, reverse, option_map, is_some, length, ◌-◌, IsTrue, IsSome, vec_capacity}
use Rattle.std.specs.FinMap.{from_entries}
use Rattle.std.specs.declared.option.Option.{Option}
use Rattle.std.specs.declared.option.Option.TheVariants.{Some, None}
use Rattle.vvp_edge.specs.Files.{Files}
use Rattle.vvp_edge.specs.Counts.{CallsState, fails_next, next_call, also_failing}
use Rattle.vvp_edge.specs.declared.mem_files.NamedFile.{NamedFile}
use Rattle.vvp_edge.specs.declared.calls.CallKind.{CallKind}
use Rattle.vvp_edge.specs.declared.calls.CallKind.TheVariants.{OpenFile, Read, Create, Append}

-- the files of a list of entries, of which the first under a name counts
abbrev pub files_in : List (List ℕ × List ℕ) → Files
files_in = from_entries

-- a store in memory: the files that stand in it, the newest last, and the one that is written, the newest of all
pub record StoreState : Type 0 where
  pub kept : List (List ℕ × List ℕ)
  pub target : Option (List ℕ × List ℕ)
  pub reading : List ℕ
  -- how many more files may be created, and for how many bytes there is room
  pub creates_left : ℕ
  pub room : ℕ
  pub opens : CallsState
  pub reads : CallsState
  pub creates : CallsState
  pub appends : CallsState
  pub faults : ℕ

abbrev pub entries_of : List (List ℕ × List ℕ) → Option (List ℕ × List ℕ) → List (List ℕ × List ℕ)
entries_of kept None = reverse kept
entries_of kept (Some newest) = newest ∷ reverse kept

-- the files: of two under one name the newer counts
abbrev pub files_of : StoreState → Files
files_of store = files_in (entries_of store.kept store.target)

-- the name of the file that is written, if one is
abbrev pub target_name : StoreState → Option (List ℕ)
target_name store = option_map (λ entry. entry.0) store.target

-- as contracts see a file of the code's own
abbrev pub entry_of : NamedFile → List ℕ × List ℕ
entry_of file = (file.name.items, file.bytes.items)

-- an empty file with room for this many bytes in its name, and in itself
pub record IsSpare (room : ℕ) (file : NamedFile) : Type 0 where
  pub nameless : file.name.items ≡ []
  pub empty : file.bytes.items ≡ []
  pub name_room : room ≤ vec_capacity file.name
  pub byte_room : room ≤ vec_capacity file.bytes

-- the nth call of the kind fails too
abbrev pub told_to_fail : CallKind → ℕ → StoreState → StoreState
told_to_fail OpenFile nth store = record store { opens = also_failing nth store.opens }
told_to_fail Read nth store = record store { reads = also_failing nth store.reads }
told_to_fail Create nth store = record store { creates = also_failing nth store.creates }
told_to_fail Append nth store = record store { appends = also_failing nth store.appends }

-- the next creation of a file of this name fails
abbrev pub create_fails : StoreState → List ℕ → Bool
create_fails store name = (fails_next store.creates || nat_lt store.room (length name)) || (store.creates_left == 0)

-- the files with the one that was written before
abbrev pub kept_with : List (List ℕ × List ℕ) → Option (List ℕ × List ℕ) → List (List ℕ × List ℕ)
kept_with kept None = kept
kept_with kept (Some entry) = kept ++ entry ∷ []

-- the store after a file of this name was created, and after these bytes were added to the one that is written
abbrev pub after_create : StoreState → List ℕ → StoreState
after_create store name = record store {
  kept = kept_with store.kept store.target;
  target = Some (name, []);
  creates_left = store.creates_left - 1;
  room = store.room - length name;
  creates = next_call store.creates;
}

abbrev pub after_append : StoreState → List ℕ → StoreState
after_append store taken = record store {
  target = option_map (λ entry. (entry.0, entry.1 ++ taken)) store.target;
  room = store.room - length taken;
  appends = next_call store.appends;
}

-- the file that is written has a name
pub named_target : (target : Option (List ℕ × List ℕ)) → IsTrue (is_some target) → IsSome (option_map (λ entry. entry.0) target)
named_target None is = is
named_target (Some entry) is = is
