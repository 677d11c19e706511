-- What a store that lends one file tells.
use Rattle.std.specs.Prelude.{ℕ, Bool, true, false, List, [], ◌∷◌, if◌then◌else◌, IsTrue, IsSome, Option, Some, None}
use Rattle.vvp_edge.specs.Files.{Files}
use Rattle.vvp_edge.specs.MemoryStore.{files_in}

-- the file that it lends, what of it is still to be read, and whether a file is being written
pub record LentState : Type 0 where
  pub name : List ℕ
  pub bytes : List ℕ
  pub reading : List ℕ
  pub writing : Bool

-- the file that it lends, alone
abbrev pub lent_files : LentState → Files
lent_files store = files_in ((store.name, store.bytes) ∷ [])

-- the files, until one is created
abbrev pub told_files : LentState → Option Files
told_files store = if store.writing then None else Some (lent_files store)

told_by : (writing : Bool) (files : Files) → IsSome (if writing then None else Some files) → IsTrue writing → IsSome (let none : Option (List ℕ) = None in none)
told_by true files told is = told
told_by false files told is = is

-- where a file is written the files aren't told
pub nothing_told : (store : LentState) → IsSome (told_files store) → IsTrue store.writing → IsSome (let none : Option (List ℕ) = None in none)
nothing_told store = told_by store.writing (lent_files store)
