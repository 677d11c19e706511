-- The files of a store, by their names.
use Rattle.std.specs.Prelude.{ℕ, List, ◌++◌}
use Rattle.std.specs.Ordering.{nat_cmp}
use Rattle.std.specs.Cmp.Lexicographic.{slice_cmp}
use Rattle.std.specs.FinMap.{FinMap, get, insert}
use Rattle.std.specs.Option.{option_map_or}
use Rattle.std.specs.declared.option.Option.{Option}
use Rattle.std.specs.declared.option.Option.TheVariants.{Some, None}

-- the bytes of each file, by its name
abbrev pub Files : Type 0
Files = FinMap (slice_cmp nat_cmp) (List ℕ)

-- the files after these bytes were added at the end of one of them
unfoldable pub with_appended : Files → List ℕ → List ℕ → Files
with_appended files name bytes = option_map_or (λ held. insert files name (held ++ bytes)) (get files name) files

-- the same, where the files and the name of the one that is written are told
abbrev pub appended : Option Files → Option (List ℕ) → List ℕ → Option Files
appended (Some files) (Some name) bytes = Some (with_appended files name bytes)
appended (Some files) None bytes = None
appended None target bytes = None
