-- The map in which the codes of nets are found.
use Rattle.std.specs.Prelude.{◌≡◌, ℕ, List, position}
use Rattle.std.specs.BTreeMap.{BTreeMap, get_by}
use Rattle.std.specs.Cmp.Lexicographic.{slice_cmp}
use Rattle.std.specs.Ordering.{nat_cmp}
use Rattle.std.specs.Str.{bytes_eq}
use denote.Ref.{Bor}

-- the map has each code at its place in the list, and no other
abbrev pub AreFound : List (List ℕ) → BTreeMap (Bor (List ℕ)) ℕ → Type 0
AreFound codes nets =
    (code : List ℕ) → get_by (λ key. slice_cmp nat_cmp code key.now) nets ≡ position (bytes_eq code) codes
