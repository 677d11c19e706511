-- What linking keeps of the scopes that are current, and what it takes from how statements are spelled.
use Rattle.std.specs.Prelude.{◌≡◌, ℕ, ◌<◌, ◌≤◌, ℤ, ◌-ℤ◌, unsigned_abs, List, length, map, slice_get, slice_set, take, Option, Some, None}
use Rattle.std.specs.List.{All}
use Rattle.sym_link.specs.declared.placed.Placed.{Placed}
use Rattle.sym_link.specs.Meaning.{current_scope, gather, latest, scale_of, unit_in, unit_said}
use Rattle.sym_link.specs.Widths.{what_width}

-- the number of the scope that is current at each place of a file
pub record AreCurrents (file : List ℕ) (all : List Placed) (currents : List ℕ) : Type 0 where
  pub same : length currents ≡ length all
  pub each : (place : ℕ) → place < length all → slice_get currents place ≡ Some (current_scope file all place)

abbrev pub scope_or : ℕ → Option ℕ → ℕ
scope_or current None = current
scope_or current (Some scope) = scope

-- the widths that are spelled are those of vectors
abbrev pub AreFormed : List Placed → Type 0
AreFormed all = All (λ s. what_width s.what ≤ 128) all

abbrev pub UnitIsNear : ℤ → Option ℤ → Type 0
UnitIsNear precision None = Unit {0}
UnitIsNear precision (Some unit) = unsigned_abs (unit -ℤ precision) < 18

-- the units of time that are said are less than 18 powers of ten from the tick
abbrev pub AreNear : ℤ → List Placed → Type 0
AreNear precision all = (place : ℕ) (s : Placed) → slice_get all place ≡ Some s → UnitIsNear precision (unit_in s.what)

abbrev pub scaled : ℤ → ℕ → Option ℤ → List ℕ → List ℕ
scaled precision current None scales = scales
scaled precision current (Some unit) scales = slice_set scales current (scale_of precision unit)

-- the scale of a scope, by what is said in it before a place
abbrev pub scale_before : List ℕ → List Placed → ℤ → ℕ → ℕ → ℕ
scale_before file all precision scope place =
    latest 1 (map (scale_of precision) (gather (λ earlier s. unit_said file all scope earlier s.what) 0 (take place all)))
