-- The plain count: how many places go from 0 to 1, and from 1 to 0, over the neighbouring values of a net.
use Rattle.std.specs.Prelude.{ℕ, ◌+◌, Bool, true, false, ◌==◌, List, [], ◌∷◌, map, count_by, replicate, slice_index}
use Rattle.std.specs.List.{filter, zip, enumerate_from}
use Rattle.four_state.specs.declared.bits.Bit.{Bit}
use Rattle.four_state.specs.declared.bits.Bit.TheVariants.{Zero, One, Unknown}
use Rattle.vcd_read.specs.declared.types.Change.{Change}
use Rattle.vcd_read.specs.declared.types.Trace.{Trace}
use Rattle.toggle_lanes.specs.declared.rows.Row.{Row}

abbrev pub is_rise : Bit → Bit → Bool
is_rise Zero One = true
is_rise _ _ = false

abbrev pub is_fall : Bit → Bit → Bool
is_fall One Zero = true
is_fall _ _ = false

-- how many places move so from one value to another
abbrev pub places_that : (Bit → Bit → Bool) → List Bit → List Bit → ℕ
places_that moves old new = count_by (λ pair. moves pair.0 pair.1) (zip old new)

-- the same from a value to the next, and so on over all that follow it
abbrev pub moves_from : (Bit → Bit → Bool) → List Bit → List (List Bit) → ℕ
moves_from moves old [] = 0
moves_from moves old (new ∷ values) = places_that moves old new + moves_from moves new values

-- the values that a net takes, in order
abbrev pub values_of : List Change → ℕ → List (List Bit)
values_of changes net = map (λ change. change.value) (filter (λ change. change.net == net) changes)

-- before them all its places are x
abbrev pub first_value : Trace → ℕ → List Bit
first_value trace net = replicate (slice_index trace.widths net) Unknown

abbrev pub row_of : Trace → ℕ → ℕ → Row
row_of trace var net = record {
  var = var;
  rises = moves_from is_rise (first_value trace net) (values_of trace.changes net);
  falls = moves_from is_fall (first_value trace net) (values_of trace.changes net);
}

-- a row for each variable, in order
unfoldable pub rows_of : Trace → List Row
rows_of trace = map (λ numbered. row_of trace numbered.0 numbered.1.net) (enumerate_from 0 trace.vars)
