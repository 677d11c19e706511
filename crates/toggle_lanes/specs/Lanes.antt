-- Values as lanes: of each value bits 0 to 63 of its two planes, and, where it has so many places, bits 64 to 127.
use Rattle.std.specs.Prelude.{◌≡◌, ℕ, ◌+◌, ◌-◌, ◌/◌, ◌%◌, ◌^◌, ◌<◌, ◌≤◌, nat_lt, List, ◌∷◌, ◌++◌, length, map, sum_by, slice_index, slice_index_or, bit_and, bit_or, bit_xor}
use Rattle.std.specs.List.{filter, range_with_len}
use Rattle.std.specs.Int.RustNames.{count_ones}
use Rattle.std.specs.Simd.Lanes.{zip2}
use Rattle.four_state.specs.declared.bits.Bit.{Bit}
use Rattle.four_state.specs.Planes.{low_plane, high_plane}
use Rattle.vcd_read.specs.declared.types.Change.{Change}
use Rattle.vcd_read.specs.declared.types.Trace.{Trace}
use Rattle.toggle_lanes.specs.declared.lanes.Moves.{Moves}
use Rattle.toggle_lanes.specs.declared.lanes.NetLanes.{NetLanes}
use Rattle.toggle_lanes.specs.declared.rows.Row.{Row}
use Rattle.toggle_lanes.specs.Counts.{first_value, values_of}

-- the values of more than 64 places, which alone have bits from 64 on
abbrev pub above_64 : List (List Bit) → List (List Bit)
above_64 values = filter (λ value. nat_lt 64 (length value)) values

-- the lanes of these values: one a value for bits 0 to 63, one a value of more than 64 places for bits 64 to 127
abbrev pub lanes_of : List (List Bit) → NetLanes
lanes_of values = record {
  a_low = map (λ value. low_plane value % 2 ^ 64) values;
  a_high = map (λ value. low_plane value / 2 ^ 64) (above_64 values);
  b_low = map (λ value. high_plane value % 2 ^ 64) values;
  b_high = map (λ value. high_plane value / 2 ^ 64) (above_64 values);
}

-- lanes and, after them, those of more values
abbrev pub added : NetLanes → List (List Bit) → NetLanes
added lanes values = record {
  a_low = lanes.a_low ++ (lanes_of values).a_low;
  a_high = lanes.a_high ++ (lanes_of values).a_high;
  b_low = lanes.b_low ++ (lanes_of values).b_low;
  b_high = lanes.b_high ++ (lanes_of values).b_high;
}

-- each net's lanes, and after them those of the values that it takes in these changes
pub record AreFilled (old new : List NetLanes) (changes : List Change) : Type 0 where
  pub count : length new ≡ length old
  pub filled : (net : ℕ) (other : NetLanes) → net < length old → slice_index_or new net other ≡ added (slice_index_or old net other) (values_of changes net)

-- all values of a net, from the first that is all x on
abbrev pub all_values : Trace → ℕ → List (List Bit)
all_values trace net = first_value trace net ∷ values_of trace.changes net

-- the bits of x that y doesn't have
abbrev pub without : ℕ → ℕ → ℕ
without x y = bit_xor x (bit_and x y)

-- the bits that spell 1 by the first two planes and 0 by the other two
abbrev pub gained : ℕ → ℕ → ℕ → ℕ → ℕ
gained a b other_a other_b = without a (bit_or b (bit_or other_a other_b))

-- the same in each lane of vectors
abbrev pub gained_lanes : List ℕ → List ℕ → List ℕ → List ℕ → List ℕ
gained_lanes a b other_a other_b = zip2 bit_xor a (zip2 bit_and a (zip2 bit_or b (zip2 bit_or other_a other_b)))

-- how many bits rise from an entry to the next, and how many fall
abbrev pub rises_at : List ℕ → List ℕ → ℕ → ℕ
rises_at a b i = count_ones (gained (slice_index a (i + 1)) (slice_index b (i + 1)) (slice_index a i) (slice_index b i))

abbrev pub falls_at : List ℕ → List ℕ → ℕ → ℕ
falls_at a b i = count_ones (gained (slice_index a i) (slice_index b i) (slice_index a (i + 1)) (slice_index b (i + 1)))

-- the same over so many pairs
unfoldable pub lane_rises : List ℕ → List ℕ → ℕ → ℕ → ℕ
lane_rises a b from count = sum_by (rises_at a b) (range_with_len from count)

unfoldable pub lane_falls : List ℕ → List ℕ → ℕ → ℕ → ℕ
lane_falls a b from count = sum_by (falls_at a b) (range_with_len from count)

-- how often the places of a net move
abbrev pub moves_of : NetLanes → Moves
moves_of lanes = record {
  rises = lane_rises lanes.a_low lanes.b_low 0 (length lanes.a_low - 1) + lane_rises lanes.a_high lanes.b_high 0 (length lanes.a_high - 1);
  falls = lane_falls lanes.a_low lanes.b_low 0 (length lanes.a_low - 1) + lane_falls lanes.a_high lanes.b_high 0 (length lanes.a_high - 1);
}

abbrev pub no_moves : Moves
no_moves = record { rises = 0; falls = 0 }

-- lists in step, of no more values than can be counted in 64 bits
pub record IsCountable (lanes : NetLanes) : Type 0 where
  pub low : length lanes.b_low ≡ length lanes.a_low
  pub high : length lanes.b_high ≡ length lanes.a_high
  pub few_low : length lanes.a_low ≤ 2 ^ 56 + 1
  pub few_high : length lanes.a_high ≤ 2 ^ 56 + 1

-- the row of a variable whose net moves so often
abbrev pub row_with : ℕ → Moves → Row
row_with var moves = record { var = var; rises = moves.rises; falls = moves.falls }
