-- The places at which two lists of vectors differ.
use Rattle.std.specs.Prelude.{ℕ, not, List, [], length, filter, slice_index_or}
use Rattle.std.specs.List.{range_with_len}
use Rattle.four_state.specs.declared.bits.Bit.{Bit}
use Rattle.four_state.specs.Same.{is_same}

-- the places whose vectors differ, rising
unfoldable pub differing_places : List (List Bit) → List (List Bit) → List ℕ
differing_places old new = filter (λ place. not (is_same (slice_index_or old place []) (slice_index_or new place []))) (range_with_len 0 (length old))
