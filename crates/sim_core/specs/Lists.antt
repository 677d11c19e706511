-- How the lists of a snapshot are kept.
use Rattle.std.specs.Prelude.{Option, List, [], unwrap_or}
use Rattle.strengths.specs.Interval.{Interval}

-- these levels, or the empty list where there are none
abbrev pub levels_or_none : Option (List Interval) → List Interval
levels_or_none levels = unwrap_or levels []
