-- Intervals that are the same.
use Rattle.std.specs.Prelude.{Bool}
use Rattle.std.specs.Cmp.{IsEquivalence, on_equiv, and_equiv, int_eq_equiv}
use Rattle.std.specs.Ordering.{on, eq_of_both, int_eq}
use Rattle.strengths.specs.Interval.{Interval}

-- the same ends
abbrev pub same_interval : Interval → Interval → Bool
same_interval = eq_of_both (on (λ level. level.lo) int_eq) (on (λ level. level.hi) int_eq)

pub same_interval_equiv : IsEquivalence same_interval
same_interval_equiv = and_equiv (on_equiv (λ (level : Interval). level.lo) int_eq_equiv) (on_equiv (λ (level : Interval). level.hi) int_eq_equiv)
