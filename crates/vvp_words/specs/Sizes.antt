-- The range of a workload's size.
use Rattle.std.specs.Prelude.{◌≤◌}
use Rattle.vvp_words.specs.declared.entries.Work.{Work}
use Rattle.vvp_words.specs.declared.entries.Work.TheVariants.{File, Workload, Toggles, Activity}

-- the size of a workload is from 1 to 2,000
abbrev pub IsSized : Work → Type 0
IsSized (File name) = Unit {0}
IsSized (Workload size) = (1 ≤ size) × (size ≤ 2000)
IsSized (Toggles name) = Unit {0}
IsSized (Activity name) = Unit {0}
