-- The report on a dump: how often its variables rise and fall.
use Rattle.std.specs.Prelude.{List, [], ℕ, ◌++◌, codes, decimal, Option, Some, None}
use Rattle.std.specs.List.{flat_map, zip}
use Rattle.vcd_read.specs.declared.types.Trace.{Trace}
use Rattle.vcd_read.specs.declared.types.VcdVar.{VcdVar}
use Rattle.toggle_lanes.specs.declared.rows.Row.{Row}
use Rattle.toggle_lanes.specs.Counts.{rows_of}

-- the line of a variable: its path, how often its places rise, and how often they fall
abbrev pub toggle_line : VcdVar → Row → List ℕ
toggle_line var row = var.path ++ (codes " " ++ (decimal row.rises ++ (codes " " ++ (decimal row.falls ++ codes "\n"))))

-- the lines of variables with these rows, in order
unfoldable pub toggle_lines : List VcdVar → List Row → List ℕ
toggle_lines vars rows = flat_map (λ pair. toggle_line pair.0 pair.1) (zip vars rows)

-- the report on what a dump says: a line for each variable
abbrev pub toggle_text : Trace → List ℕ
toggle_text trace = toggle_lines trace.vars (rows_of trace)

-- the same, where there is a dump
abbrev pub own_text : Option Trace → List ℕ
own_text None = []
own_text (Some trace) = toggle_text trace
