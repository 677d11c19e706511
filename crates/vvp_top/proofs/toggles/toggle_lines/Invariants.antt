use Rattle.std.proofs.Common.{◌≡◌, take}
use Rattle.vvp_top.specs.Toggles.{toggle_lines}
use Rattle.vvp_top.proofs.toggles.toggle_lines.Given as goal

abbrev pub invariant-loop-i : goal.invariant-loop-i
invariant-loop-i l = l.text.items ≡ toggle_lines (take l.i l.vars) (take l.i l.rows)
