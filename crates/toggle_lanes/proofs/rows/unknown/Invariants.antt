use Rattle.std.proofs.Common.{◌≡◌, take, map, replicate, [], ◌∷◌}
use Rattle.four_state.specs.declared.bits.Bit.TheVariants.{Unknown}
use Rattle.toggle_lanes.specs.Lanes.{lanes_of}
use Rattle.toggle_lanes.proofs.rows.unknown.Given as goal

abbrev pub invariant-loop-width : goal.invariant-loop-width
invariant-loop-width l = l.nets.items ≡ map (λ width. lanes_of (replicate width Unknown ∷ [])) (take l.width-index l.widths)
