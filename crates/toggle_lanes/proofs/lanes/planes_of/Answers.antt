use Rattle.std.proofs.Common.{◌∙◌, sym, ap, length}
use Rattle.four_state.specs.Planes.{low_plane, high_plane}
use Rattle.four_state.specs.PlaneLemmas.{low_plane-places, high_plane-places}
use Rattle.toggle_lanes.proofs.lanes.planes_of.Goals as goal

pub returns-clause-low : goal.returns-clause-low
returns-clause-low c = sym (low_plane-places (length c.args.value) c.planes.result.0 c.planes.result.1 c.planes.ensures.low) ∙ ap low_plane c.planes.ensures.spells

pub returns-clause-high : goal.returns-clause-high
returns-clause-high c = sym (high_plane-places (length c.args.value) c.planes.result.0 c.planes.result.1 c.planes.ensures.high) ∙ ap high_plane c.planes.ensures.spells
