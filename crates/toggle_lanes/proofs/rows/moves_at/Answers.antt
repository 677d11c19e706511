use Rattle.toggle_lanes.proofs.FillLemmas.{get_or-any}
use Rattle.toggle_lanes.proofs.rows.moves_at.Goals as goal

pub returns : goal.returns
returns c = λ none. get_or-any c.args.counts.now c.args.net none _ c.requires
