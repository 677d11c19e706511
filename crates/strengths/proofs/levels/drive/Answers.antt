use Rattle.std.proofs.Common.{◌∙◌}
use Rattle.strengths.proofs.PlacesLemmas.{map-shown}
use Rattle.strengths.proofs.levels.drive.Goals as goal

pub returns : goal.returns
returns c = c.driven.ensures ∙ map-shown c.args.s0 c.args.s1 _ _ c.args.v c.width-width.ensures.value c.of_bits.ensures
