use Rattle.std.proofs.Common.{rules}
use Rattle.strengths.proofs.PlacesLemmas.{Shows-planes}
use Rattle.strengths.proofs.places.Places.of_bits.Goals as goal

pub returns : goal.returns
returns c = Shows-planes _ _ c.args.v c.planes-low.ensures.spells c.requires (search rules) (search rules)
