use Rattle.strengths.proofs.PlacesLemmas.{Shows-with}
use Rattle.strengths.proofs.places.Places.with.Goals as goal

pub returns : goal.returns
returns c width bits more_bits p q = Shows-with _ _ _ _ _ p q
