use Rattle.strengths.proofs.Shown.{shows_ends}
use Rattle.strengths.proofs.levels.Vec8.places.Goals as goal

pub returns : goal.returns
returns c = shows_ends _ _ _ _ c.self.view_is c.self.invariant
