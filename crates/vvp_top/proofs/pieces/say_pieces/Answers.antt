use Rattle.vvp_top.proofs.SayLemmas.{says-any}
use Rattle.vvp_top.proofs.pieces.say_pieces.Goals as goal

pub returns : goal.returns
returns g c = says-any c.try_say-said.result _ _ _ _ _ c.try_say-said.ensures.said
