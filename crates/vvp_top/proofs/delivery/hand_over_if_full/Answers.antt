use Rattle.vvp_top.proofs.GoesLemmas.{goes-none}
use Rattle.vvp_top.proofs.delivery.hand_over_if_full.Goals as goal

pub returns-clause-goes : goal.returns-clause-goes
returns-clause-goes g c = goes-none tt _ c.requires
