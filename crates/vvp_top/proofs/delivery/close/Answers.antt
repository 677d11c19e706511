use Rattle.vvp_top.specs.Delivery.{same_machine}
use Rattle.vvp_top.proofs.GoesLemmas.{goes-err, goes-ok}
use Rattle.vvp_top.proofs.delivery.close.Goals as goal

pub returns-in-Err-clause-goes : goal.returns-in-Err-clause-goes
returns-in-Err-clause-goes g c = goes-err same_machine c.in-Err.fault _ _ c.in-Err.ensures.goes

pub returns-in-Ok-clause-goes : goal.returns-in-Ok-clause-goes
returns-in-Ok-clause-goes g c = goes-ok same_machine _ _ _ _ c.in-Ok.ensures.goes
