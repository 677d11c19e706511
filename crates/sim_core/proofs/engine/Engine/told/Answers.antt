use Rattle.std.proofs.Common.{refl}
use Rattle.sim_core.proofs.engine.Engine.told.Goals as goal

pub returns-in-Going-clause-ok : goal.returns-in-Going-clause-ok
returns-in-Going-clause-ok g c = rw c.in-Going.is refl

pub returns-in-Finish-clause-ok : goal.returns-in-Finish-clause-ok
returns-in-Finish-clause-ok g c = rw c.in-Finish.is c.finish.ensures.ok

pub returns-in-Stop-clause-ok : goal.returns-in-Stop-clause-ok
returns-in-Stop-clause-ok g c = rw c.in-Stop.is c.finish-in-Stop.ensures.ok
