use Rattle.std.proofs.Common.{sym, subst}
use Rattle.vvp_threads.specs.Disable.{StandIn}
use Rattle.vvp_threads.proofs.KeepLemmas.{stand-woken}
use Rattle.vvp_threads.proofs.tests.wake.Goals as goal

pub returns-clause-scopes : goal.returns-clause-scopes
returns-clause-scopes c parents stand =
    subst (λ v. StandIn parents v.table.threads) (sym c.wake_all.ensures.threads) (stand-woken parents c.args.threads.now.table 1 stand)
