use Rattle.std.proofs.Common.{sym, subst}
use Rattle.vvp_threads.specs.Disable.{StandIn}
use Rattle.vvp_threads.proofs.KeepLemmas.{stand-joins_on}
use Rattle.vvp_threads.proofs.tests.join.Goals as goal

pub returns-clause-scopes : goal.returns-clause-scopes
returns-clause-scopes g c parents stand =
    subst (λ v. StandIn parents v.table.threads) (sym (c.join_on.ensures.table c.args.serial c.key-key.ensures)) (stand-joins_on parents c.args.threads.now.table c.args.serial c.args.child stand)
