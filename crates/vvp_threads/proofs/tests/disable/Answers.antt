use Rattle.std.proofs.Common.{sym, subst}
use Rattle.vvp_threads.specs.Disable.{StandIn, disabled_serials}
use Rattle.vvp_threads.proofs.KeepLemmas.{stand-without}
use Rattle.vvp_threads.proofs.tests.disable.Goals as goal

pub returns-clause-scopes : goal.returns-clause-scopes
returns-clause-scopes g c =
    subst (λ v. StandIn c.args.scope_parents.now v.table.threads) (sym (c.disable.ensures.threads c.args.serial c.key-key.ensures))
    (stand-without c.args.scope_parents.now c.args.threads.now.table (disabled_serials c.args.threads.now.table c.args.serial c.args.scope_parents.now c.args.scope) c.requires.scopes)
