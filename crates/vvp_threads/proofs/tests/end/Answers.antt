use Rattle.std.proofs.Common.{[], ◌∷◌, sym, subst}
use Rattle.vvp_threads.specs.Disable.{StandIn}
use Rattle.vvp_threads.proofs.KeepLemmas.{stand-without}
use Rattle.vvp_threads.proofs.tests.end.Goals as goal

pub returns-clause-scopes : goal.returns-clause-scopes
returns-clause-scopes g c parents stand =
    subst (λ v. StandIn parents v.table.threads) (sym (c.end.ensures.threads c.args.serial c.key-key.ensures)) (stand-without parents c.args.threads.now.table (c.args.serial ∷ []) stand)
