use Rattle.std.proofs.Common.{[], replicate, refl, sym, subst}
use Rattle.vvp_threads.proofs.KeptLemmas.{placed-none, threads-none, keys-none}
use Rattle.vvp_threads.proofs.SoundLemmas.{sound-none}
use Rattle.vvp_threads.specs.Runs.{HasRuns}
use Rattle.vvp_threads.proofs.CallRuns.{start-runs}
use Rattle.vvp_threads.proofs.threads.Threads.new.Goals as goal

pub invariant_of-result : goal.invariant_of-result
invariant_of-result c =
    rw (c.new-2.ensures, c.in_ok-new.ensures) (placed-none c.new.result c.new.ensures.empty, rw (threads-none c.new.result) (sound-none c.args.events 0))

pub returns-clause-table : goal.returns-clause-table
returns-clause-table c = rw (c.new-2.ensures, c.in_ok-new.ensures, threads-none c.new.result, keys-none) refl

pub returns-clause-runs : goal.returns-clause-runs
returns-clause-runs c besides schedule none room =
    subst (λ v. HasRuns v besides schedule) (sym (returns-clause-table c)) (start-runs (replicate c.args.events []) besides schedule none room)
