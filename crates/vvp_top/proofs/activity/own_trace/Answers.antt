use Rattle.std.proofs.Common.{◌≡◌, Option, true, false}
use Rattle.sim_core.specs.Machine.{Machine}
use Rattle.sim_core.specs.Start.{run as run_of}
use Rattle.dump_law.proofs.RunLemmas.{runs-own}
use Rattle.vvp_edge.specs.declared.store.TheConstants.{MOST_SOURCE}
use Rattle.vvp_top.specs.Activity.{IsTraceOf, KeepsDump}
use Rattle.vvp_top.specs.Whole.{Dump, dump_of, is_larger, trace_of}
use Rattle.vvp_top.proofs.ActivityLemmas.{ending-kept, kept-own, of-kept, of-run, readable-own, sized}
use Rattle.vvp_top.proofs.VerdictLemmas.{most_source}
use Rattle.vvp_top.proofs.activity.own_trace.Goals as goal

-- the reader refuses no dump of a run
pub returns-in-Err-clause-readable : goal.returns-in-Err-clause-readable
returns-in-Err-clause-readable c = readable-own (run_of c.args.program c.args.order c.args.budget) (runs-own c.args.program c.args.order c.args.budget c.requires.linked c.requires.plain)

pub returns-in-Err-run_silently-clause-readable : goal.returns-in-Err-run_silently-clause-readable
returns-in-Err-run_silently-clause-readable c = readable-own (run_of c.args.program c.args.order c.args.budget) (runs-own c.args.program c.args.order c.args.budget c.requires.linked c.requires.plain)

pub returns-in-Err-kept_trace-clause-readable : goal.returns-in-Err-kept_trace-clause-readable
returns-in-Err-kept_trace-clause-readable c = readable-own (run_of c.args.program c.args.order c.args.budget) (runs-own c.args.program c.args.order c.args.budget c.requires.linked c.requires.plain)

pub returns-clause-readable : goal.returns-clause-readable
returns-clause-readable c = readable-own (run_of c.args.program c.args.order c.args.budget) (runs-own c.args.program c.args.order c.args.budget c.requires.linked c.requires.plain)

-- the run was stopped, since its dump is too large
pub returns-in-Err-run_silently-clause-large : goal.returns-in-Err-run_silently-clause-large
returns-in-Err-run_silently-clause-large c = λ large.
    sized MOST_SOURCE true (dump_of (run_of c.args.program c.args.order c.args.budget)) most_source
    (of-run (λ (m : Machine). is_larger MOST_SOURCE (dump_of m) ≡ true) c.args.program c.args.order c.args.budget c.in-Ok.engine c.in-Ok.ensures.program c.in-Ok.ensures.order c.in-Ok.ensures.start (c.in-Err-run_silently.ensures.large large))

-- the engine has the dump of the run
pub kept_trace-requires : goal.kept_trace-requires
kept_trace-requires c =
    kept-own (run_of c.args.program c.args.order c.args.budget) c.run_silently.new.engine
    (of-run (λ (m : Machine). KeepsDump m c.run_silently.new.engine) c.args.program c.args.order c.args.budget c.in-Ok.engine c.in-Ok.ensures.program c.in-Ok.ensures.order c.in-Ok.ensures.start c.in-Ok-run_silently.ensures.kept)
    (runs-own c.args.program c.args.order c.args.budget c.requires.linked c.requires.plain)

pub returns-in-Err-kept_trace-clause-large : goal.returns-in-Err-kept_trace-clause-large
returns-in-Err-kept_trace-clause-large c = λ large.
    sized MOST_SOURCE true (dump_of (run_of c.args.program c.args.order c.args.budget)) most_source
    (of-kept (λ (d : Option Dump). is_larger MOST_SOURCE d ≡ true) (run_of c.args.program c.args.order c.args.budget) c.run_silently.new.engine
    (of-run (λ (m : Machine). KeepsDump m c.run_silently.new.engine) c.args.program c.args.order c.args.budget c.in-Ok.engine c.in-Ok.ensures.program c.in-Ok.ensures.order c.in-Ok.ensures.start c.in-Ok-run_silently.ensures.kept)
    (c.in-Err-kept_trace.ensures.large large))

pub returns-clause-small : goal.returns-clause-small
returns-clause-small c =
    sized MOST_SOURCE false (dump_of (run_of c.args.program c.args.order c.args.budget)) most_source
    (of-kept (λ (d : Option Dump). is_larger MOST_SOURCE d ≡ false) (run_of c.args.program c.args.order c.args.budget) c.run_silently.new.engine
    (of-run (λ (m : Machine). KeepsDump m c.run_silently.new.engine) c.args.program c.args.order c.args.budget c.in-Ok.engine c.in-Ok.ensures.program c.in-Ok.ensures.order c.in-Ok.ensures.start c.in-Ok-run_silently.ensures.kept)
    c.in-Ok-kept_trace.ensures.small)

-- its trace, and the run's ending
pub returns-clause-trace : goal.returns-clause-trace
returns-clause-trace c =
    of-kept (λ (d : Option Dump). c.in-Ok-kept_trace.trace ≡ trace_of d) (run_of c.args.program c.args.order c.args.budget) c.run_silently.new.engine
    (of-run (λ (m : Machine). KeepsDump m c.run_silently.new.engine) c.args.program c.args.order c.args.budget c.in-Ok.engine c.in-Ok.ensures.program c.in-Ok.ensures.order c.in-Ok.ensures.start c.in-Ok-run_silently.ensures.kept)
    c.in-Ok-kept_trace.ensures.exact

pub returns-clause-spelled : goal.returns-clause-spelled
returns-clause-spelled c =
    of-kept (λ (d : Option Dump). IsTraceOf d c.in-Ok-kept_trace.trace) (run_of c.args.program c.args.order c.args.budget) c.run_silently.new.engine
    (of-run (λ (m : Machine). KeepsDump m c.run_silently.new.engine) c.args.program c.args.order c.args.budget c.in-Ok.engine c.in-Ok.ensures.program c.in-Ok.ensures.order c.in-Ok.ensures.start c.in-Ok-run_silently.ensures.kept)
    c.in-Ok-kept_trace.ensures.spelled

pub returns-clause-ending : goal.returns-clause-ending
returns-clause-ending c =
    ending-kept (run_of c.args.program c.args.order c.args.budget) c.run_silently.new.engine c.in-Ok-run_silently.ending
    (of-run (λ (m : Machine). KeepsDump m c.run_silently.new.engine) c.args.program c.args.order c.args.budget c.in-Ok.engine c.in-Ok.ensures.program c.in-Ok.ensures.order c.in-Ok.ensures.start c.in-Ok-run_silently.ensures.kept)
    c.in-Ok-run_silently.ensures.answer
