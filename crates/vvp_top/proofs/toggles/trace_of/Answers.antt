use Rattle.std.proofs.Common.{inr}
use Rattle.vvp_edge.specs.declared.store.TheConstants.{MOST_SOURCE}
use Rattle.vvp_top.proofs.ReportLemmas.{dump-fault, dump-large, dump-read}
use Rattle.vvp_top.proofs.VerdictLemmas.{most_source}
use Rattle.vvp_top.proofs.toggles.trace_of.Goals as goal

pub returns-then-dump-gt-MOST_SOURCE-clause-refused : goal.returns-then-dump-gt-MOST_SOURCE-clause-refused
returns-then-dump-gt-MOST_SOURCE-clause-refused c = inr (dump-large c.args.dump.now MOST_SOURCE most_source c.if-dump-gt-MOST_SOURCE.true)

pub returns-in-Err-Refused-clause-refused : goal.returns-in-Err-Refused-clause-refused
returns-in-Err-Refused-clause-refused c =
    let read = rw c.in-Err-Refused.field-0-is at c.in-Err-Refused.ensures.exact in
    inr (dump-fault c.args.dump.now MOST_SOURCE c.in-Err-Refused.line c.in-Err-Refused.kind most_source c.if-dump-gt-MOST_SOURCE.false read)

pub returns-in-Ok-clause-whole : goal.returns-in-Ok-clause-whole
returns-in-Ok-clause-whole c = dump-read c.args.dump.now MOST_SOURCE c.in-Ok.trace most_source c.if-dump-gt-MOST_SOURCE.false c.in-Ok.ensures.exact
