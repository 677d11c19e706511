use Rattle.std.proofs.Common.{ap}
use Rattle.std.proofs.lemmas.Result.{IfOk-weaker}
use Rattle.vvp_words.specs.Seen.{seen, seen_work}
use Rattle.vvp_top.specs.Whole.{whole_of_activity, whole_of_dump, whole_of_source}
use Rattle.vvp_top.proofs.ReportLemmas.{activity-none, dump-none, report-did, source-activity, source-dump}
use Rattle.vvp_top.proofs.top.work_on.Goals as goal

-- a report leaves the files
pub returns-in-Toggles-clause-whole : goal.returns-in-Toggles-clause-whole
returns-in-Toggles-clause-whole g c =
    IfOk-weaker c.report_on.result _ _
    (λ report did. report-did (whole_of_source (seen c.args.entries.now) c.args.source.now) (whole_of_dump c.args.source.now) report _ _ _
    (source-dump (seen c.args.entries.now) _ c.args.source.now (ap seen_work c.in-Toggles.is)) (dump-none c.args.source.now) did)
    c.report_on.ensures.whole

pub returns-in-Activity-clause-whole : goal.returns-in-Activity-clause-whole
returns-in-Activity-clause-whole g c =
    IfOk-weaker c.report_activity.result _ _
    (λ report did. report-did (whole_of_source (seen c.args.entries.now) c.args.source.now) (whole_of_activity (seen c.args.entries.now) c.args.source.now) report _ _ _
    (source-activity (seen c.args.entries.now) _ c.args.source.now (ap seen_work c.in-Activity.is)) (activity-none (seen c.args.entries.now) c.args.source.now) did)
    c.report_activity.ensures.whole
