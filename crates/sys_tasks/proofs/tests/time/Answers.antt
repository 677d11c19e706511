use Rattle.sys_tasks.proofs.SampleLemmas.{sample-answers, time-fits}
use Rattle.sys_tasks.proofs.tests.time.Goals as goal

pub func-requires-clause-answers : goal.func-requires-clause-answers
func-requires-clause-answers c = sample-answers _ _ _ c.requires c.values.result.one c.values.result.four

pub func-requires-clause-fits : goal.func-requires-clause-fits
func-requires-clause-fits c = time-fits _ _ _ c.requires c.in_ok-from_slice.ensures c.new.ensures
