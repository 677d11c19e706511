use Rattle.std.specs.Prelude.{codes}
use Rattle.sys_tasks.proofs.SampleLemmas.{after-call, call-fits, display-fits, sample-answers, three-args}
use Rattle.sys_tasks.proofs.tests.display.Goals as goal

pub call-requires-clause-answers : goal.call-requires-clause-answers
call-requires-clause-answers c = sample-answers _ _ _ c.requires c.values.result.one c.values.result.four

pub call-requires-clause-fits : goal.call-requires-clause-fits
call-requires-clause-fits c = call-fits _ _ (codes "$display") _ _ c.requires c.in_ok-from_slice-2.ensures (three-args _ _ _ _ _ _ _ c.new-args.ensures c.in_ok-push.ensures.ok c.in_ok-push-2.ensures.ok c.in_ok-push-3.ensures.ok) (display-fits _)

pub returns : goal.returns
returns c = after-call _ _ _ _ _ c.args.tasks.now c.call.new.self c.in_ok-call.ensures.ok c.requires
