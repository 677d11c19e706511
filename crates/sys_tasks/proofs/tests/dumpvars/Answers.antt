use Rattle.std.specs.Prelude.{[], codes}
use Rattle.sys_tasks.proofs.SampleLemmas.{after-call, call-fits, dumpvars-fits, sample-answers}
use Rattle.sys_tasks.proofs.tests.dumpvars.Goals as goal

pub call-requires-clause-answers : goal.call-requires-clause-answers
call-requires-clause-answers c = sample-answers _ _ _ c.requires c.values.result.one c.values.result.four

pub call-requires-clause-fits : goal.call-requires-clause-fits
call-requires-clause-fits c = call-fits _ _ (codes "$dumpvars") _ [] c.requires c.in_ok-from_slice.ensures c.new.ensures dumpvars-fits

pub returns : goal.returns
returns c = after-call _ _ _ _ _ c.args.tasks.now c.call.new.self c.in_ok-call.ensures.ok c.requires
