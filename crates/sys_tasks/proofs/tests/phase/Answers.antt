use Rattle.std.proofs.lemmas.Result.{on_ok_weaker}
use Rattle.sys_tasks.proofs.SampleLemmas.{after-phase, plane-holds, sample-answers, widths-least, widths-most}
use Rattle.sys_tasks.proofs.tests.phase.Goals as goal

pub new-requires-clause-least : goal.new-requires-clause-least
new-requires-clause-least c = widths-least

pub new-requires-clause-most : goal.new-requires-clause-most
new-requires-clause-most c = widths-most

pub read_only-requires-clause-answers : goal.read_only-requires-clause-answers
read_only-requires-clause-answers c = sample-answers _ _ _ c.requires c.values-pair.result.one c.values-pair.result.four

pub read_only-requires-clause-plane : goal.read_only-requires-clause-plane
read_only-requires-clause-plane c = plane-holds _ _ _ c.in_ok-plane.plane c.set.new.self c.set-2.new.self c.requires c.in_ok-plane.ensures c.set.ensures.value c.set-2.ensures.value

pub returns : goal.returns
returns c = on_ok_weaker c.read_only.result (λ told. after-phase _ _ c.args.tasks.now c.read_only.new.self told c.requires) c.read_only.ensures.ok
