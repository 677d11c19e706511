use Rattle.std.proofs.lemmas.Result.{IfOk-weaker}
use Rattle.sys_tasks.proofs.SampleLemmas.{sample-first, sample-linked}
use Rattle.sys_tasks.proofs.tests.tasks.Goals as goal

pub new-requires : goal.new-requires
new-requires c = sample-linked _ c.in_ok-program.ensures

pub returns : goal.returns
returns c = IfOk-weaker c.new.result _ _ (λ tasks told. sample-first _ tasks c.in_ok-program.ensures told) c.new.ensures
