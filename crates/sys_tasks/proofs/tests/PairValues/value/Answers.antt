use Rattle.sys_tasks.proofs.SampleLemmas.{sample-bit, sample-vector}
use Rattle.sys_tasks.proofs.tests.PairValues.value.Goals as goal

pub returns-then-item-eq1 : goal.returns-then-item-eq1
returns-then-item-eq1 c = sample-bit _ _ _ _ c.if-item-eq1.true c.requires

pub returns : goal.returns
returns c = sample-vector _ _ _ _ c.if-item-eq1.false c.requires
