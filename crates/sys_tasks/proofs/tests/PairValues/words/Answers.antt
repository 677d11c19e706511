use Rattle.std.proofs.Common.{arith}
use Rattle.sys_tasks.proofs.SampleLemmas.{sample-one}
use Rattle.sys_tasks.proofs.tests.PairValues.words.Goals as goal

pub returns : goal.returns
returns c = record {
  number = sample-one _ _ _ c.requires;
  one_width = λ i j d below inside. let one = sample-one _ _ _ c.requires in absurd (omega arith);
}
