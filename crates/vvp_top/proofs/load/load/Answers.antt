use Rattle.std.proofs.Common.{sym, ap, ◌∙◌}
use Rattle.std.proofs.lemmas.Result.{IfOk-weaker}
use Rattle.port_chain.specs.Pairs.{links_of}
use Rattle.sim_core.specs.Machine.{Machine}
use Rattle.vvp_top.proofs.load.load.Goals as goal

-- the chains have the readers of each item
pub load-requires-clause-pairs : goal.load-requires-clause-pairs
load-requires-clause-pairs c = λ item within. c.in_ok-fan.ensures.pairs item (rw c.as_slice.ensures within) ∙ ap (links_of item) c.deref.ensures.value ∙ c.in_ok-readers.ensures.links item

pub returns-clause-going : goal.returns-clause-going
returns-clause-going c = IfOk-weaker c.load.result _ _ (λ engine start. sym (ap (λ (m : Machine). m.ending) start)) c.load.ensures.start

pub returns-clause-steps : goal.returns-clause-steps
returns-clause-steps c = IfOk-weaker c.load.result _ _ (λ engine start. sym (ap (λ (m : Machine). m.steps) start)) c.load.ensures.start
