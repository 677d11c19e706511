use Rattle.sim_core.specs.Step.{choices}
use Rattle.sim_core.proofs.OrderLemmas.{first-picked, runs-are_free}
use Rattle.sim_core.proofs.orders.state_orders.Goals as goal

pub returns-clause-free : goal.returns-clause-free
returns-clause-free c = runs-are_free

pub returns-clause-first : goal.returns-clause-first
returns-clause-first c = λ machine. first-picked machine.taken (choices machine)
