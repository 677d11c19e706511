use Rattle.port_chain.proofs.ChainLemmas.{first_pair}
use Rattle.port_chain.proofs.chain.ChainFanoutFanout.first.Goals as goal

pub returns-clause-head : goal.returns-clause-head
returns-clause-head c = (first_pair _ _ c.self.invariant c.args.self.now c.args.node c.self.view_is c.requires c.index.result.now c.index.ensures).0

pub returns-clause-ports : goal.returns-clause-ports
returns-clause-ports c = (first_pair _ _ c.self.invariant c.args.self.now c.args.node c.self.view_is c.requires c.index.result.now c.index.ensures).1
