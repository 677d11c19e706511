use Rattle.std.proofs.Common.{sym, ap, ◌∙◌}
use Rattle.net_engine.specs.Delivery.{fires}
use Rattle.net_engine.proofs.EdgeLemmas.{differs-as}
use Rattle.net_engine.proofs.edges.fires.Goals as goal

pub returns-in-Any : goal.returns-in-Any
returns-in-Any c = differs-as c.eeq.result c.args.old c.args.new (λ e. c.eeq.ensures.0 e) (λ e. c.eeq.ensures.1 e) ∙ ap (λ k. fires k c.args.old c.args.new) (sym c.in-Any.is)
