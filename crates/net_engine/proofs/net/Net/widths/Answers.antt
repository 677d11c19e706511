use Rattle.std.proofs.Common.{subst}
use Rattle.net_engine.specs.Kept.{NetNow}
use Rattle.net_engine.specs.Parts.{AreWide}
use Rattle.net_engine.proofs.net.Net.widths.Goals as goal

pub returns : goal.returns
returns g c = subst (λ (n : NetNow). AreWide n.nodes n.values) c.self.view_is c.self.invariant.0.wide
