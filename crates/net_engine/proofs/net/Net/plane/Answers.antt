use Rattle.std.proofs.Common.{ap, ◌∙◌}
use Rattle.net_engine.specs.Kept.{NetNow}
use Rattle.net_engine.specs.Parts.{plane_of}
use Rattle.net_engine.proofs.ReadLemmas.{plane-is}
use Rattle.net_engine.proofs.net.Net.plane.Goals as goal

pub returns : goal.returns
returns g c =
    plane-is c.self.inside.design c.self.inside.store.values c.plane.result.now c.self.invariant.0.linked c.self.invariant.0.wide c.plane.ensures.count c.plane.ensures.places ∙ ap (λ (n : NetNow). plane_of n.nodes n.values) c.self.view_is
