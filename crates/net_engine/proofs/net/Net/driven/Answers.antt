use Rattle.std.proofs.Common.{sym, subst}
use Rattle.sym_link.specs.Roots.{kind_of}
use Rattle.net_engine.specs.Kept.{NetNow}
use Rattle.net_engine.specs.Parts.{HasValue}
use Rattle.net_engine.proofs.SoundLemmas.{value-driven}
use Rattle.net_engine.proofs.net.Net.driven.Goals as goal

pub driven-requires : goal.driven-requires
driven-requires g c =
    value-driven c.self.inside.design c.self.inside.store.values c.args.item c.self.invariant.0.linked c.self.invariant.0.wide (subst (λ (n : NetNow). HasValue (kind_of n.nodes c.args.item)) (sym c.self.view_is) c.requires)
