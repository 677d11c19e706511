use Rattle.std.proofs.Common.{◌≤◌, ℕ, length, sym, subst}
use Rattle.sym_link.specs.Roots.{kind_of}
use Rattle.net_engine.specs.Net.{driven_of}
use Rattle.net_engine.specs.Kept.{NetNow}
use Rattle.net_engine.specs.Parts.{HasLevels}
use Rattle.net_engine.proofs.RootLemmas.{levels-driven}
use Rattle.net_engine.proofs.net.Net.levels.Goals as goal

pub shown-requires : goal.shown-requires
shown-requires g c =
    subst (λ (r : ℕ). 1 ≤ length (driven_of c.self.inside.store.values r)) (sym c.root.ensures)
    (levels-driven c.self.inside.design c.self.inside.store.values c.args.item c.self.invariant.0.linked c.self.invariant.0.wide (subst (λ (n : NetNow). HasLevels (kind_of n.nodes c.args.item)) (sym c.self.view_is) c.requires))
