use Rattle.std.proofs.Common.{Bool, List, ◌∷◌, take}
use Rattle.std.specs.List.{fold}
use Rattle.net_engine.specs.Delivery.{wake}
use Rattle.net_engine.specs.Parts.{Reaches}
use Rattle.net_engine.proofs.deliver.trigger.Given as goal

abbrev pub invariant-listeners : goal.invariant-listeners
invariant-listeners g l = (marks : List Bool) → Reaches (λ state. fold wake state (l.event ∷ take l.i l.listeners)) l.design marks marks
    l.fn.threads l.threads (g.A.Agenda.schedule l.fn.agenda) (g.A.Agenda.schedule l.agenda)
