use Rattle.std.proofs.Common.{length, ◌-◌}
use Rattle.std.specs.List.{position_or_len}
use Rattle.port_chain.proofs.WalkLemmas.{is_port}
use Rattle.net_engine.specs.Readers.{driven_ports}
use Rattle.net_engine.proofs.ReachLemmas.{Walked}
use Rattle.net_engine.proofs.deliver.deliver.Given as goal

abbrev pub invariant-inputs : goal.invariant-inputs
invariant-inputs g l =
    Walked l.design l.change.old l.change.new l.item l.initial.marks l.marks l.initial.threads l.threads
    (g.A.Agenda.schedule l.initial.agenda) (g.A.Agenda.schedule l.agenda) l.link

-- how many ports there are from the link on
abbrev pub decreases-inputs : goal.decreases-inputs
decreases-inputs g l = length (driven_ports l.design l.item) - position_or_len (is_port l.link) (driven_ports l.design l.item)
