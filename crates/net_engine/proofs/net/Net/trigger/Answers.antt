use Rattle.net_engine.proofs.CallLemmas.{trigger-call}
use Rattle.net_engine.proofs.net.Net.trigger.Goals as goal

pub returns-clause-state : goal.returns-clause-state
returns-clause-state g c =
    trigger-call c.args.self.now c.self.inside.design c.self.inside.store.values c.self.inside.marks.items c.args.event c.args.threads.now c.trigger.new.threads (g.A.Agenda.schedule c.args.agenda.now) (g.A.Agenda.schedule c.trigger.new.agenda) c.self.view_is c.requires.fits (c.trigger.ensures c.self.inside.marks.items)
