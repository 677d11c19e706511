use Rattle.net_engine.proofs.ReachLemmas.{event-there, runs-alone, wake-reaches}
use Rattle.net_engine.proofs.deliver.wake.Goals as goal

pub wake_all-requires-clause-event : goal.wake_all-requires-clause-event
wake_all-requires-clause-event g c = event-there c.args.design.now c.requires.fits.0 c.args.threads.now (g.A.Agenda.schedule c.args.agenda.now) c.args.event c.requires.fits.1 c.requires.event

pub wake_all-requires-clause-runs : goal.wake_all-requires-clause-runs
wake_all-requires-clause-runs g c = runs-alone c.args.design.now c.requires.fits.0 c.args.threads.now (g.A.Agenda.schedule c.args.agenda.now) c.requires.fits.1

pub returns : goal.returns
returns g c = λ marks.
    wake-reaches c.args.event c.args.design.now marks c.args.threads.now c.wake_all.new.self (g.A.Agenda.schedule c.args.agenda.now) (g.A.Agenda.schedule c.wake_all.new.agenda)
    c.wake_all.ensures.threads c.wake_all.ensures.agenda c.wake_all.ensures.runs c.wake_all.ensures.places
