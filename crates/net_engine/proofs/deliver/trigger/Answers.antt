use Rattle.std.proofs.Common.{◌<◌, ℕ, List, length, get_or, sym, subst, arith}
use Rattle.net_engine.proofs.ReachLemmas.{listeners-within, fit-after}
use Rattle.net_engine.proofs.FollowLemmas.{trigger-more, trigger-all}
use Rattle.net_engine.proofs.deliver.trigger.Goals as goal

pub wake-requires-in-listeners-clause-event : goal.wake-requires-in-listeners-clause-event
wake-requires-in-listeners-clause-event g c =
    let same = c.listeners-listeners.ensures in
    let inside : c.listeners.i < length c.listeners-listeners.result.now = omega arith in
    subst (λ (xs : List ℕ). c.listeners.i < length xs → get_or xs c.listeners.i 0 < length c.args.design.now) (sym same) (λ h. listeners-within c.args.design.now c.args.event c.listeners.i 0 h) inside

pub wake-requires-in-listeners-clause-fits : goal.wake-requires-in-listeners-clause-fits
wake-requires-in-listeners-clause-fits g c =
    (c.requires.fits.0, fit-after _ c.args.design.now c.requires.fits.0 c.requires.fits.0 c.args.threads.now c.listeners.threads (g.A.Agenda.schedule c.args.agenda.now) (g.A.Agenda.schedule c.listeners.agenda) c.requires.fits.1 (c.listeners.invariant c.requires.fits.0))

pub listeners-preserved : goal.listeners-preserved
listeners-preserved g c = λ marks.
    trigger-more c.args.event _ c.listeners.i c.args.design.now marks c.args.threads.now c.listeners.threads c.wake-in-listeners.new.threads (g.A.Agenda.schedule c.args.agenda.now) (g.A.Agenda.schedule c.listeners.agenda) (g.A.Agenda.schedule c.wake-in-listeners.new.agenda)
    (omega arith) (c.listeners.invariant marks) (c.wake-in-listeners.ensures marks)

pub returns : goal.returns
returns g c = λ marks.
    trigger-all c.args.event _ c.listeners.i c.args.design.now marks c.args.threads.now c.listeners.threads (g.A.Agenda.schedule c.args.agenda.now) (g.A.Agenda.schedule c.listeners.agenda)
    (omega arith) c.listeners-listeners.ensures (c.listeners.invariant marks)
