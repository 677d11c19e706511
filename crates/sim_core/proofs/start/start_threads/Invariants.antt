use Rattle.sim_core.proofs.StartedLemmas.{AreStarted}
use Rattle.sim_core.proofs.start.start_threads.Given as goal

abbrev pub invariant-loop-index : goal.invariant-loop-index
invariant-loop-index g l = AreStarted l.program l.index l.threads (g.A.Agenda.schedule l.agenda)
