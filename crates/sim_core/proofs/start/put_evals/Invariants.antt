use Rattle.sim_core.proofs.LoadLemmas.{ArePut}
use Rattle.sim_core.proofs.start.put_evals.Given as goal

abbrev pub invariant-loop-index : goal.invariant-loop-index
invariant-loop-index g l = ArePut l.items (g.A.Agenda.schedule l.fn.agenda).spare l.index (g.A.Agenda.schedule l.agenda)
