use Rattle.std.proofs.Common.{None, map, ap, ◌∙◌}
use Rattle.event_pool.specs.Pending.{unkeyed}
use Rattle.event_pool.specs.Schedule.{Schedule}
use Rattle.vvp_threads.specs.Keyed.{KeyedTable}
use Rattle.sim_core.proofs.StartedLemmas.{run-shown, spawned-runs}
use Rattle.sim_core.proofs.start.start_thread.Goals as goal

pub returns-clause-table : goal.returns-clause-table
returns-clause-table g c = ap (λ (threads : KeyedTable). threads.table) (c.in_ok-key.ensures.ok None tt)

pub returns-clause-dues : goal.returns-clause-dues
returns-clause-dues g c = ap (λ (s : Schedule). map unkeyed s.dues) c.put.ensures ∙ run-shown (g.A.Agenda.schedule c.args.agenda.now) c.args.serial c.in_ok-key.key

pub returns-clause-runs : goal.returns-clause-runs
returns-clause-runs g c =
    spawned-runs c.args.threads.now c.spawn.new.self c.args.serial c.in_ok-key.key (g.A.Agenda.schedule c.args.agenda.now) (g.A.Agenda.schedule c.put.new.self) c.requires.serial c.put.ensures c.in_ok-key.ensures.runs
