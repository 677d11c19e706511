use Rattle.std.proofs.Common.{List, map, ap, ◌∙◌}
use Rattle.event_pool.specs.declared.agenda.Due.{Due}
use Rattle.event_pool.specs.Pending.{unkeyed}
use Rattle.sim_core.proofs.SnapshotLemmas.{snapshot-made}
use Rattle.sim_core.proofs.WholeLemmas.{whole}
use Rattle.sim_core.proofs.engine.Engine.snapshot.Goals as goal

pub returns : goal.returns
returns g c =
    let w = whole c.self.inside.program c.self.inside.scope_parents.items c.self.inside.outputs c.self.inside.order c.self.inside.net c.self.inside.threads (g.A.Agenda.schedule c.self.inside.agenda) c.self.inside.tasks c.self.inside.running c.self.inside.steps c.self.inside.peak c.self.inside.taken c.self.inside.ending c.self.inside.failed in
    snapshot-made w c.args.self.now c.now.result c.serial_of.result c.serials.result c.in_ok-dues.dues c.in_ok-threads.threads c.in_ok-waiting.waiting c.in_ok-values.values c.in_ok-words.words c.in_ok-tasks.tasks c.in_ok-delays.delays c.in_ok-forced.forced c.self.view_is c.self.invariant.stands
    c.now.ensures c.serial_of.ensures c.serials.ensures (c.in_ok-dues.ensures ∙ ap (λ (ds : List Due). map unkeyed ds) (c.as_slice.ensures ∙ c.in_ok-held.ensures)) c.in_ok-threads.ensures c.in_ok-waiting.ensures c.in_ok-values.ensures c.in_ok-words.ensures c.in_ok-tasks.ensures
    c.in_ok-delays.ensures c.in_ok-forced.ensures
