use Rattle.std.proofs.Common.{ℕ, max, sym, ap, ◌∙◌}
use Rattle.std.proofs.lemmas.List.{length-map}
use Rattle.event_pool.specs.Pending.{unkeyed}
use Rattle.sim_core.specs.Engine.{Shown}
use Rattle.sim_core.specs.Parts.{peaked}
use Rattle.sim_core.proofs.WholeLemmas.{shown_of, whole}
use Rattle.sim_core.proofs.engine.Engine.see_peak.Goals as goal

pub returns : goal.returns
returns g c =
    let w = whole c.self.inside.program c.self.inside.scope_parents.items c.self.inside.outputs c.self.inside.order c.self.inside.net c.self.inside.threads (g.A.Agenda.schedule c.self.inside.agenda) c.self.inside.tasks c.self.inside.running c.self.inside.steps c.self.inside.peak c.self.inside.taken c.self.inside.ending c.self.inside.failed in
    ap (λ (n : ℕ). shown_of (record w { peak = n })) (c.greater-self-inside.ensures ∙ ap (max c.self.inside.peak) (c.pending.ensures ∙ sym (length-map (g.A.Agenda.schedule c.self.inside.agenda).dues unkeyed)))
    ∙ ap (λ (s : Shown). record s { machine = peaked s.machine }) c.self.view_is
