use Rattle.std.proofs.Common.{◌≡◌, ◌+◌, ◌<◌, ◌≤◌, ◌^◌, ℕ, ap, subst, ◌∙◌, refl, w64}
use Rattle.std.proofs.lemmas.Int.{to_z-of_z}
use Rattle.std.proofs.lemmas.Result.{err_from_is_err_and}
use Rattle.event_pool.specs.Schedule.{put_due}
use Rattle.sim_core.specs.Effects.{assigned_later}
use Rattle.sim_core.specs.Engine.{Shown}
use Rattle.sim_core.proofs.EffectLemmas.{assign-runs, assign-shown, assign-sound, assigned-past, assigned-tasks, not-below, shown-same, update_at}
use Rattle.sim_core.proofs.WholeLemmas.{shown_of, whole}
use Rattle.sim_core.proofs.SoundLemmas.{lasts}
use Rattle.sim_core.proofs.RefusedLemmas.{schedule-untouched}
use Rattle.sim_core.proofs.engine.Engine.assign.Goals as goal

pub returns-in_err-make_room-in-Some-clause-err : goal.returns-in_err-make_room-in-Some-clause-err
returns-in_err-make_room-in-Some-clause-err g c =
    let p = err_from_is_err_and c.from_residual.result c.from_residual.ensures.1 in
    rw p.1 (λ serial thread can.
    shown-same (assigned_later c.args.item c.args.word c.args.offset c.args.value c.args.delay serial thread.frame) c.args.self.now _ (assigned-tasks c.args.item c.args.word c.args.delay serial c.args.offset c.args.value thread.frame)
    (ap (λ (s : Shown). s.machine.tasks) c.self.view_is) (ap (λ (s : Shown). s.program) c.self.view_is) (ap (λ (s : Shown). s.order) c.self.view_is))

pub invariant_of-self-in-Some : goal.invariant_of-self-in-Some
invariant_of-self-in-Some g c =
    let w = whole c.self.inside.program c.self.inside.scope_parents.items c.self.inside.outputs c.self.inside.order c.self.inside.net c.self.inside.threads (g.A.Agenda.schedule c.self.inside.agenda) c.self.inside.tasks c.self.inside.running c.self.inside.steps c.self.inside.peak c.self.inside.taken c.self.inside.ending c.self.inside.failed in
    lasts _ _ (ap (λ (s : Shown). s.failed) c.self.view_is ∙ c.requires.at.2.runs.fine)
    (λ fine.
    let put : g.A.Agenda.schedule c.put.new.self ≡ put_due (g.A.Agenda.schedule c.make_room.new.agenda) (update_at c.in-Some.time c.args.item c.args.word c.args.offset c.args.value) = cc (to_z-of_z w64 c.args.offset c.ranges.offset, c.put.ensures) in
    assign-sound w c.args.self.now c.requires.at.0 c.requires.at.1 c.in-Some.time c.args.item c.args.word c.args.offset c.args.value (g.A.Agenda.schedule c.make_room.new.agenda) (g.A.Agenda.schedule c.put.new.self) c.self.view_is c.self.invariant.sound c.requires.at.2.runs
    c.requires.at.3 c.in_ok-make_room-in-Some.ensures.dues c.in_ok-make_room-in-Some.ensures.ok put)

pub returns-in-None-clause-ok : goal.returns-in-None-clause-ok
returns-in-None-clause-ok g c = λ serial thread can.
    let now : c.now.result ≡ c.args.self.now.machine.state.pending.now = c.now.ensures ∙ ap (λ (s : Shown). s.machine.state.pending.now) c.self.view_is in
    assigned-past c.args.item c.args.word c.args.delay serial c.args.offset c.args.value thread.frame c.args.self.now c.trap.new.self
    (subst (λ (n : ℕ). 2 ^ 64 ≤ n + c.args.delay) now (not-below (c.now.result + c.args.delay) (2 ^ 64) c.in-None.ensures)) (c.trap.ensures serial thread can.runs)

pub returns-in_ok-make_room-in-Some-clause-ok : goal.returns-in_ok-make_room-in-Some-clause-ok
returns-in_ok-make_room-in-Some-clause-ok g c = λ serial thread can.
    let w = whole c.self.inside.program c.self.inside.scope_parents.items c.self.inside.outputs c.self.inside.order c.self.inside.net c.self.inside.threads (g.A.Agenda.schedule c.self.inside.agenda) c.self.inside.tasks c.self.inside.running c.self.inside.steps c.self.inside.peak c.self.inside.taken c.self.inside.ending c.self.inside.failed in
    let put : g.A.Agenda.schedule c.put.new.self ≡ put_due (g.A.Agenda.schedule c.make_room.new.agenda) (update_at c.in-Some.time c.args.item c.args.word c.args.offset c.args.value) = cc (to_z-of_z w64 c.args.offset c.ranges.offset, c.put.ensures) in
    let now : c.now.result ≡ c.args.self.now.machine.state.pending.now = c.now.ensures ∙ ap (λ (s : Shown). s.machine.state.pending.now) c.self.view_is in
    let at : c.in-Some.time ≡ c.args.self.now.machine.state.pending.now + c.args.delay = c.in-Some.ensures.1 ∙ ap (λ (n : ℕ). n + c.args.delay) now in
    let mid = shown_of (record w { held = record w.held { schedule = (g.A.Agenda.schedule c.put.new.self) } }) in
    assign-shown w c.args.self.now mid c.go_next.new.self serial thread.frame c.in-Some.time c.args.item c.args.word c.args.delay c.args.offset c.args.value (g.A.Agenda.schedule c.make_room.new.agenda) (g.A.Agenda.schedule c.put.new.self) c.self.view_is
    c.in_ok-make_room-in-Some.ensures.now c.in_ok-make_room-in-Some.ensures.dues at (subst (λ (n : ℕ). n + c.args.delay < 2 ^ 64) now c.in-Some.ensures.0) put refl
    (c.go_next.ensures serial thread (assign-runs w c.args.self.now mid serial thread (g.A.Agenda.schedule c.put.new.self) c.self.view_is refl can))

pub returns-in_err-make_room-in-Some-clause-kept : goal.returns-in_err-make_room-in-Some-clause-kept
returns-in_err-make_room-in-Some-clause-kept g c =
    let p = err_from_is_err_and c.from_residual.result c.from_residual.ensures.1 in
    let w = whole c.self.inside.program c.self.inside.scope_parents.items c.self.inside.outputs c.self.inside.order c.self.inside.net c.self.inside.threads (g.A.Agenda.schedule c.self.inside.agenda) c.self.inside.tasks c.self.inside.running c.self.inside.steps c.self.inside.peak c.self.inside.taken c.self.inside.ending c.self.inside.failed in
    rw p.1 (schedule-untouched w c.args.self.now (g.A.Agenda.schedule c.make_room.new.agenda) c.self.view_is c.in_err-make_room-in-Some.ensures.err)
