use Rattle.std.proofs.Common.{◌<◌, ◌≤◌, ◌*◌, ◌^◌, Some, sym, ap, subst, ◌∙◌, arith}
use Rattle.std.proofs.lemmas.Result.{err_from_is_err_and}
use Rattle.event_pool.specs.Schedule.{Schedule}
use Rattle.vvp_threads.specs.Table.{live_count}
use Rattle.vvp_threads.specs.Keyed.{KeyedTable}
use Rattle.sim_core.specs.Engine.{Shown}
use Rattle.sim_core.specs.Kept.{IsSound}
use Rattle.sim_core.proofs.EffectLemmas.{child-shown, child-sound, shown-made}
use Rattle.sim_core.proofs.RoomLemmas.{outputs-few, sound-made}
use Rattle.sim_core.proofs.WholeLemmas.{runs-at, shown_of, whole}
use Rattle.sim_core.proofs.SoundLemmas.{lasts}
use Rattle.sim_core.proofs.engine.Engine.start_child.Goals as goal

pub make_room-requires : goal.make_room-requires
make_room-requires g c =
    let w = whole c.self.inside.program c.self.inside.scope_parents.items c.self.inside.outputs c.self.inside.order c.self.inside.net c.self.inside.threads (g.A.Agenda.schedule c.self.inside.agenda) c.self.inside.tasks c.self.inside.running c.self.inside.steps c.self.inside.peak c.self.inside.taken c.self.inside.ending c.self.inside.failed in
    let a = runs-at w c.args.self.now c.requires.at.0 c.requires.at.1 c.unwrap-running.result c.self.view_is c.self.invariant.sound c.requires.at.2 c.unwrap-running.ensures in
    let few = outputs-few w.held a.sound in
    record { few = omega (arith, few) }

pub spawn-requires-clause-few : goal.spawn-requires-clause-few
spawn-requires-clause-few g c = subst (λ (s : Shown). live_count s.machine.state.threads < 65536) (sym c.self.view_is) c.requires.few

pub spawn-requires-clause-drawn : goal.spawn-requires-clause-drawn
spawn-requires-clause-drawn g c =
    let w = whole c.self.inside.program c.self.inside.scope_parents.items c.self.inside.outputs c.self.inside.order c.self.inside.net c.self.inside.threads (g.A.Agenda.schedule c.self.inside.agenda) c.self.inside.tasks c.self.inside.running c.self.inside.steps c.self.inside.peak c.self.inside.taken c.self.inside.ending c.self.inside.failed in
    let a = runs-at w c.args.self.now c.requires.at.0 c.requires.at.1 c.unwrap-running.result c.self.view_is c.self.invariant.sound c.requires.at.2 c.unwrap-running.ensures in
    let few = a.sound.few_serials in
    let threads = a.sound.linked.few_threads in
    let steps : w.held.steps ≤ 3 * 2 ^ 62 = subst (λ (s : Shown). s.machine.steps ≤ 3 * 2 ^ 62) (sym c.self.view_is) c.requires.steps in
    omega (arith, few, threads, steps)

pub spawn-requires-clause-parent : goal.spawn-requires-clause-parent
spawn-requires-clause-parent g c =
    let w = whole c.self.inside.program c.self.inside.scope_parents.items c.self.inside.outputs c.self.inside.order c.self.inside.net c.self.inside.threads (g.A.Agenda.schedule c.self.inside.agenda) c.self.inside.tasks c.self.inside.running c.self.inside.steps c.self.inside.peak c.self.inside.taken c.self.inside.ending c.self.inside.failed in
    let a = runs-at w c.args.self.now c.requires.at.0 c.requires.at.1 c.unwrap-running.result c.self.view_is c.self.invariant.sound c.requires.at.2 c.unwrap-running.ensures in
    (Some c.requires.at.0, a.key)

pub invariant_of-self : goal.invariant_of-self
invariant_of-self g c =
    let w = whole c.self.inside.program c.self.inside.scope_parents.items c.self.inside.outputs c.self.inside.order c.self.inside.net c.self.inside.threads (g.A.Agenda.schedule c.self.inside.agenda) c.self.inside.tasks c.self.inside.running c.self.inside.steps c.self.inside.peak c.self.inside.taken c.self.inside.ending c.self.inside.failed in
    lasts _ _ (ap (λ (s : Shown). s.failed) c.self.view_is ∙ c.requires.at.2.fine)
    (λ fine.
    subst (λ (s : Schedule). IsSound (record w.held { schedule = s })) (sym c.in_err-make_room.ensures.err) (c.self.invariant.sound fine))

pub returns-in_err-make_room-clause-err : goal.returns-in_err-make_room-clause-err
returns-in_err-make_room-clause-err g c =
    let w = whole c.self.inside.program c.self.inside.scope_parents.items c.self.inside.outputs c.self.inside.order c.self.inside.net c.self.inside.threads (g.A.Agenda.schedule c.self.inside.agenda) c.self.inside.tasks c.self.inside.running c.self.inside.steps c.self.inside.peak c.self.inside.taken c.self.inside.ending c.self.inside.failed in
    let p = err_from_is_err_and c.from_residual.result c.from_residual.ensures.1 in
    rw p.1 (ap (λ (s : Schedule). shown_of (record w { held = record w.held { schedule = s } })) c.in_err-make_room.ensures.err ∙ c.self.view_is)

pub invariant_of-self-in_err-key : goal.invariant_of-self-in_err-key
invariant_of-self-in_err-key g c =
    let w = whole c.self.inside.program c.self.inside.scope_parents.items c.self.inside.outputs c.self.inside.order c.self.inside.net c.self.inside.threads (g.A.Agenda.schedule c.self.inside.agenda) c.self.inside.tasks c.self.inside.running c.self.inside.steps c.self.inside.peak c.self.inside.taken c.self.inside.ending c.self.inside.failed in
    lasts _ _ (ap (λ (s : Shown). s.failed) c.self.view_is ∙ c.requires.at.2.fine)
    (λ fine.
    subst (λ (t : KeyedTable). IsSound (record w.held { threads = t; schedule = (g.A.Agenda.schedule c.make_room.new.agenda) })) (sym c.in_err-key.ensures.err)
    (sound-made w.held (g.A.Agenda.schedule c.make_room.new.agenda) (c.self.invariant.sound fine) c.in_ok-make_room.ensures.dues c.in_ok-make_room.ensures.ok))

pub returns-in_err-key-clause-err : goal.returns-in_err-key-clause-err
returns-in_err-key-clause-err g c =
    let w = whole c.self.inside.program c.self.inside.scope_parents.items c.self.inside.outputs c.self.inside.order c.self.inside.net c.self.inside.threads (g.A.Agenda.schedule c.self.inside.agenda) c.self.inside.tasks c.self.inside.running c.self.inside.steps c.self.inside.peak c.self.inside.taken c.self.inside.ending c.self.inside.failed in
    let p = err_from_is_err_and c.from_residual-in_err-key.result c.from_residual-in_err-key.ensures.1 in
    rw p.1 (ap (λ (t : KeyedTable). shown_of (record w { held = record w.held { threads = t; schedule = (g.A.Agenda.schedule c.make_room.new.agenda) } })) c.in_err-key.ensures.err ∙ shown-made w (g.A.Agenda.schedule c.make_room.new.agenda) c.in_ok-make_room.ensures.now c.in_ok-make_room.ensures.dues ∙ c.self.view_is)

pub invariant_of-self-2 : goal.invariant_of-self-2
invariant_of-self-2 g c =
    let w = whole c.self.inside.program c.self.inside.scope_parents.items c.self.inside.outputs c.self.inside.order c.self.inside.net c.self.inside.threads (g.A.Agenda.schedule c.self.inside.agenda) c.self.inside.tasks c.self.inside.running c.self.inside.steps c.self.inside.peak c.self.inside.taken c.self.inside.ending c.self.inside.failed in
    lasts _ _ (ap (λ (s : Shown). s.failed) c.self.view_is ∙ c.requires.at.2.fine)
    (λ fine.
    let a = runs-at w c.args.self.now c.requires.at.0 c.requires.at.1 c.unwrap-running.result c.self.view_is c.self.invariant.sound c.requires.at.2 c.unwrap-running.ensures in
    child-sound w c.args.self.now c.requires.at.0 c.args.scope c.args.code c.in_ok-key.key c.serials-serial.result c.now-time.result c.requires.at.1 c.unwrap-running.result (g.A.Agenda.schedule c.make_room.new.agenda) (g.A.Agenda.schedule c.put.new.self) c.spawn.new.self c.self.view_is a
    c.requires.scope c.get-parent.ensures.keys c.requires.drawn c.in_ok-make_room.ensures.dues c.in_ok-make_room.ensures.ok (c.in_ok-key.ensures.ok (Some c.requires.at.0) a.key) c.in_ok-key.ensures.runs c.now-time.ensures c.serials-serial.ensures c.put.ensures)

pub returns-clause-ok : goal.returns-clause-ok
returns-clause-ok g c = λ serial thread runs.
    let w = whole c.self.inside.program c.self.inside.scope_parents.items c.self.inside.outputs c.self.inside.order c.self.inside.net c.self.inside.threads (g.A.Agenda.schedule c.self.inside.agenda) c.self.inside.tasks c.self.inside.running c.self.inside.steps c.self.inside.peak c.self.inside.taken c.self.inside.ending c.self.inside.failed in
    let a = runs-at w c.args.self.now serial thread c.unwrap-running.result c.self.view_is c.self.invariant.sound runs c.unwrap-running.ensures in
    child-shown w c.args.self.now serial c.args.scope c.args.code c.in_ok-key.key c.serials-serial.result c.now-time.result (g.A.Agenda.schedule c.make_room.new.agenda) (g.A.Agenda.schedule c.put.new.self) c.spawn.new.self c.self.view_is c.in_ok-make_room.ensures.now c.in_ok-make_room.ensures.dues
    (c.in_ok-key.ensures.ok (Some serial) a.key) c.now-time.ensures c.serials-serial.ensures c.put.ensures
