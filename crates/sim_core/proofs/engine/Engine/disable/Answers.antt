use Rattle.std.proofs.Common.{◌<◌, ◌+◌, ℕ, List, length, sym, subst, ◌∙◌}
use Rattle.vvp_threads.specs.Table.{with_frame}
use Rattle.vvp_threads.specs.Disable.{StandIn}
use Rattle.net_engine.specs.Kept.{evals_lacking}
use Rattle.sim_core.specs.Engine.{Shown}
use Rattle.sim_core.proofs.EffectMoreLemmas.{disable-follows, disable-kept, scope-as, tree-as}
use Rattle.sim_core.proofs.RoomLemmas.{runs-fewer}
use Rattle.sim_core.proofs.WholeLemmas.{next-at, next-runs, runs-some, whole, next-fine}
use Rattle.sim_core.proofs.SoundLemmas.{lasts}
use Rattle.sim_core.proofs.engine.Engine.disable.Goals as goal

pub unwrap-running-requires : goal.unwrap-running-requires
unwrap-running-requires g c =
    let w = whole c.self.inside.program c.self.inside.scope_parents.items c.self.inside.outputs c.self.inside.order c.self.inside.net c.self.inside.threads (g.A.Agenda.schedule c.self.inside.agenda) c.self.inside.tasks c.self.inside.running c.self.inside.steps c.self.inside.peak c.self.inside.taken c.self.inside.ending c.self.inside.failed in
    runs-some w c.go_next.new.self c.requires.at.0 (with_frame (record c.requires.at.1.frame { pc = c.requires.at.1.frame.pc + 1 }) c.requires.at.1) c.self.view_is (next-runs c.args.self.now c.go_next.new.self c.requires.at.0 c.requires.at.1 c.requires.at.2 (c.go_next.ensures c.requires.at.0 c.requires.at.1 c.requires.at.2))

pub disable-requires-clause-running : goal.disable-requires-clause-running
disable-requires-clause-running g c =
    let w = whole c.self.inside.program c.self.inside.scope_parents.items c.self.inside.outputs c.self.inside.order c.self.inside.net c.self.inside.threads (g.A.Agenda.schedule c.self.inside.agenda) c.self.inside.tasks c.self.inside.running c.self.inside.steps c.self.inside.peak c.self.inside.taken c.self.inside.ending c.self.inside.failed in
    let a = next-at w c.args.self.now c.go_next.new.self c.requires.at.0 c.requires.at.1 c.unwrap-running.result c.self.view_is c.self.invariant.sound c.requires.at.2 (c.go_next.ensures c.requires.at.0 c.requires.at.1 c.requires.at.2) c.unwrap-running.ensures in
    (c.requires.at.0, a.key)

pub disable-requires-clause-scope : goal.disable-requires-clause-scope
disable-requires-clause-scope g c =
    let w = whole c.self.inside.program c.self.inside.scope_parents.items c.self.inside.outputs c.self.inside.order c.self.inside.net c.self.inside.threads (g.A.Agenda.schedule c.self.inside.agenda) c.self.inside.tasks c.self.inside.running c.self.inside.steps c.self.inside.peak c.self.inside.taken c.self.inside.ending c.self.inside.failed in
    let a = next-at w c.args.self.now c.go_next.new.self c.requires.at.0 c.requires.at.1 c.unwrap-running.result c.self.view_is c.self.invariant.sound c.requires.at.2 (c.go_next.ensures c.requires.at.0 c.requires.at.1 c.requires.at.2) c.unwrap-running.ensures in
    let within : c.args.scope < length w.held.program.scopes = subst (λ (s : Shown). c.args.scope < length s.program.scopes) (sym (c.self.view_is ∙ (c.go_next.ensures c.requires.at.0 c.requires.at.1 c.requires.at.2))) c.requires.at.3 in
    scope-as w.held c.as_slice.result.now c.args.scope a.sound c.as_slice.ensures.value within

pub disable-requires-clause-tree : goal.disable-requires-clause-tree
disable-requires-clause-tree g c =
    let w = whole c.self.inside.program c.self.inside.scope_parents.items c.self.inside.outputs c.self.inside.order c.self.inside.net c.self.inside.threads (g.A.Agenda.schedule c.self.inside.agenda) c.self.inside.tasks c.self.inside.running c.self.inside.steps c.self.inside.peak c.self.inside.taken c.self.inside.ending c.self.inside.failed in
    let a = next-at w c.args.self.now c.go_next.new.self c.requires.at.0 c.requires.at.1 c.unwrap-running.result c.self.view_is c.self.invariant.sound c.requires.at.2 (c.go_next.ensures c.requires.at.0 c.requires.at.1 c.requires.at.2) c.unwrap-running.ensures in
    tree-as w.held c.as_slice.result.now a.sound c.as_slice.ensures.value

pub disable-requires-clause-scopes : goal.disable-requires-clause-scopes
disable-requires-clause-scopes g c =
    let w = whole c.self.inside.program c.self.inside.scope_parents.items c.self.inside.outputs c.self.inside.order c.self.inside.net c.self.inside.threads (g.A.Agenda.schedule c.self.inside.agenda) c.self.inside.tasks c.self.inside.running c.self.inside.steps c.self.inside.peak c.self.inside.taken c.self.inside.ending c.self.inside.failed in
    let a = next-at w c.args.self.now c.go_next.new.self c.requires.at.0 c.requires.at.1 c.unwrap-running.result c.self.view_is c.self.invariant.sound c.requires.at.2 (c.go_next.ensures c.requires.at.0 c.requires.at.1 c.requires.at.2) c.unwrap-running.ensures in
    subst (λ (ps : List ℕ). StandIn ps w.held.threads.table.threads) (sym c.as_slice.ensures.value) a.sound.scopes

pub disable-requires-clause-runs : goal.disable-requires-clause-runs
disable-requires-clause-runs g c =
    let w = whole c.self.inside.program c.self.inside.scope_parents.items c.self.inside.outputs c.self.inside.order c.self.inside.net c.self.inside.threads (g.A.Agenda.schedule c.self.inside.agenda) c.self.inside.tasks c.self.inside.running c.self.inside.steps c.self.inside.peak c.self.inside.taken c.self.inside.ending c.self.inside.failed in
    let a = next-at w c.args.self.now c.go_next.new.self c.requires.at.0 c.requires.at.1 c.unwrap-running.result c.self.view_is c.self.invariant.sound c.requires.at.2 (c.go_next.ensures c.requires.at.0 c.requires.at.1 c.requires.at.2) c.unwrap-running.ensures in
    runs-fewer w.held.threads (evals_lacking w.held.net.nodes w.held.schedule.dues) w.held.schedule a.sound.fits.runs

pub invariant_of-self : goal.invariant_of-self
invariant_of-self g c =
    let w = whole c.self.inside.program c.self.inside.scope_parents.items c.self.inside.outputs c.self.inside.order c.self.inside.net c.self.inside.threads (g.A.Agenda.schedule c.self.inside.agenda) c.self.inside.tasks c.self.inside.running c.self.inside.steps c.self.inside.peak c.self.inside.taken c.self.inside.ending c.self.inside.failed in
    lasts _ _ (next-fine w c.args.self.now c.go_next.new.self c.requires.at.0 c.requires.at.1 c.self.view_is c.requires.at.2 (c.go_next.ensures c.requires.at.0 c.requires.at.1 c.requires.at.2))
    (λ fine.
    let a = next-at w c.args.self.now c.go_next.new.self c.requires.at.0 c.requires.at.1 c.unwrap-running.result c.self.view_is c.self.invariant.sound c.requires.at.2 (c.go_next.ensures c.requires.at.0 c.requires.at.1 c.requires.at.2) c.unwrap-running.ensures in
    disable-kept w c.as_slice.result.now c.requires.at.0 c.args.scope (with_frame (record c.requires.at.1.frame { pc = c.requires.at.1.frame.pc + 1 }) c.requires.at.1) c.unwrap-running.result c.disable.new.self (g.A.Agenda.schedule c.disable.new.agenda) c.still-self-inside.result c.as_slice.ensures.value a c.unwrap-running.ensures
    c.disable.ensures.threads c.disable.ensures.agenda c.disable.ensures.runs c.still-self-inside.ensures.same c.still-self-inside.ensures.key)

pub returns : goal.returns
returns g c = λ serial thread can.
    let w = whole c.self.inside.program c.self.inside.scope_parents.items c.self.inside.outputs c.self.inside.order c.self.inside.net c.self.inside.threads (g.A.Agenda.schedule c.self.inside.agenda) c.self.inside.tasks c.self.inside.running c.self.inside.steps c.self.inside.peak c.self.inside.taken c.self.inside.ending c.self.inside.failed in
    let goes = c.go_next.ensures serial thread can in
    let a = next-at w c.args.self.now c.go_next.new.self serial thread c.unwrap-running.result c.self.view_is c.self.invariant.sound can goes c.unwrap-running.ensures in
    disable-follows w c.as_slice.result.now c.args.self.now c.go_next.new.self serial c.args.scope thread (with_frame (record thread.frame { pc = thread.frame.pc + 1 }) thread) c.unwrap-running.result c.disable.new.self (g.A.Agenda.schedule c.disable.new.agenda)
    c.still-self-inside.result c.as_slice.ensures.value c.self.view_is goes a c.disable.ensures.threads c.disable.ensures.agenda c.still-self-inside.ensures.same c.still-self-inside.ensures.live
