use Rattle.std.proofs.Common.{◌≡◌, subst, arith, sym}
use Rattle.sym_link.specs.Roots.{kind_of}
use Rattle.net_engine.specs.Net.{Request}
use Rattle.net_engine.specs.Delivery.{postponed}
use Rattle.net_engine.specs.Kept.{NetNow, IsDelay, Delivers}
use Rattle.net_engine.proofs.CallLemmas.{none-kept, now-call}
use Rattle.net_engine.proofs.NetLemmas.{later-delivers}
use Rattle.net_engine.proofs.SoundLemmas.{net-request}
use Rattle.net_engine.proofs.RoomLemmas.{same-room, delay-room}
use Rattle.net_engine.proofs.net.Net.follow_after.Goals as goal

pub invariant_of-self : goal.invariant_of-self
invariant_of-self g c = (
  (
      net-request c.self.inside.design c.self.inside.store.values c.set_request.new.self.values c.self.inside.marks.items c.self.inside.marks.items c.args.item c.args.request c.self.invariant.0 c.set_request.ensures.values
      (none-kept c.args.request _ c.requires.empty) c.self.invariant.0.marked
      ),
  same-room _ _ _ c.self.invariant.1 c.set_request.ensures.room,
)

pub returns-then-ticks-gt0-clause-state : goal.returns-then-ticks-gt0-clause-state
returns-then-ticks-gt0-clause-state g c =
    later-delivers c.args.self.now.nodes c.args.item c.args.ticks c.args.wanted c.args.request c.args.self.now c.postpone.new.self c.args.threads.now c.args.threads.now (g.A.Agenda.schedule c.args.agenda.now) (g.A.Agenda.schedule c.postpone.new.agenda) c.if-ticks-gt0.true
    (subst (λ (r : Request). Delivers (postponed c.args.item c.args.ticks c.args.wanted r) c.args.self.now c.postpone.new.self c.args.threads.now c.args.threads.now (g.A.Agenda.schedule c.args.agenda.now) (g.A.Agenda.schedule c.postpone.new.agenda)) c.request.view_is
    (c.postpone.ensures.state c.request.inside.kept))

pub returns-else-ticks-gt0-clause-state : goal.returns-else-ticks-gt0-clause-state
returns-else-ticks-gt0-clause-state g c =
    let none : c.args.ticks ≡ 0 = omega arith in
    now-call c.args.self.now c.change_levels.new.self c.self.inside.design c.self.inside.store.values c.set_request.new.self.values c.self.inside.marks.items c.args.item c.args.ticks c.args.wanted c.args.request c.args.threads.now c.change_levels.new.threads
    (g.A.Agenda.schedule c.args.agenda.now) (g.A.Agenda.schedule c.change_levels.new.agenda) c.self.view_is c.requires.fits none c.set_request.ensures.values c.change_levels.ensures.state

pub set_request-requires : goal.set_request-requires
set_request-requires g c = delay-room c.self.inside.design c.self.inside.store.room c.args.item c.self.invariant.1 (subst (λ (n : NetNow). IsDelay (kind_of n.nodes c.args.item)) (sym c.self.view_is) c.requires.item)
