use Rattle.std.proofs.Common.{length, sym, ap, ◌∙◌, subst}
use Rattle.sym_link.specs.Roots.{kind_of}
use Rattle.net_engine.specs.Net.{driven_of}
use Rattle.net_engine.specs.Kept.{IsDelay, NetNow}
use Rattle.net_engine.proofs.CallLemmas.{some-kept, postpone-call}
use Rattle.net_engine.proofs.SoundLemmas.{net-request}
use Rattle.net_engine.proofs.RoomLemmas.{same-room, delay-room}
use Rattle.net_engine.proofs.net.Net.postpone.Goals as goal

pub invariant_of-self : goal.invariant_of-self
invariant_of-self g c = (
  (
      net-request c.self.inside.design c.self.inside.store.values c.set_request.new.self.values c.self.inside.marks.items c.self.inside.marks.items c.args.item _ c.self.invariant.0 c.set_request.ensures.values
      (some-kept c.args.wanted _ (c.requires.width ∙ ap (λ (n : NetNow). length (driven_of n.values c.args.item)) (sym c.self.view_is))) c.self.invariant.0.marked
      ),
  same-room _ _ _ c.self.invariant.1 c.set_request.ensures.room,
)

pub returns-clause-state : goal.returns-clause-state
returns-clause-state g c = λ kept.
    postpone-call c.args.self.now c.self.inside.design c.self.inside.store.values c.set_request.new.self.values c.self.inside.marks.items c.args.item c.args.ticks c.now-now.result c.saturating_add.result c.args.serial c.args.wanted kept c.args.threads.now
    (g.A.Agenda.schedule c.args.agenda.now) (g.A.Agenda.schedule c.put.new.self) c.self.view_is c.requires.fits c.requires.more c.requires.item c.set_request.ensures.values c.now-now.ensures c.saturating_add.ensures c.put.ensures

pub set_request-requires : goal.set_request-requires
set_request-requires g c = delay-room c.self.inside.design c.self.inside.store.room c.args.item c.self.invariant.1 (subst (λ (n : NetNow). IsDelay (kind_of n.nodes c.args.item)) (sym c.self.view_is) c.requires.item)
