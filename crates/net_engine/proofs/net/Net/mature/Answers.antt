use Rattle.std.proofs.Common.{None, refl, sym, ap, ◌∙◌, subst}
use Rattle.sym_link.specs.Roots.{kind_of}
use Rattle.net_engine.specs.Kept.{NetNow, IsDelay}
use Rattle.net_engine.specs.Net.{Request}
use Rattle.net_engine.proofs.CallLemmas.{none-kept, late-call, empty-call, due-call}
use Rattle.net_engine.proofs.SoundLemmas.{net-request}
use Rattle.net_engine.proofs.RoomLemmas.{same-room, delay-room}
use Rattle.net_engine.proofs.net.Net.mature.Goals as goal

pub returns-then-request-serial-clause-state : goal.returns-then-request-serial-clause-state
returns-then-request-serial-clause-state g c =
    late-call c.args.self.now c.self.inside.design c.self.inside.store.values c.self.inside.marks.items c.args.item c.args.serial c.request-request.result c.args.threads.now (g.A.Agenda.schedule c.args.agenda.now) c.self.view_is c.requires.fits c.request-request.ensures
    (λ e. c.if-request-serial.true (ap (λ (r : Request). r.serial) c.request.view_is ∙ e))

pub invariant_of-self : goal.invariant_of-self
invariant_of-self g c = (
  (
      net-request c.self.inside.design c.self.inside.store.values c.set_request.new.self.values c.self.inside.marks.items c.self.inside.marks.items c.args.item (record { serial = c.args.serial; kept = None }) c.self.invariant.0 c.set_request.ensures.values
      (none-kept (record { serial = c.args.serial; kept = None }) _ refl) c.self.invariant.0.marked
      ),
  same-room _ _ _ c.self.invariant.1 c.set_request.ensures.room,
)

pub returns-in-Some-clause-state : goal.returns-in-Some-clause-state
returns-in-Some-clause-state g c =
    due-call c.args.self.now c.change_levels.new.self c.self.inside.design c.self.inside.store.values c.set_request.new.self.values c.self.inside.marks.items c.args.item c.args.serial c.request-request.result c.in-Some.kept c.args.threads.now c.change_levels.new.threads
    (g.A.Agenda.schedule c.args.agenda.now) (g.A.Agenda.schedule c.change_levels.new.agenda) c.self.view_is c.requires.fits c.request-request.ensures (ap (λ (r : Request). r.serial) (sym c.request.view_is) ∙ c.if-request-serial.false)
    (ap (λ (r : Request). r.kept) (sym c.request.view_is) ∙ c.in-Some.is) c.set_request.ensures.values c.change_levels.ensures.state

pub returns-in_default-clause-state : goal.returns-in_default-clause-state
returns-in_default-clause-state g c =
    empty-call c.args.self.now c.self.inside.design c.self.inside.store.values c.self.inside.marks.items c.args.item c.args.serial c.request-request.result c.args.threads.now (g.A.Agenda.schedule c.args.agenda.now) c.self.view_is c.requires.fits c.request-request.ensures
    (ap (λ (r : Request). r.serial) (sym c.request.view_is) ∙ c.if-request-serial.false) (ap (λ (r : Request). r.kept) (sym c.request.view_is) ∙ c.in_default.is)

pub set_request-requires : goal.set_request-requires
set_request-requires g c = delay-room c.self.inside.design c.self.inside.store.room c.args.item c.self.invariant.1 (subst (λ (n : NetNow). IsDelay (kind_of n.nodes c.args.item)) (sym c.self.view_is) c.requires.item)
