use Rattle.std.proofs.Common.{None, refl, ◌+◌, sym, subst}
use Rattle.sym_link.specs.Roots.{kind_of}
use Rattle.net_engine.specs.Kept.{NetNow, IsDelay}
use Rattle.net_engine.proofs.CallLemmas.{none-kept}
use Rattle.net_engine.proofs.SoundLemmas.{net-request}
use Rattle.net_engine.proofs.RoomLemmas.{same-room, delay-room}
use Rattle.net_engine.proofs.net.Net.ask_anew.Goals as goal

pub invariant_of-self : goal.invariant_of-self
invariant_of-self g c = (
  (
      net-request c.self.inside.design c.self.inside.store.values c.set_request.new.self.values c.self.inside.marks.items c.self.inside.marks.items c.args.item (record { serial = c.request-2.inside.serial + 1; kept = None }) c.self.invariant.0 c.set_request.ensures.values
      (none-kept (record { serial = c.request-2.inside.serial + 1; kept = None }) _ refl) c.self.invariant.0.marked
      ),
  same-room _ _ _ c.self.invariant.1 c.set_request.ensures.room,
)

pub set_request-requires : goal.set_request-requires
set_request-requires g c = delay-room c.self.inside.design c.self.inside.store.room c.args.item c.self.invariant.1 (subst (λ (n : NetNow). IsDelay (kind_of n.nodes c.args.item)) (sym c.self.view_is) c.requires.item)
