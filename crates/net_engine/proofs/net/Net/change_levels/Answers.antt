use Rattle.std.proofs.Common.{length, sym, ap, ◌∙◌}
use Rattle.net_engine.specs.Net.{driven_of, forced_of}
use Rattle.net_engine.specs.Kept.{NetNow}
use Rattle.net_engine.specs.Parts.{change_if}
use Rattle.net_engine.proofs.CallLemmas.{call-net, change-call}
use Rattle.net_engine.proofs.RoomLemmas.{same-room}
use Rattle.net_engine.proofs.net.Net.change_levels.Goals as goal

pub invariant_of-self : goal.invariant_of-self
invariant_of-self g c = (
  (
      let width = c.requires.width ∙ ap (λ (n : NetNow). length (driven_of n.values c.args.item)) (sym c.self.view_is) in
      call-net c.self.inside.design c.self.inside.store.values c.drive_levels-changed.new.self.values c.self.inside.marks.items c.as_mut_slice.result.now c.follow.new.marks c.self.inside.marks.len c.args.item c.args.levels (forced_of c.self.inside.store.values c.args.item) c.self.invariant.0
      c.self.inside.marks.ok.0 c.as_mut_slice.ensures.value c.follow.auto.marks c.drive_levels-changed.ensures.values width (c.self.invariant.0.wide.forced c.args.item ∙ sym width)
      ),
  same-room _ _ _ c.self.invariant.1 c.drive_levels-changed.ensures.room,
)

pub returns-clause-state : goal.returns-clause-state
returns-clause-state g c =
    change-call c.args.self.now c.self.inside.design c.self.inside.store.values c.drive_levels-changed.new.self.values c.self.inside.marks.items c.as_mut_slice.result.now c.follow.new.marks c.self.inside.marks.len c.args.item c.args.levels c.args.threads.now c.follow.new.threads
    (g.A.Agenda.schedule c.args.agenda.now) (g.A.Agenda.schedule c.follow.new.agenda) (change_if c.drive_levels-changed.result c.drive_levels-changed.new.change) c.self.view_is c.requires.fits c.self.inside.marks.ok.0 c.as_mut_slice.ensures.value c.follow.auto.marks c.drive_levels-changed.ensures.values c.drive_levels-changed.ensures.change c.follow.ensures
