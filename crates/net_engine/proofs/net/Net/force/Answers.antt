use Rattle.std.proofs.Common.{[], ◌≤◌, ℕ, Some, length, map, get_or, refl, sym, ap, ◌∙◌, subst}
use Rattle.sym_link.specs.Roots.{kind_of}
use Rattle.net_engine.specs.Net.{driven_of, strongly, words_of}
use Rattle.net_engine.specs.Kept.{NetNow}
use Rattle.net_engine.specs.Parts.{HasLevels, change_if}
use Rattle.net_engine.proofs.RootLemmas.{levels-driven}
use Rattle.net_engine.proofs.CallLemmas.{call-net, force-call}
use Rattle.net_engine.proofs.SoundLemmas.{driven-there, word-width, forced-length}
use Rattle.net_engine.proofs.RoomLemmas.{same-room}
use Rattle.net_engine.proofs.net.Net.force.Goals as goal

pub force-changed-requires-clause-there : goal.force-changed-requires-clause-there
force-changed-requires-clause-there g c =
    subst (λ (r : ℕ). 1 ≤ length (driven_of c.self.inside.store.values r)) (sym c.root-root.ensures)
    (levels-driven c.self.inside.design c.self.inside.store.values c.args.item c.self.invariant.0.linked c.self.invariant.0.wide (subst (λ (n : NetNow). HasLevels (kind_of n.nodes c.args.item)) (sym c.self.view_is) c.requires.item))

pub force-changed-requires-clause-width : goal.force-changed-requires-clause-width
force-changed-requires-clause-width g c =
    c.requires.width ∙ ap (λ (n : NetNow). length (get_or (words_of n.nodes n.values c.args.item) 0 [])) (sym c.self.view_is)
    ∙ word-width c.self.inside.design c.self.inside.store.values c.args.item c.self.invariant.0.linked c.self.invariant.0.wide (subst (λ (n : NetNow). HasLevels (kind_of n.nodes c.args.item)) (sym c.self.view_is) c.requires.item)
    ∙ ap (λ (r : ℕ). length (driven_of c.self.inside.store.values r)) (sym c.root-root.ensures)

pub follow-requires-clause-item : goal.follow-requires-clause-item
follow-requires-clause-item g c =
    driven-there c.self.inside.design c.self.inside.store.values c.root-root.result c.self.invariant.0.wide
    (subst (λ (r : ℕ). 1 ≤ length (driven_of c.self.inside.store.values r)) (sym c.root-root.ensures)
    (levels-driven c.self.inside.design c.self.inside.store.values c.args.item c.self.invariant.0.linked c.self.invariant.0.wide (subst (λ (n : NetNow). HasLevels (kind_of n.nodes c.args.item)) (sym c.self.view_is) c.requires.item)))

pub invariant_of-self : goal.invariant_of-self
invariant_of-self g c = (
  (
      let width = c.requires.width ∙ ap (λ (n : NetNow). length (get_or (words_of n.nodes n.values c.args.item) 0 [])) (sym c.self.view_is)
      ∙ word-width c.self.inside.design c.self.inside.store.values c.args.item c.self.invariant.0.linked c.self.invariant.0.wide (subst (λ (n : NetNow). HasLevels (kind_of n.nodes c.args.item)) (sym c.self.view_is) c.requires.item)
      ∙ ap (λ (r : ℕ). length (driven_of c.self.inside.store.values r)) (sym c.root-root.ensures) in
      call-net c.self.inside.design c.self.inside.store.values c.force-changed.new.self.values c.self.inside.marks.items c.as_mut_slice.result.now c.follow.new.marks c.self.inside.marks.len c.root-root.result (driven_of c.self.inside.store.values c.root-root.result) (map Some (strongly c.args.value))
      c.self.invariant.0 c.self.inside.marks.ok.0 c.as_mut_slice.ensures.value c.follow.auto.marks c.force-changed.ensures.values refl (forced-length c.args.value (driven_of c.self.inside.store.values c.root-root.result) width)
      ),
  same-room _ _ _ c.self.invariant.1 c.force-changed.ensures.room,
)

pub returns-clause-state : goal.returns-clause-state
returns-clause-state g c =
    force-call c.args.self.now c.self.inside.design c.self.inside.store.values c.force-changed.new.self.values c.self.inside.marks.items c.as_mut_slice.result.now c.follow.new.marks c.self.inside.marks.len c.args.item c.root-root.result c.args.value c.args.threads.now c.follow.new.threads
    (g.A.Agenda.schedule c.args.agenda.now) (g.A.Agenda.schedule c.follow.new.agenda) (change_if c.force-changed.result c.force-changed.new.change) c.self.view_is c.requires.fits c.self.inside.marks.ok.0 c.as_mut_slice.ensures.value c.follow.auto.marks c.root-root.ensures c.force-changed.ensures.values c.force-changed.ensures.change c.follow.ensures
