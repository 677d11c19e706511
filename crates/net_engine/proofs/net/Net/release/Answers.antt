use Rattle.std.proofs.Common.{◌≤◌, ◌+◌, ℕ, [], length, map, get_or, sym, ◌∙◌, subst, arith}
use Rattle.std.specs.List.{enumerate_from}
use Rattle.sym_link.specs.Roots.{kind_of}
use Rattle.net_engine.specs.Net.{driven_of, forced_of, words_of}
use Rattle.net_engine.specs.Delivery.{driven_after, forced_after}
use Rattle.net_engine.specs.Kept.{NetNow}
use Rattle.net_engine.specs.Parts.{HasLevels, change_if}
use Rattle.net_engine.proofs.RootLemmas.{levels-driven}
use Rattle.net_engine.proofs.CallLemmas.{call-net, release-call, levels-most}
use Rattle.net_engine.proofs.SoundLemmas.{driven-there, word-width, released-length, released-driven}
use Rattle.net_engine.proofs.RoomLemmas.{same-room}
use Rattle.net_engine.proofs.net.Net.release.Goals as goal

pub overflow_cast-base : goal.overflow_cast-base
overflow_cast-base g c =
    let levels : HasLevels (kind_of c.self.inside.design c.args.item) = subst (λ (n : NetNow). HasLevels (kind_of n.nodes c.args.item)) (sym c.self.view_is) c.requires.item in
    let within : c.args.base + c.args.width ≤ length (get_or (words_of c.self.inside.design c.self.inside.store.values c.args.item) 0 []) = subst (λ (n : NetNow). c.args.base + c.args.width ≤ length (get_or (words_of n.nodes n.values c.args.item) 0 [])) (sym c.self.view_is) c.requires.within in
    let width = word-width c.self.inside.design c.self.inside.store.values c.args.item c.self.invariant.0.linked c.self.invariant.0.wide levels in
    let most = levels-most c.self.inside.design c.self.inside.store.values c.args.item c.self.invariant.0.linked c.self.invariant.0.wide levels in
    omega (arith, within, width, most)

pub release-changed-requires : goal.release-changed-requires
release-changed-requires g c = record {
  there = subst (λ (r : ℕ). 1 ≤ length (driven_of c.self.inside.store.values r)) (sym c.root-root.ensures)
      (levels-driven c.self.inside.design c.self.inside.store.values c.args.item c.self.invariant.0.linked c.self.invariant.0.wide (subst (λ (n : NetNow). HasLevels (kind_of n.nodes c.args.item)) (sym c.self.view_is) c.requires.item));
}

pub follow-requires-clause-item : goal.follow-requires-clause-item
follow-requires-clause-item g c =
    driven-there c.self.inside.design c.self.inside.store.values c.root-root.result c.self.invariant.0.wide
    (subst (λ (r : ℕ). 1 ≤ length (driven_of c.self.inside.store.values r)) (sym c.root-root.ensures)
    (levels-driven c.self.inside.design c.self.inside.store.values c.args.item c.self.invariant.0.linked c.self.invariant.0.wide (subst (λ (n : NetNow). HasLevels (kind_of n.nodes c.args.item)) (sym c.self.view_is) c.requires.item)))

pub invariant_of-self : goal.invariant_of-self
invariant_of-self g c = (
  (
      let root = c.root-root.result in
      let long = c.self.invariant.0.wide.forced root in
      let width = released-driven c.args.base c.args.width c.args.keep c.self.inside.store.values root long in
      call-net c.self.inside.design c.self.inside.store.values c.release-changed.new.self.values c.self.inside.marks.items c.as_mut_slice.result.now c.follow.new.marks c.self.inside.marks.len root (driven_after c.args.base c.args.width c.args.keep c.self.inside.store.values root)
      (map (forced_after c.args.base c.args.width) (enumerate_from 0 (forced_of c.self.inside.store.values root)))
      c.self.invariant.0 c.self.inside.marks.ok.0 c.as_mut_slice.ensures.value c.follow.auto.marks c.release-changed.ensures.values width
      (released-length c.args.base c.args.width (forced_of c.self.inside.store.values root) (driven_after c.args.base c.args.width c.args.keep c.self.inside.store.values root) (long ∙ sym width))
      ),
  same-room _ _ _ c.self.invariant.1 c.release-changed.ensures.room,
)

pub returns-clause-state : goal.returns-clause-state
returns-clause-state g c =
    release-call c.args.self.now c.self.inside.design c.self.inside.store.values c.release-changed.new.self.values c.self.inside.marks.items c.as_mut_slice.result.now c.follow.new.marks c.self.inside.marks.len c.args.item c.root-root.result c.args.base c.args.width c.args.keep c.args.threads.now c.follow.new.threads
    (g.A.Agenda.schedule c.args.agenda.now) (g.A.Agenda.schedule c.follow.new.agenda) (change_if c.release-changed.result c.release-changed.new.change) c.self.view_is c.requires.fits c.self.inside.marks.ok.0 c.as_mut_slice.ensures.value c.follow.auto.marks c.root-root.ensures c.release-changed.ensures.values c.release-changed.ensures.change c.follow.ensures
