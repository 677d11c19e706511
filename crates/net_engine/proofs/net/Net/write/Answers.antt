use Rattle.std.proofs.Common.{◌≤◌, ℤ, Some, length, sym, ap, ◌∙◌, subst, w64}
use Rattle.std.proofs.lemmas.Int.{to_z-of_z}
use Rattle.sym_link.specs.Roots.{kind_of}
use Rattle.net_engine.specs.Net.{driven_of}
use Rattle.net_engine.specs.Delivery.{variable_assigned}
use Rattle.net_engine.specs.Kept.{NetNow, Delivers, IsWritable}
use Rattle.net_engine.proofs.NetLemmas.{write-variable}
use Rattle.net_engine.proofs.CallLemmas.{net-word, array-call, variable-there}
use Rattle.net_engine.proofs.RoomLemmas.{same-room}
use Rattle.net_engine.proofs.net.Net.write.Goals as goal

pub invariant_of-self : goal.invariant_of-self
invariant_of-self g c = (
  (
      net-word c.self.inside.design c.self.inside.store.values c.lay_over.new.self.values c.self.inside.marks.items c.args.item c.args.word _ c.args.value c.self.invariant.0 c.lay_over.ensures.values
      ),
  same-room _ _ _ c.self.invariant.1 c.lay_over.ensures.room,
)

pub assign-requires : goal.assign-requires
assign-requires g c =
    let found = variable-there c.self.inside.design c.self.inside.store.values c.args.item c.args.word c.kind.result.now c.self.invariant.0.linked c.self.invariant.0.wide c.kind.ensures
    (subst (λ (n : NetNow). IsWritable n.values c.args.item c.args.word (kind_of n.nodes c.args.item)) (sym c.self.view_is) c.requires.item) (λ words e. c.in_default.not-Array words e) in
    record { fits = c.requires.fits; there = subst (λ (n : NetNow). 1 ≤ length (driven_of n.values c.args.item)) c.self.view_is found.2 }

pub returns-in-Array-clause-state : goal.returns-in-Array-clause-state
returns-in-Array-clause-state g c =
    array-call c.args.self.now c.self.inside.design c.self.inside.store.values c.lay_over.new.self.values c.self.inside.marks.items c.args.item c.args.word c.in-Array.words c.args.offset _ c.args.value c.args.threads.now (g.A.Agenda.schedule c.args.agenda.now) c.self.view_is c.requires.fits
    (c.kind.ensures ∙ ap (λ k. Some k) c.in-Array.is) (to_z-of_z w64 c.args.offset c.ranges.offset) c.lay_over.ensures.values

pub returns-in_default : goal.returns-in_default
returns-in_default g c =
    let found = variable-there c.self.inside.design c.self.inside.store.values c.args.item c.args.word c.kind.result.now c.self.invariant.0.linked c.self.invariant.0.wide c.kind.ensures
    (subst (λ (n : NetNow). IsWritable n.values c.args.item c.args.word (kind_of n.nodes c.args.item)) (sym c.self.view_is) c.requires.item) (λ words e. c.in_default.not-Array words e) in
    record {
      state = write-variable c.args.self.now.nodes c.args.item c.args.word c.args.offset c.args.value found.0 c.args.self.now c.assign.new.self c.args.threads.now c.assign.new.threads (g.A.Agenda.schedule c.args.agenda.now) (g.A.Agenda.schedule c.assign.new.agenda)
          (ap (λ (n : NetNow). kind_of n.nodes c.args.item) (sym c.self.view_is) ∙ found.1)
          (subst (λ (z : ℤ). Delivers (variable_assigned c.args.self.now.nodes c.args.item z c.args.value) c.args.self.now c.assign.new.self c.args.threads.now c.assign.new.threads (g.A.Agenda.schedule c.args.agenda.now) (g.A.Agenda.schedule c.assign.new.agenda))
          (to_z-of_z w64 c.args.offset c.ranges.offset) c.assign.ensures.state);
      requests = c.assign.ensures.requests;
    }
