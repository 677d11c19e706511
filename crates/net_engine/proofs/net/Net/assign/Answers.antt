use Rattle.std.proofs.Common.{◌≡◌, ℤ, List, length, sym, ap, ◌∙◌, subst, w64}
use Rattle.std.proofs.lemmas.Int.{to_z-of_z}
use Rattle.std.proofs.lemmas.List.{length-map}
use Rattle.four_state.specs.declared.bits.Bit.{Bit}
use Rattle.four_state.specs.Vector.{overlaid}
use Rattle.net_engine.specs.Net.{driven_of, seen, strongly}
use Rattle.net_engine.specs.Delivery.{change}
use Rattle.net_engine.specs.Kept.{NetNow, Delivers}
use Rattle.net_engine.proofs.NetLemmas.{assign-delivers}
use Rattle.net_engine.proofs.net.Net.assign.Goals as goal

pub change_bits-requires-clause-width : goal.change_bits-requires-clause-width
change_bits-requires-clause-width g c = c.covers.ensures.width c.if-covers.true ∙ c.width.ensures ∙ ap (λ (n : NetNow). length (driven_of n.values c.args.item)) c.self.view_is

pub returns-then-covers-clause-state : goal.returns-then-covers-clause-state
returns-then-covers-clause-state g c =
    let width = c.width.ensures ∙ ap (λ (n : NetNow). length (driven_of n.values c.args.item)) c.self.view_is in
    let driven = driven_of c.args.self.now.values c.args.item in
    assign-delivers c.args.self.now.nodes c.args.item c.args.offset c.args.value c.args.self.now c.change_bits.new.self c.args.threads.now c.change_bits.new.threads (g.A.Agenda.schedule c.args.agenda.now) (g.A.Agenda.schedule c.change_bits.new.agenda)
    (subst (λ (bits : List Bit). Delivers (change c.args.self.now.nodes c.args.item (strongly bits)) c.args.self.now c.change_bits.new.self c.args.threads.now c.change_bits.new.threads (g.A.Agenda.schedule c.args.agenda.now) (g.A.Agenda.schedule c.change_bits.new.agenda))
    (sym (subst (λ (z : ℤ). overlaid (seen driven) z c.args.value ≡ c.args.value) (to_z-of_z w64 c.args.offset c.ranges.offset) (c.covers.ensures.value c.if-covers.true (seen driven) (length-map driven _ ∙ sym width)))) c.change_bits.ensures.state)
