use Rattle.std.proofs.Common.{◌≤◌, ℕ, Some, length, refl, sym, ap, ◌∙◌, subst}
use Rattle.sym_link.specs.Roots.{kind_of}
use Rattle.net_engine.specs.Net.{driven_of, levels_of, value_of}
use Rattle.net_engine.specs.Kept.{NetNow}
use Rattle.net_engine.proofs.RootLemmas.{levels-length}
use Rattle.net_engine.proofs.CallLemmas.{delay-port, delay-call}
use Rattle.net_engine.proofs.net.Net.eval_delay.Goals as goal

pub root-requires : goal.root-requires
root-requires g c =
    (delay-port c.self.inside.design c.self.inside.store.values c.args.item c.in-Delay.rise c.in-Delay.fall c.in-Delay.decay c.in-Delay.port c.self.invariant.0.linked c.self.invariant.0.wide (c.kind.ensures ∙ ap (λ k. Some k) c.in-Delay.is)).0

pub shown-wanted-requires : goal.shown-wanted-requires
shown-wanted-requires g c =
    subst (λ (r : ℕ). 1 ≤ length (driven_of c.self.inside.store.values r)) (sym c.root.ensures)
    (delay-port c.self.inside.design c.self.inside.store.values c.args.item c.in-Delay.rise c.in-Delay.fall c.in-Delay.decay c.in-Delay.port c.self.invariant.0.linked c.self.invariant.0.wide (c.kind.ensures ∙ ap (λ k. Some k) c.in-Delay.is)).1

pub ask-requires-clause-width : goal.ask-requires-clause-width
ask-requires-clause-width g c =
    ap length c.shown-wanted.ensures ∙ levels-length c.self.inside.store.values c.root.result (c.self.invariant.0.wide.forced c.root.result) ∙ ap (λ (r : ℕ). length (driven_of c.self.inside.store.values r)) c.root.ensures
    ∙ (delay-port c.self.inside.design c.self.inside.store.values c.args.item c.in-Delay.rise c.in-Delay.fall c.in-Delay.decay c.in-Delay.port c.self.invariant.0.linked c.self.invariant.0.wide (c.kind.ensures ∙ ap (λ k. Some k) c.in-Delay.is)).2
    ∙ ap (λ (n : NetNow). length (driven_of n.values c.args.item)) c.self.view_is

pub returns-clause-state : goal.returns-clause-state
returns-clause-state g c =
    delay-call c.args.self.now c.ask.new.self c.args.self.now.nodes c.args.self.now.values c.args.self.now.marks c.args.item c.in-Delay.rise c.in-Delay.fall c.in-Delay.decay c.in-Delay.port c.shown-wanted.result c.args.threads.now c.ask.new.threads
    (g.A.Agenda.schedule c.args.agenda.now) (g.A.Agenda.schedule c.ask.new.agenda) refl (ap (λ (n : NetNow). kind_of n.nodes c.args.item) (sym c.self.view_is) ∙ c.kind.ensures ∙ ap (λ k. Some k) c.in-Delay.is)
    (c.shown-wanted.ensures ∙ ap (λ (r : ℕ). levels_of c.self.inside.store.values r) c.root.ensures ∙ ap (λ (n : NetNow). value_of n.nodes n.values c.in-Delay.port) c.self.view_is) c.ask.ensures.state
