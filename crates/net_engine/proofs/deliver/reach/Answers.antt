use Rattle.std.proofs.Common.{Some, refl, sym, ap, ◌∙◌}
use Rattle.net_engine.proofs.FollowLemmas.{asks-room, reached-gate, reached-delay, reached-edge}
use Rattle.net_engine.proofs.deliver.reach.Goals as goal

pub ask_eval-requires-clause-room : goal.ask_eval-requires-clause-room
ask_eval-requires-clause-room g c = λ unmarked.
    asks-room c.args.design.now c.args.marks.now c.args.threads.now (g.A.Agenda.schedule c.args.agenda.now) c.args.item _ c.requires.fits (c.kind.ensures ∙ ap (λ k. Some k) c.in-Functor.is) refl unmarked

pub ask_eval-requires-in-Delay-clause-room : goal.ask_eval-requires-in-Delay-clause-room
ask_eval-requires-in-Delay-clause-room g c = λ unmarked.
    asks-room c.args.design.now c.args.marks.now c.args.threads.now (g.A.Agenda.schedule c.args.agenda.now) c.args.item _ c.requires.fits (c.kind.ensures ∙ ap (λ k. Some k) c.in-Delay.is) refl unmarked

pub returns-in-Functor : goal.returns-in-Functor
returns-in-Functor g c =
    reached-gate c.args.design.now c.args.change.now.old c.args.change.now.new c.args.marks.now c.ask_eval.new.marks c.args.threads.now (g.A.Agenda.schedule c.args.agenda.now) (g.A.Agenda.schedule c.ask_eval.new.agenda) c.args.item _ _ _
    (c.kind.ensures ∙ ap (λ k. Some k) c.in-Functor.is) c.ask_eval.ensures.marked c.ask_eval.ensures.unmarked

pub returns-in-Delay : goal.returns-in-Delay
returns-in-Delay g c =
    reached-delay c.args.design.now c.args.change.now.old c.args.change.now.new c.args.marks.now c.ask_eval-in-Delay.new.marks c.args.threads.now (g.A.Agenda.schedule c.args.agenda.now) (g.A.Agenda.schedule c.ask_eval-in-Delay.new.agenda) c.args.item _ _ _ _
    (c.kind.ensures ∙ ap (λ k. Some k) c.in-Delay.is) c.ask_eval-in-Delay.ensures.marked c.ask_eval-in-Delay.ensures.unmarked

pub returns-then-fires : goal.returns-then-fires
returns-then-fires g c =
    reached-edge c.args.design.now c.args.change.now.old c.args.change.now.new c.args.marks.now c.args.marks.now c.args.threads.now c.trigger.new.threads (g.A.Agenda.schedule c.args.agenda.now) (g.A.Agenda.schedule c.trigger.new.agenda) c.args.item _ _
    (c.kind.ensures ∙ ap (λ k. Some k) c.in-Edge.is) (sym c.fires.ensures ∙ c.if-fires.true) (c.trigger.ensures c.args.marks.now)
