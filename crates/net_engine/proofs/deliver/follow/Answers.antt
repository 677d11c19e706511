use Rattle.std.proofs.Common.{Bool, subst}
use Rattle.net_engine.specs.Parts.{IsChange, change_if}
use Rattle.net_engine.proofs.FollowLemmas.{follow-some, follow-none}
use Rattle.net_engine.proofs.deliver.follow.Goals as goal

pub returns-then-changed : goal.returns-then-changed
returns-then-changed g c = λ before after is.
    follow-some c.args.design.now c.args.item c.args.change.now before after c.args.marks.now c.deliver.new.marks c.args.threads.now c.deliver.new.threads (g.A.Agenda.schedule c.args.agenda.now) (g.A.Agenda.schedule c.deliver.new.agenda)
    (subst (λ (b : Bool). IsChange (change_if b c.args.change.now) before after) c.if-changed.true is) c.deliver.ensures

pub returns-else-changed : goal.returns-else-changed
returns-else-changed g c = λ before after is.
    follow-none c.args.design.now c.args.item before after c.args.marks.now c.args.threads.now (g.A.Agenda.schedule c.args.agenda.now) (subst (λ (b : Bool). IsChange (change_if b c.args.change.now) before after) c.if-changed.false is)
