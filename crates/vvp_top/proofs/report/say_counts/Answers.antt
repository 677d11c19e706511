use Rattle.std.proofs.Common.{List, ℕ, subst, ◌∙◌}
use Rattle.vvp_top.specs.Ends.{SaysOrFails}
use Rattle.vvp_top.proofs.SayLemmas.{counts-line}
use Rattle.vvp_top.proofs.report.say_counts.Goals as goal

pub returns-clause-said : goal.returns-clause-said
returns-clause-said g c =
    subst (λ (text : List ℕ). SaysOrFails c.try_say.result text (g.M.Sink.held c.args.errs.now) (g.M.Sink.held c.try_say.new.errs) (g.M.Sink.faults c.args.errs.now) (g.M.Sink.faults c.try_say.new.errs))
    (counts-line c.args.outcome c.args.counts _ _ _ _ c.ending_name.ensures (c.as_bytes-time.ensures.value ∙ c.format.ensures.text) (c.as_bytes-steps.ensures.value ∙ c.format-2.ensures.text) (c.as_bytes-peak.ensures.value ∙ c.format-3.ensures.text)) c.try_say.ensures.said
