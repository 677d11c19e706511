use Rattle.std.proofs.Common.{List, ℕ, subst, sym}
use Rattle.vvp_top.specs.Ends.{Says}
use Rattle.vvp_top.proofs.SayLemmas.{lines-none, lines-some, says-both, says-first}
use Rattle.vvp_top.proofs.report.Report.say.Goals as goal

pub returns-in-None : goal.returns-in-None
returns-in-None g c =
    subst (λ (text : List ℕ). Says text (g.M.Sink.held c.args.errs.now) (g.M.Sink.held c.say.new.errs) (g.M.Sink.faults c.args.errs.now) (g.M.Sink.faults c.say.new.errs)) (sym (lines-none c.args.self c.in-None.is)) c.say.ensures

pub returns-in-Err : goal.returns-in-Err
returns-in-Err g c =
    subst (λ (text : List ℕ). Says text (g.M.Sink.held c.args.errs.now) (g.M.Sink.held c.say_counts.new.errs) (g.M.Sink.faults c.args.errs.now) (g.M.Sink.faults c.say_counts.new.errs)) (sym (lines-some c.args.self c.in-Some.counts c.in-Some.is))
    (says-first _ _ _ _ _ _ c.in-Err.ensures.said)

pub returns-in-Ok : goal.returns-in-Ok
returns-in-Ok g c =
    subst (λ (text : List ℕ). Says text (g.M.Sink.held c.args.errs.now) (g.M.Sink.held c.say-in-Ok.new.errs) (g.M.Sink.faults c.args.errs.now) (g.M.Sink.faults c.say-in-Ok.new.errs)) (sym (lines-some c.args.self c.in-Some.counts c.in-Some.is))
    (says-both _ _ _ _ _ _ _ _ c.in-Ok.ensures.said c.in-Ok.ensures.later c.say-in-Ok.ensures)
