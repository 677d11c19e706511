use Rattle.std.proofs.Common.{List, ℕ, subst, ◌∙◌}
use Rattle.vvp_top.specs.Ends.{Says}
use Rattle.vvp_top.proofs.SayLemmas.{refusal-line, trap-line}
use Rattle.vvp_top.proofs.outcome.Outcome.say.Goals as goal

pub returns-in-Refused : goal.returns-in-Refused
returns-in-Refused g c =
    subst (λ (text : List ℕ). Says text (g.M.Sink.held c.args.errs.now) (g.M.Sink.held c.say_pieces.new.errs) (g.M.Sink.faults c.args.errs.now) (g.M.Sink.faults c.say_pieces.new.errs))
    (refusal-line c.args.self c.in-Refused.line c.in-Refused.why _ _ c.in-Refused.is (c.as_bytes-line.ensures.value ∙ c.format.ensures.text) c.text.ensures) c.say_pieces.ensures

pub returns-in-Trap : goal.returns-in-Trap
returns-in-Trap g c =
    subst (λ (text : List ℕ). Says text (g.M.Sink.held c.args.errs.now) (g.M.Sink.held c.say_pieces-in-Trap.new.errs) (g.M.Sink.faults c.args.errs.now) (g.M.Sink.faults c.say_pieces-in-Trap.new.errs))
    (trap-line c.args.self c.in-Trap.kind c.in-Trap.address _ _ c.in-Trap.is c.trap_name.ensures (c.as_bytes-address.ensures.value ∙ c.format-in-Trap.ensures.text)) c.say_pieces-in-Trap.ensures
