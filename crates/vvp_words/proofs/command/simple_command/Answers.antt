use Rattle.std.proofs.Common.{ap₂, codes, ◌≡◌, ◌∙◌}
use Rattle.std.proofs.lemmas.Result.{IfOk-weaker}
use Rattle.clap.specs.Words.{app_of, with_rule}
use Rattle.vvp_words.specs.Command.{bare, operand_rule, option_rule, simple_command}
use Rattle.vvp_words.proofs.command.simple_command.Goals as goal

pub returns : goal.returns
unfolding simple_command
returns c =
    let one_is : app_of c.in_ok-arg.field-0 ≡ with_rule bare operand_rule = c.in_ok-arg.ensures.shape c.operand_arg.ensures.local ∙ ap₂ with_rule c.bare_command.ensures c.operand_arg.ensures.rule in
    let two_is : app_of c.in_ok-arg-2.field-0 ≡ with_rule (with_rule bare operand_rule) (option_rule (codes "events")) = c.in_ok-arg-2.ensures.shape c.option_arg.ensures.local ∙ ap₂ with_rule one_is c.option_arg.ensures.rule in
    let three_is : app_of c.in_ok-arg-3.field-0 ≡ with_rule (with_rule (with_rule bare operand_rule) (option_rule (codes "events"))) (option_rule (codes "mode")) = c.in_ok-arg-3.ensures.shape c.option_arg-2.ensures.local ∙ ap₂ with_rule two_is c.option_arg-2.ensures.rule in
    let four_is : app_of c.in_ok-arg-4.field-0 ≡ with_rule (with_rule (with_rule (with_rule bare operand_rule) (option_rule (codes "events"))) (option_rule (codes "mode"))) (option_rule (codes "order")) = c.in_ok-arg-4.ensures.shape c.option_arg-3.ensures.local ∙ ap₂ with_rule three_is c.option_arg-3.ensures.rule in
    IfOk-weaker c.arg-5.result _ _ (λ all adds. adds.shape c.stats_arg.ensures.local ∙ ap₂ with_rule four_is c.stats_arg.ensures.rule) c.arg-5.ensures
