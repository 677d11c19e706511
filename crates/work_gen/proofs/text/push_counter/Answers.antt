use Rattle.std.proofs.Common.{◌≡◌, ◌++◌, ap, ◌∙◌, refl}
use Rattle.std.proofs.lemmas.Result.{IfOk-weaker}
use Rattle.work_gen.specs.Workload.{counter_template, counter_text, filled}
use Rattle.work_gen.specs.declared.text.TheConstants.{COUNTER}
use Rattle.work_gen.proofs.text.push_counter.Goals as goal

counter_is : COUNTER.now ≡ counter_template
unfolding counter_template
counter_is = refl

pub returns : goal.returns
unfolding counter_text
returns c = IfOk-weaker c.fill.result _ _
    (λ _ more. more ∙ ap (λ t. c.args.text.now.items ++ filled t c.as_bytes.result.now) counter_is
    ∙ ap (λ d. c.args.text.now.items ++ filled counter_template d) (c.as_bytes.ensures.value ∙ c.format.ensures.text)) c.fill.ensures
