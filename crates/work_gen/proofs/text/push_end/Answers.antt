use Rattle.std.proofs.Common.{◌≡◌, ◌++◌, ap, ◌∙◌, refl}
use Rattle.std.proofs.lemmas.Result.{IfOk-weaker}
use Rattle.work_gen.specs.Workload.{end_template, end_text, filled}
use Rattle.work_gen.specs.declared.text.TheConstants.{END}
use Rattle.work_gen.proofs.text.push_end.Goals as goal

end_is : END.now ≡ end_template
unfolding end_template
end_is = refl

pub returns : goal.returns
unfolding end_text
returns c = IfOk-weaker c.fill.result _ _
    (λ _ more. more ∙ ap (λ t. c.args.text.now.items ++ filled t c.as_bytes.result.now) end_is
    ∙ ap (λ d. c.args.text.now.items ++ filled end_template d) (c.as_bytes.ensures.value ∙ c.format.ensures.text)) c.fill.ensures
