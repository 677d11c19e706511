use Rattle.std.proofs.Common.{◌≡◌, List, ℕ, ◌++◌, refl, ap, ◌∙◌, arith}
use Rattle.work_gen.specs.Workload.{scope_text}
use Rattle.work_gen.specs.declared.text.TheConstants.{SCOPE}
use Rattle.work_gen.proofs.TextLemmas.{counters-none, counters-more, workload-whole}
use Rattle.work_gen.proofs.text.workload.Goals as goal

scope_is : SCOPE.now ≡ scope_text
unfolding scope_text
scope_is = refl

pub loop-number-init : goal.loop-number-init
loop-number-init c = c.in_ok-extend_from_slice.ensures.items ∙ ap (λ (t : List ℕ). t ++ SCOPE.now) c.new-text.ensures.items ∙ scope_is ∙ counters-none scope_text

pub loop-number-preserved : goal.loop-number-preserved
loop-number-preserved c = counters-more scope_text _ _ c.loop-number.number c.loop-number.invariant c.in_ok-push_counter.ensures

pub returns : goal.returns
returns c = workload-whole c.args.size c.loop-number.number _ _ (omega arith) c.loop-number.invariant c.in_ok-push_end.ensures
