use Rattle.std.proofs.Common.{◌++◌, ◌∷◌, [], List, take, sym, ap, ◌∙◌}
use Rattle.std.proofs.lemmas.List.{take_more}
use Rattle.std.proofs.lemmas.Option.{get_or_from_slice_get, slice_get_within}
use Rattle.four_state.specs.declared.bits.Bit.{Bit}
use Rattle.sys_tasks.proofs.writer.Writer.last.Goals as goal

pub loop-place-preserved : goal.loop-place-preserved
loop-place-preserved c =
    let plane = c.last-plane.result.now in
    let i = c.loop-place.place in
    let v = c.get.result in
    c.in_ok-push.ensures.ok ∙ ap (λ (xs : List (List Bit)). xs ++ v ∷ []) c.loop-place.invariant
    ∙ ap (λ (y : List Bit). take i plane ++ y ∷ []) (sym (get_or_from_slice_get plane i v v c.get.ensures)) ∙ sym (take_more plane i v (slice_get_within plane i v c.get.ensures))
