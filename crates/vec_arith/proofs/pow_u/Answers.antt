use Rattle.std.proofs.Common.{◌∙◌, ap}
use Rattle.four_state.specs.Planes.{places}
use Rattle.vec_arith.proofs.Modulo.{of_wrapped}
use Rattle.vec_arith.proofs.Operations.{raised_known}
use Rattle.vec_arith.proofs.pow_u.Goals as goal

pub returns-in-Some-Some : goal.returns-in-Some-Some
returns-in-Some-Some c =
    raised_known c.args.left c.args.right _ _ _ _ _ _ c.known.ensures.value c.known-2.ensures.value c.in-Some-Some.is-0 c.in-Some-Some.is-1 c.width.ensures.value
    (c.from_planes.ensures ∙ ap (λ n. places n 0 c.width.result) c.wrapping_power.ensures ∙ of_wrapped _ _ c.width.ensures.most)
