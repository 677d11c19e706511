use Rattle.std.proofs.Common.{◌∙◌}
use Rattle.std.specs.Prelude.{int_div}
use Rattle.vec_arith.proofs.Modulo.{of_natural}
use Rattle.vec_arith.proofs.Operations.{divided_unsigned}
use Rattle.vec_arith.proofs.div_u.Goals as goal

pub returns-in-Some-Some : goal.returns-in-Some-Some
returns-in-Some-Some c =
    divided_unsigned int_div c.args.left c.args.right _ _ _ _ _ _ c.known.ensures.value c.known-2.ensures.value c.in-Some-Some.is-0 c.in-Some-Some.is-1
    c.width.ensures.value c.if-y-ne0.true (c.from_planes.ensures ∙ of_natural _ _)
