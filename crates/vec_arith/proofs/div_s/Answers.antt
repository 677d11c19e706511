use Rattle.std.proofs.Common.{◌∙◌, rules}
use Rattle.std.specs.Prelude.{int_div}
use Rattle.vec_arith.proofs.Operations.{divided_signed}
use Rattle.vec_arith.proofs.Signed.{of_quotient, not_zero}
use Rattle.vec_arith.proofs.div_s.Goals as goal

pub returns-in-Some-Some : goal.returns-in-Some-Some
returns-in-Some-Some c =
    divided_signed int_div c.args.left c.args.right _ _ _ _ _ _ c.known_signed.ensures c.known_signed-2.ensures c.in-Some-Some.is-0 c.in-Some-Some.is-1
    c.width.ensures.value (not_zero c.in-Some-Some.y c.if-y-ne0.true)
    (c.from_planes.ensures ∙ of_quotient c.in-Some-Some.x c.in-Some-Some.y _ _ _ c.width.ensures.most (search rules) (search rules) c.wrapping_div.ensures c.cast_unsigned.ensures)
