use Rattle.std.proofs.Common.{◌∙◌, rules}
use Rattle.vec_arith.proofs.Modulo.{of_opposite}
use Rattle.vec_arith.proofs.Operations.{negated_known}
use Rattle.vec_arith.proofs.neg.Goals as goal

pub returns-in-Some : goal.returns-in-Some
returns-in-Some c =
    negated_known c.args.v _ _ _ _ c.known.ensures.value c.in-Some.is c.width.ensures.value
    (c.from_planes.ensures ∙ of_opposite _ _ _ c.width.ensures.most (search rules) (search rules) c.wrapping_neg.ensures)
