use Rattle.std.proofs.Common.{pos, ◌∙◌, ap}
use Rattle.vec_arith.specs.Arith.{of_integer}
use Rattle.vec_arith.proofs.Modulo.{of_natural}
use Rattle.vec_arith.proofs.Operations.{logarithm_known}
use Rattle.vec_arith.proofs.clog2.Goals as goal

pub returns-in-Some : goal.returns-in-Some
returns-in-Some c =
    logarithm_known c.args.v _ _ _ c.known.ensures.value c.in-Some.is
    (c.from_planes.ensures ∙ of_natural _ 32 ∙ ap (λ n. of_integer (pos n) 32) (c.from.ensures ∙ c.rounded_up_log2.ensures))
