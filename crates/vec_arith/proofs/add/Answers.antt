use Rattle.std.proofs.Common.{◌+ℤ◌, ◌∙◌}
use Rattle.vec_arith.proofs.Modulo.{of_wrapped}
use Rattle.vec_arith.proofs.Operations.{computed_unsigned}
use Rattle.vec_arith.proofs.add.Goals as goal

pub returns-in-Some-Some : goal.returns-in-Some-Some
returns-in-Some-Some c =
    computed_unsigned ◌+ℤ◌ c.args.left c.args.right _ _ _ _ _ _ c.known.ensures.value c.known-2.ensures.value c.in-Some-Some.is-0 c.in-Some-Some.is-1
    c.width.ensures.value (c.from_planes.ensures ∙ of_wrapped _ _ c.width.ensures.most)
