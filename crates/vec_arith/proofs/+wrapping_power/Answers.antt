use Rattle.std.proofs.Common.{◌*◌, ◌%◌, ◌^◌, ◌∙◌, ap, arith}
use Rattle.vec_arith.proofs.Powers.{power_even, power_odd}
use Rattle.vec_arith.proofs.+wrapping_power.Goals as goal

pub returns-then-exponent-eq1 : goal.returns-then-exponent-eq1
returns-then-exponent-eq1 t c =
    ap (λ root. (root * c.args.base) % 2 ^ 128) c.wrapping_power-root.ensures ∙ power_odd c.args.base c.args.exponent (2 ^ 128) c.if-exponent-eq1.true

pub returns-else-exponent-eq1 : goal.returns-else-exponent-eq1
returns-else-exponent-eq1 t c = c.wrapping_power-root.ensures ∙ power_even c.args.base c.args.exponent (2 ^ 128) (omega (arith, c.if-exponent-eq1.false))
