use Rattle.std.proofs.Common.{◌∙◌, sym, ap, arith, Some}
use Rattle.four_state.proofs.Masks.{width_spelled}
use Rattle.four_state.proofs.Signs.{sum_fits, signed_at_one, signed_at_other}
use Rattle.four_state.proofs.vector.Vec4.known_signed.Goals as goal

pub bit-requires : goal.bit-requires
bit-requires c = omega (arith, width_spelled _ _ _ _ c.self.view_is, c.self.invariant.least)

pub overflow_add-number : goal.overflow_add-number
overflow_add-number c =
    omega (arith, sum_fits _ _ _ _ c.low_ones.ensures (width_spelled _ _ _ _ c.self.view_is) c.in_ok-number.ensures.below c.low_ones.type_inv)

pub returns-in-One : goal.returns-in-One
returns-in-One c =
    signed_at_one _ _ _ _ _ _ _ c.self.view_is c.self.invariant c.low_ones.ensures (sym c.known.ensures.value ∙ c.in_ok-number.was)
    (c.bit.ensures ∙ ap (λ bit. Some bit) c.in-One.is) c.cast_signed.ensures

pub returns-in_default : goal.returns-in_default
returns-in_default c =
    signed_at_other _ _ _ _ _ _ _ c.self.view_is c.self.invariant (sym c.known.ensures.value ∙ c.in_ok-number.was)
    c.bit.ensures c.in_default.not-One c.cast_signed-in_default.ensures
