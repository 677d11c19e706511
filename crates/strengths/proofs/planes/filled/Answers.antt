use Rattle.std.proofs.Common.{◌≡◌, ◌∙◌, sym, arith}
use Rattle.std.specs.Int.{bit_at}
use Rattle.std.proofs.lemmas.Nat.Bits.{bit_at_ones, bit_at-zero, bit_at-lt, shr_and_one}
use Rattle.strengths.proofs.planes.filled.Goals as goal

pub returns-then-number-place-eq1 : goal.returns-then-number-place-eq1
returns-then-number-place-eq1 c i h = bit_at_ones 128 i h ∙ sym (sym (shr_and_one c.args.number c.args.place) ∙ c.if-number-place-eq1.true)

pub returns-else-number-place-eq1 : goal.returns-else-number-place-eq1
returns-else-number-place-eq1 c i h =
    let not_one : bit_at c.args.number c.args.place ≡ 1 → ⊥ = λ (e : bit_at c.args.number c.args.place ≡ 1). c.if-number-place-eq1.false (shr_and_one c.args.number c.args.place ∙ e) in
    let clear : bit_at c.args.number c.args.place ≡ 0 = omega (arith, bit_at-lt c.args.number c.args.place, not_one) in
    bit_at-zero i ∙ sym clear
