-- Identity as a bit.
use Rattle.std.proofs.Common.{◌≡◌, ◌≢◌, Bool, true, false, List, refl, ap}
use Rattle.std.specs.Prelude.{if◌then◌else◌}
use Rattle.std.specs.Bool.{Decides}
use Rattle.four_state.specs.declared.bits.Bit.{Bit}
use Rattle.four_state.specs.declared.bits.Bit.TheVariants.{Zero, One}
use Rattle.four_state.specs.Same.{is_same, is_same-Decides}
use Rattle.op_exec.specs.ComparisonRows.{identity}

-- a test that fails as a bit
failed_bit : (test : Bool) (P : Type 0) → Decides test P → ¬ P → (if test then One else Zero) ≡ Zero
failed_bit true P decides h = absurd (h (decides.0 refl))
failed_bit false P decides h = refl

pub identity-same : (bits : List Bit) → identity bits bits ≡ One
unfolding identity
identity-same bits =
    let same : is_same bits bits ≡ true = (is_same-Decides bits bits).1 refl in
    ap (λ test. if test then One else Zero) same

pub identity-other : (lefts rights : List Bit) → lefts ≢ rights → identity lefts rights ≡ Zero
unfolding identity
identity-other lefts rights h = failed_bit (is_same lefts rights) (lefts ≡ rights) (is_same-Decides lefts rights) h

pub ruleset identities = (identity-same, identity-other)
