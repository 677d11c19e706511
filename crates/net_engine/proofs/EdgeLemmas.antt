-- Whether two vectors differ.
use Rattle.std.proofs.Common.{◌≡◌, Bool, true, false, not, if◌then◌else◌, List, refl, ap, sym}
use Rattle.std.specs.Cmp.Lexicographic.{pointwise}
use Rattle.four_state.specs.declared.bits.Bit.{Bit}
use Rattle.four_state.specs.declared.bits.Bit.TheVariants.{Zero, One}
use Rattle.four_state.specs.Same.{same_bit}
use Rattle.gate_rules.proofs.FoldLemmas.{identity-same, identity-other}

from-one : (b : Bool) → One ≡ (if b then One else Zero) → b ≡ true
from-one true e = refl
from-one false e = cc

from-zero : (b : Bool) → Zero ≡ (if b then One else Zero) → b ≡ false
from-zero true e = cc
from-zero false e = refl

-- by a test of equality
pub differs-as : (equal : Bool) (xs ys : List Bit) → (equal ≡ true → xs ≡ ys) → (xs ≡ ys → equal ≡ true) → not equal ≡ not (pointwise same_bit xs ys)
differs-as true xs ys to from = ap not (sym (from-one (pointwise same_bit xs ys) (identity-same xs ys (to refl))))
differs-as false xs ys to from = ap not (sym (from-zero (pointwise same_bit xs ys) (identity-other xs ys (λ e. (let never : false ≡ true = from e in cc)))))
