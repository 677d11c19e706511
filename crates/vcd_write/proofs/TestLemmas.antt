-- What holds of each element of a short list.
use Rattle.std.proofs.Common.{zero, suc, List, [], ◌∷◌, All, arith}

all-none : {X : Type 0} (P : X → Type 0) → All P []
all-none P k d h = absurd (omega arith)

all-cons : {X : Type 0} (P : X → Type 0) (x : X) (xs : List X) → P x → All P xs → All P (x ∷ xs)
all-cons P x xs first rest zero d h = first
all-cons P x xs first rest (suc k) d h = rest k d (omega arith)

pub all-three : {X : Type 0} (P : X → Type 0) (x y z : X) → P x → P y → P z → All P (x ∷ y ∷ z ∷ [])
all-three P x y z first second third = all-cons P x (y ∷ z ∷ []) first (all-cons P y (z ∷ []) second (all-cons P z [] third (all-none P)))
