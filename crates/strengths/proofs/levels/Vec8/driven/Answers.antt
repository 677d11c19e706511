use Rattle.std.proofs.Common.{◌∙◌, refl, arith}
use Rattle.std.proofs.lemmas.Nat.Bits.{bit_at_or, bit_at-lt}
use Rattle.strengths.proofs.Shown.{driven_lo, driven_hi, driven_ordered}
use Rattle.strengths.proofs.Spelled.{levels-map}
use Rattle.strengths.proofs.levels.Vec8.driven.Goals as goal

pub from_ends-requires-clause-ordered : goal.from_ends-requires-clause-ordered
from_ends-requires-clause-ordered c i h =
    rw (
      c.driven_ends-lo.ensures i (omega arith),
      c.driven_ends-hi.ensures i (omega arith),
      bit_at_or,
      bit_at_or,
      driven_lo _ _ _ _ _ (bit_at-lt c.args.places.zeros i) (bit_at-lt c.args.places.unknowns i) (bit_at-lt c.args.places.ones i),
      driven_hi _ _ _ _ _ (bit_at-lt c.args.places.zeros i) (bit_at-lt c.args.places.unknowns i) (bit_at-lt c.args.places.ones i),
    )
    (driven_ordered _ _ _)

pub returns : goal.returns
returns c =
    c.from_ends.ensures
    ∙ levels-map _ _ _ _
    (λ i h.
    rw (
      c.driven_ends-lo.ensures i (omega arith),
      c.driven_ends-hi.ensures i (omega arith),
      bit_at_or,
      bit_at_or,
      driven_lo _ _ _ _ _ (bit_at-lt c.args.places.zeros i) (bit_at-lt c.args.places.unknowns i) (bit_at-lt c.args.places.ones i),
      driven_hi _ _ _ _ _ (bit_at-lt c.args.places.zeros i) (bit_at-lt c.args.places.unknowns i) (bit_at-lt c.args.places.ones i),
    )
    refl)
