use Rattle.std.proofs.Common.{◌<◌, ◌^◌, rules, bit_or}
use Rattle.std.specs.Int.{bit_at, w128}
use Rattle.std.proofs.lemmas.Nat.{or_lt}
use Rattle.std.proofs.lemmas.Nat.Bits.{bit_at_and, bit_at_or, bit_at_not, bit_at-lt}
use Rattle.strengths.proofs.PlacesLemmas.{one_first-digits}
use Rattle.strengths.proofs.places.Places.ones_first.Goals as goal

pub returns : goal.returns
returns c i h =
    let ones : c.args.self.ones < 2 ^ 128 = search rules in
    let unknowns : c.args.self.unknowns < 2 ^ 128 = search rules in
    rw (bit_at_and, bit_at_and, bit_at_not w128 (bit_or c.args.self.ones c.args.self.unknowns) i (or_lt 128 _ _ ones unknowns) h, bit_at_not w128 c.args.self.ones i ones h, bit_at_or)
    (one_first-digits (bit_at c.args.self.zeros i) (bit_at c.args.self.unknowns i) (bit_at c.args.self.ones i) (bit_at-lt c.args.self.zeros i) (bit_at-lt c.args.self.unknowns i) (bit_at-lt c.args.self.ones i))
