use Rattle.std.proofs.Common.{◌≡◌, length, ◌∙◌, w64, arith}
use Rattle.std.proofs.lemmas.Bool.Decides.{nat_tests}
use Rattle.std.proofs.lemmas.Int.{to_z-of_z}
use Rattle.net_engine.proofs.WholeLemmas.{overlaid-none}
use Rattle.net_engine.proofs.net.covers.Goals as goal

pub returns-then-offset-eq0-clause-value : goal.returns-then-offset-eq0-clause-value
returns-then-offset-eq0-clause-value c = λ same bits long.
    overlaid-none bits c.args.value.now c.args.offset _ (to_z-of_z w64 c.args.offset c.ranges.offset) c.if-offset-eq0.true (long ∙ (let e : c.args.width ≡ length c.args.value.now = grind (arith, nat_tests, same, c.width.ensures.value) in e))

pub returns-then-offset-eq0-clause-width : goal.returns-then-offset-eq0-clause-width
returns-then-offset-eq0-clause-width c = λ same. (let e : length c.args.value.now ≡ c.args.width = grind (arith, nat_tests, same, c.width.ensures.value) in e)
