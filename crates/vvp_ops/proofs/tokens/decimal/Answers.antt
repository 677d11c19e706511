use Rattle.std.proofs.Common.{◌-◌, ◌^◌}
use Rattle.vvp_ops.specs.Tokens.{decimal}
use Rattle.vvp_ops.proofs.DigitLemmas.{decimal-more, decimal-all, min-fits}
use Rattle.vvp_ops.proofs.tokens.decimal.Goals as goal

pub loop-digit-preserved : goal.loop-digit-preserved
loop-digit-preserved c = record {
  fits = min-fits (2 ^ 64 - 1) _ _ c.with_digit-value.ensures;
  reads = decimal-more (2 ^ 64 - 1) c.args.digits.now c.loop-digit.digit-index c.loop-digit.value _ c.loop-digit-test.true c.with_digit-value.ensures c.loop-digit.invariant.reads;
}

pub returns : goal.returns
unfolding decimal
returns c =
    decimal-all (2 ^ 64 - 1) c.args.digits.now c.loop-digit.digit-index c.loop-digit.value c.loop-digit-test.false c.loop-digit.invariant.fits c.loop-digit.invariant.reads
