use Rattle.std.proofs.Common.{ap}
use lib.Count.{count_leading_zeros}
use Rattle.vec_arith.proofs.Logs.{ceil_log2_leading}
use Rattle.vec_arith.proofs.rounded_up_log2.Goals as goal

pub returns : goal.returns
returns c = ceil_log2_leading c.args.value _ c.ranges.value.fits (ap (count_leading_zeros 128) c.saturating_sub.ensures)
