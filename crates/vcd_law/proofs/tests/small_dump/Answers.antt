-- The text is one of ours.
use Rattle.vcd_law.proofs.TestLemmas.{small-own}
use Rattle.vcd_law.proofs.tests.small_dump.Goals as goal

pub read_own-requires-clause-own : goal.read_own-requires-clause-own
read_own-requires-clause-own g c = small-own
