use Rattle.work_gen.proofs.TextLemmas.{filled-none, filled-more}
use Rattle.work_gen.proofs.text.fill.Goals as goal

pub loop-byte-init : goal.loop-byte-init
loop-byte-init c = filled-none _ _

pub loop-byte-preserved : goal.loop-byte-preserved
loop-byte-preserved c = filled-more c.args.template.now _ _ _ _ c.loop-byte.byte-index c.loop-byte-test.true c.loop-byte.invariant c.in_ok-fill_byte.ensures
