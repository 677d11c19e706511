use Rattle.std.proofs.Common.{arith, sym, refl, ◌∙◌}
use Rattle.time_wheel.proofs.AdvanceLemmas.{empty-more}
use Rattle.time_wheel.proofs.queues.next_in_block.Goals as goal

pub loop-q-init : goal.loop-q-init
loop-q-init c = λ q above below. absurd (omega arith)

pub returns-in-Some : goal.returns-in-Some
returns-in-Some c = record {
  queue = c.loop-q.q;
  due = c.in-Some.due;
  above = omega arith;
  below = omega arith;
  before = c.loop-q.invariant;
  first = sym c.first.ensures ∙ c.in-Some.is;
  timed = refl;
}

pub loop-q-preserved : goal.loop-q-preserved
loop-q-preserved c = empty-more _ _ _ c.loop-q.invariant (sym c.first.ensures ∙ c.in_default.is)

pub returns : goal.returns
returns c = λ q above below. c.loop-q.invariant q above (omega arith)
