use Rattle.std.proofs.Common.{refl}
use Rattle.sys_tasks.proofs.ChosenLemmas.{chosen-kept, unwritten}
use Rattle.sys_tasks.proofs.tasks.Tasks.choose.Goals as goal

pub invariant_of-self : goal.invariant_of-self
invariant_of-self c = record {
  here = c.self.invariant.here;
  scales = c.self.invariant.scales;
  can_dump = c.self.invariant.can_dump;
  strobes = c.self.invariant.strobes;
  monitor = c.self.invariant.monitor;
  chosen = chosen-kept _ _ _ _ _ _ _ c.self.invariant.chosen c.as_slice.ensures.value c.as_slice-3.ensures c.in_ok-chosen.ensures;
  writing = unwritten _ c.self.inside.state (record c.self.inside.state { chosen = c.in_ok-chosen.chosen; dumping = 1 }) _ c.self.invariant.writing c.if-later.false refl;
}
