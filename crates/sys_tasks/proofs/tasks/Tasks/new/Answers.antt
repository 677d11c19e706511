use Rattle.sys_tasks.proofs.DumpLemmas.{program-power}
use Rattle.sys_tasks.proofs.StartLemmas.{start-is, start-sound}
use Rattle.sys_tasks.proofs.tasks.Tasks.new.Goals as goal

pub invariant_of-result : goal.invariant_of-result
invariant_of-result c =
    start-sound c.args.program.now c.as_slice.result.now _ c.as_slice-2.result.now _ c.nowhere.result _ _ (program-power c.args.program.now c.requires)
    c.requires c.as_slice.ensures c.in_ok-entries_of.ensures c.as_slice-2.ensures c.in_ok-copied_scopes.ensures c.nowhere.ensures c.in_ok-first_state.ensures

pub returns : goal.returns
returns c =
    start-is c.args.program.now c.as_slice.result.now _ c.as_slice-2.result.now _ _ _ _ _
    c.as_slice.ensures c.in_ok-entries_of.ensures c.as_slice-2.ensures c.in_ok-copied_scopes.ensures (program-power c.args.program.now c.requires) c.in_ok-first_state.ensures c.new-2.ensures.items c.new-3.ensures.items
