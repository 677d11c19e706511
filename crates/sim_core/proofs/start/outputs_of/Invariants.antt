use Rattle.std.proofs.Common.{◌≡◌, ◌≤◌, take}
use Rattle.std.specs.List.{count_by}
use Rattle.sym_link.specs.declared.program.Item.{Item}
use Rattle.net_engine.specs.Kept.{has_output}
use Rattle.sim_core.proofs.start.outputs_of.Given as goal

abbrev pub invariant-loop-item : goal.invariant-loop-item
invariant-loop-item l = record {
  counted : l.outputs ≡ count_by (λ (item : Item). has_output item.what) (take l.item-index l.items);
  few : l.outputs ≤ l.item-index;
}
