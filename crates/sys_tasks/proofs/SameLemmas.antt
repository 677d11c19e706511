-- Equal values.
use Rattle.std.proofs.Common.{◌≡◌, Bool, true, List, ◌↔◌}
use Rattle.std.specs.Bool.{one_answer}
use Rattle.std.specs.Cmp.Lexicographic.{pointwise, pointwise_decides}
use Rattle.four_state.specs.declared.bits.Bit.{Bit}
use Rattle.four_state.specs.Same.{is_same, is_same-Decides}
use Rattle.sys_tasks.specs.Phase.{same_values}

pub same-as : (b : Bool) (xs ys : List (List Bit)) → ((b ≡ true) ↔ (xs ≡ ys)) → b ≡ same_values xs ys
unfolding same_values
same-as b xs ys h = one_answer b (pointwise is_same xs ys) (h.0, h.1) (pointwise_decides is_same-Decides xs ys)
