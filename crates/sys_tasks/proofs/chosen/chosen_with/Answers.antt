use Rattle.std.proofs.Common.{length, ap, ◌∙◌, sym, arith}
use Rattle.std.proofs.lemmas.List.FromFn.{length-map-range_with_len}
use Rattle.sys_tasks.proofs.ChosenLemmas.{all-taken, is_taken, mark-is, or-first, or-none, or-second, passed-next, taken-next}
use Rattle.sys_tasks.proofs.chosen.chosen_with.Goals as goal
use Rattle.sys_tasks.proofs.chosen.chosen_with.Goals.{then-index+in_ok-push, then-index-via-then-index, then-index-via-else-index+then-is_chosen, else-index+else-is_chosen}

pub index-requires : goal.index-requires
index-requires c =
    let long = ap length c.in_ok-marks.ensures ∙ length-map-range_with_len _ 0 (length c.args.entries.now) in
    omega arith

pub loop-item-preserved : goal.loop-item-preserved
loop-item-preserved c =
    let p = is_taken c.args.entries.now c.args.scopes.now c.args.args.now c.args.chosen.now in
    let mark = mark-is (length c.args.entries.now) c.args.chosen.now c.in_ok-marks.marks.items c.loop-item.item c.index.result.now c.in_ok-marks.ensures c.loop-item-test.true c.index.ensures in
    elim c.if-index.branch [
      | then-index+in_ok-push w ↦
          w.items-is ∙ taken-next p c.loop-item.item c.loop-item.items w.push.new.self
          (elim w.then-index.branch [
            | then-index-via-then-index v ↦ or-first _ _ (sym mark ∙ v.if-index.true)
            | then-index-via-else-index+then-is_chosen v ↦ or-second _ _ (sym v.is_chosen.ensures ∙ v.if-is_chosen.true)
          ])
          c.loop-item.invariant w.in_ok-push.ensures.ok
      | else-index+else-is_chosen w ↦
          w.items-is ∙ passed-next p c.loop-item.item c.loop-item.items (or-none _ _ (sym mark ∙ w.if-index.false) (sym w.is_chosen.ensures ∙ w.if-is_chosen.false)) c.loop-item.invariant
    ]

pub returns : goal.returns
returns c = all-taken _ _ _ _ _ c.loop-item.item c.loop-item.invariant c.loop-item-test.false c.loop-item.auto.item-end
