use Rattle.std.proofs.Common.{arith, length, get_or}
use Rattle.std.proofs.lemmas.List.{get_or_default}
use Rattle.sys_tasks.proofs.ChosenLemmas.{dumpable-at, marks-all, marks-more, no-marks}
use Rattle.sys_tasks.proofs.chosen.marks_of.Goals as goal

pub loop-item-init : goal.loop-item-init
loop-item-init c = no-marks (length c.args.entries.now) c.in_ok-marks.marks.items c.in_ok-marks.ensures

pub index_mut-requires : goal.index_mut-requires
index_mut-requires c =
    let there = dumpable-at c.args.entries.now c.args.chosen.now c.loop-item.item-index c.requires.each c.loop-item-test.true in
    let long = c.loop-item.invariant.length_is in
    omega arith

pub loop-item-preserved : goal.loop-item-preserved
loop-item-preserved c = marks-more (length c.args.entries.now) c.args.chosen.now c.loop-item.item-index (get_or c.args.chosen.now c.loop-item.item-index 0) c.loop-item.marks.items c.loop-item-test.true (get_or_default c.args.chosen.now c.loop-item.item-index 0 (get_or c.args.chosen.now c.loop-item.item-index 0) c.loop-item-test.true) c.loop-item.invariant

pub returns : goal.returns
returns c = marks-all _ c.args.chosen.now c.loop-item.item-index c.loop-item.marks.items c.loop-item-test.false c.loop-item.invariant
