use Rattle.std.proofs.Common.{◌<◌, ◌∙◌, length, get_or, refl}
use Rattle.std.proofs.lemmas.List.{get_or_default}
use Rattle.std.proofs.lemmas.Option.{slice_get_read}
use Rattle.sys_tasks.proofs.ChosenLemmas.{dumpable-at}
use Rattle.sys_tasks.proofs.HeaderLemmas.{items-more, items-none}
use Rattle.sys_tasks.proofs.header.dump_items.Goals as goal

pub loop-item-init : goal.loop-item-init
loop-item-init c = c.new-items.ensures.items ∙ items-none c.args.entries.now

pub bounds-entries-item : goal.bounds-entries-item
bounds-entries-item c = dumpable-at c.args.entries.now c.args.chosen.now c.loop-item.item-index c.requires c.loop-item-test.true

pub loop-item-preserved : goal.loop-item-preserved
loop-item-preserved c =
    let entries = c.args.entries.now in
    let chosen = c.args.chosen.now in
    let i = c.loop-item.item-index in
    let item = get_or chosen i 0 in
    let e = c.index-entries-item.result in
    let there : item < length entries = dumpable-at entries chosen i c.requires c.loop-item-test.true in
    items-more entries chosen i item e c.loop-item.items.items c.push.new.self.items c.in_ok-dump_item.field-0 c.loop-item-test.true (get_or_default chosen i 0 item c.loop-item-test.true)
    (slice_get_read entries (length entries) item e refl there c.index-entries-item.is) c.loop-item.invariant c.in_ok-push.ensures.items c.in_ok-dump_item.ensures
