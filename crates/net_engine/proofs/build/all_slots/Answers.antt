use Rattle.net_engine.proofs.BuildLemmas.{slots-more}
use Rattle.net_engine.proofs.build.all_slots.Goals as goal

pub items-preserved : goal.items-preserved
items-preserved c =
    let more =
    slots-more c.args.items.now c.items.slots.items c.push.new.self.items c.items.i c.index-items-i.result c.in_ok-first_slot.field-0
    (record { count = c.items.invariant.count; values = c.items.invariant.values; places = c.items.invariant.places }) c.items-test.true c.index-items-i.is c.in_ok-push.ensures.items c.in_ok-first_slot.ensures.value c.in_ok-first_slot.ensures.places in
    record { count = more.count; values = more.values; places = more.places }
