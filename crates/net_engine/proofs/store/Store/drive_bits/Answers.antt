use Rattle.std.proofs.Common.{[], get_or, refl, ap, sym, ◌∙◌, map}
use Rattle.std.specs.List.{slice_get}
use Rattle.net_engine.specs.Net.{strongly}
use Rattle.net_engine.specs.Slots.{driving}
use Rattle.net_engine.specs.Parts.{change_if}
use Rattle.net_engine.specs.Room.{StoreNow, last_request}
use Rattle.net_engine.proofs.StepLemmas.{slot-there, place-there, stepped-kept, stepped-change, drive-values}
use Rattle.net_engine.proofs.PlainLemmas.{place-width, plain-stepped, plain-plane}
use Rattle.net_engine.proofs.store.Store.drive_bits.Goals as goal

pub is_plain-requires : goal.is_plain-requires
is_plain-requires c =
    let here = slot-there c.self.inside.slots.items c.self.inside.plane c.self.inside.words.items (map last_request c.self.inside.requests.items) c.args.self.now.values c.args.item (ap (λ (s : StoreNow). s.values) c.self.view_is) c.requires.there in
    (here.0, ap (λ ss. slice_get ss c.args.item) c.as_slice.ensures.value ∙ here.1)

pub show_bits-requires-clause-there : goal.show_bits-requires-clause-there
show_bits-requires-clause-there c = place-there c.self.inside.slots.items c.self.inside.plane c.self.inside.words.items (map last_request c.self.inside.requests.items) c.args.self.now.values c.args.item c.self.invariant (ap (λ (s : StoreNow). s.values) c.self.view_is) c.requires.there

pub show_bits-requires-clause-width : goal.show_bits-requires-clause-width
show_bits-requires-clause-width c = c.requires.width ∙ sym (place-width c.self.inside.slots.items c.self.inside.plane c.self.inside.words.items (map last_request c.self.inside.requests.items) c.args.self.now.values c.args.item c.self.invariant (ap (λ (s : StoreNow). s.values) c.self.view_is) c.requires.there)

pub invariant_of-self : goal.invariant_of-self
invariant_of-self c = stepped-kept (driving (strongly c.args.bits)) c.self.inside.slots.items c.self.inside.slots.items c.self.inside.slots.items c.self.inside.plane c.show_bits.new.plane c.args.item (strongly (get_or c.self.inside.plane c.args.item [])) (strongly c.args.bits) c.self.invariant
    (plain-stepped c.self.inside.slots.items c.as_slice.result.now c.self.inside.plane c.self.inside.words.items (map last_request c.self.inside.requests.items) c.args.self.now.values c.args.item c.args.bits c.self.invariant (ap (λ (s : StoreNow). s.values) c.self.view_is) c.requires.there c.requires.width
    c.as_slice.ensures.value (c.is_plain.ensures c.if-is_plain.true)) refl (plain-plane c.self.inside.plane c.show_bits.new.plane c.args.item c.args.bits c.show_bits.ensures.plane)

pub returns-then-is_plain-clause-values : goal.returns-then-is_plain-clause-values
returns-then-is_plain-clause-values c = drive-values c.self.inside.slots.items c.self.inside.slots.items c.self.inside.slots.items c.self.inside.plane c.show_bits.new.plane c.self.inside.words.items (map last_request c.self.inside.requests.items) c.args.self.now.values c.args.item (strongly c.args.bits) (strongly (get_or c.self.inside.plane c.args.item [])) (strongly c.args.bits)
    (plain-stepped c.self.inside.slots.items c.as_slice.result.now c.self.inside.plane c.self.inside.words.items (map last_request c.self.inside.requests.items) c.args.self.now.values c.args.item c.args.bits c.self.invariant (ap (λ (s : StoreNow). s.values) c.self.view_is) c.requires.there c.requires.width
    c.as_slice.ensures.value (c.is_plain.ensures c.if-is_plain.true)) refl (plain-plane c.self.inside.plane c.show_bits.new.plane c.args.item c.args.bits c.show_bits.ensures.plane) (ap (λ (s : StoreNow). s.values) c.self.view_is)

pub returns-then-is_plain-clause-change : goal.returns-then-is_plain-clause-change
returns-then-is_plain-clause-change c = stepped-change (driving (strongly c.args.bits)) (change_if c.show_bits.result c.show_bits.new.change) c.self.inside.slots.items c.self.inside.slots.items c.self.inside.slots.items c.self.inside.plane c.show_bits.new.plane c.self.inside.words.items (map last_request c.self.inside.requests.items) c.args.self.now.values c.args.item (strongly (get_or c.self.inside.plane c.args.item [])) (strongly c.args.bits)
    (plain-stepped c.self.inside.slots.items c.as_slice.result.now c.self.inside.plane c.self.inside.words.items (map last_request c.self.inside.requests.items) c.args.self.now.values c.args.item c.args.bits c.self.invariant (ap (λ (s : StoreNow). s.values) c.self.view_is) c.requires.there c.requires.width
    c.as_slice.ensures.value (c.is_plain.ensures c.if-is_plain.true)) refl (plain-plane c.self.inside.plane c.show_bits.new.plane c.args.item c.args.bits c.show_bits.ensures.plane) (ap (λ (s : StoreNow). s.values) c.self.view_is) c.show_bits.ensures.change
