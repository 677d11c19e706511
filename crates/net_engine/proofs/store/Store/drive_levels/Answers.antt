use Rattle.std.proofs.Common.{length, sym, ap, ◌∙◌, map}
use Rattle.std.specs.List.{slice_get}
use Rattle.net_engine.specs.Slots.{driving, helds}
use Rattle.net_engine.specs.Parts.{change_if}
use Rattle.net_engine.specs.Room.{StoreNow, last_request}
use Rattle.net_engine.proofs.StepLemmas.{found, place-there, refilled, stepped, stepped-same, stepped-width, stepped-kept, stepped-change, drive-keeps, drive-values}
use Rattle.net_engine.proofs.store.Store.drive_levels.Goals as goal

pub get-bits-requires : goal.get-bits-requires
get-bits-requires c = place-there c.self.inside.slots.items c.self.inside.plane c.self.inside.words.items (map last_request c.self.inside.requests.items) c.args.self.now.values c.args.item c.self.invariant (ap (λ (s : StoreNow). s.values) c.self.view_is) c.requires.there

pub drive_at-old-requires : goal.drive_at-old-requires
drive_at-old-requires c =
    let here = found c.self.inside.slots.items c.self.inside.plane c.self.inside.words.items (map last_request c.self.inside.requests.items) c.args.self.now.values c.args.item c.get-bits.result c.self.invariant (ap (λ (s : StoreNow). s.values) c.self.view_is) c.requires.there c.get-bits.ensures in
    (here.slot, ap (λ ss. slice_get ss c.args.item) c.as_mut_slice.ensures.value ∙ here.at, here.wide, c.requires.width ∙ ap length here.driven ∙ sym here.sized.2)

pub show-requires-clause-there : goal.show-requires-clause-there
show-requires-clause-there c = place-there c.self.inside.slots.items c.self.inside.plane c.self.inside.words.items (map last_request c.self.inside.requests.items) c.args.self.now.values c.args.item c.self.invariant (ap (λ (s : StoreNow). s.values) c.self.view_is) c.requires.there

pub show-requires-clause-width : goal.show-requires-clause-width
show-requires-clause-width c = stepped-width (driving c.args.levels) c.self.inside.slots.items c.drive_at-old.new.slots c.self.inside.plane c.args.item c.drive_at-old.result.0 c.drive_at-old.result.1 c.self.invariant
    (stepped (driving c.args.levels) c.self.inside.slots.items c.as_mut_slice.result.now c.drive_at-old.new.slots c.self.inside.plane c.self.inside.words.items (map last_request c.self.inside.requests.items) c.args.self.now.values c.args.item c.get-bits.result c.drive_at-old.result.0 c.drive_at-old.result.1 c.self.invariant (ap (λ (s : StoreNow). s.values) c.self.view_is) c.requires.there c.as_mut_slice.ensures.value c.get-bits.ensures
    (drive-keeps (helds c.self.inside.slots.items c.self.inside.plane) c.self.inside.words.items (map last_request c.self.inside.requests.items) c.args.self.now.values c.args.item c.args.levels (ap (λ (s : StoreNow). s.values) c.self.view_is) c.requires.width) c.drive_at-old.ensures)

pub show-requires-clause-same : goal.show-requires-clause-same
show-requires-clause-same c = stepped-same (driving c.args.levels) c.self.inside.slots.items c.drive_at-old.new.slots c.self.inside.plane c.args.item c.drive_at-old.result.0 c.drive_at-old.result.1
    (stepped (driving c.args.levels) c.self.inside.slots.items c.as_mut_slice.result.now c.drive_at-old.new.slots c.self.inside.plane c.self.inside.words.items (map last_request c.self.inside.requests.items) c.args.self.now.values c.args.item c.get-bits.result c.drive_at-old.result.0 c.drive_at-old.result.1 c.self.invariant (ap (λ (s : StoreNow). s.values) c.self.view_is) c.requires.there c.as_mut_slice.ensures.value c.get-bits.ensures
    (drive-keeps (helds c.self.inside.slots.items c.self.inside.plane) c.self.inside.words.items (map last_request c.self.inside.requests.items) c.args.self.now.values c.args.item c.args.levels (ap (λ (s : StoreNow). s.values) c.self.view_is) c.requires.width) c.drive_at-old.ensures)

pub invariant_of-self : goal.invariant_of-self
invariant_of-self c =
    let s = stepped (driving c.args.levels) c.self.inside.slots.items c.as_mut_slice.result.now c.drive_at-old.new.slots c.self.inside.plane c.self.inside.words.items (map last_request c.self.inside.requests.items) c.args.self.now.values c.args.item c.get-bits.result c.drive_at-old.result.0 c.drive_at-old.result.1 c.self.invariant (ap (λ (s : StoreNow). s.values) c.self.view_is) c.requires.there c.as_mut_slice.ensures.value c.get-bits.ensures
    (drive-keeps (helds c.self.inside.slots.items c.self.inside.plane) c.self.inside.words.items (map last_request c.self.inside.requests.items) c.args.self.now.values c.args.item c.args.levels (ap (λ (s : StoreNow). s.values) c.self.view_is) c.requires.width) c.drive_at-old.ensures in
    stepped-kept (driving c.args.levels) c.self.inside.slots.items c.drive_at-old.new.slots _ c.self.inside.plane c.show.new.plane c.args.item c.drive_at-old.result.0 c.drive_at-old.result.1 c.self.invariant s
    (refilled c.self.inside.slots.len c.self.inside.slots.items c.drive_at-old.new.slots c.self.inside.slots.ok.0 s.count) c.show.ensures.plane

pub returns-clause-values : goal.returns-clause-values
returns-clause-values c =
    let s = stepped (driving c.args.levels) c.self.inside.slots.items c.as_mut_slice.result.now c.drive_at-old.new.slots c.self.inside.plane c.self.inside.words.items (map last_request c.self.inside.requests.items) c.args.self.now.values c.args.item c.get-bits.result c.drive_at-old.result.0 c.drive_at-old.result.1 c.self.invariant (ap (λ (s : StoreNow). s.values) c.self.view_is) c.requires.there c.as_mut_slice.ensures.value c.get-bits.ensures
    (drive-keeps (helds c.self.inside.slots.items c.self.inside.plane) c.self.inside.words.items (map last_request c.self.inside.requests.items) c.args.self.now.values c.args.item c.args.levels (ap (λ (s : StoreNow). s.values) c.self.view_is) c.requires.width) c.drive_at-old.ensures in
    drive-values c.self.inside.slots.items c.drive_at-old.new.slots _ c.self.inside.plane c.show.new.plane c.self.inside.words.items (map last_request c.self.inside.requests.items) c.args.self.now.values c.args.item c.args.levels c.drive_at-old.result.0 c.drive_at-old.result.1 s
    (refilled c.self.inside.slots.len c.self.inside.slots.items c.drive_at-old.new.slots c.self.inside.slots.ok.0 s.count) c.show.ensures.plane (ap (λ (s : StoreNow). s.values) c.self.view_is)

pub returns-clause-change : goal.returns-clause-change
returns-clause-change c =
    let s = stepped (driving c.args.levels) c.self.inside.slots.items c.as_mut_slice.result.now c.drive_at-old.new.slots c.self.inside.plane c.self.inside.words.items (map last_request c.self.inside.requests.items) c.args.self.now.values c.args.item c.get-bits.result c.drive_at-old.result.0 c.drive_at-old.result.1 c.self.invariant (ap (λ (s : StoreNow). s.values) c.self.view_is) c.requires.there c.as_mut_slice.ensures.value c.get-bits.ensures
    (drive-keeps (helds c.self.inside.slots.items c.self.inside.plane) c.self.inside.words.items (map last_request c.self.inside.requests.items) c.args.self.now.values c.args.item c.args.levels (ap (λ (s : StoreNow). s.values) c.self.view_is) c.requires.width) c.drive_at-old.ensures in
    stepped-change (driving c.args.levels) (change_if c.show.result c.show.new.change) c.self.inside.slots.items c.drive_at-old.new.slots _ c.self.inside.plane c.show.new.plane c.self.inside.words.items (map last_request c.self.inside.requests.items) c.args.self.now.values c.args.item c.drive_at-old.result.0 c.drive_at-old.result.1 s
    (refilled c.self.inside.slots.len c.self.inside.slots.items c.drive_at-old.new.slots c.self.inside.slots.ok.0 s.count) c.show.ensures.plane (ap (λ (s : StoreNow). s.values) c.self.view_is) c.show.ensures.change
