use Rattle.std.proofs.Common.{ap, ◌∙◌, arith, map}
use Rattle.std.specs.List.{slice_get}
use Rattle.net_engine.specs.Slots.{released}
use Rattle.net_engine.specs.Parts.{change_if}
use Rattle.net_engine.specs.Room.{StoreNow, last_request}
use Rattle.net_engine.proofs.StepLemmas.{found, place-there, refilled, stepped, stepped-same, stepped-width, stepped-kept, stepped-change, release-keeps, release-values}
use Rattle.net_engine.proofs.store.Store.release.Goals as goal

pub get-bits-requires : goal.get-bits-requires
get-bits-requires c = place-there c.self.inside.slots.items c.self.inside.plane c.self.inside.words.items (map last_request c.self.inside.requests.items) c.args.self.now.values c.args.item c.self.invariant (ap (λ (s : StoreNow). s.values) c.self.view_is) c.requires.there

pub release_at-old-requires : goal.release_at-old-requires
release_at-old-requires c =
    let here = found c.self.inside.slots.items c.self.inside.plane c.self.inside.words.items (map last_request c.self.inside.requests.items) c.args.self.now.values c.args.item c.get-bits.result c.self.invariant (ap (λ (s : StoreNow). s.values) c.self.view_is) c.requires.there c.get-bits.ensures in
    (here.slot, ap (λ ss. slice_get ss c.args.item) c.as_mut_slice.ensures.value ∙ here.at, here.wide, (let most = here.sized.1 in let same = here.sized.2 in omega (arith, most, same)))

pub show-requires-clause-there : goal.show-requires-clause-there
show-requires-clause-there c = place-there c.self.inside.slots.items c.self.inside.plane c.self.inside.words.items (map last_request c.self.inside.requests.items) c.args.self.now.values c.args.item c.self.invariant (ap (λ (s : StoreNow). s.values) c.self.view_is) c.requires.there

pub show-requires-clause-width : goal.show-requires-clause-width
show-requires-clause-width c = stepped-width (released c.args.base c.args.width c.args.keep) c.self.inside.slots.items c.release_at-old.new.slots c.self.inside.plane c.args.item c.release_at-old.result.0 c.release_at-old.result.1 c.self.invariant
    (stepped (released c.args.base c.args.width c.args.keep) c.self.inside.slots.items c.as_mut_slice.result.now c.release_at-old.new.slots c.self.inside.plane c.self.inside.words.items (map last_request c.self.inside.requests.items) c.args.self.now.values c.args.item c.get-bits.result c.release_at-old.result.0 c.release_at-old.result.1 c.self.invariant (ap (λ (s : StoreNow). s.values) c.self.view_is) c.requires.there c.as_mut_slice.ensures.value c.get-bits.ensures
    (λ held at sized. release-keeps c.args.base c.args.width c.args.keep held sized) c.release_at-old.ensures)

pub show-requires-clause-same : goal.show-requires-clause-same
show-requires-clause-same c = stepped-same (released c.args.base c.args.width c.args.keep) c.self.inside.slots.items c.release_at-old.new.slots c.self.inside.plane c.args.item c.release_at-old.result.0 c.release_at-old.result.1
    (stepped (released c.args.base c.args.width c.args.keep) c.self.inside.slots.items c.as_mut_slice.result.now c.release_at-old.new.slots c.self.inside.plane c.self.inside.words.items (map last_request c.self.inside.requests.items) c.args.self.now.values c.args.item c.get-bits.result c.release_at-old.result.0 c.release_at-old.result.1 c.self.invariant (ap (λ (s : StoreNow). s.values) c.self.view_is) c.requires.there c.as_mut_slice.ensures.value c.get-bits.ensures
    (λ held at sized. release-keeps c.args.base c.args.width c.args.keep held sized) c.release_at-old.ensures)

pub invariant_of-self : goal.invariant_of-self
invariant_of-self c =
    let s = stepped (released c.args.base c.args.width c.args.keep) c.self.inside.slots.items c.as_mut_slice.result.now c.release_at-old.new.slots c.self.inside.plane c.self.inside.words.items (map last_request c.self.inside.requests.items) c.args.self.now.values c.args.item c.get-bits.result c.release_at-old.result.0 c.release_at-old.result.1 c.self.invariant (ap (λ (s : StoreNow). s.values) c.self.view_is) c.requires.there c.as_mut_slice.ensures.value c.get-bits.ensures
    (λ held at sized. release-keeps c.args.base c.args.width c.args.keep held sized) c.release_at-old.ensures in
    stepped-kept (released c.args.base c.args.width c.args.keep) c.self.inside.slots.items c.release_at-old.new.slots _ c.self.inside.plane c.show.new.plane c.args.item c.release_at-old.result.0 c.release_at-old.result.1 c.self.invariant s
    (refilled c.self.inside.slots.len c.self.inside.slots.items c.release_at-old.new.slots c.self.inside.slots.ok.0 s.count) c.show.ensures.plane

pub returns-clause-values : goal.returns-clause-values
returns-clause-values c =
    let s = stepped (released c.args.base c.args.width c.args.keep) c.self.inside.slots.items c.as_mut_slice.result.now c.release_at-old.new.slots c.self.inside.plane c.self.inside.words.items (map last_request c.self.inside.requests.items) c.args.self.now.values c.args.item c.get-bits.result c.release_at-old.result.0 c.release_at-old.result.1 c.self.invariant (ap (λ (s : StoreNow). s.values) c.self.view_is) c.requires.there c.as_mut_slice.ensures.value c.get-bits.ensures
    (λ held at sized. release-keeps c.args.base c.args.width c.args.keep held sized) c.release_at-old.ensures in
    release-values c.args.base c.args.width c.args.keep c.self.inside.slots.items c.release_at-old.new.slots _ c.self.inside.plane c.show.new.plane c.self.inside.words.items (map last_request c.self.inside.requests.items) c.args.self.now.values c.args.item c.release_at-old.result.0 c.release_at-old.result.1 s
    (refilled c.self.inside.slots.len c.self.inside.slots.items c.release_at-old.new.slots c.self.inside.slots.ok.0 s.count) c.show.ensures.plane (ap (λ (s : StoreNow). s.values) c.self.view_is)

pub returns-clause-change : goal.returns-clause-change
returns-clause-change c =
    let s = stepped (released c.args.base c.args.width c.args.keep) c.self.inside.slots.items c.as_mut_slice.result.now c.release_at-old.new.slots c.self.inside.plane c.self.inside.words.items (map last_request c.self.inside.requests.items) c.args.self.now.values c.args.item c.get-bits.result c.release_at-old.result.0 c.release_at-old.result.1 c.self.invariant (ap (λ (s : StoreNow). s.values) c.self.view_is) c.requires.there c.as_mut_slice.ensures.value c.get-bits.ensures
    (λ held at sized. release-keeps c.args.base c.args.width c.args.keep held sized) c.release_at-old.ensures in
    stepped-change (released c.args.base c.args.width c.args.keep) (change_if c.show.result c.show.new.change) c.self.inside.slots.items c.release_at-old.new.slots _ c.self.inside.plane c.show.new.plane c.self.inside.words.items (map last_request c.self.inside.requests.items) c.args.self.now.values c.args.item c.release_at-old.result.0 c.release_at-old.result.1 s
    (refilled c.self.inside.slots.len c.self.inside.slots.items c.release_at-old.new.slots c.self.inside.slots.ok.0 s.count) c.show.ensures.plane (ap (λ (s : StoreNow). s.values) c.self.view_is) c.show.ensures.change
