use Rattle.std.proofs.Common.{ap, ◌∙◌, map}
use Rattle.std.specs.List.{slice_get}
use Rattle.net_engine.specs.Room.{StoreNow, last_request}
use Rattle.net_engine.proofs.StepLemmas.{slot-there}
use Rattle.net_engine.proofs.PlainLemmas.{plain-levels}
use Rattle.net_engine.proofs.store.Store.is_strong.Goals as goal

pub is_plain-requires : goal.is_plain-requires
is_plain-requires c =
    let here = slot-there c.self.inside.slots.items c.self.inside.plane c.self.inside.words.items (map last_request c.self.inside.requests.items) c.args.self.now.values c.args.item (ap (λ (s : StoreNow). s.values) c.self.view_is) c.requires in
    (here.0, ap (λ ss. slice_get ss c.args.item) c.as_slice.ensures.value ∙ here.1)

pub returns : goal.returns
returns c = λ yes_. plain-levels c.self.inside.slots.items c.as_slice.result.now c.self.inside.plane c.self.inside.words.items (map last_request c.self.inside.requests.items) c.args.self.now.values c.args.item c.self.invariant (ap (λ (s : StoreNow). s.values) c.self.view_is) c.requires c.as_slice.ensures.value (c.is_plain.ensures yes_)
