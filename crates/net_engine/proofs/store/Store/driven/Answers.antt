use Rattle.std.proofs.Common.{◌∙◌, ap, map}
use Rattle.net_engine.specs.Room.{StoreNow, last_request}
use Rattle.net_engine.proofs.StepLemmas.{place-there, no-slot, slot-read, driven-read}
use Rattle.net_engine.proofs.store.Store.driven.Goals as goal

pub get-requires : goal.get-requires
get-requires c = place-there c.self.inside.slots.items c.self.inside.plane c.self.inside.words.items (map last_request c.self.inside.requests.items) c.args.self.now.values c.args.item c.self.invariant (ap (λ (s : StoreNow). s.values) c.self.view_is) c.requires

pub unreachable-requires : goal.unreachable-requires
unreachable-requires c = no-slot c.self.inside.slots.items c.self.inside.plane c.self.inside.words.items (map last_request c.self.inside.requests.items) c.args.self.now.values c.args.item c.index.result.now (ap (λ (s : StoreNow). s.values) c.self.view_is) c.requires c.index.ensures c.in-None.is

pub returns : goal.returns
returns c = c.driven.ensures ∙ driven-read c.self.inside.slots.items c.self.inside.plane c.self.inside.words.items (map last_request c.self.inside.requests.items) c.args.self.now.values c.args.item c.in-Some.slot c.get.result (ap (λ (s : StoreNow). s.values) c.self.view_is) (slot-read c.self.inside.slots.items c.self.inside.plane c.self.inside.words.items (map last_request c.self.inside.requests.items) c.args.self.now.values c.args.item c.index.result.now c.in-Some.slot (ap (λ (s : StoreNow). s.values) c.self.view_is) c.requires c.index.ensures c.in-Some.is) c.get.ensures
