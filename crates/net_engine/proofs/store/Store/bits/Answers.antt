use Rattle.std.proofs.Common.{ap, map}
use Rattle.net_engine.specs.Slots.{helds}
use Rattle.net_engine.specs.Room.{StoreNow, last_request}
use Rattle.net_engine.proofs.StepLemmas.{place-there, bits-read}
use Rattle.net_engine.proofs.store.Store.bits.Goals as goal

pub get-requires : goal.get-requires
get-requires c = place-there c.self.inside.slots.items c.self.inside.plane c.self.inside.words.items (map last_request c.self.inside.requests.items) c.args.self.now.values c.args.item c.self.invariant (ap (λ (s : StoreNow). s.values) c.self.view_is) c.requires

pub returns : goal.returns
returns c =
    bits-read (helds c.self.inside.slots.items c.self.inside.plane) c.self.inside.plane c.self.inside.words.items (map last_request c.self.inside.requests.items) c.args.self.now.values c.args.item c.get.result c.self.invariant.stored (ap (λ (s : StoreNow). s.values) c.self.view_is) c.requires c.get.ensures
