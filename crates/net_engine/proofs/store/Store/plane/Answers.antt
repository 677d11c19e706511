use Rattle.std.proofs.Common.{ap, map}
use Rattle.net_engine.specs.Slots.{helds}
use Rattle.net_engine.specs.Room.{StoreNow, last_request}
use Rattle.net_engine.proofs.StepLemmas.{place-read}
use Rattle.net_engine.proofs.store.Store.plane.Goals as goal

pub returns-clause-places : goal.returns-clause-places
returns-clause-places c =
    λ item inside. place-read (helds c.self.inside.slots.items c.self.inside.plane) c.self.inside.plane c.self.inside.words.items (map last_request c.self.inside.requests.items) c.args.self.now.values item c.self.invariant.stored (ap (λ (s : StoreNow). s.values) c.self.view_is) inside
