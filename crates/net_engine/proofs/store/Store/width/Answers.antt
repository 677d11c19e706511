use Rattle.std.proofs.Common.{[], length, sym, ap, ◌∙◌, map}
use Rattle.std.proofs.lemmas.Option.{get_or_from_slice_get}
use Rattle.net_engine.specs.Room.{StoreNow, last_request}
use Rattle.net_engine.proofs.StepLemmas.{place-there}
use Rattle.net_engine.proofs.PlainLemmas.{place-width}
use Rattle.net_engine.proofs.store.Store.width.Goals as goal

pub get-requires : goal.get-requires
get-requires c = place-there c.self.inside.slots.items c.self.inside.plane c.self.inside.words.items (map last_request c.self.inside.requests.items) c.args.self.now.values c.args.item c.self.invariant (ap (λ (s : StoreNow). s.values) c.self.view_is) c.requires

pub returns : goal.returns
returns c =
    c.width.ensures.value ∙ ap length (sym (get_or_from_slice_get c.self.inside.plane c.args.item c.get.result [] c.get.ensures))
    ∙ place-width c.self.inside.slots.items c.self.inside.plane c.self.inside.words.items (map last_request c.self.inside.requests.items) c.args.self.now.values c.args.item c.self.invariant (ap (λ (s : StoreNow). s.values) c.self.view_is) c.requires
