use Rattle.std.proofs.Common.{◌<◌, List, Option, length, sym, ap, subst, ◌∙◌, map}
use Rattle.std.specs.List.{slice_get}
use Rattle.strengths.specs.Interval.{Interval}
use Rattle.net_engine.specs.Room.{StoreNow, last_request}
use Rattle.net_engine.proofs.StepLemmas.{forced-get, forced-none}
use Rattle.net_engine.proofs.store.Store.forced.Goals as goal

pub forced-requires : goal.forced-requires
forced-requires c =
    subst (λ (f : List (Option Interval)). c.args.place < length f) (sym (forced-get c.self.inside.slots.items c.self.inside.plane c.self.inside.words.items (map last_request c.self.inside.requests.items) c.args.self.now.values c.args.item c.args.place c.index.result.now c.in-Some.slot c.self.invariant (ap (λ (s : StoreNow). s.values) c.self.view_is) c.requires c.index.ensures c.in-Some.is)) c.requires

pub unreachable-requires : goal.unreachable-requires
unreachable-requires c = forced-none c.self.inside.slots.items c.self.inside.plane c.self.inside.words.items (map last_request c.self.inside.requests.items) c.args.self.now.values c.args.item c.args.place c.index.result.now c.self.invariant (ap (λ (s : StoreNow). s.values) c.self.view_is) c.requires c.index.ensures c.in-None.is

pub returns : goal.returns
returns c =
    sym (ap (λ (f : List (Option Interval)). slice_get f c.args.place) (forced-get c.self.inside.slots.items c.self.inside.plane c.self.inside.words.items (map last_request c.self.inside.requests.items) c.args.self.now.values c.args.item c.args.place c.index.result.now c.in-Some.slot c.self.invariant (ap (λ (s : StoreNow). s.values) c.self.view_is) c.requires c.index.ensures c.in-Some.is)) ∙ c.forced.ensures
