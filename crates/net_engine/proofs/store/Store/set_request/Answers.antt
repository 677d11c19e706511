use Rattle.std.proofs.Common.{◌≡◌, ◌<◌, List, Option, set, Some, true, length, ap, map, ◌∙◌, sym, get_or, slice_get, subst, arith}
use Rattle.std.specs.Prelude.{is_some}
use Rattle.std.proofs.lemmas.Option.{slice_get_within, get_or_from_slice_get}
use Rattle.net_engine.specs.Net.{Request, with_request}
use Rattle.net_engine.specs.Room.{StoreNow, last_request}
use Rattle.net_engine.specs.Slots.{helds}
use Rattle.net_engine.proofs.StoreLemmas.{stored}
use Rattle.net_engine.proofs.RoomLemmas.{room-some, requests-set, room-set}
use Rattle.net_engine.proofs.store.Store.set_request.Goals as goal

pub index_mut-requires : goal.index_mut-requires
index_mut-requires c =
    let some = room-some c.self.inside.requests.items c.args.item (ap (λ (s : StoreNow). slice_get s.room c.args.item) c.self.view_is ∙ c.requires) in
    omega (arith, slice_get_within c.self.inside.requests.items c.args.item _ some.1)

pub set-requires : goal.set-requires
set-requires c =
    let some = room-some c.self.inside.requests.items c.args.item (ap (λ (s : StoreNow). slice_get s.room c.args.item) c.self.view_is ∙ c.requires) in
    let read = get_or_from_slice_get c.self.inside.requests.items c.args.item (Some some.0) c.index_mut.result.now some.1 in
    ap is_some (c.index_mut.ensures.value ∙ read)

pub returns-clause-values : goal.returns-clause-values
returns-clause-values c =
    let held = helds c.self.inside.slots.items c.self.inside.plane in
    ap (λ (r : Option Request). stored held c.self.inside.words.items (map last_request (set c.self.inside.requests.items c.args.item r))) c.set.ensures
    ∙ ap (λ (rs : List Request). stored held c.self.inside.words.items rs) (requests-set c.self.inside.requests.items c.args.item c.args.request)
    ∙ ap (λ (s : StoreNow). with_request c.args.item c.args.request s.values) c.self.view_is

pub returns-clause-room : goal.returns-clause-room
returns-clause-room c =
    ap (λ (r : Option Request). map is_some (set c.self.inside.requests.items c.args.item r)) c.set.ensures
    ∙ room-set c.self.inside.requests.items c.args.item c.args.request (ap (λ (s : StoreNow). slice_get s.room c.args.item) c.self.view_is ∙ c.requires)
    ∙ ap (λ (s : StoreNow). s.room) c.self.view_is
