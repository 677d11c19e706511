use Rattle.std.proofs.Common.{◌<◌, length, ap, map, ◌∙◌, get_or, arith}
use Rattle.std.proofs.lemmas.List.{length-map}
use Rattle.net_engine.specs.Room.{StoreNow, no_request, last_request}
use Rattle.net_engine.proofs.RoomLemmas.{request-read}
use Rattle.net_engine.proofs.store.Store.request.Goals as goal

pub index-requires : goal.index-requires
index-requires c = omega (arith, c.requires, length-map c.self.inside.requests.items last_request, ap (λ (s : StoreNow). length s.values.requests) c.self.view_is)

pub returns : goal.returns
returns c =
    let inside : c.args.item < length c.self.inside.requests.items = omega (arith, c.requires, length-map c.self.inside.requests.items last_request, ap (λ (s : StoreNow). length s.values.requests) c.self.view_is) in
    c.last.ensures ∙ request-read c.self.inside.requests.items c.args.item c.index.result.now inside c.index.ensures ∙ ap (λ (s : StoreNow). get_or s.values.requests c.args.item no_request) c.self.view_is
