use Rattle.std.proofs.Common.{List, map, sym, ap, subst, ◌∙◌}
use Rattle.std.specs.Prelude.{is_some}
use Rattle.sym_link.specs.declared.program.Item.{Item}
use Rattle.sym_link.specs.Roots.{Node, node_of, nodes_of}
use Rattle.net_engine.specs.Net.{first_words}
use Rattle.net_engine.specs.Slots.{helds}
use Rattle.net_engine.specs.Room.{StoreNow, last_request, first_room, HasRoom}
use Rattle.net_engine.proofs.RoomLemmas.{requests-first, room-first}
use Rattle.net_engine.proofs.BuildLemmas.{store-first, built-kept}
use Rattle.net_engine.proofs.build.store_of.Goals as goal

pub new-requires : goal.new-requires
new-requires c =
    (built-kept c.args.program.now.items c.as_slice-items.result.now c.in_ok-slots.slots.items c.in_ok-plane.plane c.as_slice-items.ensures c.in_ok-plane.ensures c.in_ok-slots.ensures.count c.in_ok-slots.ensures.values c.in_ok-slots.ensures.places).0

pub returns-clause-values : goal.returns-clause-values
returns-clause-values c =
    ap (λ (s : StoreNow). s.values) c.new.ensures
    ∙ store-first (nodes_of c.args.program.now) (helds c.in_ok-slots.slots.items c.in_ok-plane.plane) c.in_ok-words.words.items (map last_request c.in_ok-requests.requests.items)
    (built-kept c.args.program.now.items c.as_slice-items.result.now c.in_ok-slots.slots.items c.in_ok-plane.plane c.as_slice-items.ensures c.in_ok-plane.ensures c.in_ok-slots.ensures.count c.in_ok-slots.ensures.values c.in_ok-slots.ensures.places).1
    (c.in_ok-words.ensures ∙ ap (λ (xs : List Item). map (λ (node : Node). first_words node node.what) (map node_of xs)) c.as_slice-items.ensures)
    (ap (map last_request) (c.in_ok-requests.ensures ∙ ap (λ (xs : List Item). map first_room (map node_of xs)) c.as_slice-items.ensures) ∙ requests-first (nodes_of c.args.program.now))

pub returns-clause-room : goal.returns-clause-room
returns-clause-room c =
    subst (HasRoom (nodes_of c.args.program.now)) (sym (ap (λ (s : StoreNow). s.room) c.new.ensures ∙ ap (map is_some) (c.in_ok-requests.ensures ∙ ap (λ (xs : List Item). map first_room (map node_of xs)) c.as_slice-items.ensures)))
    (room-first (nodes_of c.args.program.now))
