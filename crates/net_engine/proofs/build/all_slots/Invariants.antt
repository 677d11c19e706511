use Rattle.std.proofs.Common.{◌≡◌, length, take, map}
use Rattle.std.specs.List.{All}
use Rattle.sym_link.specs.Roots.{node_of}
use Rattle.net_engine.specs.Slots.{HasPlaces, helds}
use Rattle.net_engine.specs.Built.{first_slot, first_place}
use Rattle.net_engine.proofs.build.all_slots.Given as goal

abbrev pub invariant-items : goal.invariant-items
invariant-items l = record {
  count : length l.slots.items ≡ length (take l.i l.items);
  values : helds l.slots.items (map first_place (map node_of (take l.i l.items))) ≡ map first_slot (map node_of (take l.i l.items));
  places : All HasPlaces (map first_slot (map node_of (take l.i l.items)));
}
