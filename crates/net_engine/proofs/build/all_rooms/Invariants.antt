use Rattle.std.proofs.Common.{◌≡◌, take, map}
use Rattle.sym_link.specs.Roots.{node_of}
use Rattle.net_engine.specs.Room.{first_room}
use Rattle.net_engine.proofs.build.all_rooms.Given as goal

abbrev pub invariant-items : goal.invariant-items
invariant-items l = l.rooms.items ≡ map first_room (map node_of (take l.i l.items))
