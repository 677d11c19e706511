use Rattle.std.proofs.Common.{List, sym, subst}
use Rattle.sym_link.specs.Roots.{Node}
use Rattle.net_engine.specs.Room.{HasRoom}
use Rattle.net_engine.proofs.CallLemmas.{built-net}
use Rattle.net_engine.proofs.net.Net.build.Goals as goal

pub invariant_of-result : goal.invariant_of-result
invariant_of-result g c = (
  built-net c.args.program.now c.in_ok-design_of.field-0 c.in_ok-store_of.field-0.values c.in_ok-marks_of.field-0.items c.requires.program c.in_ok-design_of.ensures c.in_ok-store_of.ensures.values c.in_ok-marks_of.ensures,
  subst (λ (ns : List Node). HasRoom ns c.in_ok-store_of.field-0.room) (sym c.in_ok-design_of.ensures) c.in_ok-store_of.ensures.room,
)
