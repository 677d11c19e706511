use Rattle.std.proofs.Common.{refl, map, ◌∙◌}
use Rattle.sym_link.specs.Roots.{node_of}
use Rattle.net_engine.specs.Built.{first_place}
use Rattle.net_engine.proofs.BuildLemmas.{plane-start, plane-place, plane-more, place-at}
use Rattle.net_engine.proofs.build.first_plane.Goals as goal

pub items-init : goal.items-init
items-init c = record { plane = refl; widths = plane-start (map first_place (map node_of c.args.items.now)) c.in_ok-widths.widths.items c.as_slice.result.now c.in_ok-plane.plane c.in_ok-widths.ensures.widths c.as_slice.ensures.value c.in_ok-plane.ensures }

pub set-requires-clause-width : goal.set-requires-clause-width
set-requires-clause-width c =
    plane-place (map first_place (map node_of c.args.items.now)) c.items.plane c.items.i _ c.place_bits.result c.items.invariant.widths (place-at c.args.items.now c.items.i c.index-items-i.result c.items-test.true c.index-items-i.is) c.place_bits.ensures

pub items-preserved : goal.items-preserved
items-preserved c = record {
  plane = plane-more (map first_place (map node_of c.args.items.now)) c.in_ok-plane.plane c.items.plane c.set.new.self c.items.i _ c.place_bits.result
      (plane-start (map first_place (map node_of c.args.items.now)) c.in_ok-widths.widths.items c.as_slice.result.now c.in_ok-plane.plane c.in_ok-widths.ensures.widths c.as_slice.ensures.value c.in_ok-plane.ensures)
      (place-at c.args.items.now c.items.i c.index-items-i.result c.items-test.true c.index-items-i.is) c.place_bits.ensures c.items.invariant.plane c.set.ensures.value;
  widths = c.set.ensures.widths ∙ c.items.invariant.widths;
}
