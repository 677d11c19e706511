use Rattle.std.proofs.Common.{arith}
use Rattle.sym_link.proofs.IndexLemmas.{labelled-all, labelled-more}
use Rattle.sym_link.proofs.labels.labelled_places.Goals as goal

pub loop-place-preserved : goal.loop-place-preserved
loop-place-preserved c = record {
  within = omega (arith, c.loop-place-test.true);
  places = labelled-more c.args.placed.now c.loop-place.place c.index-placed-place.result c.loop-place.places.items c.put_labelled.new.places.items c.loop-place-test.true c.loop-place.invariant.places c.in_ok-put_labelled.ensures;
}

pub returns : goal.returns
returns c = labelled-all c.args.placed.now c.loop-place.place c.loop-place.places.items c.loop-place-test.false c.loop-place.invariant.places
