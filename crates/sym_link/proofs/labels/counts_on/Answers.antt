use Rattle.std.proofs.Common.{◌≡◌, arith, subst}
use Rattle.sym_link.specs.Known.{IsCounted}
use Rattle.sym_link.proofs.CountLemmas.{counted-on}
use Rattle.sym_link.proofs.labels.counts_on.Goals as goal

pub loop-place-init : goal.loop-place-init
loop-place-init c = record {
  within = λ le within. le;
  counts = λ le is. is;
}

pub loop-place-preserved : goal.loop-place-preserved
loop-place-preserved c = record {
  within = λ le within. omega (arith, c.loop-place-test.true, c.min-end.ensures);
  counts = λ le is. counted-on c.args.placed.now c.loop-place.place c.index-placed-place.result c.loop-place.counts c.counted-counts.result (omega (arith, c.loop-place-test.true, c.min-end.ensures)) le c.index-placed-place.is c.counted-counts.ensures.one_more c.counted-counts.ensures.words (c.loop-place.invariant.counts le is);
}

pub returns : goal.returns
returns c = λ le before within is.
    let at : c.loop-place.place ≡ c.args.to = omega (arith, c.loop-place-test.false, c.min-end.ensures, c.loop-place.invariant.within before within, within) in
    subst (λ p. IsCounted c.args.placed.now p c.loop-place.counts) at (c.loop-place.invariant.counts le is)
