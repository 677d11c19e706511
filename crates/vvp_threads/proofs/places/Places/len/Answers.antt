use Rattle.std.proofs.Common.{length, ap, arith}
use Rattle.vvp_threads.proofs.PlaceLemmas.{gathered}
use Rattle.vvp_threads.proofs.LiveLemmas.{count-live}
use Rattle.vvp_threads.proofs.places.Places.len.Goals as goal

pub overflow_sub-result : goal.overflow_sub-result
overflow_sub-result c = omega (arith, c.len.ensures, count-live c.self.inside.drawn c.self.inside.ended c.self.inside.places.items c.self.invariant)

pub returns-clause-count : goal.returns-clause-count
returns-clause-count c = omega (arith, c.len.ensures, count-live c.self.inside.drawn c.self.inside.ended c.self.inside.places.items c.self.invariant, ap (λ v. length (gathered v.slots)) c.self.view_is)

pub returns-clause-fits : goal.returns-clause-fits
returns-clause-fits c = omega (arith, c.len.ensures, c.self.inside.places.ok.1, c.self.inside.places.small)
