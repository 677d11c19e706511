use Rattle.std.proofs.Common.{arith}
use Rattle.net_engine.proofs.TimeLemmas.{times-more, times-all}
use Rattle.net_engine.proofs.times.Times.between.Goals as goal

pub places-preserved : goal.places-preserved
places-preserved c = times-more c.args.self c.args.old c.args.new c.places.place c.places.most c.of_place.result c.max-most.result c.requires (omega arith) c.places.invariant c.of_place.ensures c.max-most.ensures

pub returns : goal.returns
returns c = times-all c.args.self c.args.old c.args.new c.places.place c.places.most c.requires (omega arith) c.places.invariant
