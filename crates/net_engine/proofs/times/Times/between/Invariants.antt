use Rattle.std.proofs.Common.{◌≡◌, take}
use Rattle.std.specs.Prelude.{max}
use Rattle.std.specs.List.{fold, zip}
use Rattle.net_engine.specs.Delivery.{time_of_place}
use Rattle.net_engine.proofs.times.Times.between.Given as goal

abbrev pub invariant-places : goal.invariant-places
invariant-places l = l.most ≡ fold (λ most place. max most (time_of_place l.self place)) 0 (take l.place (zip l.old l.new))
