use Rattle.std.proofs.Common.{◌≡◌, [], ◌∷◌, ◌++◌, map, take}
use Rattle.std.specs.List.{flat_map}
use Rattle.vcd_read.proofs.header.path_of.Given as goal

abbrev pub invariant-loop-scope : goal.invariant-loop-scope
invariant-loop-scope l = l.path ≡ flat_map (λ scope. scope ++ 46 ∷ []) (map (λ scope. scope.now) (take l.scope-index l.scopes))
