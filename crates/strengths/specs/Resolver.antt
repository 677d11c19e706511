-- The resolvers.
use Rattle.std.specs.Prelude.{◌≡◌, ℕ, pos, negsuc, Option, List, [], ◌∷◌, length, map, replicate}
use Rattle.std.specs.List.{fold, filter_map, All}
use Rattle.four_state.specs.declared.items.ResKind.{ResKind}
use Rattle.four_state.specs.declared.items.ResKind.TheVariants.{Tri, Tri0, Tri1, Triand, Trior}
use Rattle.four_state.specs.Vector.{at_each_place}
use Rattle.strengths.specs.Interval.{Interval}
use Rattle.strengths.specs.Level.{driven, resolved}
use Rattle.strengths.specs.Wired.{wired_and, wired_or, wired}

-- the ports that are there, in order
abbrev pub used : List (Option (List Interval)) → List (List Interval)
used ports = filter_map (λ port. port) ports

-- vectors of one width
abbrev pub first_width : List (List Interval) → ℕ
first_width [] = 0
first_width (first ∷ rest) = length first

abbrev pub HaveOneWidth : List (List Interval) → Type 0
HaveOneWidth vectors = All (λ v. length v ≡ first_width vectors) vectors

-- a list of vectors, joined from the first on
unfoldable pub joined : {X : Type 0} → (X → X → X) → List (List X) → List X
joined table [] = []
joined table (first ∷ rest) = fold (at_each_place table) first rest

-- a vector, resolved with one level at each place
abbrev pub pulled : Interval → List Interval → List Interval
pulled level levels = at_each_place resolved levels (replicate (length levels) level)

unfoldable pub resolved_by : ResKind → List (List Interval) → List Interval
resolved_by Tri ports = joined resolved ports
resolved_by Tri0 ports = pulled (record { lo = negsuc 4; hi = negsuc 4 }) (joined resolved ports)
resolved_by Tri1 ports = pulled (record { lo = pos 5; hi = pos 5 }) (joined resolved ports)
resolved_by Triand ports = map (driven 6 6) (wired wired_and (first_width ports) ports)
resolved_by Trior ports = map (driven 6 6) (wired wired_or (first_width ports) ports)
