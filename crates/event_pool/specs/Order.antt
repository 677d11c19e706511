-- The dues in the order in which they come due. Two lists of dues with the same dues of each time
-- and region, in the same order, are one list in this order, so an agenda may keep any of them.
use Rattle.std.specs.Prelude.{ℕ, ◌+◌, ◌*◌, nat_lt, List, [], ◌∷◌, fold, if◌then◌else◌}
use Rattle.event_pool.specs.declared.agenda.Region.{Region}
use Rattle.event_pool.specs.declared.agenda.Region.TheVariants.{Active, Inactive, Nonblocking}
use Rattle.event_pool.specs.declared.agenda.Due.{Due}

-- the place of a region within its time
abbrev pub rank_of : Region → ℕ
rank_of Active = 0
rank_of Inactive = 1
rank_of Nonblocking = 2

-- a number that orders times, and the regions within a time
abbrev pub turn_of : Due → ℕ
turn_of due = 3 * due.time + rank_of due.region

-- the elements by rising key, with one more behind those whose key is no greater
abbrev pub insert_by_key : {X : Type 0} → (X → ℕ) → X → List X → List X
insert_by_key key x [] = x ∷ []
insert_by_key key x (y ∷ ys) = if nat_lt (key x) (key y) then x ∷ y ∷ ys else y ∷ insert_by_key key x ys

-- the elements by rising key, and those of one key in their order
abbrev pub sorted_by_key : {X : Type 0} → (X → ℕ) → List X → List X
sorted_by_key key xs = fold (λ sorted x. insert_by_key key x sorted) [] xs

-- the dues by time, then by region, then in the order of putting
abbrev pub in_order : List Due → List Due
in_order = sorted_by_key turn_of
