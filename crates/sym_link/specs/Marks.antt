-- What is known of walks while they are followed. A trail is the list of the places that a walk has passed, the latest first.
use Rattle.std.specs.Prelude.{◌≡◌, ◌⊎◌, ℕ, ◌+◌, ◌≤◌, Bool, true, false, List, [], ◌∷◌, length, count_by, slice_get, slice_set, Some, if◌then◌else◌}
use Rattle.std.specs.Option.{option_map_or}
use Rattle.sym_link.specs.declared.walks.Mark.{Mark}
use Rattle.sym_link.specs.declared.walks.Mark.TheVariants.{New, Open, Known}
use Rattle.sym_link.specs.declared.walks.Step.{Step}
use Rattle.sym_link.specs.declared.walks.Step.TheVariants.{On}
use Rattle.sym_link.specs.declared.walks.Turn.{Turn}
use Rattle.sym_link.specs.declared.walks.Turn.TheVariants.{Ended, Onward}
use Rattle.sym_link.specs.declared.walks.Walk.{Walk}
use Rattle.sym_link.specs.declared.walks.Walk.TheVariants.{Endless}
use Rattle.sym_link.specs.Walks.{step_at, walk}

-- the walk from a place ends so, however often it may go on, from so many times on
abbrev pub IsEnd : List Step → ℕ → ℕ → Walk → Type 0
IsEnd steps moves place end = (more : ℕ) → moves ≤ more → walk steps more place ≡ end

abbrev pub is_known : Mark → Bool
is_known (Known end) = true
is_known _ = false

abbrev pub is_new : Mark → Bool
is_new New = true
is_new _ = false

-- how many walks are known
abbrev pub known_count : List Mark → ℕ
known_count marks = count_by is_known marks

abbrev pub new_count : List Mark → ℕ
new_count marks = count_by is_new marks

-- the place is on the trail
abbrev pub IsOn : List ℕ → ℕ → Type 0
IsOn [] place = ⊥
IsOn (latest ∷ earlier) place = (latest ≡ place) ⊎ IsOn earlier place

-- the steps lead along the trail, and from its latest place to this one
abbrev pub LedTo : List Step → ℕ → List ℕ → Type 0
LedTo steps at [] = Unit {0}
LedTo steps at (latest ∷ earlier) = (step_at steps latest ≡ On at) × LedTo steps latest earlier

-- marks say how walks end, and which places are on the trail
pub record Marked (steps : List Step) (marks : List Mark) (trail : List ℕ) : Type 0 where
  pub same : length marks ≡ length steps
  pub known : (place : ℕ) (end : Walk) → slice_get marks place ≡ Some (Known end) → IsEnd steps (known_count marks) place end
  pub opened : (place : ℕ) → slice_get marks place ≡ Some Open → IsOn trail place

-- it is known how the walk from a place ends
abbrev pub IsDone : List Mark → ℕ → Type 0
IsDone marks place = (end : Walk) × (slice_get marks place ≡ Some (Known end))

-- what was known is known
abbrev pub Keeps : List Mark → List Mark → Type 0
Keeps old new = (place : ℕ) → IsDone old place → IsDone new place

abbrev pub known_at : List Mark → ℕ → Bool
known_at marks place = option_map_or is_known (slice_get marks place) false

-- the marks once it is known how the walk from a place ends
abbrev pub noted : List Mark → ℕ → Walk → List Mark
noted marks place end = if known_at marks place then marks else slice_set marks place (Known end)

-- a walk has been followed to a place where it is known how it ends
pub record Stands (steps : List Step) (marks : List Mark) (trail : List ℕ) (end : Walk) : Type 0 where
  pub marked : Marked steps marks trail
  pub at : ℕ
  pub led : LedTo steps at trail
  pub ends : IsEnd steps (known_count marks) at end

-- one turn at a place: the walk's end is known there, or it goes on
abbrev pub Turned : List Step → List Mark → List Mark → List ℕ → List ℕ → ℕ → Turn → Type 0
Turned steps old new trail trail' at (Ended end) =
    Stands steps new trail' end × Keeps old new × (IsOn trail' at ⊎ IsDone new at) × (trail' ≡ trail)
Turned steps old new trail trail' at (Onward to) =
    Marked steps new trail' × (trail' ≡ at ∷ trail) × (step_at steps at ≡ On to) × Keeps old new × (new_count new + 1 ≡ new_count old)

-- how a walk ends by its mark
abbrev pub end_of : Mark → Walk
end_of (Known end) = end
end_of _ = Endless
