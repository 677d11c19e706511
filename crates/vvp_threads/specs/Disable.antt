-- Which threads a disable ends (IEEE 1364-2005, 11.3 and 10.3).
use Rattle.std.specs.Prelude.{◌≢◌, ℕ, ◌<◌, Bool, false, nat_eq, Option, Some, None, IfSome, List, length, filter, EachIndex, slice_index, slice_index_or, if◌then◌else◌}
use Rattle.vvp_threads.specs.declared.thread.Thread.{Thread}
use Rattle.vvp_threads.specs.declared.scopes.TheConstants.{NO_SCOPE}
use Rattle.vvp_threads.specs.Marks.{is_marked, marks_of, IsReached}
use Rattle.vvp_threads.specs.Table.{Table, live_serials, running_first, without}

-- the scope's parent, if it has one
abbrev pub parent_scope : ℕ → Option ℕ
parent_scope parent = if nat_eq parent NO_SCOPE then None else Some parent

-- a mark for each scope: the named one and those below it are marked
abbrev pub scopes_within : List ℕ → ℕ → List Bool
scopes_within scope_parents scope = marks_of (λ place _. nat_eq place scope) parent_scope scope_parents

-- the scope is the named one or lies below it: these are the least set that has the named one, and each scope whose parent
-- it has
abbrev pub IsWithin : List ℕ → ℕ → ℕ → Type 0
IsWithin scope_parents scope = IsReached (λ place _. nat_eq place scope) parent_scope scope_parents

-- a live thread stands in a marked scope
abbrev pub is_in_scopes : List Bool → ℕ → Option Thread → Bool
is_in_scopes scopes serial None = false
is_in_scopes scopes serial (Some thread) = is_marked scopes thread.scope

-- a live thread's parent
abbrev pub parent_serial : Option Thread → Option ℕ
parent_serial None = None
parent_serial (Some thread) = thread.parent

-- the thread of this serial ends: these are the least set that has each live thread in the scope or below it, and each live
-- thread whose parent it has
abbrev pub IsDisabled : List (Option Thread) → List ℕ → ℕ → ℕ → Type 0
IsDisabled threads scope_parents scope = IsReached (is_in_scopes (scopes_within scope_parents scope)) parent_serial threads

-- a mark for each serial: marked are the live threads in the scope or below it, and each live thread whose parent is
-- marked. A parent's serial is below its child's, so this is the least such set.
abbrev pub disabled_marks : List (Option Thread) → List ℕ → ℕ → List Bool
disabled_marks threads scope_parents scope = marks_of (is_in_scopes (scopes_within scope_parents scope)) parent_serial threads

-- the serials of the threads that end, in this order: the running one first, then by serial
abbrev pub disabled_serials : Table → ℕ → List ℕ → ℕ → List ℕ
disabled_serials table running scope_parents scope =
    running_first running (filter (is_marked (disabled_marks table.threads scope_parents scope)) (live_serials table))

-- the table after the threads of a scope, and those below them, have ended
abbrev pub disabled : Table → ℕ → List ℕ → ℕ → Table
disabled table running scope_parents scope = without table (disabled_serials table running scope_parents scope)

-- each scope has no parent, or one with a lower number
abbrev pub AreScopes : List ℕ → Type 0
AreScopes scope_parents = EachIndex scope_parents (λ k. slice_index scope_parents k ≢ NO_SCOPE → slice_index scope_parents k < k)

-- each live thread stands in one of these scopes
abbrev pub StandIn : List ℕ → List (Option Thread) → Type 0
StandIn scope_parents threads = (serial : ℕ) → IfSome (slice_index_or threads serial None) (λ thread. thread.scope < length scope_parents)
