-- Calls that are counted from 1, of which some are told to fail.
use Rattle.std.specs.Prelude.{ℕ, ◌+◌, ◌-◌, ◌^◌, ◌==◌, min, Bool, List, [], ◌∷◌, ◌++◌}
use Rattle.std.specs.List.{list_any}

-- a number that stands still at the end of its type
abbrev pub counted : ℕ → ℕ
counted n = min (n + 1) (2 ^ 64 - 1)

-- how many calls of a kind were made, and the numbers of those that fail
pub record CallsState : Type 0 where
  pub made : ℕ
  pub failing : List ℕ

abbrev pub new_calls : CallsState
new_calls = record { made = 0; failing = [] }

-- the next call fails
abbrev pub fails_next : CallsState → Bool
fails_next calls = list_any (λ nth. nth == counted calls.made) calls.failing

-- one more call was made
abbrev pub next_call : CallsState → CallsState
next_call calls = record calls { made = counted calls.made }

-- the nth call fails too
abbrev pub also_failing : ℕ → CallsState → CallsState
also_failing nth calls = record calls { failing = calls.failing ++ nth ∷ [] }
