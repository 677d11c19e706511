-- What is told of the files of the system.
use Rattle.std.specs.Prelude.{ℕ, Bool}

-- whether a file is being written, and how many calls have failed
pub record SystemState : Type 0 where
  pub writing : Bool
  pub faults : ℕ
